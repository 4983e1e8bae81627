-- A leaf and a branch are read as their parts.
use Rattle.std.proofs.Common.{◌≡◌, ℕ, ◌+◌, ◌≤◌, Bool, true, false, cond, List, ◌++◌, length, All, Option, Some, None, Ok, refl, sym, ap, ◌∙◌, append_assoc, arith}
use Rattle.std.specs.Prelude.{is_some, count_by, IfSome, if◌then◌else◌, ◌==◌}
use Rattle.std.specs.Int.{w16, to_le_bytes, from_le_bytes}
use Rattle.std.specs.List.{flat_map}
use Rattle.std.proofs.lemmas.Bool.Decides.{nat_tests}
use Rattle.std.proofs.lemmas.Nat.{from_le_bytes-to_le_bytes_2}
use Rattle.trie_model.specs.Nibbles.{packed}
use Rattle.trie_model.specs.Node.{IsPartial, HasCompactLength, bitmap, branch_kind, has_child, header, optional_string}
use Rattle.trie_codec.specs.Reading.{first_branch, first_children, first_leaf, first_node, first_value}
use Rattle.trie_codec.proofs.Bitmaps.{bitmap_allowed}
use Rattle.trie_codec.proofs.WrittenChildren.{IfChildIsRead, children_read}
use Rattle.trie_codec.proofs.Headers.{header_read}
use Rattle.trie_codec.proofs.Layouts.{bitmap_fits}
use Rattle.trie_codec.proofs.Lengths.{string_read}
use Rattle.trie_codec.proofs.Unpacked.{front_read, partial_read}

-- what stands after a header and a partial key
pub after_partial : (reads : List ℕ → Bool) (kind : ℕ) (ps body rest : List ℕ) → 1 ≤ kind → IsPartial ps
    → first_node reads ((header kind (length ps) ++ (packed ps ++ body)) ++ rest) ≡ cond (kind == 1) (first_leaf ps (body ++ rest)) (first_branch reads kind ps (body ++ rest))
unfolding first_node
after_partial reads kind ps body rest some fits =
    let is_kind : (kind == 0) ≡ false = grind (arith, nat_tests) in
    rw (
      append_assoc (header kind (length ps)) (packed ps ++ body) rest,
      append_assoc (packed ps) body rest,
      header_read kind (length ps) (packed ps ++ (body ++ rest)) some fits.short,
      is_kind,
      partial_read ps (body ++ rest) fits.nibbles,
    ) refl

pub value_read : (value : Option (List ℕ)) (rest : List ℕ) → IfSome value HasCompactLength → first_value (branch_kind value) (optional_string value ++ rest) ≡ Ok (value, rest)
value_read None rest short = refl
value_read (Some v) rest short = rw (string_read v rest short) refl

pub branch_read : (reads : List ℕ → Bool) (ps : List ℕ) (value : Option (List ℕ)) (cs : List (Option (List ℕ))) (rest : List ℕ)
    → IfSome value HasCompactLength → length cs ≡ 16 → All (IfChildIsRead reads) cs → has_child cs ≡ true → 2 ≤ count_by is_some cs + (if is_some value then 1 else 0)
    → first_branch reads (branch_kind value) ps (to_le_bytes w16 (bitmap cs) ++ (optional_string value ++ (flat_map optional_string cs ++ rest)))
    ≡ Ok (record { partial = ps; value = value; children = cs }, rest)
branch_read reads ps value cs rest short sixteen all some enough =
    let after = flat_map optional_string cs ++ rest in
    let map : from_le_bytes w16 (to_le_bytes w16 (bitmap cs)) ≡ bitmap cs = from_le_bytes-to_le_bytes_2 (bitmap cs) (bitmap_fits cs 16 (omega arith)) in
    let children : first_children reads 16 (bitmap cs) after ≡ Ok (cs, rest) = ap (λ n. first_children reads n (bitmap cs) after) (sym sixteen) ∙ children_read reads cs rest all in
    rw (front_read (to_le_bytes w16 (bitmap cs)) (optional_string value ++ after) 2 refl, map, bitmap_allowed value cs sixteen some enough, value_read value after short, children) refl
