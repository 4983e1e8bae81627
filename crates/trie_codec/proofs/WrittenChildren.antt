-- Children are read as what their spellings say.
use Rattle.std.proofs.Common.{◌≡◌, ℕ, ◌+◌, ◌*◌, ◌/◌, ◌%◌, ◌<◌, ◌≤◌, Bool, true, false, List, [], ◌∷◌, ◌++◌, length, All, Option, Some, None, inl, inr, Ok, refl, append_assoc, arith}
use Rattle.std.specs.Prelude.{nat_lt, ◌==◌, ◌&&◌, ◌||◌, ◌⊎◌, not, ◌^◌}
use Rattle.std.specs.List.{flat_map}
use Rattle.std.proofs.lemmas.Bool.{cases_lt, lt-ltb, le-ltb}
use Rattle.std.proofs.lemmas.Bool.Decides.{nat_tests}
use Rattle.std.proofs.lemmas.List.Elements.{All-head, All-tail}
use Rattle.sdb_scale.specs.Compact.{string, compact}
use Rattle.trie_model.specs.Node.{bitmap, optional_string}
use Rattle.trie_codec.specs.Reading.{first_child, first_children}
use Rattle.trie_codec.proofs.Lengths.{length_read}
use Rattle.trie_codec.proofs.Unpacked.{front_read}

-- a child that is read: a hash, or bytes that read alone
pub record IsRead (reads : List ℕ → Bool) (c : List ℕ) : Type 0 where
  pub some : 1 ≤ length c
  pub few : length c ≤ 32
  pub reads_alone : length c < 32 → reads c ≡ true

abbrev pub IfChildIsRead : (List ℕ → Bool) → Option (List ℕ) → Type 0
IfChildIsRead reads None = Unit {0}
IfChildIsRead reads (Some c) = IsRead reads c

taken : (reads : List ℕ → Bool) (c : List ℕ) → IsRead reads c → (length c < 32) ⊎ (32 ≤ length c) → (nat_lt (length c) 32 && not (reads c)) ≡ false
taken reads c h (inl lt) = rw (lt-ltb (length c) 32 lt, h.reads_alone lt) refl
taken reads c h (inr le) = rw (le-ltb (length c) 32 le) refl

child_read : (reads : List ℕ → Bool) (c rest : List ℕ) → IsRead reads c → first_child reads (string c ++ rest) ≡ Ok (c, rest)
child_read reads c rest h =
    let short : length c < 2 ^ 30 = omega (arith, h.few) in
    let fits : ((length c == 0) || nat_lt 32 (length c)) ≡ false = grind (arith, nat_tests, h.some, h.few) in
    rw (append_assoc (compact (length c)) c rest, length_read (length c) (c ++ rest) short, fits, front_read c rest (length c) refl, taken reads c h (cases_lt (length c) 32)) refl

pub children_read : (reads : List ℕ → Bool) (cs : List (Option (List ℕ))) (rest : List ℕ) → All (IfChildIsRead reads) cs
    → first_children reads (length cs) (bitmap cs) (flat_map optional_string cs ++ rest) ≡ Ok (cs, rest)
unfolding first_children
children_read reads [] rest all = refl
children_read reads (None ∷ cs) rest all =
    let low : ((0 + 2 * bitmap cs) % 2) ≡ 0 = omega arith in
    let others : (0 + 2 * bitmap cs) / 2 ≡ bitmap cs = omega arith in
    rw (low, others, children_read reads cs rest (All-tail (IfChildIsRead reads) None cs all)) refl
children_read reads (Some c ∷ cs) rest all =
    let low : ((1 + 2 * bitmap cs) % 2) ≡ 1 = omega arith in
    let others : (1 + 2 * bitmap cs) / 2 ≡ bitmap cs = omega arith in
    let first : IsRead reads c = All-head (IfChildIsRead reads) (Some c) cs all in
    rw (
      low,
      others,
      append_assoc (string c) (flat_map optional_string cs) rest,
      child_read reads c (flat_map optional_string cs ++ rest) first,
      children_read reads cs rest (All-tail (IfChildIsRead reads) (Some c) cs all),
    ) refl
