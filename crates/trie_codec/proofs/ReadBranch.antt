-- A branch that was read after its partial key.
use Rattle.std.proofs.Common.{◌≡◌, inr, ℕ, ◌+◌, ◌^◌, ◌<◌, ◌≤◌, Bool, true, false, cond, List, ◌++◌, length, Option, Some, None, Result, Ok, refl, sym, ap, subst, ◌∙◌, arith}
use Rattle.std.specs.Prelude.{◌==◌, count_by, is_some}
use Rattle.std.specs.Int.{w16, to_le_bytes, from_le_bytes}
use Rattle.std.specs.List.{flat_map}
use Rattle.std.proofs.lemmas.Bool.Decides.{nat_tests}
use Rattle.std.proofs.lemmas.List.{append_assoc}
use Rattle.std.proofs.lemmas.Nat.{le_bytes_2}
use Rattle.trie_model.specs.Nibbles.{packed}
use Rattle.trie_model.specs.Node.{IsPartial, IsText, Node, bitmap, branch_kind, header, optional_string, spelling}
use Rattle.trie_codec.specs.declared.fault.CodecFault.{CodecFault}
use Rattle.trie_codec.specs.Reading.{◌>>=◌, first_bitmap, bits_set, first_branch, first_bytes, first_children, first_string, first_value}
use Rattle.trie_codec.proofs.ReadSteps.{AreBytes, value_is, both_gave, bytes_in_parts, taken}
use Rattle.trie_codec.proofs.ReadString.{each_byte, string_read, two_below}
use Rattle.trie_codec.proofs.ReadChildren.{AreChildrenIn, IsSound, children_read}
use Rattle.trie_codec.proofs.ReadBitmap.{there-counts, bits_set-bitmap, some_there, two_or_more, checked, not_refused}
use Rattle.trie_codec.proofs.ReadLeaf.{IsNodeBehind}

-- the value of a branch of kind 2 or 3
pub record IsValueIn (kind : ℕ) (bytes : List ℕ) (x : Option (List ℕ) × List ℕ) : Type 0 where
  pub text : IsText x.0
  pub kind_is : branch_kind x.0 ≡ kind
  pub counts : 2 + cond (is_some x.0) 1 0 ≡ kind
  pub spelled : bytes ≡ optional_string x.0 ++ x.1

value_by : (third : Bool) (kind : ℕ) (bytes : List ℕ) (x : Option (List ℕ) × List ℕ) → AreBytes bytes → 2 ≤ kind → kind ≤ 3 → (kind == 3) ≡ third
    → cond third (first_string bytes >>= λ v. Ok (Some v.0, v.1)) (Ok (None, bytes)) ≡ Ok x → IsValueIn kind bytes x
value_by true kind bytes x all least most is e =
    let (v, string_is, gave) = both_gave (first_string bytes) (λ v. Ok (Some v.0, v.1)) x e in
    let text = string_read bytes v all string_is in
    let three : 3 ≡ kind = grind (arith, nat_tests) in
    subst (IsValueIn kind bytes) (value_is (Some v.0, v.1) x gave)
    (record { text = (text.short, text.text); kind_is = three; counts = omega arith; spelled = text.spelled })
value_by false kind bytes x all least most is e =
    let two : 2 ≡ kind = grind (arith, nat_tests) in
    subst (IsValueIn kind bytes) (value_is (None, bytes) x e)
    (record { text = tt; kind_is = two; counts = omega arith; spelled = refl })

value_read : (kind : ℕ) (bytes : List ℕ) (x : Option (List ℕ) × List ℕ) → AreBytes bytes → 2 ≤ kind → kind ≤ 3 → first_value kind bytes ≡ Ok x → IsValueIn kind bytes x
value_read kind bytes x all least most e = value_by (kind == 3) kind bytes x all least most refl e

regroup : (a b c d e rest : List ℕ) → (a ++ (b ++ (c ++ (d ++ e)))) ++ rest ≡ a ++ (b ++ (c ++ (d ++ (e ++ rest))))
regroup a b c d e rest = simp append_assoc

-- a branch by its parts
branch_of : (P : Node → Type 0) (kind map : ℕ) (partial bytes : List ℕ) (two : List ℕ × List ℕ) (value : Option (List ℕ) × List ℕ) (children : List (Option (List ℕ)) × List ℕ)
    → AreBytes two.0 → IsPartial partial → length two.0 ≡ 2 → bytes ≡ two.0 ++ two.1 → from_le_bytes w16 two.0 ≡ map
    → (map ≡ 0 → ⊥) → (bits_set map 16 ≡ 1 → kind ≡ 2 → ⊥) → IsValueIn kind two.1 value → AreChildrenIn P 16 map value.1 children
    → IsNodeBehind P kind partial bytes (record { partial = partial; value = value.0; children = children.0 }, children.1)
unfolding spelling
branch_of P kind map partial bytes two value children all few len split map_is some enough is_value are_children =
    let cs : List (Option (List ℕ)) = children.0 in
    let front : List ℕ = header kind (length partial) in
    let (has, one) = some_there cs (λ none. some (sym are_children.bits ∙ none)) in
    let count : bits_set map 16 ≡ count_by is_some cs =
    ap (λ k. bits_set k 16) (sym are_children.bits) ∙ ap (bits_set (bitmap cs)) (sym are_children.count) ∙ bits_set-bitmap cs ∙ there-counts cs in
    let at_least : 1 ≤ count_by is_some cs = subst (λ k. 1 ≤ k) (there-counts cs) one in
    let bits : to_le_bytes w16 (bitmap cs) ≡ two.0 = ap (to_le_bytes w16) are_children.bits ∙ le_bytes_2 two.0 map len (each_byte two.0 all) (sym map_is) in
    let spelled : spelling (record { partial = partial; value = value.0; children = cs })
    ≡ front ++ (packed partial ++ (two.0 ++ (optional_string value.0 ++ flat_map optional_string cs))) =
    rw (has, is_value.kind_is) (ap (λ l. front ++ (packed partial ++ (l ++ (optional_string value.0 ++ flat_map optional_string cs)))) bits) in
    let after : bytes ≡ two.0 ++ (optional_string value.0 ++ (flat_map optional_string cs ++ children.1)) =
    split ∙ ap (λ l. two.0 ++ l) (is_value.spelled ∙ ap (λ l. optional_string value.0 ++ l) are_children.spelled) in record {
      parts = record {
        partial = few;
        value = is_value.text;
        sixteen = are_children.count;
        texts = are_children.texts;
        children = are_children.children;
        shaped = inr (omega arith, λ _. two_or_more (count_by is_some cs) (cond (is_some value.0) 1 0) kind at_least is_value.counts (λ once. enough (count ∙ once)));
      };
      spelled = ap (λ l. front ++ (packed partial ++ l)) after
          ∙ sym (regroup front (packed partial) two.0 (optional_string value.0) (flat_map optional_string cs) children.1)
          ∙ ap (λ l. l ++ children.1) (sym spelled);
    }

-- what is read of a branch after its bitmap
abbrev made : List ℕ → Option (List ℕ) → List (Option (List ℕ)) × List ℕ → Node × List ℕ
made partial value children = (record { partial = partial; value = value; children = children.0 }, children.1)

abbrev lower : (List ℕ → Bool) → List ℕ → ℕ → Option (List ℕ) × List ℕ → Result (Node × List ℕ) CodecFault
lower reads partial map value = first_children reads 16 map value.1 >>= λ children. Ok (made partial value.0 children)

after_bitmap : (reads : List ℕ → Bool) (P : Node → Type 0) → IsSound reads P → (kind map : ℕ) (partial bytes : List ℕ) (two : List ℕ × List ℕ) (x : Node × List ℕ)
    → AreBytes bytes → 2 ≤ kind → kind ≤ 3 → IsPartial partial → length two.0 ≡ 2 → bytes ≡ two.0 ++ two.1 → from_le_bytes w16 two.0 ≡ map
    → (map ≡ 0 → ⊥) → (bits_set map 16 ≡ 1 → kind ≡ 2 → ⊥) → (first_value kind two.1 >>= lower reads partial map) ≡ Ok x → IsNodeBehind P kind partial bytes x
after_bitmap reads P sound kind map partial bytes two x all least most few len split is some enough e =
    let (value, value_gave, next) = both_gave (first_value kind two.1) (lower reads partial map) x e in
    let (children, children_gave, last) = both_gave (first_children reads 16 map value.1) (λ cs. Ok (made partial value.0 cs)) x next in
    let parts = bytes_in_parts bytes two.0 two.1 all split in
    let is_value = value_read kind two.1 value parts.1 least most value_gave in
    let after = (bytes_in_parts two.1 (optional_string value.0) value.1 parts.1 is_value.spelled).1 in
    let fits : map < 2 ^ 16 = subst (λ k. k < 2 ^ 16) is (two_below two.0 parts.0) in
    let are_children = children_read reads P sound 16 map value.1 children after fits children_gave in
    subst (IsNodeBehind P kind partial bytes) (value_is (made partial value.0 children) x last)
    (branch_of P kind map partial bytes two value children parts.0 few len split is some enough is_value are_children)

pub branch_read : (reads : List ℕ → Bool) (P : Node → Type 0) → IsSound reads P → (kind : ℕ) (partial bytes : List ℕ) (x : Node × List ℕ)
    → AreBytes bytes → 2 ≤ kind → kind ≤ 3 → IsPartial partial → first_branch reads kind partial bytes ≡ Ok x → IsNodeBehind P kind partial bytes x
unfolding checked
branch_read reads P sound kind partial bytes x all least most few e =
    let (found, bitmap_gave, third) = both_gave (first_bitmap kind bytes) (λ map. first_value kind map.1 >>= lower reads partial map.0) x e in
    let (two, take, second) = both_gave (first_bytes 2 bytes) (λ two. checked kind (from_le_bytes w16 two.0) >>= λ map. Ok (map, two.1)) found bitmap_gave in
    let (len, split) = taken 2 bytes two take in
    let (map, check, pair) = both_gave (checked kind (from_le_bytes w16 two.0)) (λ map. Ok (map, two.1)) found second in
    let (is, some, enough) = not_refused kind (from_le_bytes w16 two.0) map check in
    let rest = subst (λ (f : ℕ × List ℕ). (first_value kind f.1 >>= lower reads partial f.0) ≡ Ok x) (sym (value_is (map, two.1) found pair)) third in
    after_bitmap reads P sound kind map partial bytes two x all least most few len split is some enough rest
