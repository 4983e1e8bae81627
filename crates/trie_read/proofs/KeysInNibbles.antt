-- Keys by their nibbles: what they begin with, and how they are made again.
use Rattle.std.proofs.Common.{◌≡◌, ℕ, ◌+◌, ◌*◌, ◌/◌, ◌%◌, ◌<◌, Bool, true, false, eqb, cond, List, [], ◌∷◌, ◌++◌, map, refl, ap, ap₂, sym, ◌∙◌, inl, inr, arith, eq-eqb}
use Rattle.std.specs.Prelude.{◌||◌, All, filter, is_some, nat_eq}
use Rattle.std.specs.List.{AllByRecursion, starts_with}
use Rattle.std.specs.FinMap.{entries}
use Rattle.std.proofs.lemmas.Bool.Decides.{eqb_tells}
use Rattle.std.proofs.lemmas.List.Elements.{recursion_from_All}
use Rattle.sdb_base.specs.Nibbles.{nibbles_of}
use Rattle.trie_model.specs.Fetches.{keys_with_prefix}
use Rattle.trie_model.specs.State.{State}
use Rattle.trie_model.specs.Trie.{after_prefix, suffixes_of}
use Rattle.trie_root.specs.Suffixes.{IsEntry}
use Rattle.trie_root.proofs.ReadOffStates.{in_nibbles}
use Rattle.trie_root.proofs.Rows.{unlike}
use Rattle.trie_read.specs.inner.Parts.{goes_on_with, is_near, key_of_nibbles, keys_under}
use Rattle.trie_read.proofs.PartsOfChildren.{IsClosed}
use Rattle.trie_read.proofs.Standing.{if_kept, one_under}
use Rattle.trie_read.proofs.Ways.{follows}

-- ---- a key's nibbles and its bytes

same_byte : (x y : ℕ) → x / 16 ≡ y / 16 → x % 16 ≡ y % 16 → x ≡ y
same_byte x y h l = omega arith

pub nibbles_follow : (p k : List ℕ) → is_some (after_prefix (nibbles_of p) (nibbles_of k)) ≡ is_some (after_prefix p k)
nibbles_follow [] k = refl
nibbles_follow (x ∷ p) [] = refl
nibbles_follow (x ∷ p) (y ∷ k) = elim (eqb_tells x y) [
  | inl t ↦
      let same : eqb x y ≡ true = t.0 in let is : x ≡ y = t.1 in
      let high : eqb (x / 16) (y / 16) ≡ true = eq-eqb (x / 16) (y / 16) (ap (λ (n : ℕ). n / 16) is) in
      let low : eqb (x % 16) (y % 16) ≡ true = eq-eqb (x % 16) (y % 16) (ap (λ (n : ℕ). n % 16) is) in
      rw (same, high, low) (nibbles_follow p k)
  | inr f ↦
      let other : eqb x y ≡ false = f.0 in
      elim (eqb_tells (x / 16) (y / 16)) [
        | inl t ↦
            let high : eqb (x / 16) (y / 16) ≡ true = t.0 in
            let low : eqb (x % 16) (y % 16) ≡ false = unlike (x % 16) (y % 16) (λ e. f.1 (same_byte x y t.1 e)) in
            rw (other, high, low) refl
        | inr g ↦ let high : eqb (x / 16) (y / 16) ≡ false = g.0 in rw (other, high) refl
      ]
]

pub begins_alike : (p k : List ℕ) → goes_on_with (nibbles_of p) (nibbles_of k) ≡ starts_with nat_eq k p
begins_alike p k = follows (nibbles_of p) (nibbles_of k) ∙ nibbles_follow p k ∙ sym (follows p k)

pub made_again : (k : List ℕ) → AllByRecursion (λ b. b < 256) k → key_of_nibbles (nibbles_of k) ≡ k
made_again [] a = refl
made_again (b ∷ k) a =
    let byte : 16 * ((b / 16) % 16) + (b % 16) % 16 ≡ b = omega (arith, a.0) in
    ap₂ (λ (x : ℕ) (xs : List ℕ). x ∷ xs) byte (made_again k a.1)

-- ---- keys with a prefix

-- the keys that a test of their nibbles keeps are those that a test of their bytes does
pub kept_keys : (keeps test : List ℕ → Bool) → ((k : List ℕ) → keeps (nibbles_of k) ≡ test k) → (es : List (List ℕ × List ℕ)) → AllByRecursion IsEntry es
    → keys_under keeps [] (map in_nibbles es) ≡ filter test (map (λ (e : List ℕ × List ℕ). e.0) es)
kept_keys keeps test alike [] a = refl
kept_keys keeps test alike ((k, v) ∷ es) a =
    let rest : List (List ℕ) = filter test (map (λ (e : List ℕ × List ℕ). e.0) es) in
    one_under keeps [] (nibbles_of k, v) (map in_nibbles es)
    ∙ ap (if_kept keeps (nibbles_of k)) (kept_keys keeps test alike es a.1)
    ∙ ap₂ (λ b (l : List ℕ). cond b (l ∷ rest) rest) (alike k) (made_again k (recursion_from_All (λ b. b < 256) k a.0.key))

pub keys_of_walk : (m : State) (prefix : List ℕ) → All IsEntry (entries m) → keys_under (goes_on_with (nibbles_of prefix)) [] (suffixes_of m) ≡ keys_with_prefix m prefix
keys_of_walk m prefix within =
    kept_keys (goes_on_with (nibbles_of prefix)) (λ k. starts_with nat_eq k prefix) (begins_alike prefix) (entries m) (recursion_from_All IsEntry (entries m) within)

-- ---- paths that part from a prefix

parted : (q p r : List ℕ) → is_some (after_prefix p q) ≡ false → is_some (after_prefix q p) ≡ false
    → (is_some (after_prefix (p ++ r) q) ≡ false) × (is_some (after_prefix q (p ++ r)) ≡ false)
parted q [] r a b = let no : true ≡ false = a in absurd cc
parted [] (y ∷ p) r a b = let no : true ≡ false = b in absurd cc
parted (x ∷ q) (y ∷ p) r a b = elim (eqb_tells x y) [
  | inl t ↦
      let there : eqb x y ≡ true = t.0 in let back : eqb y x ≡ true = eq-eqb y x (sym t.1) in
      let more : (is_some (after_prefix (p ++ r) q) ≡ false) × (is_some (after_prefix q (p ++ r)) ≡ false) = parted q p r (rw back at a) (rw there at b) in
      (rw back more.0, rw there more.1)
  | inr f ↦
      let there : eqb x y ≡ false = f.0 in let back : eqb y x ≡ false = unlike y x (λ e. f.1 (sym e)) in
      (rw back refl, rw there refl)
]

neither : (a b : Bool) → (a || b) ≡ false → (a ≡ false) × (b ≡ false)
neither true b e = let no : true ≡ false = e in absurd cc
neither false b e = (refl, e)

pub near_closed : (q : List ℕ) → IsClosed (goes_on_with q) (is_near q)
near_closed q = record {
  keys = λ p r e. follows q (p ++ r) ∙ (apart p r e).1;
  paths = λ p r e. ap₂ (λ a b. a || b) (follows (p ++ r) q ∙ (apart p r e).0) (follows q (p ++ r) ∙ (apart p r e).1);
}
  where
    apart : (p r : List ℕ) → is_near q p ≡ false → (is_some (after_prefix (p ++ r) q) ≡ false) × (is_some (after_prefix q (p ++ r)) ≡ false)
    apart p r e =
        let both : (starts_with nat_eq q p ≡ false) × (starts_with nat_eq p q ≡ false) = neither (starts_with nat_eq q p) (starts_with nat_eq p q) e in
        parted q p r (sym (follows p q) ∙ both.0) (sym (follows q p) ∙ both.1)
