-- Children that were read.
use Rattle.std.proofs.Common.{◌≡◌, ◌⊎◌, inl, inr, ℕ, zero, suc, ◌/◌, ◌%◌, ◌^◌, ◌<◌, ◌≤◌, Bool, true, false, cond, List, [], ◌∷◌, ◌++◌, length, All, Option, Some, None, Result, Ok, Err, refl, sym, ap, subst, ◌∙◌, arith}
use Rattle.std.specs.Prelude.{nat_lt, ◌==◌, ◌&&◌, ◌||◌, not}
use Rattle.std.specs.List.{flat_map}
use Rattle.std.proofs.lemmas.Bool.Decides.{nat_tests}
use Rattle.std.proofs.lemmas.List.{append_assoc}
use Rattle.std.proofs.lemmas.List.Elements.{All-nil, All-cons}
use Rattle.std.proofs.Math.Nat.{pow-suc}
use Rattle.trie_model.specs.Node.{Node, IsChild, IsText, bitmap, optional_string, spelling}
use Rattle.sdb_scale.specs.Compact.{string}
use Rattle.trie_codec.specs.declared.fault.CodecFault.{CodecFault}
use Rattle.trie_codec.specs.declared.fault.CodecFault.TheVariants.{BadChild}
use Rattle.trie_codec.specs.Reading.{◌>>=◌, first_bytes, first_child, first_children, first_length}
use Rattle.trie_codec.proofs.ReadSteps.{AreBytes, value_is, both_gave, no_fault, bytes_in_parts, taken}
use Rattle.trie_codec.proofs.ReadString.{IsLength, length_read, string_taken}

-- bytes that pass a test are the spelling of a leaf or branch that the predicate allows
abbrev pub IsSound : (List ℕ → Bool) → (Node → Type 0) → Type 0
IsSound reads P = (c : List ℕ) → AreBytes c → reads c ≡ true → (n : Node) × P n × (c ≡ spelling n) × (spelling n ≡ 0 ∷ [] → ⊥)

-- the bytes begin with a child's Merkle value, and the rest follows
pub record IsChildIn (P : Node → Type 0) (bytes : List ℕ) (x : List ℕ × List ℕ) : Type 0 where
  pub text : IsText (Some x.0)
  pub child : IsChild P (Some x.0)
  pub spelled : bytes ≡ string x.0 ++ x.1

-- a hash, or fewer bytes that read
hash_or_inline : (inline reads : Bool) (n : ℕ) → n ≤ 32 → nat_lt n 32 ≡ inline → (inline && not reads) ≡ false → (n ≡ 32) ⊎ ((n < 32) × (reads ≡ true))
hash_or_inline true true n few is pass = inr (grind (arith, nat_tests), refl)
hash_or_inline true false n few is pass = absurd (cc)
hash_or_inline false reads n few is pass = inl (grind (arith, nat_tests))

child_of : (reads : List ℕ → Bool) (P : Node → Type 0) → IsSound reads P → (c : List ℕ) → AreBytes c
    → (length c ≡ 32) ⊎ ((length c < 32) × (reads c ≡ true)) → IsChild P (Some c)
child_of reads P sound c all (inl hash) = inl hash
child_of reads P sound c all (inr inline) = let (n, is, spelled, other) = sound c all inline.1 in inr (inline.0, n, is, spelled, other)

passed : (reads : List ℕ → Bool) (P : Node → Type 0) → IsSound reads P → (c : List ℕ) → AreBytes c → length c ≤ 32
    → (nat_lt (length c) 32 && not (reads c)) ≡ false → IsChild P (Some c)
passed reads P sound c all few pass = child_of reads P sound c all (hash_or_inline (nat_lt (length c) 32) (reads c) (length c) few refl pass)

-- the bytes of a child after their length
kept : (reads : List ℕ → Bool) (P : Node → Type 0) → IsSound reads P → (n : ℕ × List ℕ) (len : ℕ) (bytes : List ℕ) (found x : List ℕ × List ℕ)
    → AreBytes bytes → IsLength bytes n → n.0 ≡ len → n.0 ≤ 32 → first_bytes len n.1 ≡ Ok found
    → cond (nat_lt len 32 && not (reads found.0)) (Err BadChild) (Ok found) ≡ Ok x → IsChildIn P bytes x
kept reads P sound n len bytes found x all length_is is few take e =
    let (ok, gave) = no_fault (nat_lt len 32 && not (reads found.0)) BadChild (Ok found) x e in
    let text = string_taken n bytes found all length_is (rw is take) in
    let long : length found.0 ≡ len = (taken len n.1 found take).0 in
    let inline : (nat_lt (length found.0) 32 && not (reads found.0)) ≡ false = rw long ok in
    subst (IsChildIn P bytes) (value_is found x gave) (record {
      text = (text.short, text.text);
      child = passed reads P sound found.0 text.text (omega arith) inline;
      spelled = text.spelled;
    })

pub child_read : (reads : List ℕ → Bool) (P : Node → Type 0) → IsSound reads P → (bytes : List ℕ) (x : List ℕ × List ℕ) → AreBytes bytes
    → first_child reads bytes ≡ Ok x → IsChildIn P bytes x
child_read reads P sound bytes x all e =
    let last : ℕ → List ℕ × List ℕ → Result (List ℕ × List ℕ) CodecFault = λ len found. cond (nat_lt len 32 && not (reads found.0)) (Err BadChild) (Ok found) in
    let (n, length_is, after) = both_gave (first_length bytes) (λ n. cond ((n.0 == 0) || nat_lt 32 n.0) (Err BadChild) (Ok n.0) >>= λ len. first_bytes len n.1 >>= last len) x e in
    let (len, check, then) = both_gave (cond ((n.0 == 0) || nat_lt 32 n.0) (Err BadChild) (Ok n.0)) (λ len. first_bytes len n.1 >>= last len) x after in
    let (fits, same) = no_fault ((n.0 == 0) || nat_lt 32 n.0) BadChild (Ok n.0) len check in
    let (found, take, pass) = both_gave (first_bytes len n.1) (last len) x then in
    kept reads P sound n len bytes found x all (length_read bytes n all length_is) (value_is n.0 len same) (grind (arith, nat_tests)) take pass

-- the bytes begin with the children of a bitmap's low bits, and the rest follows
pub record AreChildrenIn (P : Node → Type 0) (n map : ℕ) (bytes : List ℕ) (x : List (Option (List ℕ)) × List ℕ) : Type 0 where
  pub count : length x.0 ≡ n
  pub bits : bitmap x.0 ≡ map
  pub texts : All IsText x.0
  pub children : All (IsChild P) x.0
  pub spelled : bytes ≡ flat_map optional_string x.0 ++ x.1

-- the child of the lowest bit before the others
one_more : (reads : List ℕ → Bool) (P : Node → Type 0) → IsSound reads P → (bit : Bool) (n map : ℕ) (bytes : List ℕ) (x : List (Option (List ℕ)) × List ℕ)
    → AreBytes bytes → (map % 2 == 1) ≡ bit
    → ((rest : List ℕ) (y : List (Option (List ℕ)) × List ℕ) → AreBytes rest → first_children reads n (map / 2) rest ≡ Ok y → AreChildrenIn P n (map / 2) rest y)
    → cond bit (first_child reads bytes >>= λ first. first_children reads n (map / 2) first.1 >>= λ others. Ok (Some first.0 ∷ others.0, others.1))
    (first_children reads n (map / 2) bytes >>= λ others. Ok (None ∷ others.0, others.1)) ≡ Ok x
    → AreChildrenIn P (suc n) map bytes x
one_more reads P sound true n map bytes x all is deeper e =
    let (first, found, after) = both_gave (first_child reads bytes) (λ first. first_children reads n (map / 2) first.1 >>= λ others. Ok (Some first.0 ∷ others.0, others.1)) x e in
    let (others, more, gave) = both_gave (first_children reads n (map / 2) first.1) (λ others. Ok (Some first.0 ∷ others.0, others.1)) x after in
    let child = child_read reads P sound bytes first all found in
    let after = deeper first.1 others (bytes_in_parts bytes (string first.0) first.1 all child.spelled).1 more in
    let odd : map % 2 ≡ 1 = grind (arith, nat_tests) in
    subst (AreChildrenIn P (suc n) map bytes) (value_is (Some first.0 ∷ others.0, others.1) x gave) (record {
      count = ap suc after.count;
      bits = omega (arith, after.bits);
      texts = All-cons IsText (Some first.0) others.0 child.text after.texts;
      children = All-cons (IsChild P) (Some first.0) others.0 child.child after.children;
      spelled = child.spelled ∙ ap (λ l. string first.0 ++ l) after.spelled ∙ sym (append_assoc (string first.0) (flat_map optional_string others.0) others.1);
    })
one_more reads P sound false n map bytes x all is deeper e =
    let (others, more, gave) = both_gave (first_children reads n (map / 2) bytes) (λ others. Ok (None ∷ others.0, others.1)) x e in
    let after = deeper bytes others all more in
    let even : map % 2 ≡ 0 = grind (arith, nat_tests) in
    subst (AreChildrenIn P (suc n) map bytes) (value_is (None ∷ others.0, others.1) x gave) (record {
      count = ap suc after.count;
      bits = omega (arith, after.bits);
      texts = All-cons IsText None others.0 tt after.texts;
      children = All-cons (IsChild P) None others.0 tt after.children;
      spelled = after.spelled;
    })

pub children_read : (reads : List ℕ → Bool) (P : Node → Type 0) → IsSound reads P → (n map : ℕ) (bytes : List ℕ) (x : List (Option (List ℕ)) × List ℕ)
    → AreBytes bytes → map < 2 ^ n → first_children reads n map bytes ≡ Ok x → AreChildrenIn P n map bytes x
unfolding first_children
children_read reads P sound zero map bytes x all fits e =
    let none : 0 ≡ map = omega arith in
    subst (AreChildrenIn P 0 map bytes) (value_is ([], bytes) x e)
    (record { count = refl; bits = none; texts = All-nil IsText; children = All-nil (IsChild P); spelled = refl })
children_read reads P sound (suc n) map bytes x all fits e =
    let half : map / 2 < 2 ^ n = omega (arith, pow-suc 2 n) in
    one_more reads P sound (map % 2 == 1) n map bytes x all refl
    (λ rest y each more. children_read reads P sound n (map / 2) rest y each half more) e
