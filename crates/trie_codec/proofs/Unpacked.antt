-- A partial key's bytes are read as its nibbles.
use Rattle.std.proofs.Common.{◌≡◌, ℕ, zero, suc, ◌+◌, ◌*◌, ◌/◌, ◌%◌, ◌<◌, false, List, [], ◌∷◌, ◌++◌, length, drop, All, inl, inr, Ok, refl, ap, ◌∙◌, arith, length-append}
use Rattle.std.specs.Prelude.{nat_lt, nat_le, ◌==◌, ◌&&◌, ◌⊎◌}
use Rattle.std.proofs.lemmas.Bool.{cases_eq, eq-eqb, ne_eqb}
use Rattle.std.proofs.lemmas.Bool.Decides.{nat_tests}
use Rattle.std.proofs.lemmas.List.{take_at, drop_at}
use Rattle.std.proofs.lemmas.List.Elements.{All-cons, All-head, All-tail}
use Rattle.sdb_base.specs.Nibbles.{nibbles_of}
use Rattle.trie_model.specs.Nibbles.{paired, packed}
use Rattle.trie_codec.specs.Reading.{first_bytes, checked_padding, first_partial}

-- bytes in front of others
pub front_read : (front rest : List ℕ) (n : ℕ) → length front ≡ n → first_bytes n (front ++ rest) ≡ Ok (front, rest)
front_read front rest n e =
    let there : nat_lt (length (front ++ rest)) n ≡ false = grind (arith, nat_tests, length-append {A = ℕ} front rest) in
    rw (there, take_at front rest n e, drop_at front rest n e) refl

abbrev pub AreNibbles : List ℕ → Type 0
AreNibbles ns = All (λ n. n < 16) ns

pub unpaired : (k : ℕ) (ns : List ℕ) → length ns ≡ 2 * k → AreNibbles ns → nibbles_of (paired ns) ≡ ns
unpaired k [] e nibbles = refl
unpaired k (a ∷ []) e nibbles = absurd (omega arith)
unpaired zero (a ∷ (b ∷ ns)) e nibbles = absurd (omega arith)
unpaired (suc k) (a ∷ (b ∷ ns)) e nibbles =
    let P : ℕ → Type 0 = λ n. n < 16 in
    let after = All-tail P a (b ∷ ns) nibbles in
    let second : b < 16 = All-head P b ns after in
    let high : (16 * a + b) / 16 ≡ a = omega arith in
    let low : (16 * a + b) % 16 ≡ b = omega arith in
    rw (high, low, unpaired k ns (omega arith) (All-tail P b ns after)) refl

pub length-paired : (k : ℕ) (ns : List ℕ) → length ns ≡ 2 * k → length (paired ns) ≡ k
length-paired zero [] e = refl
length-paired (suc k) [] e = absurd (omega arith)
length-paired k (a ∷ []) e = absurd (omega arith)
length-paired zero (a ∷ (b ∷ ns)) e = absurd (omega arith)
length-paired (suc k) (a ∷ (b ∷ ns)) e = ap suc (length-paired k ns (omega arith))

-- an even count has no padding
pub even_unpadded : (n : ℕ) (bytes : List ℕ) → n % 2 ≡ 0 → checked_padding n bytes ≡ Ok bytes
even_unpadded n [] even = let t : (n % 2 == 1) ≡ false = grind (arith, nat_tests) in rw t refl
even_unpadded n (b ∷ bs) even = let t : (n % 2 == 1) ≡ false = grind (arith, nat_tests) in rw t refl

-- an odd one has a zero half
odd_padded : (n b : ℕ) (bs : List ℕ) → b < 16 → checked_padding n (b ∷ bs) ≡ Ok (b ∷ bs)
odd_padded n b bs small = let t : ((n % 2 == 1) && nat_le 16 b) ≡ false = grind (arith, nat_tests) in rw t refl

even_read : (n k : ℕ) (ns rest : List ℕ) → length ns ≡ n → n ≡ 2 * k → AreNibbles ns → first_partial n (paired ns ++ rest) ≡ Ok (ns, rest)
unfolding first_partial
even_read n k ns rest count even nibbles =
    let none : n % 2 ≡ 0 = omega arith in
    let bytes : length (paired ns) ≡ (n + 1) / 2 = omega (arith, length-paired k ns (count ∙ even)) in
    rw (even_unpadded n (paired ns ++ rest) none, front_read (paired ns) rest ((n + 1) / 2) bytes, none, unpaired k ns (count ∙ even) nibbles) refl

odd_read : (n k a : ℕ) (ns rest : List ℕ) → length ns ≡ 2 * k → n ≡ suc (2 * k) → AreNibbles (a ∷ ns) → first_partial n (paired (0 ∷ (a ∷ ns)) ++ rest) ≡ Ok (a ∷ ns, rest)
unfolding first_partial
odd_read n k a ns rest count odd nibbles =
    let P : ℕ → Type 0 = λ m. m < 16 in
    let first : a < 16 = All-head P a ns nibbles in
    let pairs : length (0 ∷ (a ∷ ns)) ≡ 2 * suc k = omega arith in
    let one : n % 2 ≡ 1 = omega arith in
    let bytes : length (paired (0 ∷ (a ∷ ns))) ≡ (n + 1) / 2 = omega (arith, length-paired (suc k) (0 ∷ (a ∷ ns)) pairs) in
    rw (odd_padded n (16 * 0 + a) (paired ns ++ rest) (omega arith), front_read (paired (0 ∷ (a ∷ ns))) rest ((n + 1) / 2) bytes, one)
    (ap (λ (found : List ℕ). Ok (drop 1 found, rest)) (unpaired (suc k) (0 ∷ (a ∷ ns)) pairs (All-cons P 0 (a ∷ ns) (omega arith) nibbles)))

by_parity : (a : ℕ) (ns rest : List ℕ) → AreNibbles (a ∷ ns) → (length (a ∷ ns) % 2 ≡ 0) ⊎ (length (a ∷ ns) % 2 ≡ 0 → ⊥) → first_partial (length (a ∷ ns)) (packed (a ∷ ns) ++ rest) ≡ Ok (a ∷ ns, rest)
by_parity a ns rest nibbles (inl even) =
    rw (eq-eqb (length (a ∷ ns) % 2) 0 even) (even_read (length (a ∷ ns)) (length (a ∷ ns) / 2) (a ∷ ns) rest refl (omega arith) nibbles)
by_parity a ns rest nibbles (inr odd) =
    rw (ne_eqb (length (a ∷ ns) % 2) 0 odd) (odd_read (length (a ∷ ns)) (length ns / 2) a ns rest (omega arith) (omega arith) nibbles)

pub partial_read : (ns rest : List ℕ) → AreNibbles ns → first_partial (length ns) (packed ns ++ rest) ≡ Ok (ns, rest)
partial_read [] rest nibbles = even_read 0 0 [] rest refl refl nibbles
partial_read (a ∷ ns) rest nibbles = by_parity a ns rest nibbles (cases_eq (length (a ∷ ns) % 2) 0)
