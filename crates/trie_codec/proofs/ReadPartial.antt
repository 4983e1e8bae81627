-- A partial key that was read.
use Rattle.std.proofs.Common.{◌≡◌, ℕ, zero, suc, ◌+◌, ◌*◌, ◌/◌, ◌%◌, ◌<◌, ◌≤◌, true, false, List, [], ◌∷◌, ◌++◌, length, get_or, drop, All, Ok, refl, ap, subst, ◌∙◌, arith}
use Rattle.std.specs.Prelude.{nat_le, ◌==◌, ◌&&◌}
use Rattle.std.proofs.lemmas.Bool.Decides.{nat_tests}
use Rattle.std.proofs.lemmas.List.{get_or_append_left}
use Rattle.std.proofs.lemmas.List.Elements.{All-nil, All-cons, All-head, All-tail, All-drop}
use Rattle.sdb_base.specs.Nibbles.{nibbles_of}
use Rattle.trie_model.specs.Nibbles.{packed, paired}
use Rattle.trie_model.specs.Node.{IsPartial}
use Rattle.trie_codec.specs.declared.fault.CodecFault.TheVariants.{Short, BadPadding}
use Rattle.trie_codec.specs.Reading.{◌>>=◌, first_bytes, checked_padding, first_partial}
use Rattle.trie_codec.proofs.Partial.{length-nibbles_of, partial_lengths}
use Rattle.trie_codec.proofs.ReadSteps.{AreBytes, value_is, both_gave, no_fault, bytes_in_parts, taken}

pub paired-nibbles_of : (bytes : List ℕ) → paired (nibbles_of bytes) ≡ bytes
paired-nibbles_of [] = refl
paired-nibbles_of (b ∷ bs) =
    let whole : 16 * (b / 16) + b % 16 ≡ b = omega arith in
    rw whole (ap (λ (l : List ℕ). b ∷ l) (paired-nibbles_of bs))

nibbles_small : (bytes : List ℕ) → AreBytes bytes → All (λ n. n < 16) (nibbles_of bytes)
nibbles_small [] all = All-nil (λ n. n < 16)
nibbles_small (b ∷ bs) all =
    let byte : b < 256 = All-head (λ b. b < 256) b bs all in
    All-cons (λ n. n < 16) (b / 16) ((b % 16) ∷ nibbles_of bs) (omega arith)
    (All-cons (λ n. n < 16) (b % 16) (nibbles_of bs) (omega arith) (nibbles_small bs (All-tail (λ b. b < 256) b bs all)))

pub packed_even : (ns : List ℕ) → length ns % 2 ≡ 0 → packed ns ≡ paired ns
packed_even ns e =
    let t : (length ns % 2 == 0) ≡ true = grind (arith, nat_tests) in
    rw t refl

pub packed_odd : (ns : List ℕ) → length ns % 2 ≡ 1 → packed ns ≡ paired (0 ∷ ns)
packed_odd ns e =
    let t : (length ns % 2 == 0) ≡ false = grind (arith, nat_tests) in
    rw t refl

-- bytes with a zero half in front where the count is odd
pub packed-nibbles : (odd : ℕ) (bytes : List ℕ) → odd < 2 → (odd ≡ 1 → (1 ≤ length bytes) × (get_or bytes 0 0 < 16))
    → packed (drop odd (nibbles_of bytes)) ≡ bytes
packed-nibbles zero bytes few padded = rw (packed_even (nibbles_of bytes) (omega (arith, length-nibbles_of bytes))) (paired-nibbles_of bytes)
packed-nibbles (suc zero) [] few padded = absurd (omega (arith, (padded refl).0))
packed-nibbles (suc zero) (b ∷ bs) few padded =
    let small : b < 16 = (padded refl).1 in
    let low : 16 * 0 + b % 16 ≡ b = omega arith in
    rw (packed_odd ((b % 16) ∷ nibbles_of bs) (omega (arith, length-nibbles_of bs)), low) (ap (λ (l : List ℕ). b ∷ l) (paired-nibbles_of bs))
packed-nibbles (suc (suc odd)) bytes few padded = absurd (omega arith)

padded : (n : ℕ) (bytes checked : List ℕ) → checked_padding n bytes ≡ Ok checked
    → (bytes ≡ checked) × (n % 2 ≡ 1 → (1 ≤ length bytes) × (get_or bytes 0 0 < 16))
padded n [] checked e =
    let (even, read) = no_fault (n % 2 == 1) Short (Ok []) checked e in
    (value_is [] checked read, (λ odd. absurd (grind (arith, nat_tests))))
padded n (b ∷ bs) checked e =
    let (fits, read) = no_fault ((n % 2 == 1) && nat_le 16 b) BadPadding (Ok (b ∷ bs)) checked e in
    (value_is (b ∷ bs) checked read, (λ odd. (omega arith, grind (arith, nat_tests))))

-- the bytes begin with a partial key of so many nibbles, and the rest follows
pub record IsKey (n : ℕ) (bytes : List ℕ) (x : List ℕ × List ℕ) : Type 0 where
  pub partial : IsPartial x.0
  pub count : length x.0 ≡ n
  pub spelled : bytes ≡ packed x.0 ++ x.1

pub partial_read : (n : ℕ) (bytes : List ℕ) (x : List ℕ × List ℕ) → AreBytes bytes → n ≤ 2048 → first_partial n bytes ≡ Ok x → IsKey n bytes x
unfolding first_partial
partial_read n bytes x all few e =
    let keep : List ℕ × List ℕ → List ℕ × List ℕ = λ found. (drop (n % 2) (nibbles_of found.0), found.1) in
    let (checked, check, after) = both_gave (checked_padding n bytes) (λ checked. first_bytes ((n + 1) / 2) checked >>= λ found. Ok (keep found)) x e in
    let (same, small) = padded n bytes checked check in
    let (found, take, gave) = both_gave (first_bytes ((n + 1) / 2) checked) (λ found. Ok (keep found)) x after in
    let (len, split) = taken ((n + 1) / 2) checked found take in
    let whole : bytes ≡ found.0 ++ found.1 = same ∙ split in
    let first : 1 ≤ length found.0 → get_or bytes 0 0 ≡ get_or found.0 0 0 = λ some. ap (λ l. get_or l 0 0) whole ∙ get_or_append_left found.0 found.1 0 0 some in
    let padding : n % 2 ≡ 1 → (1 ≤ length found.0) × (get_or found.0 0 0 < 16) =
    λ odd. let some : 1 ≤ length found.0 = omega arith in (some, omega (arith, first some, (small odd).1)) in
    let parts = bytes_in_parts bytes found.0 found.1 all whole in
    let count = partial_lengths n found.0 len in
    subst (IsKey n bytes) (value_is (keep found) x gave) (record {
      partial = record {
        nibbles = All-drop (λ n. n < 16) (n % 2) (nibbles_of found.0) (nibbles_small found.0 parts.0);
        short = omega (arith, count);
      };
      count = count;
      spelled = rw (packed-nibbles (n % 2) found.0 (omega arith) padding) whole;
    })
