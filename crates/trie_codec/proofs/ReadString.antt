-- A length and a byte string that were read.
use Rattle.std.proofs.Common.{◌≡◌, ℕ, zero, suc, ◌+◌, ◌*◌, ◌/◌, ◌%◌, ◌^◌, ◌<◌, ◌≤◌, Bool, true, false, cond, List, [], ◌∷◌, ◌++◌, length, get_or, Ok, Err, refl, ap, subst, ◌∙◌, arith, lit<}
use Rattle.std.specs.Prelude.{nat_lt, ◌==◌}
use Rattle.std.specs.Int.{w16, w32, to_le_bytes, from_le_bytes}
use Rattle.std.proofs.lemmas.Bool.Decides.{nat_tests}
use Rattle.std.proofs.lemmas.List.{get_or_append_left, append_assoc}
use Rattle.std.proofs.lemmas.List.Elements.{All-head, All-tail}
use Rattle.std.proofs.lemmas.Nat.{le_bytes_2, le_bytes_4}
use Rattle.sdb_scale.specs.Compact.{compact, string}
use Rattle.trie_codec.specs.declared.fault.CodecFault.TheVariants.{BadLength}
use Rattle.trie_codec.specs.Reading.{◌>>=◌, first_bytes, first_length, shortest, first_string}
use Rattle.trie_codec.proofs.ReadSteps.{AreBytes, value_is, both_gave, no_fault, bytes_in_parts, taken}

-- at each place, also after the last one
pub each_byte : (bytes : List ℕ) → AreBytes bytes → (i : ℕ) → get_or bytes i 0 < 256
each_byte [] all i = lit< tt
each_byte (b ∷ bs) all zero = All-head (λ b. b < 256) b bs all
each_byte (b ∷ bs) all (suc i) = each_byte bs (All-tail (λ b. b < 256) b bs all) i

-- the number in two bytes, and in four
two_bytes : (f : List ℕ) → from_le_bytes w16 f ≡ get_or f 0 0 + 256 * get_or f 1 0
two_bytes f = omega arith

four_bytes : (f : List ℕ) → from_le_bytes w32 f ≡ get_or f 0 0 + (256 * get_or f 1 0 + (65536 * get_or f 2 0 + 16777216 * get_or f 3 0))
four_bytes f = omega arith

pub two_below : (f : List ℕ) → AreBytes f → from_le_bytes w16 f < 2 ^ 16
two_below f all = omega (arith, two_bytes f, each_byte f all 0, each_byte f all 1)

-- the bytes begin with the number in its shortest mode, and the rest follows
pub record IsLength (bytes : List ℕ) (x : ℕ × List ℕ) : Type 0 where
  pub short : x.0 < 2 ^ 30
  pub spelled : bytes ≡ compact x.0 ++ x.1

compact_one : (n : ℕ) → n < 64 → compact n ≡ 4 * n ∷ []
unfolding compact
compact_one n small =
    let t : nat_lt n 64 ≡ true = grind (arith, nat_tests) in
    rw t refl

compact_two : (n : ℕ) → 64 ≤ n → n < 2 ^ 14 → compact n ≡ to_le_bytes w16 (4 * n + 1)
unfolding compact
compact_two n large small =
    let t : nat_lt n 64 ≡ false = grind (arith, nat_tests) in
    let u : nat_lt n (2 ^ 14) ≡ true = grind (arith, nat_tests) in
    rw (t, u) refl

compact_four : (n : ℕ) → 2 ^ 14 ≤ n → compact n ≡ to_le_bytes w32 (4 * n + 2)
unfolding compact
compact_four n large =
    let t : nat_lt n 64 ≡ false = grind (arith, nat_tests) in
    let u : nat_lt n (2 ^ 14) ≡ false = grind (arith, nat_tests) in
    rw (t, u) refl

-- the second mode, where its two bytes were taken
mode_two : (b : ℕ) (bs : List ℕ) (f : List ℕ × List ℕ) (x : ℕ × List ℕ) → AreBytes (b ∷ bs) → b % 4 ≡ 1 → length f.0 ≡ 2 → b ∷ bs ≡ f.0 ++ f.1
    → shortest 64 (from_le_bytes w16 f.0 / 4) f.1 ≡ Ok x → IsLength (b ∷ bs) x
mode_two b bs f x all mode len split e =
    let n : ℕ = from_le_bytes w16 f.0 / 4 in
    let (large, read) = no_fault (nat_lt n 64) BadLength (Ok (n, f.1)) x e in
    let bytes = (bytes_in_parts (b ∷ bs) f.0 f.1 all split).0 in
    let first : b ≡ get_or f.0 0 0 = ap (λ l. get_or l 0 0) split ∙ get_or_append_left f.0 f.1 0 0 (omega arith) in
    let below = two_below f.0 bytes in
    let least : 64 ≤ n = grind (arith, nat_tests) in
    let again : 4 * n + 1 ≡ from_le_bytes w16 f.0 = omega (arith, two_bytes f.0) in
    let spelled : compact n ≡ f.0 = compact_two n least (omega arith) ∙ le_bytes_2 f.0 (4 * n + 1) len (each_byte f.0 bytes) again in
    subst (IsLength (b ∷ bs)) (value_is (n, f.1) x read) (record { short = omega arith; spelled = rw spelled split })

mode_four : (b : ℕ) (bs : List ℕ) (f : List ℕ × List ℕ) (x : ℕ × List ℕ) → AreBytes (b ∷ bs) → b % 4 ≡ 2 → length f.0 ≡ 4 → b ∷ bs ≡ f.0 ++ f.1
    → shortest 16384 (from_le_bytes w32 f.0 / 4) f.1 ≡ Ok x → IsLength (b ∷ bs) x
mode_four b bs f x all mode len split e =
    let n : ℕ = from_le_bytes w32 f.0 / 4 in
    let (large, read) = no_fault (nat_lt n 16384) BadLength (Ok (n, f.1)) x e in
    let bytes = (bytes_in_parts (b ∷ bs) f.0 f.1 all split).0 in
    let first : b ≡ get_or f.0 0 0 = ap (λ l. get_or l 0 0) split ∙ get_or_append_left f.0 f.1 0 0 (omega arith) in
    let below : from_le_bytes w32 f.0 < 2 ^ 32 = omega (arith, four_bytes f.0, each_byte f.0 bytes 0, each_byte f.0 bytes 1, each_byte f.0 bytes 2, each_byte f.0 bytes 3) in
    let least : 16384 ≤ n = grind (arith, nat_tests) in
    let again : 4 * n + 2 ≡ from_le_bytes w32 f.0 = omega (arith, four_bytes f.0) in
    let spelled : compact n ≡ f.0 = compact_four n least ∙ le_bytes_4 f.0 (4 * n + 2) len (each_byte f.0 bytes) again in
    subst (IsLength (b ∷ bs)) (value_is (n, f.1) x read) (record { short = omega arith; spelled = rw spelled split })

by_mode : (one two four : Bool) (b : ℕ) (bs : List ℕ) (x : ℕ × List ℕ) → AreBytes (b ∷ bs)
    → (b % 4 == 0) ≡ one → (b % 4 == 1) ≡ two → (b % 4 == 2) ≡ four
    → cond one (Ok (b / 4, bs)) (cond two (first_bytes 2 (b ∷ bs) >>= λ f. shortest 64 (from_le_bytes w16 f.0 / 4) f.1)
    (cond four (first_bytes 4 (b ∷ bs) >>= λ f. shortest 16384 (from_le_bytes w32 f.0 / 4) f.1) (Err BadLength))) ≡ Ok x
    → IsLength (b ∷ bs) x
by_mode true two four b bs x all is_one is_two is_four e =
    let byte : b < 256 = All-head (λ b. b < 256) b bs all in
    let mode : b % 4 ≡ 0 = grind (arith, nat_tests) in
    let again : 4 * (b / 4) ≡ b = omega arith in
    let spelled : b ∷ bs ≡ compact (b / 4) ++ bs = rw (compact_one (b / 4) (omega arith), again) refl in
    subst (IsLength (b ∷ bs)) (value_is (b / 4, bs) x e) (record { short = omega arith; spelled = spelled })
by_mode false true four b bs x all is_one is_two is_four e =
    let (f, take, gave) = both_gave (first_bytes 2 (b ∷ bs)) (λ f. shortest 64 (from_le_bytes w16 f.0 / 4) f.1) x e in
    let (len, split) = taken 2 (b ∷ bs) f take in
    mode_two b bs f x all (grind (arith, nat_tests)) len split gave
by_mode false false true b bs x all is_one is_two is_four e =
    let (f, take, gave) = both_gave (first_bytes 4 (b ∷ bs)) (λ f. shortest 16384 (from_le_bytes w32 f.0 / 4) f.1) x e in
    let (len, split) = taken 4 (b ∷ bs) f take in
    mode_four b bs f x all (grind (arith, nat_tests)) len split gave
by_mode false false false b bs x all is_one is_two is_four e = absurd (cc)

pub length_read : (bytes : List ℕ) (x : ℕ × List ℕ) → AreBytes bytes → first_length bytes ≡ Ok x → IsLength bytes x
unfolding first_length
length_read [] x all e = absurd (cc)
length_read (b ∷ bs) x all e = by_mode (b % 4 == 0) (b % 4 == 1) (b % 4 == 2) b bs x all refl refl refl e

-- the bytes begin with the byte string, and the rest follows
pub record IsString (bytes : List ℕ) (x : List ℕ × List ℕ) : Type 0 where
  pub short : length x.0 < 2 ^ 30
  pub text : AreBytes x.0
  pub spelled : bytes ≡ string x.0 ++ x.1

pub string_taken : (n : ℕ × List ℕ) (bytes : List ℕ) (x : List ℕ × List ℕ) → AreBytes bytes → IsLength bytes n → first_bytes n.0 n.1 ≡ Ok x → IsString bytes x
string_taken n bytes x all is e =
    let (len, split) = taken n.0 n.1 x e in
    let after = (bytes_in_parts bytes (compact n.0) n.1 all is.spelled).1 in
    record {
      short = omega (arith, is.short);
      text = (bytes_in_parts n.1 x.0 x.1 after split).0;
      spelled = rw (len, append_assoc) (is.spelled ∙ ap (λ l. compact n.0 ++ l) split);
    }

pub string_read : (bytes : List ℕ) (x : List ℕ × List ℕ) → AreBytes bytes → first_string bytes ≡ Ok x → IsString bytes x
unfolding first_string
string_read bytes x all e =
    let (n, len, take) = both_gave (first_length bytes) (λ n. first_bytes n.0 n.1) x e in
    string_taken n bytes x all (length_read bytes n all len) take
