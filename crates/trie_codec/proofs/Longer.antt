-- What more bytes after an input change: parts are read as before, and so is each fault but Short.
use Rattle.std.proofs.Common.{◌≡◌, ℕ, ◌+◌, ◌/◌, ◌%◌, ◌<◌, ◌≤◌, Bool, true, false, cond, List, [], ◌∷◌, ◌++◌, length, take, drop, Result, Ok, Err, refl, sym, ap, subst, inl, inr, arith, length-append}
use Rattle.std.specs.Prelude.{nat_lt, nat_le, ◌==◌, ◌&&◌, ◌⊎◌}
use Rattle.std.specs.Int.{w16, w32, from_le_bytes}
use Rattle.std.proofs.lemmas.Bool.{cases_lt, lt-ltb, le-ltb}
use Rattle.std.proofs.lemmas.Bool.Decides.{nat_tests}
use Rattle.std.proofs.lemmas.List.{take-append-le, drop-append-le}
use Rattle.sdb_base.specs.Nibbles.{nibbles_of}
use Rattle.trie_codec.specs.declared.fault.CodecFault.{CodecFault}
use Rattle.trie_codec.specs.declared.fault.CodecFault.TheVariants.{Short, BadHeader, BadPadding, BadLength}
use Rattle.trie_codec.specs.Reading.{◌>>=◌, checked_padding, first_bytes, first_count, first_header, first_length, first_partial, first_string, most_nibbles, shortest}
use Rattle.trie_codec.proofs.Unpacked.{even_unpadded}

-- s is r over an input with more bytes after it
pub record Extends {A : Type 0} (more : List ℕ) (r s : Result (A × List ℕ) CodecFault) : Type 0 where
  pub found : (x : A × List ℕ) → r ≡ Ok x → s ≡ Ok (x.0, x.1 ++ more)
  pub fault : (f : CodecFault) → (f ≡ Short → ⊥) → r ≡ Err f → s ≡ Err f

pub ends : {A : Type 0} (more : List ℕ) (a : A) (rest : List ℕ) → Extends {A = A} more (Ok (a, rest)) (Ok (a, rest ++ more))
ends {A} more a rest = record {
  found = λ x e. let same : ◌≡◌ {A = A × List ℕ} (a, rest) x = cc in ap (λ (y : A × List ℕ). Ok (y.0, y.1 ++ more)) same;
  fault = λ f other e. absurd cc;
}

pub refused : {A : Type 0} (more : List ℕ) (f : CodecFault) → Extends {A = A} more (Err f) (Err f)
refused more f = record { found = λ x e. absurd cc; fault = λ g other e. e }

pub cut_off : {A : Type 0} (more : List ℕ) (s : Result (A × List ℕ) CodecFault) → Extends more (Err Short) s
cut_off more s = record { found = λ x e. absurd cc; fault = λ f other e. absurd (other cc) }

-- a test that doesn't look at what follows
pub tested : {A : Type 0} (more : List ℕ) (t : Bool) (a b c d : Result (A × List ℕ) CodecFault) → Extends more a c → Extends more b d
    → Extends more (cond t a b) (cond t c d)
tested more true a b c d h k = h
tested more false a b c d h k = k

-- a step that reads, and one after it
pub and_then : {A B : Type 0} (more : List ℕ) (next : A → List ℕ → Result (B × List ℕ) CodecFault) (r s : Result (A × List ℕ) CodecFault)
    → Extends more r s → ((a : A) (rest : List ℕ) → Extends more (next a rest) (next a (rest ++ more)))
    → Extends more (r >>= λ x. next x.0 x.1) (s >>= λ x. next x.0 x.1)
and_then {A = A} more next (Ok x) s e h =
    subst (λ (t : Result (A × List ℕ) CodecFault). Extends more (next x.0 x.1) (t >>= λ y. next y.0 y.1)) (sym (e.found x refl)) (h x.0 x.1)
and_then {A = A} {B = B} more next (Err f) s e h = record {
  found = λ x k. absurd cc;
  fault = λ g other k.
      let same : ◌≡◌ {A = Result (A × List ℕ) CodecFault} (Err f) (Err g) = cc in
      ap (λ (t : Result (A × List ℕ) CodecFault). t >>= λ y. next y.0 y.1) (e.fault g other same);
}

-- a step that reads nothing, and one after it
pub checked_then : {C B : Type 0} (more : List ℕ) (r : Result C CodecFault) (next longer : C → Result (B × List ℕ) CodecFault)
    → ((c : C) → Extends more (next c) (longer c)) → Extends more (r >>= next) (r >>= longer)
checked_then more (Ok c) next longer h = h c
checked_then more (Err f) next longer h = refused more f

pub bytes_longer : (n : ℕ) (bytes more : List ℕ) → Extends more (first_bytes n bytes) (first_bytes n (bytes ++ more))
bytes_longer n bytes more = by_length (cases_lt (length bytes) n)
  where
    by_length : (length bytes < n) ⊎ (n ≤ length bytes) → Extends more (first_bytes n bytes) (first_bytes n (bytes ++ more))
    by_length (inl less) = rw (lt-ltb (length bytes) n less) (cut_off more (first_bytes n (bytes ++ more)))
    by_length (inr enough) =
        let there : nat_lt (length (bytes ++ more)) n ≡ false = le-ltb (length (bytes ++ more)) n (omega (arith, length-append bytes more)) in
        rw (le-ltb (length bytes) n enough, there, take-append-le n bytes more enough, drop-append-le n bytes more enough)
        (ends more (take n bytes) (drop n bytes))

pub count_longer : (n : ℕ) (bytes more : List ℕ) → Extends more (first_count n bytes) (first_count n (bytes ++ more))
unfolding first_count
count_longer n [] more = cut_off more (first_count n more)
count_longer n (b ∷ bs) more =
    tested more (nat_lt most_nibbles (n + b)) _ _ _ _ (refused more BadHeader)
    (tested more (b == 255) _ _ _ _ (count_longer (n + 255) bs more) (ends more (n + b) bs))

pub header_longer : (bytes more : List ℕ) → Extends more (first_header bytes) (first_header (bytes ++ more))
unfolding first_header
header_longer [] more = cut_off more (first_header more)
header_longer (b ∷ bs) more =
    tested more (b / 64 == 0) _ _ _ _ (tested more (b == 0) _ _ _ _ (ends more (0, 0) bs) (refused more BadHeader))
    (tested more (b % 64 == 63) _ _ _ _
    (and_then more (λ (n : ℕ) rest. Ok ((b / 64, n), rest)) _ _ (count_longer 63 bs more) (λ n rest. ends more (b / 64, n) rest))
    (ends more (b / 64, b % 64) bs))

-- the bytes of a partial key of n nibbles, after its padding was checked
pub key_in : ℕ → List ℕ → Result (List ℕ × List ℕ) CodecFault
key_in n checked = first_bytes ((n + 1) / 2) checked >>= λ found. Ok (drop (n % 2) (nibbles_of found.0), found.1)

pub key_longer : (n : ℕ) (bytes more : List ℕ) → Extends more (key_in n bytes) (key_in n (bytes ++ more))
unfolding key_in
key_longer n bytes more =
    and_then more (λ (found : List ℕ) rest. Ok (drop (n % 2) (nibbles_of found), rest)) _ _ (bytes_longer ((n + 1) / 2) bytes more)
    (λ found rest. ends more (drop (n % 2) (nibbles_of found)) rest)

pub partial_longer : (n : ℕ) (bytes more : List ℕ) → Extends more (first_partial n bytes) (first_partial n (bytes ++ more))
unfolding first_partial key_in
partial_longer n [] more = by_parity (n % 2 == 1) refl
  where
    by_parity : (t : Bool) → (n % 2 == 1) ≡ t → Extends more (first_partial n []) (first_partial n more)
    by_parity true is = rw is (cut_off more (checked_padding n more >>= key_in n))
    by_parity false is =
        let even : n % 2 ≡ 0 = grind (arith, nat_tests) in
        rw (is, even_unpadded n more even) (key_longer n [] more)
partial_longer n (b ∷ bs) more =
    checked_longer ((n % 2 == 1) && nat_le 16 b)
  where
    checked_longer : (t : Bool) → Extends more (cond t (Err BadPadding) (Ok (b ∷ bs)) >>= key_in n) (cond t (Err BadPadding) (Ok (b ∷ (bs ++ more))) >>= key_in n)
    checked_longer true = refused more BadPadding
    checked_longer false = key_longer n (b ∷ bs) more

pub shortest_longer : (least n : ℕ) (rest more : List ℕ) → Extends more (shortest least n rest) (shortest least n (rest ++ more))
shortest_longer least n rest more = tested more (nat_lt n least) _ _ _ _ (refused more BadLength) (ends more n rest)

pub length_longer : (bytes more : List ℕ) → Extends more (first_length bytes) (first_length (bytes ++ more))
unfolding first_length
length_longer [] more = cut_off more (first_length more)
length_longer (b ∷ bs) more =
    tested more (b % 4 == 0) _ _ _ _ (ends more (b / 4) bs)
    (tested more (b % 4 == 1) _ _ _ _
    (and_then more (λ (f : List ℕ) rest. shortest 64 (from_le_bytes w16 f / 4) rest) _ _ (bytes_longer 2 (b ∷ bs) more)
    (λ f rest. shortest_longer 64 (from_le_bytes w16 f / 4) rest more))
    (tested more (b % 4 == 2) _ _ _ _
    (and_then more (λ (f : List ℕ) rest. shortest 16384 (from_le_bytes w32 f / 4) rest) _ _ (bytes_longer 4 (b ∷ bs) more)
    (λ f rest. shortest_longer 16384 (from_le_bytes w32 f / 4) rest more))
    (refused more BadLength)))

pub string_longer : (bytes more : List ℕ) → Extends more (first_string bytes) (first_string (bytes ++ more))
unfolding first_string
string_longer bytes more = and_then more (λ n rest. first_bytes n rest) _ _ (length_longer bytes more) (λ n rest. bytes_longer n rest more)
