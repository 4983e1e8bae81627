-- What readers leave of an input that they read alike.
use Rattle.std.proofs.Common.{◌≡◌, ℕ, suc, ◌+◌, ◌/◌, ◌%◌, ◌≤◌, Bool, true, false, cond, List, [], ◌∷◌, length, take, drop, Result, Ok, Err, refl, subst, arith, length-drop}
use Rattle.std.specs.Prelude.{nat_lt, nat_le, ◌==◌, ◌&&◌}
use Rattle.std.specs.Int.{w16, w32, from_le_bytes}
use Rattle.sdb_base.specs.Nibbles.{nibbles_of}
use Rattle.trie_codec.specs.declared.fault.CodecFault.{CodecFault}
use Rattle.trie_codec.specs.declared.fault.CodecFault.TheVariants.{Short, BadHeader, BadPadding, BadLength}
use Rattle.trie_codec.specs.Reading.{◌>>=◌, checked_padding, first_bytes, first_count, first_header, first_length, first_partial, first_string, most_nibbles, shortest}

-- two readings that answer alike, and leave at most so many bytes
pub record Alike {A : Type 0} (m : ℕ) (r s : Result (A × List ℕ) CodecFault) : Type 0 where
  pub same : r ≡ s
  pub left : (x : A × List ℕ) → r ≡ Ok x → length x.1 ≤ m

pub ends : {A : Type 0} (m : ℕ) (a : A) (rest : List ℕ) → length rest ≤ m → Alike {A = A} m (Ok (a, rest)) (Ok (a, rest))
ends {A} m a rest few = record {
  same = refl;
  left = λ x e. let is : ◌≡◌ {A = A × List ℕ} (a, rest) x = cc in subst (λ (y : A × List ℕ). length y.1 ≤ m) is few;
}

pub refused : {A : Type 0} (m : ℕ) (f : CodecFault) → Alike {A = A} m (Err f) (Err f)
refused m f = record { same = refl; left = λ x e. absurd cc }

pub tested : {A : Type 0} (m : ℕ) (t : Bool) (a b c d : Result (A × List ℕ) CodecFault) → Alike m a c → Alike m b d → Alike m (cond t a b) (cond t c d)
tested m true a b c d h k = h
tested m false a b c d h k = k

-- a step that reads, and one after it
pub and_then : {A B : Type 0} (m : ℕ) (next other : A → List ℕ → Result (B × List ℕ) CodecFault) (r s : Result (A × List ℕ) CodecFault)
    → Alike m r s → ((a : A) (rest : List ℕ) → length rest ≤ m → Alike m (next a rest) (other a rest))
    → Alike m (r >>= λ x. next x.0 x.1) (s >>= λ x. other x.0 x.1)
and_then {A = A} m next other (Ok x) s e h =
    subst (λ (t : Result (A × List ℕ) CodecFault). Alike m (next x.0 x.1) (t >>= λ y. other y.0 y.1)) e.same (h x.0 x.1 (e.left x refl))
and_then {A = A} m next other (Err f) s e h =
    subst (λ (t : Result (A × List ℕ) CodecFault). Alike m (Err f) (t >>= λ y. other y.0 y.1)) e.same (refused m f)

-- a step that reads nothing, and one after it
pub checked_then : {C B : Type 0} (m : ℕ) (r : Result C CodecFault) (next other : C → Result (B × List ℕ) CodecFault)
    → ((c : C) → r ≡ Ok c → Alike m (next c) (other c)) → Alike m (r >>= next) (r >>= other)
checked_then m (Ok c) next other h = h c refl
checked_then m (Err f) next other h = refused m f

-- what a reader leaves, where it asks for no inline child
pub bytes_left : (m n : ℕ) (bytes : List ℕ) → length bytes ≤ m → Alike m (first_bytes n bytes) (first_bytes n bytes)
bytes_left m n bytes few =
    tested m (nat_lt (length bytes) n) _ _ _ _ (refused m Short) (ends m (take n bytes) (drop n bytes) (omega (arith, length-drop n bytes)))

pub count_left : (m n : ℕ) (bytes : List ℕ) → length bytes ≤ m → Alike m (first_count n bytes) (first_count n bytes)
unfolding first_count
count_left m n [] few = refused m Short
count_left m n (b ∷ bs) few =
    let fewer : length bs ≤ m = omega arith in
    tested m (nat_lt most_nibbles (n + b)) _ _ _ _ (refused m BadHeader)
    (tested m (b == 255) _ _ _ _ (count_left m (n + 255) bs fewer) (ends m (n + b) bs fewer))

-- a header takes a byte at least
pub header_left : (m : ℕ) (bytes : List ℕ) → length bytes ≤ suc m → Alike m (first_header bytes) (first_header bytes)
unfolding first_header
header_left m [] few = refused m Short
header_left m (b ∷ bs) few =
    let fewer : length bs ≤ m = omega arith in
    tested m (b / 64 == 0) _ _ _ _ (tested m (b == 0) _ _ _ _ (ends m (0, 0) bs fewer) (refused m BadHeader))
    (tested m (b % 64 == 63) _ _ _ _
    (and_then m (λ (n : ℕ) rest. Ok ((b / 64, n), rest)) (λ (n : ℕ) rest. Ok ((b / 64, n), rest)) _ _ (count_left m 63 bs fewer)
    (λ n rest h. ends m (b / 64, n) rest h))
    (ends m (b / 64, b % 64) bs fewer))

pub padding_left : (n : ℕ) (bytes checked : List ℕ) → checked_padding n bytes ≡ Ok checked → length checked ≤ length bytes
padding_left n [] checked e = by_test (n % 2 == 1) e
  where
    by_test : (t : Bool) → cond t (Err Short) (Ok []) ≡ Ok checked → length checked ≤ 0
    by_test true k = absurd cc
    by_test false k = let is : [] ≡ checked = cc in subst (λ (l : List ℕ). length l ≤ 0) is (omega arith)
padding_left n (b ∷ bs) checked e = by_test ((n % 2 == 1) && nat_le 16 b) e
  where
    by_test : (t : Bool) → cond t (Err BadPadding) (Ok (b ∷ bs)) ≡ Ok checked → length checked ≤ length (b ∷ bs)
    by_test true k = absurd cc
    by_test false k = let is : b ∷ bs ≡ checked = cc in subst (λ (l : List ℕ). length l ≤ length (b ∷ bs)) is (omega arith)

pub partial_left : (m n : ℕ) (bytes : List ℕ) → length bytes ≤ m → Alike m (first_partial n bytes) (first_partial n bytes)
unfolding first_partial
partial_left m n bytes few =
    checked_then m (checked_padding n bytes) _ _
    (λ checked e. and_then m (λ (found : List ℕ) rest. Ok (drop (n % 2) (nibbles_of found), rest)) (λ (found : List ℕ) rest. Ok (drop (n % 2) (nibbles_of found), rest)) _ _
    (bytes_left m ((n + 1) / 2) checked (omega (arith, padding_left n bytes checked e))) (λ found rest h. ends m (drop (n % 2) (nibbles_of found)) rest h))

pub shortest_left : (m least n : ℕ) (rest : List ℕ) → length rest ≤ m → Alike m (shortest least n rest) (shortest least n rest)
shortest_left m least n rest few = tested m (nat_lt n least) _ _ _ _ (refused m BadLength) (ends m n rest few)

pub length_left : (m : ℕ) (bytes : List ℕ) → length bytes ≤ m → Alike m (first_length bytes) (first_length bytes)
unfolding first_length
length_left m [] few = refused m Short
length_left m (b ∷ bs) few =
    tested m (b % 4 == 0) _ _ _ _ (ends m (b / 4) bs (omega arith))
    (tested m (b % 4 == 1) _ _ _ _
    (and_then m (λ (f : List ℕ) rest. shortest 64 (from_le_bytes w16 f / 4) rest) (λ (f : List ℕ) rest. shortest 64 (from_le_bytes w16 f / 4) rest) _ _
    (bytes_left m 2 (b ∷ bs) few) (λ f rest h. shortest_left m 64 (from_le_bytes w16 f / 4) rest h))
    (tested m (b % 4 == 2) _ _ _ _
    (and_then m (λ (f : List ℕ) rest. shortest 16384 (from_le_bytes w32 f / 4) rest) (λ (f : List ℕ) rest. shortest 16384 (from_le_bytes w32 f / 4) rest) _ _
    (bytes_left m 4 (b ∷ bs) few) (λ f rest h. shortest_left m 16384 (from_le_bytes w32 f / 4) rest h))
    (refused m BadLength)))

pub string_left : (m : ℕ) (bytes : List ℕ) → length bytes ≤ m → Alike m (first_string bytes) (first_string bytes)
unfolding first_string
string_left m bytes few = and_then m (λ n rest. first_bytes n rest) (λ n rest. first_bytes n rest) _ _ (length_left m bytes few) (λ n rest h. bytes_left m n rest h)
