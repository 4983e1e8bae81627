-- Ids, keys and values by their digits.
use Rattle.std.proofs.Common.{◌≡◌, ℕ, ◌+◌, ◌-◌, ◌*◌, ◌/◌, ◌%◌, ◌<◌, ◌≤◌, Bool, true, false, ◌&&◌, ◌⊎◌, cond, leb, List, [], ◌∷◌, ◌++◌, length, take, drop, Option, Some, None, Result, Ok, Err, refl, sym, ap, subst, ◌∙◌, arith, inl, inr}
use Rattle.std.specs.Prelude.{nat_le, if◌then◌else◌, option_and_then, replicate, MatchResult}
use Rattle.std.specs.Result.{result_ok}
use Rattle.std.specs.Str.{bytes_eq}
use Rattle.std.proofs.lemmas.Bool.{lt-leb, le-leb, cases_eq, and_right}
use Rattle.std.proofs.lemmas.Option.{none-some}
use Rattle.std.proofs.lemmas.List.{nil_from_length, length-take, length-drop, append-nil, take-replicate}
use Rattle.hex.specs.declared.error.FromHexError.{FromHexError}
use Rattle.hex.specs.Hex.{decode_of, decode_sized}
use Rattle.hex.proofs.HexLemmas.{decode_of-ok, decode_of-odd, decode_sized-odd, decode_sized-twice}
use Rattle.sdb_base.specs.declared.BlockId.{BlockId}
use Rattle.hex.specs.declared.error.FromHexError.TheVariants as hex_errors
use Rattle.sdb_script.specs.inner.Reading.{IsParsed, fault_of}
use Rattle.sdb_script.specs.Words.{id_of, bytes_of, padded_id}
use borrow.Rule.Slice.PartMut.{put_mid, post_of}

-- bytes where there are enough of them and not too many
abbrev pub sized : ℕ → Option (List ℕ) → Option (List ℕ)
sized most given = option_and_then (λ bytes. if nat_le 1 (length bytes) && nat_le (length bytes) most then Some bytes else None) given

outside_at : (most : ℕ) (w : List ℕ) (r : Result (List ℕ) FromHexError) → decode_of w ≡ r → (length w ≡ 0) ⊎ (2 * most < length w) → sized most (result_ok r) ≡ None
outside_at most w (Err e) h o = refl
outside_at most w (Ok bytes) h o =
    let len = (decode_of-ok w bytes h).2 in
    elim o [
      | inl z ↦ let short : length bytes < 1 = omega (arith, len) in rw (lt-leb 1 (length bytes) short) refl
      | inr l ↦ let long : most < length bytes = omega (arith, len) in rw (and_right (leb 1 (length bytes)) (leb (length bytes) most) (lt-leb (length bytes) most long)) refl
    ]

-- a word of no digits, or of too many, spells nothing
pub outside : (most : ℕ) (w : List ℕ) → (length w ≡ 0) ⊎ (2 * most < length w) → sized most (result_ok (decode_of w)) ≡ None
outside most w o = outside_at most w (decode_of w) refl o

-- a word of the right length spells what its digits do
pub inside : (most : ℕ) (w bytes : List ℕ) → decode_of w ≡ Ok bytes → (length w ≡ 0 → ⊥) → length w ≤ 2 * most → sized most (result_ok (decode_of w)) ≡ Some bytes
inside most w bytes h nonempty within =
    let len = (decode_of-ok w bytes h).2 in
    let some : 1 ≤ length bytes = omega (arith, len) in
    let few : length bytes ≤ most = omega (arith, len) in
    rw (h, le-leb 1 (length bytes) some, le-leb (length bytes) most few) refl

pub bad_digits : (most : ℕ) (w : List ℕ) (e : FromHexError) → decode_of w ≡ Err e → sized most (result_ok (decode_of w)) ≡ None
bad_digits most w e h = rw h refl

-- ---- ids

half : (w : List ℕ) → decode_sized w (length w / 2) ≡ decode_of w
half w = elim (cases_eq (length w % 2) 1) [
  | inl odd ↦ decode_sized-odd w (length w / 2) odd ∙ sym (decode_of-odd w odd)
  | inr even ↦ decode_sized-twice w (length w / 2) (omega arith)
]

abbrev pub block_id : List ℕ → BlockId
block_id bytes = record { 0 = bytes }

-- the id from the room that is left for its digits
abbrev pub zeros : List ℕ
zeros = replicate 32 0

abbrev pub room : List ℕ → List ℕ
room w = take (32 - (32 - length w / 2)) (drop (32 - length w / 2) zeros)

room_is : (w : List ℕ) → length w ≤ 64 → length (room w) ≡ length w / 2
room_is w le =
    let a = length-take (32 - (32 - length w / 2)) (drop (32 - length w / 2) zeros) in
    let b = length-drop (32 - length w / 2) zeros in
    omega (arith, a, b)

-- what decoding into `out` answered
abbrev pub Decoded : Result (List ℕ) FromHexError → Result Unit FromHexError → List ℕ → Type 0
Decoded d r out = MatchResult d (λ bytes. (r ≡ Ok tt) × (out ≡ bytes)) (λ e. r ≡ Err e)

decoded : (w out : List ℕ) (r : Result Unit FromHexError) → length w ≤ 64 → Decoded (decode_sized w (length (room w))) r out → Decoded (decode_of w) r out
decoded w out r le m = subst (λ d. Decoded d r out) (ap (decode_sized w) (room_is w le) ∙ half w) m

none_at : (w out : List ℕ) (d : Result (List ℕ) FromHexError) (r : Result Unit FromHexError) → decode_of w ≡ d → Decoded d r out → None ≡ result_ok r → None ≡ id_of w
unfolding id_of
none_at w out (Ok bytes) r h m n = absurd (none-some tt (n ∙ ap result_ok m.0))
none_at w out (Err e) r h m n = rw h refl

pub id_none : (w out : List ℕ) (r : Result Unit FromHexError) → length w ≤ 64 → Decoded (decode_sized w (length (room w))) r out → None ≡ result_ok r → None ≡ id_of w
id_none w out r le m n = none_at w out (decode_of w) r refl (decoded w out r le m) n

filled : (a k : ℕ) (bytes : List ℕ) → a ≤ 32 → a + k ≡ 32 → put_mid a k zeros bytes ≡ replicate a 0 ++ bytes
filled a k bytes le sum =
    let nothing : post_of a k zeros ≡ [] = nil_from_length (post_of a k zeros) (omega (arith, length-drop k (drop a zeros), length-drop a zeros)) in
    rw (nothing, append-nil bytes, take-replicate {X = ℕ} a 32 0 le) refl

some_at : (w out : List ℕ) (d : Result (List ℕ) FromHexError) (r : Result Unit FromHexError) → (length w ≡ 0 → ⊥) → length w ≤ 64 → decode_of w ≡ d → Decoded d r out → Some tt ≡ result_ok r
    → Some (block_id (put_mid (32 - length w / 2) (32 - (32 - length w / 2)) zeros out)) ≡ id_of w
unfolding id_of
some_at w out (Ok bytes) r nonempty le h m s =
    let len = (decode_of-ok w bytes h).2 in
    let some : 1 ≤ length bytes = omega (arith, len) in
    let few : length bytes ≤ 32 = omega (arith, len) in
    let halved : length w / 2 ≡ length bytes = omega (arith, len) in
    rw (h, le-leb 1 (length bytes) some, le-leb (length bytes) 32 few, m.1, halved) (ap (λ bs. Some (block_id bs)) (filled (32 - length bytes) (32 - (32 - length bytes)) bytes (omega arith) (omega arith)))
some_at w out (Err e) r nonempty le h m s = absurd (none-some tt (sym (s ∙ ap result_ok m)))

pub id_some : (w out : List ℕ) (r : Result Unit FromHexError) → (length w ≡ 0 → ⊥) → length w ≤ 64 → Decoded (decode_sized w (length (room w))) r out → Some tt ≡ result_ok r
    → Some (block_id (put_mid (32 - length w / 2) (32 - (32 - length w / 2)) zeros out)) ≡ id_of w
id_some w out r nonempty le m s = some_at w out (decode_of w) r nonempty le refl (decoded w out r le m) s

padded_if : (b : Bool) (bytes : List ℕ) → cond b (Some bytes) None ≡ None → cond b (Some (padded_id bytes)) None ≡ None
padded_if true bytes e = absurd cc
padded_if false bytes e = refl

padded_at : (given : Option (List ℕ)) → sized 32 given ≡ None
    → option_and_then (λ bytes. if nat_le 1 (length bytes) && nat_le (length bytes) 32 then Some (padded_id bytes) else None) given ≡ None
padded_at None e = refl
padded_at (Some bytes) e = padded_if (nat_le 1 (length bytes) && nat_le (length bytes) 32) bytes e

pub id_outside : (w : List ℕ) → (length w ≡ 0) ⊎ (64 < length w) → id_of w ≡ None
unfolding id_of
id_outside w o = padded_at (result_ok (decode_of w)) (outside 32 w o)

-- ---- keys and values

pub dash : (most : ℕ) (w d : List ℕ) → d ≡ 45 ∷ [] → bytes_eq w d ≡ true → bytes_of most w ≡ Some []
unfolding bytes_of
dash most w d e h = let t : bytes_eq w (45 ∷ []) ≡ true = rw (← e) h in rw t refl

pub digits_only : (most : ℕ) (w d : List ℕ) → d ≡ 45 ∷ [] → bytes_eq w d ≡ false → bytes_of most w ≡ sized most (result_ok (decode_of w))
unfolding bytes_of
digits_only most w d e h = let t : bytes_eq w (45 ∷ []) ≡ false = rw (← e) h in rw t refl

pub bad_word : (most : ℕ) (w : List ℕ) (e : FromHexError) → (e ≡ hex_errors.OutOfMemory) ⊎ (decode_of w ≡ Err e) → IsParsed {X = List ℕ} (Err (fault_of e)) (sized most (result_ok (decode_of w)))
bad_word most w hex_errors.OutOfMemory o = tt
bad_word most w (hex_errors.InvalidHexCharacter c i) o = elim o [ inl e ↦ absurd cc | inr e ↦ bad_digits most w (hex_errors.InvalidHexCharacter c i) e ]
bad_word most w hex_errors.OddLength o = elim o [ inl e ↦ absurd cc | inr e ↦ bad_digits most w hex_errors.OddLength e ]
bad_word most w hex_errors.InvalidStringLength o = elim o [ inl e ↦ absurd cc | inr e ↦ bad_digits most w hex_errors.InvalidStringLength e ]
