-- What words of a text spell keeps the limits.
use Rattle.std.proofs.Common.{◌≡◌, ℕ, zero, suc, ◌-◌, ◌<◌, ◌≤◌, ◌⊎◌, Bool, true, false, ◌&&◌, cond, List, [], ◌∷◌, ◌++◌, length, get_or, Option, Some, None, Result, Ok, Err, refl, subst, arith, inl, inr}
use Rattle.std.specs.Prelude.{nat_le, replicate, option_and_then}
use Rattle.std.specs.Option.{option_map}
use Rattle.std.specs.Result.{result_ok}
use Rattle.std.specs.Str.{bytes_eq}
use Rattle.std.proofs.lemmas.Bool.{and_parts, cases_lt, leb-true}
use Rattle.std.proofs.lemmas.List.{get_or_append_left, get_or-append_right, get_or-replicate, length-append, length-replicate}
use Rattle.std.proofs.lemmas.Option.{none-some, same_Some}
use Rattle.hex.specs.declared.error.FromHexError.{FromHexError}
use Rattle.hex.specs.Hex.{IsBytes, decode_of}
use Rattle.hex.proofs.HexLemmas.{decode_of-ok}
use Rattle.sdb_base.specs.declared.BlockId.{BlockId}
use Rattle.sdb_script.specs.LineTexts.{IsId, HasAtMost}
use Rattle.sdb_script.specs.Words.{bytes_of, id_of, padded_id}

-- ---- steps that may give nothing

-- what a test lets through
pub passed : {X : Type 0} (b : Bool) (x y : X) → cond b (Some x) None ≡ Some y → (b ≡ true) × (x ≡ y)
passed true x y h = (refl, same_Some x y h)
passed false x y h = absurd (none-some y h)

-- two steps that gave something
pub then_some : {X Y : Type 0} (f : X → Option Y) (o : Option X) (y : Y) → option_and_then f o ≡ Some y → (x : X) × (o ≡ Some x) × (f x ≡ Some y)
then_some f (Some x) y h = (x, refl, h)
then_some f None y h = absurd (none-some y h)

pub map_some : {X Y : Type 0} (f : X → Y) (o : Option X) (y : Y) → option_map f o ≡ Some y → (x : X) × (o ≡ Some x) × (f x ≡ y)
map_some f (Some x) y h = (x, refl, same_Some (f x) y h)
map_some f None y h = absurd (none-some y h)

-- one of two
pub chosen : {X : Type 0} (P : X → Type 0) (b : Bool) (o p : Option X) (x : X) → cond b o p ≡ Some x → (o ≡ Some x → P x) → (p ≡ Some x → P x) → P x
chosen P true o p x h f g = f h
chosen P false o p x h f g = g h

-- ---- bytes and ids

decoded_bytes : (w : List ℕ) (r : Result (List ℕ) FromHexError) (bytes : List ℕ) → decode_of w ≡ r → result_ok r ≡ Some bytes → IsBytes bytes
decoded_bytes w (Err e) bytes d h = absurd (none-some bytes h)
decoded_bytes w (Ok given) bytes d h = subst IsBytes (same_Some given bytes h) (decode_of-ok w given d).3

-- what is decoded, where it is long enough and not too long
sized_bytes : {X : Type 0} (made : List ℕ → X) (most : ℕ) (w : List ℕ) (x : X)
    → option_and_then (λ bytes. cond (nat_le 1 (length bytes) && nat_le (length bytes) most) (Some (made bytes)) None) (result_ok (decode_of w)) ≡ Some x
    → (bytes : List ℕ) × HasAtMost most bytes × (made bytes ≡ x)
sized_bytes made most w x h =
    let given = then_some (λ bytes. cond (nat_le 1 (length bytes) && nat_le (length bytes) most) (Some (made bytes)) None) (result_ok (decode_of w)) x h in
    let bytes = given.0 in
    let let_through = passed (nat_le 1 (length bytes) && nat_le (length bytes) most) (made bytes) x given.2 in
    let few = (and_parts (nat_le 1 (length bytes)) (nat_le (length bytes) most) let_through.0).1 in
    (bytes, (leb-true (length bytes) most few, decoded_bytes w (decode_of w) bytes refl given.1), let_through.1)

no_bytes : (most : ℕ) → HasAtMost most []
no_bytes most = (omega arith, λ i. omega arith)

pub bytes_within : (most : ℕ) (w bytes : List ℕ) → bytes_of most w ≡ Some bytes → HasAtMost most bytes
unfolding bytes_of
bytes_within most w bytes h =
    chosen (HasAtMost most) (bytes_eq w (45 ∷ [])) (Some [])
    (option_and_then (λ b. cond (nat_le 1 (length b) && nat_le (length b) most) (Some b) None) (result_ok (decode_of w))) bytes h
    (λ e. subst (HasAtMost most) (same_Some [] bytes e) (no_bytes most))
    (λ e. let s = sized_bytes (λ b. b) most w bytes e in subst (HasAtMost most) s.2 s.1)

zero_or_byte : (n : ℕ) (bytes : List ℕ) → IsBytes bytes → (i : ℕ) → (i < n) ⊎ (n ≤ i) → get_or (replicate n 0 ++ bytes) i 0 < 256
zero_or_byte n bytes h i (inl lt) =
    let len : length (replicate {A = ℕ} n 0) ≡ n = length-replicate {A = ℕ} n 0 in
    omega (arith, get_or_append_left (replicate n 0) bytes 0 i (omega (arith, len)), get_or-replicate {A = ℕ} n i 0 0 lt)
zero_or_byte n bytes h i (inr le) = omega (arith, get_or-append_right (replicate n 0) bytes n i 0 (length-replicate {A = ℕ} n 0) le, h (i - n))

zeros_before : (n : ℕ) (bytes : List ℕ) → IsBytes bytes → IsBytes (replicate n 0 ++ bytes)
zeros_before n bytes h i = zero_or_byte n bytes h i (cases_lt i n)

pub zeros_are_bytes : (n : ℕ) → IsBytes (replicate n 0)
zeros_are_bytes n i = get_or-zeros n i
  where
    get_or-zeros : (n i : ℕ) → get_or (replicate n 0) i 0 < 256
    get_or-zeros zero i = omega arith
    get_or-zeros (suc n) zero = omega arith
    get_or-zeros (suc n) (suc i) = get_or-zeros n i

padded : (bytes : List ℕ) → HasAtMost 32 bytes → IsId (padded_id bytes)
padded bytes h =
    (omega (arith, length-append (replicate {A = ℕ} (32 - length bytes) 0) bytes, length-replicate {A = ℕ} (32 - length bytes) 0, h.0), zeros_before (32 - length bytes) bytes h.1)

pub id_within : (w : List ℕ) (id : BlockId) → id_of w ≡ Some id → IsId id
unfolding id_of
id_within w id h =
    let s = sized_bytes padded_id 32 w id h in subst IsId s.2 (padded s.0 s.1)
