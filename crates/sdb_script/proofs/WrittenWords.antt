-- Single words are read as they are written.
use Rattle.std.proofs.Common.{◌≡◌, ℕ, ◌+◌, ◌-◌, ◌^◌, ◌<◌, ◌≤◌, ◌==◌, Bool, true, false, List, [], ◌∷◌, ◌++◌, length, drop, All, Option, Some, None, refl, sym, ap, ◌∙◌, arith, append_assoc}
use Rattle.std.specs.Prelude.{IfSome}
use Rattle.std.specs.Char.{is_ascii_digit}
use Rattle.std.specs.Fmt.{decimal}
use Rattle.std.specs.List.{before_first, after_first, list_any, position_or_len}
use Rattle.std.specs.Str.{all_ascii_digits, bytes_eq}
use Rattle.std.proofs.lemmas.Bool.{true≢false, le-leb, ne_eqb, and_parts, and_right}
use Rattle.std.proofs.lemmas.Fmt.{digits_decimal}
use Rattle.std.proofs.lemmas.List.{length-append, take_at, drop_at}
use Rattle.std.proofs.lemmas.List.Elements.{All-cons, All-nil, All-head, All-tail}
use Rattle.std.proofs.lemmas.List.Folds.{list_any-append, list_any_none}
use Rattle.hex.specs.Hex.{encode_with, encode_lower, is_hex_digit, IsBytes}
use Rattle.hex.proofs.HexLemmas.{decode_of-ok, decode_of-encode_lower}
use Rattle.sdb_base.specs.declared.BlockId.{BlockId}
use Rattle.sdb_base.specs.declared.Change.{Change}
use Rattle.sdb_script.specs.LineTexts.{id_text, value_text, change_text, IsId, HasAtMost, IsChange}
use Rattle.sdb_script.specs.Numbers.{number_within}
use Rattle.sdb_script.specs.Texts.{bytes_text}
use Rattle.sdb_script.specs.Words.{id_of, bytes_of, change_of, change_to, most_in_key, most_in_value, is_equals, is_exclamation}
use Rattle.sdb_script.proofs.Decimals.{own, decimal_read}

-- the byte occurs nowhere in the text
abbrev pub Free : ℕ → List ℕ → Type 0
Free x text = All (λ c. (c == x) ≡ false) text

-- ---- no word has a byte that parts words

clash : (b : Bool) → b ≡ true → b ≡ false → ⊥
clash b t f = true≢false (sym t ∙ f)

other_byte : (x c : ℕ) → is_hex_digit x ≡ false → is_hex_digit c ≡ true → (c == x) ≡ false
other_byte x c hx hc = ne_eqb c x (λ e. clash (is_hex_digit c) hc (ap is_hex_digit e ∙ hx))

digits_free : (x : ℕ) → is_hex_digit x ≡ false → (bytes : List ℕ) → IsBytes bytes → Free x (encode_lower bytes)
digits_free x hx bytes fits =
    let pass = (decode_of-ok (encode_lower bytes) bytes (decode_of-encode_lower bytes fits)).1 in
    λ k d lt. other_byte x _ hx (pass k d lt)

pub bytes_free : (x : ℕ) → is_hex_digit x ≡ false → (45 == x) ≡ false → (bytes : List ℕ) → IsBytes bytes → Free x (bytes_text bytes)
bytes_free x hx dash [] fits = All-cons (λ c. (c == x) ≡ false) 45 [] dash (All-nil (λ c. (c == x) ≡ false))
bytes_free x hx dash (b ∷ bs) fits = digits_free x hx (b ∷ bs) fits

pub id_free : (id : BlockId) → IsId id → Free 32 (id_text id)
id_free id h = digits_free 32 refl id.0 h.1

number_byte : (c : ℕ) → is_ascii_digit c ≡ true → (c == 32) ≡ false
number_byte c h = ne_eqb c 32 (λ e. clash (is_ascii_digit c) h (ap is_ascii_digit e))

number_free : (cs : List ℕ) → all_ascii_digits cs ≡ true → Free 32 cs
number_free [] h = All-nil (λ c. (c == 32) ≡ false)
number_free (c ∷ cs) h =
    let parts = and_parts (is_ascii_digit c) (all_ascii_digits cs) h in
    All-cons (λ b. (b == 32) ≡ false) c cs (number_byte c parts.0) (number_free cs parts.1)

pub decimal_free : (n : ℕ) → n < 2 ^ 64 → Free 32 (decimal n)
decimal_free n lt = number_free (decimal n) (digits_decimal own n lt)

-- ---- numbers, ids, keys and values

pub number_back : (low high n : ℕ) → n < 2 ^ 64 → low ≤ n → n ≤ high → number_within low high (decimal n) ≡ Some n
number_back low high n lt above below = rw (decimal_read n lt, le-leb low n above, le-leb n high below) refl

pub id_back : (id : BlockId) → IsId id → id_of (id_text id) ≡ Some id
unfolding id_of
id_back id h =
    let some : 1 ≤ length id.0 = omega (arith, h.0) in
    let few : length id.0 ≤ 32 = omega (arith, h.0) in
    let none_before : 32 - length id.0 ≡ 0 = omega (arith, h.0) in
    rw (decode_of-encode_lower id.0 h.1, le-leb 1 (length id.0) some, le-leb (length id.0) 32 few, none_before) refl

no_dash : (b : ℕ) (bs : List ℕ) → bytes_eq (encode_lower (b ∷ bs)) (45 ∷ []) ≡ false
unfolding encode_with
no_dash b bs = and_right _ false refl

pub bytes_back : (most : ℕ) (bytes : List ℕ) → HasAtMost most bytes → bytes_of most (bytes_text bytes) ≡ Some bytes
unfolding bytes_of
bytes_back most [] h = refl
bytes_back most (b ∷ bs) h =
    let some : 1 ≤ length (b ∷ bs) = omega arith in
    rw (no_dash b bs, decode_of-encode_lower (b ∷ bs) h.1, le-leb 1 (length (b ∷ bs)) some, le-leb (length (b ∷ bs)) most h.0) refl

-- ---- changes

-- a text with one byte that passes after others that don't
record IsCut (p : ℕ → Bool) (text front back : List ℕ) : Type 0 where
  any : list_any p text ≡ true
  before : before_first p text ≡ front
  after : after_first p text ≡ back

place_is : (p : ℕ → Bool) (front : List ℕ) (y : ℕ) (back : List ℕ) → All (λ c. p c ≡ false) front → p y ≡ true → position_or_len p (front ++ y ∷ back) ≡ length front
place_is p [] y back f h = rw h refl
place_is p (x ∷ front) y back f h =
    let rest = place_is p front y back (All-tail (λ c. p c ≡ false) x front f) h in
    rw (All-head (λ c. p c ≡ false) x front f, rest) (omega arith)

is_cut : (p : ℕ → Bool) (front : List ℕ) (y : ℕ) (back : List ℕ) → All (λ c. p c ≡ false) front → p y ≡ true → IsCut p (front ++ y ∷ back) front back
is_cut p front y back f h =
    let place = place_is p front y back f h in
    let len : length (front ++ y ∷ []) ≡ length front + 1 = length-append front (y ∷ []) in
    record {
      any = list_any-append p front (y ∷ back) ∙ rw (list_any_none p front f, h) refl;
      before = rw place (take_at front (y ∷ back) (length front) refl);
      after = rw place (ap (drop (length front + 1)) (sym (append_assoc front (y ∷ []) back)) ∙ drop_at (front ++ y ∷ []) back (length front + 1) len);
    }

with_trie : (change : Change) → change.trie ≡ [] → change_to change.key change.value ≡ change
with_trie change h = ap (λ (t : List ℕ). let made : Change = record { trie = t; key = change.key; value = change.value } in made) (sym h)

set_back : (key value : List ℕ) → HasAtMost most_in_key key → HasAtMost most_in_value value → change_of (bytes_text key ++ (61 ∷ bytes_text value)) ≡ Some (change_to key (Some value))
unfolding change_of
set_back key value k v =
    let cut = is_cut is_equals (bytes_text key) 61 (bytes_text value) (bytes_free 61 refl refl key k.1) refl in
    rw (cut.any, cut.before, cut.after, bytes_back most_in_key key k, bytes_back most_in_value value v) refl

delete_back : (key : List ℕ) → HasAtMost most_in_key key → change_of (bytes_text key ++ (33 ∷ [])) ≡ Some (change_to key None)
unfolding change_of
delete_back key k =
    let cut = is_cut is_exclamation (bytes_text key) 33 [] (bytes_free 33 refl refl key k.1) refl in
    let unset : list_any is_equals (bytes_text key ++ (33 ∷ [])) ≡ false = list_any-append is_equals (bytes_text key) (33 ∷ []) ∙ rw (list_any_none is_equals (bytes_text key) (bytes_free 61 refl refl key k.1)) refl in
    rw (unset, cut.any, cut.after, cut.before, bytes_back most_in_key key k) refl

value_back : (key : List ℕ) (value : Option (List ℕ)) → HasAtMost most_in_key key → IfSome value (HasAtMost most_in_value) → change_of (bytes_text key ++ value_text value) ≡ Some (change_to key value)
value_back key (Some value) k v = set_back key value k v
value_back key None k v = delete_back key k

short_bytes : (value : Option (List ℕ)) → IfSome value (λ v. length v ≤ most_in_value) → IfSome value IsBytes → IfSome value (HasAtMost most_in_value)
short_bytes (Some value) short bytes = (short, bytes)
short_bytes None short bytes = tt

pub change_back : (change : Change) → IsChange change → change_of (change_text change) ≡ Some change
change_back change h =
    let value = short_bytes change.value h.within.short_value h.value in
    value_back change.key change.value (h.within.short_key, h.key) value ∙ ap (λ (c : Change). Some c) (with_trie change h.trie)

append_free : (x : ℕ) (front back : List ℕ) → Free x front → Free x back → Free x (front ++ back)
append_free x [] back f b = b
append_free x (c ∷ front) back f b =
    All-cons (λ d. (d == x) ≡ false) c (front ++ back) (All-head (λ d. (d == x) ≡ false) c front f) (append_free x front back (All-tail (λ d. (d == x) ≡ false) c front f) b)

value_free : (value : Option (List ℕ)) → IfSome value (HasAtMost most_in_value) → Free 32 (value_text value)
value_free (Some value) h = All-cons (λ d. (d == 32) ≡ false) 61 (bytes_text value) refl (bytes_free 32 refl refl value h.1)
value_free None h = All-cons (λ d. (d == 32) ≡ false) 33 [] refl (All-nil (λ d. (d == 32) ≡ false))

pub change_free : (change : Change) → IsChange change → Free 32 (change_text change)
change_free change h =
    let value = short_bytes change.value h.within.short_value h.value in
    append_free 32 (bytes_text change.key) (value_text change.value) (bytes_free 32 refl refl change.key h.key) (value_free change.value value)
