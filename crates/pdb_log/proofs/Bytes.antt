-- Bytes that stand in a file, and records among them.
use Rattle.std.proofs.Common.{◌≡◌, ◌⊎◌, inl, inr, ⊎_elim, ℕ, zero, suc, ◌+◌, ◌≤◌, ◌<◌, List, [], ◌∷◌, ◌++◌, length, refl, sym, ◌∙◌, ap, ap₂, arith, length-append}
use Rattle.std.specs.Prelude.{slice_index}
use Rattle.std.proofs.lemmas.Bool.{cases_eq, cases_lt}
use Rattle.std.proofs.lemmas.Bool.Decides.{nat_tests}
use Rattle.std.proofs.lemmas.Grind.{flat_map-append}
use Rattle.std.proofs.lemmas.List.{append-nil, get_or-append-add, get_or_append_left, get_or-append_right, get_or_past}
use Rattle.pdb_disk.specs.Files.{FileBytes, StandsAt, done}
use Rattle.pdb_disk.specs.Files.{Step as step}
use Rattle.pdb_model.specs.Logs.{StandsWhole, most_in_log}
use Rattle.pdb_model.specs.Records.{IsRecord, HasRecord, Record, header_bytes, record_bytes}
use Rattle.pdb_model.specs.Recovery.{bytes_from}
use Rattle.pdb_record.proofs.Unique.{one_record}
use Rattle.pdb_log.specs.Ledger.{file_of, spelled_records}

-- the bytes after the first one
tail_stands : (c : FileBytes) (at x : ℕ) (xs : List ℕ) → StandsAt c at (x ∷ xs) → StandsAt c (at + 1) xs
tail_stands c at x xs h i l = let e : at + suc i ≡ at + 1 + i = omega arith in h (suc i) (omega (arith, l)) ∙ ap c e

pub stands_same : (c : FileBytes) (at : ℕ) (xs ys : List ℕ) → StandsAt c at xs → StandsAt c at ys → length xs ≡ length ys → xs ≡ ys
stands_same c at [] [] h k l = refl
stands_same c at [] (y ∷ ys) h k l = absurd (omega (arith, l))
stands_same c at (x ∷ xs) [] h k l = absurd (omega (arith, l))
stands_same c at (x ∷ xs) (y ∷ ys) h k l =
    let e : x ≡ y = h 0 (omega arith) ∙ sym (k 0 (omega arith)) in
    let more = stands_same c (at + 1) xs ys (tail_stands c at x xs h) (tail_stands c at y ys k) (omega (arith, l)) in
    λ i. e i ∷ more i

pub stands_decides : (c : FileBytes) (at : ℕ) (bs : List ℕ) → StandsAt c at bs ⊎ (StandsAt c at bs → ⊥)
stands_decides c at [] = inl (λ i l. absurd (omega (arith, l)))
stands_decides c at (b ∷ bs) = ⊎_elim
    (λ e. ⊎_elim (λ h. inl (both e h)) (λ no. inr (λ h. no (tail_stands c at b bs h))) (stands_decides c (at + 1) bs))
    (λ no. inr (λ h. no (h 0 (omega arith))))
    (cases_eq b (c (at + 0)))
  where
    both : b ≡ c (at + 0) → StandsAt c (at + 1) bs → StandsAt c at (b ∷ bs)
    both e h zero l = e
    both e h (suc i) l = let f : at + 1 + i ≡ at + suc i = omega arith in h i (omega (arith, l)) ∙ ap c f

-- only the places of the bytes count
pub stands_local : (c d : FileBytes) (at : ℕ) (bs : List ℕ) → ((i : ℕ) → at ≤ i → i < at + length bs → c i ≡ d i) → StandsAt d at bs → StandsAt c at bs
stands_local c d at bs same h i l = h i l ∙ sym (same (at + i) (omega arith) (omega (arith, l)))

-- after other bytes
pub stands_after : (xs ys bs : List ℕ) (p : ℕ) → StandsAt (file_of (xs ++ ys)) (length xs + p) bs → StandsAt (file_of ys) p bs
stands_after xs ys bs p h i l =
    let e : length xs + p + i ≡ length xs + (p + i) = omega arith in
    h i l ∙ ap (file_of (xs ++ ys)) e ∙ get_or-append-add xs ys (p + i) 0

pub stands_front : (xs ys : List ℕ) → StandsAt (file_of (xs ++ ys)) 0 xs
stands_front xs ys i l = let e : i ≡ 0 + i = omega arith in sym (get_or_append_left xs ys 0 i l) ∙ ap (file_of (xs ++ ys)) e

-- a write at the end of a file's bytes adds to them
pub done_at_end : (xs bs : List ℕ) → done (file_of xs) (step.Write (length xs) bs) ≡ file_of (xs ++ bs)
done_at_end xs bs = λ j i. each i j
  where
    each : (i : ℕ) → done (file_of xs) (step.Write (length xs) bs) i ≡ file_of (xs ++ bs) i
    each i = ⊎_elim
        (λ l. let k = get_or_append_left xs bs 0 i l in grind (arith, nat_tests))
        (λ l. ⊎_elim
        (λ m. let k = get_or-append_right xs bs (length xs) i 0 refl l in grind (arith, nat_tests))
        (λ m.
        let k = get_or_past (xs ++ bs) i 0 (omega (arith, m, length-append xs bs)) in
        let q = get_or_past xs i 0 l in grind (arith, nat_tests))
        (cases_lt i (length xs + length bs)))
        (cases_lt i (length xs))

-- what a file has from a place on begins with bytes that stand there
pub stands_first : (c : FileBytes) (at : ℕ) (xs : List ℕ) (m n : ℕ) → m ≡ length xs + n → StandsAt c at xs → bytes_from c at m ≡ xs ++ bytes_from c (at + length xs) n
stands_first c at [] m n e h =
    let f : at ≡ at + 0 = omega arith in
    let g : m ≡ n = omega (arith, e) in
    ap (bytes_from c at) g ∙ ap (λ a. bytes_from c a n) f
stands_first c at (x ∷ xs) zero n e h = absurd (omega (arith, e))
stands_first c at (x ∷ xs) (suc m) n e h =
    let first : c at ≡ x = (let f : at ≡ at + 0 = omega arith in ap c f) ∙ sym (h 0 (omega arith)) in
    let f : at + 1 + length xs ≡ at + suc (length xs) = omega arith in
    ap₂ (λ (b : ℕ) (bs : List ℕ). b ∷ bs) first (stands_first c (at + 1) xs m n (omega (arith, e)) (tail_stands c at x xs h) ∙ ap (λ a. xs ++ bytes_from c a n) f)

-- ---- records

-- a record has bytes
pub record_long : (r : Record) → 0 < length (record_bytes r)
unfolding record_bytes header_bytes
record_long r = omega arith

record_first : (r : Record) → slice_index (record_bytes r) 0 ≡ 83
unfolding record_bytes header_bytes
record_first r = refl

pub none_in_zeros : (p : ℕ) (r : Record) → StandsAt (file_of []) p (record_bytes r) → ⊥
none_in_zeros p r h =
    let byte : 83 ≡ 0 = sym (record_first r) ∙ h 0 (record_long r) in
    absurd (omega (arith, byte))

has_of : (c : FileBytes) (at : ℕ) (r : Record) (n m : ℕ) → IsRecord r → StandsAt c at (record_bytes r) → n ≡ length (record_bytes r) + m → HasRecord (bytes_from c at n) 0 r
has_of c at r n m is h e = record {
  is = is;
  rest = bytes_from c (at + length (record_bytes r)) m;
  there = stands_first c at (record_bytes r) n m e h;
}

-- one record at most stands at a place
pub record_same : (c : FileBytes) (at : ℕ) (r s : Record) → IsRecord r → IsRecord s → StandsAt c at (record_bytes r) → StandsAt c at (record_bytes s) → r ≡ s
record_same c at r s is too h k =
    let n : ℕ = length (record_bytes r) + length (record_bytes s) in
    let e : n ≡ length (record_bytes s) + length (record_bytes r) = omega arith in
    one_record (bytes_from c at n) r s (has_of c at r n (length (record_bytes s)) is h refl) (has_of c at s n (length (record_bytes r)) too k e)

pub whole_decides : (c : FileBytes) (at : ℕ) (r : Record) → IsRecord r → StandsWhole c at r ⊎ (StandsWhole c at r → ⊥)
whole_decides c at r is = ⊎_elim
    (λ h. ⊎_elim
    (λ past. inr (λ w. let e = w.within in omega (arith, e, past)))
    (λ low. inl (record { is = is; there = h; within = low }))
    (cases_lt most_in_log (at + length (record_bytes r))))
    (λ no. inr (λ w. no w.there))
    (stands_decides c at (record_bytes r))

pub spelled-append : (rs bs : List Record) → spelled_records (rs ++ bs) ≡ spelled_records rs ++ spelled_records bs
spelled-append rs bs = flat_map-append record_bytes rs bs

pub spelled_push : (rs : List Record) (r : Record) → spelled_records (rs ++ r ∷ []) ≡ spelled_records rs ++ record_bytes r
spelled_push rs r = spelled-append rs (r ∷ []) ∙ ap (λ t. spelled_records rs ++ t) (append-nil (record_bytes r))
