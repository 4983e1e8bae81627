-- The sizes of the cells of a column's files.
use Rattle.std.proofs.Common.{◌≡◌, ℕ, ◌+◌, ◌-◌, ◌*◌, ◌<◌, ◌≤◌, ◌≢◌, ◌⊎◌, ◌==◌, inl, inr, ⊎_elim, true, false, length, nat_lt, None, slice_get, refl, ◌∙◌, arith}
use Rattle.std.proofs.lemmas.Bool.Decides.{nat_tests}
use Rattle.std.proofs.lemmas.Option.{slice_get_past}
use Rattle.pdb_cells.specs.Sizes.{column_size_of, head_file, size_of, slot_sizes}

as_column_0 : (file : ℕ) → 16 ≤ file → file < 48 → size_of file ≡ column_size_of (file - 16)
as_column_0 file low high =
    let t : (file == head_file) ≡ false = grind (arith, nat_tests) in
    let u : nat_lt file 16 ≡ false = grind (arith, nat_tests) in
    let v : nat_lt file 48 ≡ true = grind (arith, nat_tests) in
    rw (t, u, v) refl

as_column_1 : (file : ℕ) → 48 ≤ file → size_of file ≡ column_size_of (file - 48)
as_column_1 file low =
    let t : (file == head_file) ≡ false = grind (arith, nat_tests) in
    let u : nat_lt file 16 ≡ false = grind (arith, nat_tests) in
    let v : nat_lt file 48 ≡ false = grind (arith, nat_tests) in
    rw (t, u, v) refl

pub slot_in_column : (n t : ℕ) → n ≡ t + 2 → column_size_of n ≡ slice_get slot_sizes t
slot_in_column n t e =
    let u : nat_lt n 2 ≡ false = grind (arith, nat_tests) in
    let v : n - 2 ≡ t = omega arith in
    rw (u, v) refl

which : (c : ℕ) → c < 2 → (c ≡ 0) ⊎ (c ≡ 1)
which c small = grind arith

pub slot_size : (c t : ℕ) → c < 2 → t < 16 → size_of (18 + 32 * c + t) ≡ slice_get slot_sizes t
slot_size c t small within = ⊎_elim
    (λ first. as_column_0 (18 + 32 * c + t) (omega arith) (omega arith) ∙ slot_in_column (18 + 32 * c + t - 16) t (omega arith))
    (λ second. as_column_1 (18 + 32 * c + t) (omega arith) ∙ slot_in_column (18 + 32 * c + t - 48) t (omega arith))
    (which c small)

past_column : (n : ℕ) → 17 < n → column_size_of n ≡ None
past_column n high = slot_in_column n (n - 2) (omega arith) ∙ slice_get_past slot_sizes (n - 2) (let l : length slot_sizes ≡ 16 = refl in omega arith)

before_columns : (file : ℕ) → file < 16 → file ≢ 9 → size_of file ≡ None
before_columns file low other =
    let t : (file == head_file) ≡ false = grind (arith, nat_tests) in
    let u : nat_lt file 16 ≡ true = grind (arith, nat_tests) in
    rw (t, u) refl

pub no_cells : (file : ℕ) → ((file < 16) × (file ≢ 9)) ⊎ (((33 < file) × (file < 48)) ⊎ (65 < file)) → size_of file ≡ None
no_cells file (inl low) = before_columns file low.0 low.1
no_cells file (inr (inl between)) = as_column_0 file (let b = between.0 in omega arith) between.1 ∙ past_column (file - 16) (let b = between.0 in omega arith)
no_cells file (inr (inr high)) = as_column_1 file (omega arith) ∙ past_column (file - 48) (omega arith)
