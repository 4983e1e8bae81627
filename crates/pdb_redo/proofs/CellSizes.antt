-- No cell is long, and which files have cells.
use Rattle.std.proofs.Common.{◌≡◌, ◌≢◌, ◌⊎◌, inl, inr, ⊎_elim, ℕ, zero, suc, ◌-◌, ◌*◌, ◌^◌, ◌<◌, ◌≤◌, ◌==◌, nat_lt, Bool, true, false, List, [], ◌∷◌, None, if◌then◌else◌, slice_get, refl, sym, ◌∙◌, ap, arith}
use Rattle.std.specs.Prelude.{Option, Some, IsSome, is_some}
use Rattle.std.specs.Option.{unwrap_or}
use Rattle.std.proofs.lemmas.Bool.{cases_lt}
use Rattle.std.proofs.lemmas.Nat.{mul-le}
use Rattle.pdb_cells.specs.Sizes.{column_size_of, head_file, size_of, slot_sizes}
use Rattle.pdb_cells.proofs.Sizes.{no_cells}
use Rattle.pdb_disk.specs.Files.{FileBytes, Image}
use Rattle.pdb_model.specs.Recovery.{bytes_from, cells_of_files}

abbrev UpTo : ℕ → List ℕ → Type 0
UpTo n [] = Unit {0}
UpTo n (x ∷ xs) = (x ≤ n) × UpTo n xs

listed : (xs : List ℕ) (k n m : ℕ) → UpTo m xs → slice_get xs k ≡ Some n → n ≤ m
listed [] k n m up e = cc
listed (x ∷ xs) zero n m up e = let same : x ≡ n = cc in let low = up.0 in omega (arith, same, low)
listed (x ∷ xs) (suc k) n m up e = listed xs k n m up.1 e

either : (b : Bool) (x y : Option ℕ) (n m : ℕ) → (x ≡ Some n → n ≤ m) → (y ≡ Some n → n ≤ m) → (if b then x else y) ≡ Some n → n ≤ m
either true x y n m h k e = h e
either false x y n m h k e = k e

one : (a n m : ℕ) → a ≤ m → Some a ≡ Some n → n ≤ m
one a n m low e = let same : a ≡ n = cc in omega (arith, same, low)

slots : UpTo 32768 slot_sizes
slots = (omega arith, (omega arith, (omega arith, (omega arith, (omega arith, (omega arith, (omega arith, (omega arith, (omega arith, (omega arith, (omega arith, (omega arith, (omega arith, (omega arith, (omega arith, (omega arith, tt))))))))))))))))

column_short : (file n : ℕ) → column_size_of file ≡ Some n → n ≤ 32768
column_short file n e = either (nat_lt file 2) (Some 512) (slice_get slot_sizes (file - 2)) n 32768
    (one 512 n 32768 (omega arith)) (listed slot_sizes (file - 2) n 32768 slots) e

none : (n m : ℕ) → None ≡ Some n → n ≤ m
none n m e = cc

pub cell_short : (file n : ℕ) → size_of file ≡ Some n → n ≤ 32768
cell_short file n e = either (file == head_file) (Some 256) _ n 32768 (one 256 n 32768 (omega arith))
    (either (nat_lt file 16) None _ n 32768 (none n 32768)
    (either (nat_lt file 48) (column_size_of (file - 16)) (column_size_of (file - 48)) n 32768 (column_short (file - 16) n) (column_short (file - 48) n))) e

-- and each begins before this place
pub cell_low : (file n index : ℕ) → size_of file ≡ Some n → index < 2 ^ 32 → index * n ≤ 140737488355328
cell_low file n index e low = let m = mul-le index n 4294967296 32768 (omega (arith, low)) (cell_short file n e) in omega (arith, m)

-- a file with cells has one of these numbers
pub cell_file : (file n : ℕ) → size_of file ≡ Some n → (9 ≤ file) × (file < 66)
cell_file file n e = (
  ⊎_elim (λ low. absurd (no_size file n (inl (omega (arith, low), λ f. omega (arith, low, f))) e)) (λ ge. ge) (cases_lt file 9),
  ⊎_elim (λ low. low) (λ ge. absurd (no_size file n (inr (inr (omega (arith, ge)))) e)) (cases_lt file 66),
)
  where
    no_size : (f m : ℕ) → ((f < 16) × (f ≢ 9)) ⊎ (((33 < f) × (f < 48)) ⊎ (65 < f)) → size_of f ≡ Some m → ⊥
    no_size f m out is = let none : size_of f ≡ None = no_cells f out in cc

pub some_size : (o : Option ℕ) → IsSome o → (n : ℕ) × (o ≡ Some n)
some_size (Some n) is = (n, refl)
some_size None is = cc

pub sized_file : (file : ℕ) → IsSome (size_of file) → (9 ≤ file) × (file < 66)
sized_file file is = let s = some_size (size_of file) is in cell_file file s.0 s.1

-- other files have no cells
pub unsized : (file : ℕ) → file < 9 → unwrap_or (size_of file) 0 ≡ 0
unsized file low = ap (λ o. unwrap_or o 0) (no_cells file (inl (omega (arith, low), λ f. omega (arith, low, f))))

-- files with cells that are the same have the same cells
pub cells_alike : (x y : Image) → ((j : ℕ) → 9 ≤ j → x j ≡ y j) → (file index : ℕ) → cells_of_files x file index ≡ cells_of_files y file index
cells_alike x y same file index = ⊎_elim
    (λ low.
    let none = unsized file low in
    ap (λ n. bytes_from (x file) (index * n) n) none ∙ sym (ap (λ n. bytes_from (y file) (index * n) n) none))
    (λ ge. let n : ℕ = unwrap_or (size_of file) 0 in ap (λ (c : FileBytes). bytes_from c (index * n) n) (same file ge))
    (cases_lt file 9)

-- and so have those whose files of cells are the same
pub sized_cells : (x y : Image) → ((j : ℕ) → IsSome (size_of j) → x j ≡ y j) → (file index : ℕ) → cells_of_files x file index ≡ cells_of_files y file index
sized_cells x y same file index = by_size (size_of file) refl
  where
    by_size : (o : Option ℕ) → size_of file ≡ o → cells_of_files x file index ≡ cells_of_files y file index
    by_size None e =
        let none : unwrap_or (size_of file) 0 ≡ 0 = ap (λ o. unwrap_or o 0) e in
        ap (λ n. bytes_from (x file) (index * n) n) none ∙ sym (ap (λ n. bytes_from (y file) (index * n) n) none)
    by_size (Some size) e = let n : ℕ = unwrap_or (size_of file) 0 in ap (λ (c : FileBytes). bytes_from c (index * n) n) (same file (ap is_some e))
