-- No cell is long.
use Rattle.std.proofs.Common.{◌≡◌, ℕ, zero, suc, ◌-◌, ◌*◌, ◌^◌, ◌<◌, ◌≤◌, ◌==◌, nat_lt, Bool, true, false, List, [], ◌∷◌, None, if◌then◌else◌, slice_get, arith}
use Rattle.std.specs.Prelude.{Option, Some}
use Rattle.std.proofs.lemmas.Nat.{mul-le}
use Rattle.pdb_cells.specs.Sizes.{column_size_of, head_file, size_of, slot_sizes}

abbrev UpTo : ℕ → List ℕ → Type 0
UpTo n [] = Unit {0}
UpTo n (x ∷ xs) = (x ≤ n) × UpTo n xs

listed : (xs : List ℕ) (k n m : ℕ) → UpTo m xs → slice_get xs k ≡ Some n → n ≤ m
listed [] k n m up e = cc
listed (x ∷ xs) zero n m up e = let same : x ≡ n = cc in let low = up.0 in omega (arith, same, low)
listed (x ∷ xs) (suc k) n m up e = listed xs k n m up.1 e

either : (b : Bool) (x y : Option ℕ) (n m : ℕ) → (x ≡ Some n → n ≤ m) → (y ≡ Some n → n ≤ m) → (if b then x else y) ≡ Some n → n ≤ m
either true x y n m h k e = h e
either false x y n m h k e = k e

one : (a n m : ℕ) → a ≤ m → Some a ≡ Some n → n ≤ m
one a n m low e = let same : a ≡ n = cc in omega (arith, same, low)

slots : UpTo 32768 slot_sizes
slots = (omega arith, (omega arith, (omega arith, (omega arith, (omega arith, (omega arith, (omega arith, (omega arith, (omega arith, (omega arith, (omega arith, (omega arith, (omega arith, (omega arith, (omega arith, (omega arith, tt))))))))))))))))

column_short : (file n : ℕ) → column_size_of file ≡ Some n → n ≤ 32768
column_short file n e = either (nat_lt file 2) (Some 512) (slice_get slot_sizes (file - 2)) n 32768
    (one 512 n 32768 (omega arith)) (listed slot_sizes (file - 2) n 32768 slots) e

none : (n m : ℕ) → None ≡ Some n → n ≤ m
none n m e = cc

pub cell_short : (file n : ℕ) → size_of file ≡ Some n → n ≤ 32768
cell_short file n e = either (file == head_file) (Some 256) _ n 32768 (one 256 n 32768 (omega arith))
    (either (nat_lt file 16) None _ n 32768 (none n 32768)
    (either (nat_lt file 48) (column_size_of (file - 16)) (column_size_of (file - 48)) n 32768 (column_short (file - 16) n) (column_short (file - 48) n))) e

-- and each begins before this place
pub cell_low : (file n index : ℕ) → size_of file ≡ Some n → index < 2 ^ 32 → index * n ≤ 140737488355328
cell_low file n index e low = let m = mul-le index n 4294967296 32768 (omega (arith, low)) (cell_short file n e) in omega (arith, m)
