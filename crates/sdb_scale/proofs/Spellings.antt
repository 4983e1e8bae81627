-- Two spellings in front of one list are one spelling, and a number's own is the shortest.
use Rattle.std.proofs.Common.{◌≡◌, ℕ, ◌+◌, ◌*◌, ◌%◌, ◌/◌, ◌^◌, ◌<◌, ◌≤◌, List, ◌++◌, length, refl, arith}
use Rattle.std.proofs.lemmas.Bool.Decides.{nat_tests}
use Rattle.sdb_scale.specs.Compact.{Mode, one, two, four, mode_len, mode_limit, spelled_in, mode_of}

-- one mode, one number, one rest
pub record AreOne (m m' : Mode) (n n' : ℕ) (x y : List ℕ) : Type 0 where
  pub mode : m ≡ m'
  pub number : n ≡ n'
  pub rest : x ≡ y

pub spelled_once : (m m' : Mode) (n n' : ℕ) (x y : List ℕ) → n < mode_limit m → n' < mode_limit m' → spelled_in m n ++ x ≡ spelled_in m' n' ++ y → AreOne m m' n n' x y
spelled_once one one n n' x y lt lt' e =
    let h : 4 * n ≡ 4 * n' = cc in
    record { mode = refl; number = omega arith; rest = cc }
spelled_once one two n n' x y lt lt' e =
    let h : 4 * n ≡ (4 * n' + 1) % 256 = cc in absurd (omega arith)
spelled_once one four n n' x y lt lt' e =
    let h : 4 * n ≡ (4 * n' + 2) % 256 = cc in absurd (omega arith)
spelled_once two one n n' x y lt lt' e =
    let h : (4 * n + 1) % 256 ≡ 4 * n' = cc in absurd (omega arith)
spelled_once two two n n' x y lt lt' e =
    let low : (4 * n + 1) % 256 ≡ (4 * n' + 1) % 256 = cc in
    let high : ((4 * n + 1) / 256) % 256 ≡ ((4 * n' + 1) / 256) % 256 = cc in
    record { mode = refl; number = omega arith; rest = cc }
spelled_once two four n n' x y lt lt' e =
    let h : (4 * n + 1) % 256 ≡ (4 * n' + 2) % 256 = cc in absurd (omega arith)
spelled_once four one n n' x y lt lt' e =
    let h : (4 * n + 2) % 256 ≡ 4 * n' = cc in absurd (omega arith)
spelled_once four two n n' x y lt lt' e =
    let h : (4 * n + 2) % 256 ≡ (4 * n' + 1) % 256 = cc in absurd (omega arith)
spelled_once four four n n' x y lt lt' e =
    let low : (4 * n + 2) % 256 ≡ (4 * n' + 2) % 256 = cc in
    let second : ((4 * n + 2) / 256) % 256 ≡ ((4 * n' + 2) / 256) % 256 = cc in
    let third : ((4 * n + 2) / 65536) % 256 ≡ ((4 * n' + 2) / 65536) % 256 = cc in
    let high : ((4 * n + 2) / 16777216) % 256 ≡ ((4 * n' + 2) / 16777216) % 256 = cc in
    record { mode = refl; number = omega arith; rest = cc }

-- how long a spelling is
pub length-spelled : (m : Mode) (n : ℕ) → length (spelled_in m n) ≡ mode_len m
length-spelled one n = refl
length-spelled two n = refl
length-spelled four n = refl

-- the number fits the mode that is chosen for it
pub fits_mode : (n : ℕ) → n < 2 ^ 30 → n < mode_limit (mode_of n)
fits_mode n lt = grind (arith, nat_tests)

-- no mode that fits is shorter than the one that is chosen
pub mode_is_least : (m : Mode) (n : ℕ) → n < mode_limit m → mode_len (mode_of n) ≤ mode_len m
mode_is_least one n lt = grind (arith, nat_tests)
mode_is_least two n lt = grind (arith, nat_tests)
mode_is_least four n lt = grind (arith, nat_tests)

pub same_mode : (m m' : Mode) → mode_len m ≡ mode_len m' → m ≡ m'
same_mode one one e = refl
same_mode one two e = absurd (omega arith)
same_mode one four e = absurd (omega arith)
same_mode two one e = absurd (omega arith)
same_mode two two e = refl
same_mode two four e = absurd (omega arith)
same_mode four one e = absurd (omega arith)
same_mode four two e = absurd (omega arith)
same_mode four four e = refl
