-- Compact numbers and byte strings of SCALE, in the modes of one, two and four bytes. The mode
-- stands in the low two bits of the first byte and the number in the bits above them, low byte
-- first.
use Rattle.std.specs.Prelude.{◌≡◌, ℕ, ◌+◌, ◌*◌, ◌%◌, ◌^◌, ◌<◌, List, [], ◌∷◌, ◌++◌, length, nat_lt, if◌then◌else◌}
use Rattle.std.specs.Int.{w16, w32, to_le_bytes}

-- the modes of one, two and four bytes; a fourth, for larger numbers, has no place here
pub data Mode : Type 0 where
  one : Mode
  two : Mode
  four : Mode

-- the low two bits
abbrev pub mode_bits : Mode → ℕ
mode_bits one = 0
mode_bits two = 1
mode_bits four = 2

-- how many bytes a mode takes
abbrev pub mode_len : Mode → ℕ
mode_len one = 1
mode_len two = 2
mode_len four = 4

-- how many numbers a mode can spell
abbrev pub mode_limit : Mode → ℕ
mode_limit one = 64
mode_limit two = 2 ^ 14
mode_limit four = 2 ^ 30

-- a number's bytes in a mode
abbrev pub spelled_in : Mode → ℕ → List ℕ
spelled_in one n = 4 * n ∷ []
spelled_in two n = to_le_bytes w16 (4 * n + 1)
spelled_in four n = to_le_bytes w32 (4 * n + 2)

-- the shortest mode that can spell a number below 2 ^ 30
abbrev pub mode_of : ℕ → Mode
mode_of n = if nat_lt n 64 then one else (if nat_lt n (2 ^ 14) then two else four)

-- the spelling of a number below 2 ^ 30
unfoldable pub compact : ℕ → List ℕ
compact n = spelled_in (mode_of n) n

-- the spelling of a byte string of fewer than 2 ^ 30 bytes: its length and its bytes
abbrev pub string : List ℕ → List ℕ
string s = compact (length s) ++ s

-- the bytes are the number in some mode
abbrev pub Spells : List ℕ → ℕ → Type 0
Spells bytes n = (mode : Mode) × (n < mode_limit mode) × (bytes ≡ spelled_in mode n)

-- ---- what a reader refuses

-- the bytes end before the number does
abbrev pub EndsEarly : List ℕ → Type 0
EndsEarly [] = Unit {0}
EndsEarly (b ∷ bs) = (mode : Mode) × (b % 4 ≡ mode_bits mode) × (length (b ∷ bs) < mode_len mode)

-- the bytes begin with a number in a longer mode than it needs
abbrev pub IsNotShortest : List ℕ → Type 0
IsNotShortest bytes = (mode : Mode) × (n : ℕ) × (rest : List ℕ)
    × (n < mode_limit mode) × (mode_len (mode_of n) < mode_len mode) × (bytes ≡ spelled_in mode n ++ rest)

-- the first byte has the fourth mode
abbrev pub IsTooLarge : List ℕ → Type 0
IsTooLarge [] = ⊥
IsTooLarge (b ∷ bs) = b % 4 ≡ 3

-- the bytes begin with a length, and fewer bytes than it says follow it
abbrev pub IsCutOff : List ℕ → Type 0
IsCutOff bytes = (n : ℕ) × (rest : List ℕ) × (n < 2 ^ 30) × (bytes ≡ compact n ++ rest) × (length rest < n)
