-- Counts of faults, by which a caller knows that a fault came from outside.
use Rattle.std.specs.Prelude.{◌≡◌, ◌⊎◌, ◌<◌, ◌+◌, ◌-◌, ◌^◌, ℕ, Bool, true, false, min}

-- a count after one fault more; at the end of its type it stays there
abbrev pub one_more : ℕ → ℕ
one_more n = min (n + 1) (2 ^ 64 - 1)

-- A call counts its fault, and nothing else: the count after it is one more where it failed, and else as it was.
abbrev pub CountsFault : Bool → ℕ → ℕ → Type 0
CountsFault false before after = after ≡ before
CountsFault true before after = after ≡ one_more before

-- Between the two counts there may have been a fault: the count rose, or is at the end of its type, where no
-- fault shows.
abbrev pub Rose : ℕ → ℕ → Type 0
Rose before after = (before < after) ⊎ (after ≡ 2 ^ 64 - 1)
