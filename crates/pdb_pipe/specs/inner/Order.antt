-- That numbers of commits rise along a pipeline.
use Rattle.std.specs.Prelude.{◌≡◌, ◌≤◌, ℕ, List, [], ◌∷◌, length, take}
use Rattle.pdb_redo.specs.Reaches.{Reach}

-- the numbers don't fall, from this one on
abbrev pub NeverFall : ℕ → List ℕ → Type 0
NeverFall n [] = Unit {0}
NeverFall n (m ∷ ms) = (n ≤ m) × NeverFall m ms

-- the last of some numbers, or this one where there is none
abbrev pub last_or : ℕ → List ℕ → ℕ
last_or n [] = n
last_or n (m ∷ ms) = last_or m ms

-- The records that wait are of commits that rise from what is enacted to what is logged, and what is flushed is the last of
-- those that are ready.
pub record NumbersRise (r : Reach) (cleaned : ℕ) : Type 0 where
  pub cleaned_first : cleaned ≤ r.enacted
  pub rise : NeverFall r.enacted r.waiting
  pub within : r.ready ≤ length r.waiting
  pub flushed : r.flushed ≡ last_or r.enacted (take r.ready r.waiting)
  pub logged : r.logged ≡ last_or r.enacted r.waiting
