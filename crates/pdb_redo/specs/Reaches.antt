-- How far records have come, whatever the disk tells.
use Rattle.std.specs.Prelude.{◌≡◌, ◌≤◌, ◌-◌, ℕ, suc, List, [], ◌∷◌, ◌++◌, Option, Some, None, length, map}
use Rattle.pdb_disk.specs.Files.{Files}
use Rattle.pdb_redo.specs.Backlogs.{records_in}
use Rattle.pdb_redo.specs.declared.redo_log.Redo.{Redo}

-- The commits up to and with the last record that was appended, flushed, enacted, or at opening where there is none; for each
-- record that isn't enacted, oldest first, the commits up to and with it; how many of these records are flushed.
pub record Reach : Type 0 where
  pub logged : ℕ
  pub flushed : ℕ
  pub enacted : ℕ
  pub waiting : List ℕ
  pub ready : ℕ

-- how far a redo's records have come
abbrev pub reach_of : {D : Type 0} → Redo D → Reach
reach_of redo = record {
  logged = redo.appended.commits;
  flushed = redo.flushed.commits;
  enacted = redo.enacted.commits;
  waiting = map (λ r. r.commits) (records_in redo.backlog);
  ready = redo.flushed.number - redo.enacted.number;
}

-- no record since opening, where so many commits were found
abbrev pub reach_at : ℕ → Reach
reach_at n = record { logged = n; flushed = n; enacted = n; waiting = []; ready = 0 }

-- one record more is appended
abbrev pub with_logged : Reach → ℕ → Reach
with_logged r n = record r { logged = n; waiting = r.waiting ++ n ∷ [] }

-- all records are flushed
abbrev pub all_ready : Reach → Reach
all_ready r = record r { flushed = r.logged; ready = length r.waiting }

-- the next record is enacted, where one is flushed that isn't
abbrev pub Advances : Reach → Option ℕ → Reach → Type 0
Advances r None s = (r.ready ≡ 0) × (s ≡ r)
Advances r (Some n) s = (k : ℕ) × (rest : List ℕ) × (r.ready ≡ suc k) × (r.waiting ≡ n ∷ rest)
    × (s ≡ record r { enacted = n; waiting = rest; ready = k })

-- Calls of the disk went by: the clock is later, each moment before is as it was, and reads didn't fall.
pub record RedoGoesOn {D : Type 0} (clock : D → ℕ) (past : D → ℕ → Files) (old new : Redo D) : Type 0 where
  pub later : clock old.log.disk ≤ clock new.log.disk
  pub earlier : (t : ℕ) → t ≤ clock old.log.disk → past new.log.disk t ≡ past old.log.disk t
  pub reads : old.reads ≤ new.reads
