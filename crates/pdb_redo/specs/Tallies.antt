-- What a redo counts towards an end.
use Rattle.std.specs.Prelude.{◌≡◌}
use Rattle.pdb_log.specs.Tallies.{IsTally, Tally}
use Rattle.pdb_redo.specs.declared.redo_log.Redo.{Redo}

-- the redo's log has come so far, and the last record that was appended is its last one
pub record IsRedoTally {D : Type 0} (redo : Redo D) (t : Tally) : Type 0 where
  pub log : IsTally redo.log t
  pub appended : redo.appended.number ≡ t.records
