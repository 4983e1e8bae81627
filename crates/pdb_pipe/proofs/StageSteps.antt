-- A pipeline by its records.
use Rattle.std.proofs.Common.{◌≡◌, ℕ, List, ap}
use Rattle.std.specs.Prelude.{slice_index}
use Rattle.sdb_base.specs.Pipeline.{Pipeline}
use Rattle.pdb_redo.specs.Reaches.{Reach}
use Rattle.pdb_pipe.specs.Standing.{fixed_index}

-- by the commits accepted and cleaned, the records, and the bases
abbrev pub pipeline_by : ℕ → ℕ → Reach → List ℕ → Pipeline
pipeline_by accepted cleaned r bases = record {
  numbers = record { accepted = accepted; logged = r.logged; flushed = r.flushed; enacted = r.enacted; cleaned = cleaned };
  waiting = r.waiting;
  ready = r.ready;
  columns = λ column. fixed_index (slice_index bases column);
}

module _ (accepted cleaned : ℕ) (bases : List ℕ) (r s : Reach) where
  pub pipeline_same : s ≡ r → pipeline_by accepted cleaned s bases ≡ pipeline_by accepted cleaned r bases
  pipeline_same e = ap (λ (t : Reach). pipeline_by accepted cleaned t bases) e
