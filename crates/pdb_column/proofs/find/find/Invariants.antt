use Rattle.std.proofs.Common.{◌≡◌, ◌≢◌, ◌<◌, ℕ, Some}
use Rattle.std.specs.Prelude.{slice_get}
use Rattle.pdb_cells.specs.Content.{Content}
use Rattle.pdb_model.specs.Chunks.{CarriesKey}
use Rattle.pdb_model.specs.Tables.{Held}
use Rattle.pdb_column.specs.inner.KeyChunks.{NamesHeld}
use Rattle.pdb_column.proofs.find.find.Given as goal

abbrev pub invariant-loop-place : goal.invariant-loop-place
invariant-loop-place g l = record {
  same : g.C.Cells.same l.initial.c l.c;
  counted : g.C.Cells.fault_count l.c ≡ g.C.Cells.fault_count l.initial.c;
  stays : (cells : Content) → g.C.Cells.seen l.initial.c ≡ Some cells → g.C.Cells.seen l.c ≡ Some cells;
  none : (cells : Content) (i e : ℕ) (h : Held) → g.C.Cells.seen l.initial.c ≡ Some cells → i < l.place → slice_get l.entries i ≡ Some e → e ≢ 0
      → NamesHeld cells l.fn.column e h → CarriesKey l.base l.fn.key e → h.key ≢ l.fn.key;
}
