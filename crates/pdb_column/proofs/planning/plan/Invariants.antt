use Rattle.std.proofs.Common.{◌≡◌, ◌≤◌, ℕ, take}
use Rattle.pdb_cells.specs.Content.{Content}
use Rattle.pdb_value.specs.Faults.{Drafts}
use Rattle.pdb_column.specs.Holding.{HoldsColumns}
use Rattle.pdb_column.specs.Maps.{ColumnMap, FillsChunk, column_from}
use Rattle.pdb_column.proofs.planning.plan.Given as goal

abbrev pub invariant-loop-op : goal.invariant-loop-op
invariant-loop-op g l = record {
  reference : l.d.under.ghost_name ≡ l.initial.d.under.ghost_name;
  same : g.C.Cells.same l.initial.d.under.now l.d.under.now;
  counted : g.C.Cells.fault_count l.d.under.now ≡ g.C.Cells.fault_count l.initial.d.under.now;
  planned : (cells : Content) (bases : ℕ → ℕ) (contents : ℕ → ColumnMap) → Drafts l.initial.d.puts (g.C.Cells.seen l.initial.d.under.now) cells → HoldsColumns cells bases contents
      → (now : Content) × Drafts l.d.puts (g.C.Cells.seen l.d.under.now) now × HoldsColumns now bases (λ column. column_from column (contents column) (take l.op-index l.items));
  uncrowded : (cells : Content) (bases : ℕ → ℕ) (contents : ℕ → ColumnMap) → Drafts l.initial.d.puts (g.C.Cells.seen l.initial.d.under.now) cells → HoldsColumns cells bases contents
      → (column bits chunk : ℕ) → column ≤ 1 → FillsChunk (bases column) (contents column) (take l.op-index l.items) column bits chunk → ⊥;
}
