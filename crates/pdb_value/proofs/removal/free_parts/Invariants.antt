use Rattle.std.proofs.Common.{◌≡◌, ◌≤◌, ℕ, List, length}
use Rattle.pdb_cells.specs.Content.{Content}
use Rattle.pdb_model.specs.Breaks.{HasEnd}
use Rattle.pdb_model.specs.Files.{OnlyTable, table_cells}
use Rattle.pdb_model.specs.Tables.{Table, first, freed_all}
use Rattle.pdb_model.specs.Tiers.{parts_tier}
use Rattle.pdb_value.specs.Faults.{Drafts, HasTable}
use Rattle.pdb_value.specs.Values.{AreFurtherParts}
use Rattle.pdb_value.specs.inner.Loose.{AreLoose}
use Rattle.pdb_value.proofs.Loosened.{IsLeft}
use Rattle.pdb_value.proofs.removal.free_parts.Given as goal

abbrev pub invariant-loop-left : goal.invariant-loop-left
invariant-loop-left g l = record {
  reference : l.d.under.ghost_name ≡ l.initial.d.under.ghost_name;
  same : g.C.Cells.same l.initial.d.under.now l.d.under.now;
  counted : g.C.Cells.fault_count l.d.under.now ≡ g.C.Cells.fault_count l.initial.d.under.now;
  within : l.slot ≤ l.fn.end;
  only : (cells : Content) → Drafts l.initial.d.puts (g.C.Cells.seen l.initial.d.under.now) cells → HasEnd cells l.fn.column parts_tier l.fn.end
      → (now : Content) × Drafts l.d.puts (g.C.Cells.seen l.d.under.now) now × OnlyTable l.fn.column parts_tier cells now × HasEnd now l.fn.column parts_tier l.fn.end;
  freed : (cells : Content) (t : Table) (parts bytes : List ℕ) → Drafts l.initial.d.puts (g.C.Cells.seen l.initial.d.under.now) cells → HasEnd cells l.fn.column parts_tier l.fn.end
      → HasTable cells l.fn.column parts_tier t → AreFurtherParts l.fn.end (table_cells cells l.fn.column parts_tier) parts bytes → first parts ≡ l.initial.slot → length bytes ≡ l.initial.left → AreLoose t parts
      → (now : Content) × Drafts l.d.puts (g.C.Cells.seen l.d.under.now) now × IsLeft now l.fn.column l.slot l.left l.fn.end (freed_all t parts);
}

abbrev pub decreases-loop-left : goal.decreases-loop-left
decreases-loop-left g l = l.left
