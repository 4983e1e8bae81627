use Rattle.std.proofs.Common.{◌≡◌, ◌≤◌, ◌+◌, ◌/◌, ◌++◌, ℕ, List, Some, length}
use Rattle.pdb_cells.specs.Content.{Content}
use Rattle.pdb_model.specs.Files.{table_cells}
use Rattle.pdb_model.specs.Tables.{first}
use Rattle.pdb_model.specs.Tiers.{parts_tier}
use Rattle.pdb_value.specs.Values.{AreFurtherParts}
use Rattle.pdb_value.proofs.parts.read_parts.Given as goal

abbrev pub invariant-loop-left : goal.invariant-loop-left
invariant-loop-left g l = record {
  same : g.C.Cells.same l.initial.c l.c;
  counted : g.C.Cells.fault_count l.c ≡ g.C.Cells.fault_count l.initial.c;
  stays : (cells : Content) → g.C.Cells.seen l.initial.c ≡ Some cells → g.C.Cells.seen l.c ≡ Some cells;
  reads : g.C.Cells.read_count l.c + (l.left + 4087) / 4088 ≤ g.C.Cells.read_count l.initial.c + (l.initial.left + 4087) / 4088;
  long : length l.out.items + l.left ≡ length l.initial.out.items + l.initial.left;
  some : 1 ≤ l.left → 1 ≤ l.slot;
  within : l.slot ≤ l.fn.end;
  none : l.left ≡ 0 → l.slot ≡ 0;
  back : (cells : Content) (rest tail : List ℕ) → g.C.Cells.seen l.initial.c ≡ Some cells → AreFurtherParts l.fn.end (table_cells cells l.fn.column parts_tier) rest tail
      → first rest ≡ l.slot → length tail ≡ l.left
      → (parts : List ℕ) × (bytes : List ℕ) × AreFurtherParts l.fn.end (table_cells cells l.fn.column parts_tier) parts bytes
      × (first parts ≡ l.initial.slot) × (length bytes ≡ l.initial.left) × (l.initial.out.items ++ bytes ≡ l.out.items ++ tail);
  forth : (cells : Content) (parts bytes : List ℕ) → g.C.Cells.seen l.initial.c ≡ Some cells → AreFurtherParts l.fn.end (table_cells cells l.fn.column parts_tier) parts bytes
      → first parts ≡ l.initial.slot → length bytes ≡ l.initial.left
      → (rest : List ℕ) × (tail : List ℕ) × AreFurtherParts l.fn.end (table_cells cells l.fn.column parts_tier) rest tail × (first rest ≡ l.slot) × (length tail ≡ l.left);
}

abbrev pub decreases-loop-left : goal.decreases-loop-left
decreases-loop-left g l = l.left
