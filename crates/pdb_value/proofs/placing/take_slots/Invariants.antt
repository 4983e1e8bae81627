use Rattle.std.proofs.Common.{◌≡◌, ◌≤◌, ◌-◌, All, length}
use Rattle.pdb_cells.specs.Content.{Content}
use Rattle.pdb_value.specs.Faults.{Drafts}
use Rattle.pdb_value.specs.inner.Many.{AreTaken}
use Rattle.pdb_value.proofs.placing.take_slots.Given as goal

abbrev pub invariant-loop-alloc : goal.invariant-loop-alloc
invariant-loop-alloc g l = record {
  reference : l.d.under.ghost_name ≡ l.initial.d.under.ghost_name;
  same : g.C.Cells.same l.initial.d.under.now l.d.under.now;
  counted : g.C.Cells.fault_count l.d.under.now ≡ g.C.Cells.fault_count l.initial.d.under.now;
  within : length l.slots.items ≤ l.fn.count;
  slots : All (λ s. 1 ≤ s) l.slots.items;
  taken : (cells : Content) → Drafts l.initial.d.puts (g.C.Cells.seen l.initial.d.under.now) cells
      → (now : Content) × Drafts l.d.puts (g.C.Cells.seen l.d.under.now) now × AreTaken l.fn.column (length l.slots.items) cells now l.slots.items;
}

abbrev pub decreases-loop-alloc : goal.decreases-loop-alloc
decreases-loop-alloc g l = l.fn.count - length l.slots.items
