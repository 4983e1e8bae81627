use Rattle.std.proofs.Common.{◌≡◌, ◌≤◌, ◌-◌, ◌*◌, length, drop}
use Rattle.pdb_cells.specs.Content.{Content}
use Rattle.pdb_model.specs.Tiers.{in_part}
use Rattle.pdb_value.specs.Faults.{Drafts}
use Rattle.pdb_value.specs.inner.Many.{AreWritten}
use Rattle.pdb_value.proofs.placing.put_parts.Given as goal

abbrev pub invariant-loop-i : goal.invariant-loop-i
invariant-loop-i g l = record {
  reference : l.d.under.ghost_name ≡ l.initial.d.under.ghost_name;
  below : l.d.under.now ≡ l.initial.d.under.now;
  within : l.i ≤ length l.slots;
  left : l.left ≡ drop (in_part * l.i) l.fn.bytes;
  written : (cells : Content) → Drafts l.initial.d.puts (g.C.Cells.seen l.initial.d.under.now) cells
      → (now : Content) × Drafts l.d.puts (g.C.Cells.seen l.d.under.now) now × AreWritten l.fn.column l.slots l.fn.bytes l.i cells now;
}

abbrev pub decreases-loop-i : goal.decreases-loop-i
decreases-loop-i g l = length l.slots - l.i
