use Rattle.std.proofs.Common.{arith, inl, inr}
use Rattle.pdb_value.proofs.Layouts.{one_head}
use Rattle.pdb_value.proofs.firsts.read_fields.Goals as goal
use Rattle.pdb_value.proofs.firsts.read_fields.Goals.{then-head-eq0-via-then-head-eq0, then-head-eq0-via-else-head-eq0+then-end-head}

pub returns-then-head-eq0 : goal.returns-then-head-eq0
returns-then-head-eq0 c = record {
  not_whole = λ key count value w. let low = w.not_parts in absurd (omega arith);
  not_head = λ key count whole next value e h.
      let same = one_head c.args.cell.now c.in-Some-read_head_of_parts.head.key.now key c.in-Some-read_head_of_parts.head.value.now value c.in-Some-read_head_of_parts.head.count count
      c.in-Some-read_head_of_parts.head.whole whole c.in-Some-read_head_of_parts.head.next next c.in-Some-read_head_of_parts.ensures h in
      elim c.then-head-eq0.branch [
        | then-head-eq0-via-then-head-eq0 w ↦ inl (omega (arith, same.links.next_is))
        | then-head-eq0-via-else-head-eq0+then-end-head w ↦ inr (omega (arith, same.links.next_is))
      ];
}
