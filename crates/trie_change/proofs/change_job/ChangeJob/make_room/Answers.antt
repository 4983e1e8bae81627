use Rattle.std.proofs.Common.{arith}
use Rattle.trie_change.proofs.change_job.ChangeJob.make_room.Goals as goal

pub returns-clause-room : goal.returns-clause-room
returns-clause-room c = (
  record {
    among_found = omega (arith, c.move_over.ensures.room c.in-Some.most c.in_ok-found.ensures.room, c.move_over.ensures.len, c.move_over-2.ensures.len, c.in-Some.ensures);
    among_later = omega (arith, c.move_over-2.ensures.room c.in-Some.most c.in_ok-later.ensures.room, c.move_over.ensures.len, c.move_over-2.ensures.len, c.in-Some.ensures);
  },
  omega (arith, c.move_over-3.ensures.room c.in-Some-checked_add.most_fed c.in_ok-others.ensures.room, c.move_over-3.ensures.len, c.in-Some-checked_add.ensures, c.len.ensures),
)
