use Rattle.std.proofs.Common.{length, ap, arith, length-take}
use Rattle.pdb_record.proofs.Lengths.{header_len}
use Rattle.pdb_record.proofs.first_record.first_head.Goals as goal

pub returns-then-left-lt-HEADER-clause-whole : goal.returns-then-left-lt-HEADER-clause-whole
returns-then-left-lt-HEADER-clause-whole c h is =
    absurd (omega (arith, c.if-left-lt-HEADER.true, length-take 48 c.args.left.now, ap length is.spelled, header_len h.number h.commits h.body h.puts))
