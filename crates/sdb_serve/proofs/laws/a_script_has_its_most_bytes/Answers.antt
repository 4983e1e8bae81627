use Rattle.std.proofs.Common.{◌≡◌, arith, [], refl, Some, None}
use Rattle.sdb_script.specs.Grammar as grammar
use Rattle.sdb_script.specs.Grammar.{line_of}
use Rattle.sdb_script.specs.declared.line.Line.TheVariants as lines
use Rattle.sdb_serve.proofs.Answering.{blank, line_is, too_far}
use Rattle.sdb_serve.proofs.laws.a_script_has_its_most_bytes.Goals as goal

empty_line : line_of [] ≡ Some lines.Blank
unfolding line_of grammar.is_blank
empty_line = refl

pub returns-clause-last : goal.returns-clause-last
returns-clause-last c = λ s.
    let before = record s { read = 1099511627775 } in
    line_is before [] lines.Blank None before (omega arith) empty_line (blank before)

pub returns-clause-one_more : goal.returns-clause-one_more
returns-clause-one_more c = λ s. too_far (record s { read = 1099511627776 }) [] (omega arith)
