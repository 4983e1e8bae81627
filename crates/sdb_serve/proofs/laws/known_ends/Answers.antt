use Rattle.std.proofs.Common.{arith, refl}
use Rattle.std.proofs.lemmas.Fmt.{decimal_digit}
use Rattle.std.specs.Fmt.{digits}
use Rattle.hex.specs.Hex.{encode_with}
use Rattle.sdb_serve.proofs.laws.known_ends.Goals as goal

pub returns-clause-bad_line : goal.returns-clause-bad_line
returns-clause-bad_line c = (refl, rw (decimal_digit 7 (omega arith)) refl)

pub returns-clause-bad_node : goal.returns-clause-bad_node
unfolding encode_with
returns-clause-bad_node c = λ hash e. (refl, rw e refl)

pub returns-clause-bad_cell : goal.returns-clause-bad_cell
unfolding digits
returns-clause-bad_cell c = (refl, refl)

pub returns-clause-index_full : goal.returns-clause-index_full
unfolding digits
returns-clause-index_full c = (refl, refl)

pub returns-clause-tier_full : goal.returns-clause-tier_full
unfolding digits
returns-clause-tier_full c = (refl, refl)
