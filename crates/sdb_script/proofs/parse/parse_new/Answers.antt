use Rattle.std.proofs.Common.{sym, ◌∙◌}
use Rattle.sdb_script.specs.inner.Reading.{words_left}
use Rattle.sdb_script.proofs.Longer.{new_longer}
use Rattle.sdb_script.proofs.parse.parse_new.Goals as goal

pub returns-then-is_some : goal.returns-then-is_some
returns-then-is_some c = sym (new_longer c.in_ok-base.base.now c.in_ok-base.rest (words_left c.args.words) (sym c.is_some.ensures ∙ c.if-is_some.true) c.in_ok-base.ensures)
