use Rattle.sdb_script.proofs.Cuts.{first_word_is}
use Rattle.sdb_script.proofs.cursor.first_word.Goals as goal

pub returns : goal.returns
returns c = first_word_is c.args.text.now c.cut.result.0.now c.cut.result.1 c.cut.ensures.before c.cut.ensures.found c.cut.ensures.after c.cut.ensures.none
