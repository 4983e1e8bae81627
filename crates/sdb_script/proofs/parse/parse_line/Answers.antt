use Rattle.sdb_script.specs.Grammar.{words_of}
use Rattle.sdb_script.proofs.LinesWithin.{gives_within}
use Rattle.sdb_script.proofs.parse.parse_line.Goals as goal

pub returns-clause-within : goal.returns-clause-within
returns-clause-within c = gives_within (words_of c.args.line.now) c.parse_words.result c.parse_words.ensures
