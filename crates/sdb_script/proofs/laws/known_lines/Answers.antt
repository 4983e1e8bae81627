use Rattle.std.proofs.Common.{refl}
use Rattle.sdb_script.proofs.OnLiterals.{script_on_literals}
use Rattle.sdb_script.proofs.laws.known_lines.Goals as goal

pub returns-clause-blank : goal.returns-clause-blank
unfolding script_on_literals
returns-clause-blank c = refl

pub returns-clause-new : goal.returns-clause-new
unfolding script_on_literals
returns-clause-new c = refl

pub returns-clause-genesis : goal.returns-clause-genesis
unfolding script_on_literals
returns-clause-genesis c = refl

pub returns-clause-import : goal.returns-clause-import
unfolding script_on_literals
returns-clause-import c = refl

pub returns-clause-read : goal.returns-clause-read
unfolding script_on_literals
returns-clause-read c = refl

pub returns-clause-next : goal.returns-clause-next
unfolding script_on_literals
returns-clause-next c = refl

pub returns-clause-list : goal.returns-clause-list
unfolding script_on_literals
returns-clause-list c = refl

pub returns-clause-root : goal.returns-clause-root
unfolding script_on_literals
returns-clause-root c = refl

pub returns-clause-stages : goal.returns-clause-stages
unfolding script_on_literals
returns-clause-stages c = refl

pub returns-clause-none : goal.returns-clause-none
unfolding script_on_literals
returns-clause-none c = refl
