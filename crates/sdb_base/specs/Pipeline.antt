-- How far commits have come through a pipeline, and what its stages do where no index is ever without room.
use Rattle.std.specs.Prelude.{◌≡◌, ◌<◌, ◌+◌, ℕ, suc, List, [], ◌∷◌, ◌++◌, length, Option, Some, None}
use Rattle.sdb_base.specs.declared.numbers.Numbers.{Numbers}
use Rattle.sdb_base.specs.declared.numbers.Logged.{Logged}
use Rattle.sdb_base.specs.declared.numbers.Logged.TheVariants as logged
use Rattle.sdb_base.specs.declared.numbers.Grown.{Grown}
use Rattle.sdb_base.specs.declared.numbers.Grown.TheVariants as grown
use Rattle.sdb_base.specs.declared.numbers.StageAnswer.{StageAnswer}
use Rattle.sdb_base.specs.declared.numbers.StageAnswer.TheVariants as stages

-- a column's index: the bits that its entries leave out at the front, its bits, whether it grows, and how many chunks of
-- the older index were moved
pub record Growth : Type 0 where
  pub base : ℕ
  pub bits : ℕ
  pub growing : ℕ
  pub cursor : ℕ

-- The state of a pipeline: the five numbers; for each record that isn't enacted, oldest first, the number of commits up to and
-- with it; how many of these records are flushed; the columns' indexes.
pub record Pipeline : Type 0 where
  pub numbers : Numbers
  pub waiting : List ℕ
  pub ready : ℕ
  pub columns : ℕ → Growth

-- one commit more was accepted
abbrev pub with_commit : Pipeline → Pipeline
with_commit p = record p { numbers = record p.numbers { accepted = p.numbers.accepted + 1 } }

-- a record was appended, and so many commits are logged now
abbrev pub with_record : Pipeline → ℕ → Pipeline
with_record p n = record p { numbers = record p.numbers { logged = n }; waiting = p.waiting ++ n ∷ [] }

-- the records are flushed
abbrev pub all_flushed : Pipeline → Pipeline
all_flushed p = record p { numbers = record p.numbers { flushed = p.numbers.logged }; ready = length p.waiting }

-- one record is enacted, of this number of commits; these wait after it, so many of them flushed
abbrev pub one_enacted : Pipeline → ℕ → List ℕ → ℕ → Pipeline
one_enacted p n rest k = record p { numbers = record p.numbers { enacted = n }; waiting = rest; ready = k }

-- what is enacted is cleaned
abbrev pub all_cleaned : Pipeline → Pipeline
all_cleaned p = record p { numbers = record p.numbers { cleaned = p.numbers.enacted } }

-- the next record is enacted, where one is flushed that isn't
abbrev pub Enacts : Pipeline → Option ℕ → Pipeline → Type 0
Enacts p None q = (p.ready ≡ 0) × (q ≡ p)
Enacts p (Some n) q = (k : ℕ) × (rest : List ℕ) × (p.ready ≡ suc k) × (p.waiting ≡ n ∷ rest) × (q ≡ one_enacted p n rest k)

-- the next commit is logged, where no index is without room
abbrev pub LogsUncrowded : Pipeline → Logged → Pipeline → Type 0
LogsUncrowded p (logged.Commit n) q = (p.numbers.logged < p.numbers.accepted) × (n ≡ p.numbers.logged + 1) × (q ≡ with_record p n)
LogsUncrowded p (logged.Started column bits chunk) q = ⊥
LogsUncrowded p (logged.Moved column bits left) q = ⊥
LogsUncrowded p logged.Idle q = (p.numbers.logged ≡ p.numbers.accepted) × (q ≡ p)

-- no index grows
abbrev pub GrowsUncrowded : Pipeline → Grown → Pipeline → Type 0
GrowsUncrowded p (grown.Moved column bits left) q = ⊥
GrowsUncrowded p grown.Idle q = q ≡ p

-- A stage's answer and the state after it, where no index is ever without room.
abbrev pub StepsUncrowded : Pipeline → StageAnswer → Pipeline → Type 0
StepsUncrowded p (stages.Logged answer) q = LogsUncrowded p answer q
StepsUncrowded p (stages.Flushed n) q = (n ≡ p.numbers.logged) × (q ≡ all_flushed p)
StepsUncrowded p (stages.Enacted answer) q = Enacts p answer q
StepsUncrowded p (stages.Cleaned n) q = (n ≡ p.numbers.enacted) × (q ≡ all_cleaned p)
StepsUncrowded p (stages.Grown answer) q = GrowsUncrowded p answer q
