-- Replies of jobs as results.
use Rattle.std.proofs.Common.{◌≡◌, ℕ, ◌+◌, Bool, true, false, cond, nat_le, List, Option, Some, None, is_some, Result, Ok, Err, IfOk, OnOk, refl, subst, sym}
use Rattle.sdb_base.specs.Pipeline.{Pipeline}
use Rattle.sdb_base.specs.declared.Block.{Block}
use Rattle.sdb_model.specs.Blocks.{chain_of, count_at, number_of}
use Rattle.sdb_model.specs.State.{State}
use Rattle.sdb_model.specs.Clear.{Clear}
use Rattle.sdb_model.specs.declared.Refusal.TheVariants.{AlreadyExists, TooManySiblings}
use Rattle.sdb_model.specs.declared.Reply.{Reply}
use Rattle.sdb_model.specs.declared.Reply.TheVariants.{Imported, Refused}
use Rattle.sdb_model.specs.declared.Task.{Task}
use Rattle.sdb_model.specs.declared.Task.TheVariants as tasks
use Rattle.sdb_serve.specs.Jobs.{import_on, import_reply, key_reply, list_reply, most_siblings, next_reply, read_reply, root_reply, value_reply}
use Rattle.sdb_serve.specs.Replies.{IsOfKind, MayAnswer}
use Rattle.sdb_serve.specs.Session.{answer_job}
use Rattle.sdb_serve.specs.StageLines.{pipeline_after}
use Rattle.std.specs.FinMap.{get}
use Rattle.trie_model.specs.Fetches.{next_key}

pub on_ok : {T E P : Type 0} (r : Result T E) → P → OnOk r P
on_ok (Ok x) p = p
on_ok (Err e) p = tt

pub may_ok : {E : Type 0} (r : Result Reply E) (blocks : List Block) (task : Task) → IfOk r (IsOfKind task (answer_job blocks task).0)
    → (Clear (answer_job blocks task).1 → IfOk r (λ reply. reply ≡ (answer_job blocks task).0)) → IfOk r (MayAnswer blocks task)
may_ok (Ok x) blocks task kind same = record { kind = kind; clear = same }
may_ok (Err e) blocks task kind same = tt

-- an import is refused or answered by a number
by_tests : (b : Block) (n : ℕ) (t u : Bool) → IsOfKind (tasks.Import b) (cond t (Refused AlreadyExists) (cond u (Refused (TooManySiblings n)) (Imported n)))
    (cond t (Refused AlreadyExists) (cond u (Refused (TooManySiblings n)) (Imported n)))
by_tests b n true u = refl
by_tests b n false true = refl
by_tests b n false false = refl

on_number : (blocks : List Block) (b : Block) (n : Option ℕ) → IsOfKind (tasks.Import b) (import_on blocks b n) (import_on blocks b n)
on_number blocks b None = refl
on_number blocks b (Some n) = by_tests b (n + 1) (is_some (chain_of blocks b.id)) (nat_le most_siblings (count_at blocks (n + 1)))

import_is : (blocks : List Block) (b : Block) → IsOfKind (tasks.Import b) (import_reply blocks b) (import_reply blocks b)
unfolding import_reply
import_is blocks b = on_number blocks b (number_of blocks b.parent)

pub import_kind : {E : Type 0} (r : Result Reply E) (blocks : List Block) (b : Block) → IfOk r (λ reply. reply ≡ import_reply blocks b) → IfOk r (IsOfKind (tasks.Import b) (import_reply blocks b))
import_kind (Ok x) blocks b e = subst (λ (reply : Reply). IsOfKind (tasks.Import b) (import_reply blocks b) reply) (sym e) (import_is blocks b)
import_kind (Err e) blocks b is = tt

-- what holds of a reply holds of the one that it is
pub as_model : {E : Type 0} (r : Result Reply E) (model : Reply) (Q R : Reply → Type 0) → IfOk r (λ reply. reply ≡ model) → IfOk r Q → ((x : Reply) → Q x → R x) → OnOk r (R model)
as_model (Ok x) model Q R e q f = subst R e (f x q)
as_model (Err e) model Q R is q f = tt

-- ---- reads are no commits

value_stays : (found : Option (List ℕ)) (p : Pipeline) → pipeline_after (value_reply found) p ≡ p
value_stays None p = refl
value_stays (Some value) p = refl

key_stays : (found : Option (List ℕ)) (p : Pipeline) → pipeline_after (key_reply found) p ≡ p
key_stays None p = refl
key_stays (Some key) p = refl

pub read_stays : (o : Option State) (key : List ℕ) (p : Pipeline) → pipeline_after (read_reply o key) p ≡ p
read_stays None key p = refl
read_stays (Some m) key p = value_stays (get m key) p

pub next_stays : (o : Option State) (key : List ℕ) (p : Pipeline) → pipeline_after (next_reply o key) p ≡ p
next_stays None key p = refl
next_stays (Some m) key p = key_stays (next_key m key) p

pub list_stays : (o : Option State) (prefix : List ℕ) (p : Pipeline) → pipeline_after (list_reply o prefix) p ≡ p
list_stays None prefix p = refl
list_stays (Some m) prefix p = refl

pub root_stays : (o : Option State) (p : Pipeline) → pipeline_after (root_reply o) p ≡ p
root_stays None p = refl
root_stays (Some m) p = refl
