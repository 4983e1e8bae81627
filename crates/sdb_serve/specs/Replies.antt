-- What a line may be answered where states are kept as nodes under their hashes.
use Rattle.std.specs.Prelude.{◌≡◌, ◌⊎◌, ℕ, List, Option, Some, IsTrue}
use Rattle.sdb_base.specs.declared.Block.{Block}
use Rattle.sdb_base.specs.declared.NodeHash.{NodeHash}
use Rattle.sdb_model.specs.Clear.{Clear}
use Rattle.sdb_model.specs.declared.Reply.{Reply}
use Rattle.sdb_model.specs.declared.Reply.TheVariants.{Imported, Value, Key, Nothing, Listed, Root, Refused}
use Rattle.sdb_model.specs.declared.Task.{Task}
use Rattle.sdb_model.specs.declared.Task.TheVariants as tasks
use Rattle.sdb_script.specs.declared.Line.{Line}
use Rattle.sdb_script.specs.declared.Line.TheVariants as lines
use Rattle.sdb_script.specs.declared.LineReply.{LineReply}
use Rattle.sdb_script.specs.declared.LineReply.TheVariants as replies
use Rattle.pdb_redo.specs.Creating.{HasNoGate}
use Rattle.sdb_serve.specs.Crowding.{LoggedFits}
use Rattle.sdb_serve.specs.Given.{Given}
use Rattle.sdb_serve.specs.Session.{SessionState, answer_job}

-- an answer to a task that was carried out, whatever the state is
abbrev pub IsOfTask : Task → Reply → Type 0
IsOfTask (tasks.Read id key) reply = (reply ≡ Nothing) ⊎ ((value : List ℕ) × (reply ≡ Value value))
IsOfTask (tasks.Next id key) reply = (reply ≡ Nothing) ⊎ ((next : List ℕ) × (reply ≡ Key next))
IsOfTask (tasks.List id prefix) reply = (keys : List (List ℕ)) × (reply ≡ Listed keys)
IsOfTask (tasks.Root id) reply = (root : NodeHash) × (reply ≡ Root root)
IsOfTask (tasks.Import block) reply = ⊥

-- A refusal and the number of an import are as the model has them, whatever the hashes are; any other answer is of the task.
abbrev pub IsOfKind : Task → Reply → Reply → Type 0
IsOfKind task (Refused refusal) reply = reply ≡ Refused refusal
IsOfKind task (Imported number) reply = reply ≡ Imported number
IsOfKind task (Value value) reply = IsOfTask task reply
IsOfKind task (Key key) reply = IsOfTask task reply
IsOfKind task Nothing reply = IsOfTask task reply
IsOfKind task (Listed keys) reply = IsOfTask task reply
IsOfKind task (Root root) reply = IsOfTask task reply

-- What a job may be answered: where no two different nodes of the blocks after it have one hash, just what the model says.
pub record MayAnswer (blocks : List Block) (task : Task) (reply : Reply) : Type 0 where
  pub kind : IsOfKind task (answer_job blocks task).0 reply
  pub clear : Clear (answer_job blocks task).1 → reply ≡ (answer_job blocks task).0

-- The reply of a line may be this, where the model's is that: a job's may differ only where the disk doesn't tell its content, or
-- two nodes have one hash. `new` is answered only on a disk without a database, and a commit logged only where it had room.
abbrev pub MayReply : Given → SessionState → Line → Option LineReply → Option LineReply → Type 0
MayReply g s (lines.Job task) (Some (replies.Job model)) reply = (said : Reply) × (reply ≡ Some (replies.Job said))
    × IsOfKind task model said × (IsTrue g.told → Clear (answer_job s.blocks task).1 → said ≡ model)
MayReply g s (lines.New base) model reply = (reply ≡ model) × (IsTrue g.told → HasNoGate g.image)
MayReply g s (lines.Stage stage) (Some (replies.Stage model)) reply = (reply ≡ Some (replies.Stage model))
    × (IsTrue g.told → Clear s.blocks → LoggedFits s model)
MayReply g s line model reply = reply ≡ model
