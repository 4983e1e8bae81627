-- The texts of replies, without the line feed that ends each.
use Rattle.std.specs.Prelude.{ℕ, List, [], ◌∷◌, ◌++◌, codes, Some, None}
use Rattle.std.specs.Fmt.{decimal}
use Rattle.std.specs.List.{flat_map}
use Rattle.hex.specs.Hex.{encode_lower}
use Rattle.sdb_base.specs.declared.Grown.{Grown}
use Rattle.sdb_base.specs.declared.Grown.TheVariants as grown
use Rattle.sdb_base.specs.declared.Logged.{Logged}
use Rattle.sdb_base.specs.declared.Logged.TheVariants as logged
use Rattle.sdb_base.specs.declared.StageAnswer.{StageAnswer}
use Rattle.sdb_base.specs.declared.StageAnswer.TheVariants as stages
use Rattle.sdb_model.specs.declared.Refusal.{Refusal}
use Rattle.sdb_model.specs.declared.Refusal.TheVariants.{UnknownBlock, AlreadyExists, UnknownParent, TooManySiblings, HasGenesis, NoGenesis}
use Rattle.sdb_model.specs.declared.Reply.{Reply}
use Rattle.sdb_model.specs.declared.Reply.TheVariants.{Imported, Value, Key, Nothing, Listed, Root, Refused}
use Rattle.sdb_script.specs.declared.line.LineReply.{LineReply}
use Rattle.sdb_script.specs.declared.line.LineReply.TheVariants as lines
use Rattle.sdb_script.specs.declared.line.LineReply.TheVariants.{New, Genesis, Job}

-- two digits for each byte in lower case, or `-` for no bytes
abbrev pub bytes_text : List ℕ → List ℕ
bytes_text [] = 45 ∷ []
bytes_text (b ∷ bs) = encode_lower (b ∷ bs)

-- number, name, and the refusal's own numbers
abbrev pub refusal_text : Refusal → List ℕ
refusal_text UnknownBlock = codes "1 UnknownBlock"
refusal_text AlreadyExists = codes "3 AlreadyExists"
refusal_text UnknownParent = codes "4 UnknownParent"
refusal_text (TooManySiblings number) = codes "6 TooManySiblings " ++ decimal number
refusal_text HasGenesis = codes "9 HasGenesis"
refusal_text NoGenesis = codes "10 NoGenesis"

-- the reply to what was refused, a job or another line
abbrev pub refused_text : Refusal → List ℕ
refused_text refusal = codes "refused " ++ refusal_text refusal

-- each key after a space
abbrev pub keys_text : List (List ℕ) → List ℕ
keys_text keys = flat_map (λ key. 32 ∷ bytes_text key) keys

abbrev pub job_text : Reply → List ℕ
job_text (Imported number) = codes "import " ++ decimal number
job_text (Value value) = codes "value " ++ bytes_text value
job_text (Key key) = codes "next " ++ bytes_text key
job_text Nothing = codes "none"
job_text (Listed keys) = codes "list" ++ keys_text keys
job_text (Root root) = codes "root " ++ encode_lower root.0
job_text (Refused refusal) = refused_text refusal

-- a column, the bits of its index, and a number, with one space between
abbrev pub index_text : ℕ → ℕ → ℕ → List ℕ
index_text column bits number = decimal column ++ codes " " ++ decimal bits ++ codes " " ++ decimal number

-- what logging came to
abbrev pub logged_text : Logged → List ℕ
logged_text (logged.Commit number) = codes "logged " ++ decimal number
logged_text (logged.Started column bits chunk) = codes "started " ++ index_text column bits chunk
logged_text (logged.Moved column bits left) = codes "moved " ++ index_text column bits left
logged_text logged.Idle = codes "idle"

-- what growing an index came to
abbrev pub grown_text : Grown → List ℕ
grown_text (grown.Moved column bits left) = codes "moved " ++ index_text column bits left
grown_text grown.Idle = codes "idle"

abbrev pub stage_text : StageAnswer → List ℕ
stage_text (stages.Logged answer) = logged_text answer
stage_text (stages.Flushed number) = codes "flushed " ++ decimal number
stage_text (stages.Enacted (Some number)) = codes "enacted " ++ decimal number
stage_text (stages.Enacted None) = codes "idle"
stage_text (stages.Cleaned number) = codes "cleaned " ++ decimal number
stage_text (stages.Grown answer) = grown_text answer

unfoldable pub reply_text : LineReply → List ℕ
reply_text New = codes "new"
reply_text Genesis = codes "genesis"
reply_text (Job reply) = job_text reply
reply_text (lines.Stage answer) = stage_text answer
reply_text (lines.Refused refusal) = refused_text refusal
