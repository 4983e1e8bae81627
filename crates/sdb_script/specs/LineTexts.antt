-- The text of each line, and which lines have one.
use Rattle.std.specs.Prelude.{◌≡◌, ℕ, ◌≤◌, List, [], ◌∷◌, ◌++◌, length, map, codes, Option, Some, None, IfSome}
use Rattle.std.specs.Fmt.{decimal}
use Rattle.std.specs.List.{join_with_byte, AllByRecursion}
use Rattle.hex.specs.Hex.{encode_lower, IsBytes}
use Rattle.sdb_base.specs.declared.Block.{Block}
use Rattle.sdb_base.specs.declared.BlockId.{BlockId}
use Rattle.sdb_base.specs.declared.Change.{Change}
use Rattle.sdb_model.specs.Limits.{BlockIsWithin, ChangeIsWithin, bytes_in_id, most_in_key}
use Rattle.sdb_model.specs.declared.Task.TheVariants.{Import, Read, Next, List as Listing, Root}
use Rattle.sdb_script.specs.declared.line.Line.{Line}
use Rattle.sdb_script.specs.declared.line.Line.TheVariants as lines
use Rattle.sdb_script.specs.declared.line.Line.TheVariants.{Blank, New, Genesis, Job}
use Rattle.sdb_script.specs.declared.stage.Stage.{Stage}
use Rattle.sdb_script.specs.declared.stage.Stage.TheVariants.{Log, Flush, Enact, Clean, Grow}
use Rattle.sdb_script.specs.Grammar.{no_parent}
use Rattle.sdb_script.specs.Texts.{bytes_text}

-- 64 digits
abbrev pub id_text : BlockId → List ℕ
id_text id = encode_lower id.0

-- `=VALUE`, or `!` for no value
abbrev pub value_text : Option (List ℕ) → List ℕ
value_text (Some value) = 61 ∷ bytes_text value
value_text None = 33 ∷ []

abbrev pub change_text : Change → List ℕ
change_text change = bytes_text change.key ++ value_text change.value

-- the word that names a stage
abbrev pub stage_name : Stage → List ℕ
stage_name Log = codes "log"
stage_name Flush = codes "flush"
stage_name Enact = codes "enact"
stage_name Clean = codes "clean"
stage_name Grow = codes "grow"

abbrev pub line_words : Line → List (List ℕ)
line_words Blank = []
line_words (New base) = codes "new" ∷ decimal base ∷ []
line_words (Genesis window block) = codes "genesis" ∷ id_text block.id ∷ decimal window ∷ map change_text block.changes
line_words (Job (Import block)) = codes "import" ∷ id_text block.id ∷ id_text block.parent ∷ map change_text block.changes
line_words (Job (Read id key)) = codes "read" ∷ id_text id ∷ bytes_text key ∷ []
line_words (Job (Next id key)) = codes "next" ∷ id_text id ∷ bytes_text key ∷ []
line_words (Job (Listing id prefix)) = codes "list" ∷ id_text id ∷ bytes_text prefix ∷ []
line_words (Job (Root id)) = codes "root" ∷ id_text id ∷ []
line_words (lines.Stage stage) = stage_name stage ∷ []

-- the words with one space between them
abbrev pub line_text : Line → List ℕ
line_text line = join_with_byte 32 (line_words line)

abbrev pub IsId : BlockId → Type 0
IsId id = (length id.0 ≡ bytes_in_id) × IsBytes id.0

abbrev pub HasAtMost : ℕ → List ℕ → Type 0
HasAtMost most bytes = (length bytes ≤ most) × IsBytes bytes

-- a change of the main trie within the limits, of a key and a value in bytes
pub record IsChange (change : Change) : Type 0 where
  pub trie : change.trie ≡ []
  pub within : ChangeIsWithin change
  pub key : IsBytes change.key
  pub value : IfSome change.value IsBytes

-- a block within the limits, with such changes
pub record IsBlock (block : Block) : Type 0 where
  pub id : IsId block.id
  pub parent : IsId block.parent
  pub within : BlockIsWithin block
  pub changes : AllByRecursion IsChange block.changes
  pub version : block.version ≡ 0

-- the limits of lines
abbrev pub IsWithin : Line → Type 0
IsWithin Blank = Unit {0}
IsWithin (New base) = base ≤ 16
IsWithin (Genesis window block) = (1 ≤ window) × (window ≤ 4096) × IsBlock block × (block.parent ≡ no_parent)
IsWithin (Job (Import block)) = IsBlock block
IsWithin (Job (Read id key)) = IsId id × HasAtMost most_in_key key
IsWithin (Job (Next id key)) = IsId id × HasAtMost most_in_key key
IsWithin (Job (Listing id prefix)) = IsId id × HasAtMost most_in_key prefix
IsWithin (Job (Root id)) = IsId id
IsWithin (lines.Stage stage) = Unit {0}
