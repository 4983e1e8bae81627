-- Which text is which line. A line is words with one space between; the line feed that ends it is no part
-- of its text.
use Rattle.std.specs.Prelude.{ℕ, ◌==◌, ◌&&◌, nat_lt, nat_le, not, Bool, true, List, [], ◌∷◌, length, codes, replicate, if◌then◌else◌, Option, Some, None, option_and_then}
use Rattle.std.specs.Option.{option_map}
use Rattle.std.specs.List.{list_any, slice_split}
use Rattle.std.specs.Str.{bytes_eq}
use Rattle.sdb_base.specs.declared.Block.{Block}
use Rattle.sdb_base.specs.declared.BlockId.{BlockId}
use Rattle.sdb_base.specs.declared.Change.{Change}
pub use Rattle.sdb_model.specs.Limits.{most_changes}
use Rattle.sdb_model.specs.declared.Task.TheVariants.{Import, Read, Next, List as Listing, Root}
use Rattle.sdb_script.specs.declared.line.Line.{Line}
use Rattle.sdb_script.specs.declared.line.Line.TheVariants.{Blank, New, Genesis, Job, Stage}
use Rattle.sdb_script.specs.Numbers.{number_within}
use Rattle.sdb_script.specs.Words.{bytes_of, change_of, id_of, most_in_key, stage_of}

-- at most so many bytes in a line
abbrev pub most_in_line : ℕ
most_in_line = 16777216

-- the words of a line
abbrev pub words_of : List ℕ → List (List ℕ)
words_of text = slice_split (λ c. c == 32) text

-- an empty line, or a comment: `#` and anything up to the line feed
unfoldable pub is_blank : List ℕ → Bool
is_blank [] = true
is_blank (c ∷ cs) = (c == 35) && not (list_any (λ b. b == 10) cs)

-- each word a change
unfoldable pub each_change : List (List ℕ) → Option (List Change)
each_change [] = Some []
each_change (w ∷ ws) = option_and_then (λ c. option_map (λ cs. c ∷ cs) (each_change ws)) (change_of w)

-- the changes of a block, not too many
unfoldable pub changes_of : List (List ℕ) → Option (List Change)
changes_of words = if nat_le (length words) most_changes then each_change words else None

abbrev pub block_with : BlockId → BlockId → List Change → Block
block_with id parent changes = record { id = id; parent = parent; changes = changes; version = 0 }

-- the parent of genesis
abbrev pub no_parent : BlockId
no_parent = record { 0 = replicate 32 0 }

-- the words after `new`: B, the base
unfoldable pub new_line : List (List ℕ) → Option Line
new_line (b ∷ []) = option_map (λ base. New base) (number_within 0 16 b)
new_line _ = None

-- the words after `genesis`: ID W CHANGE ..
unfoldable pub genesis_line : List (List ℕ) → Option Line
genesis_line (i ∷ (w ∷ cs)) =
    option_and_then (λ id. option_and_then (λ window. option_map (λ changes. Genesis window (block_with id no_parent changes))
    (changes_of cs)) (number_within 1 4096 w)) (id_of i)
genesis_line _ = None

-- the words after `import`: ID PARENT CHANGE ..
unfoldable pub import_line : List (List ℕ) → Option Line
import_line (i ∷ (p ∷ cs)) =
    option_and_then (λ id. option_and_then (λ parent. option_map (λ changes. Job (Import (block_with id parent changes)))
    (changes_of cs)) (id_of p)) (id_of i)
import_line _ = None

-- the words ID KEY, a block and the bytes that are asked for in its state
unfoldable pub id_and_key : List (List ℕ) → Option (BlockId × List ℕ)
id_and_key (i ∷ (k ∷ [])) = option_and_then (λ id. option_map (λ key. (id, key)) (bytes_of most_in_key k)) (id_of i)
id_and_key _ = None

-- the words after `read`: ID KEY
abbrev pub read_line : List (List ℕ) → Option Line
read_line words = option_map (λ asked. Job (Read asked.0 asked.1)) (id_and_key words)

-- the words after `next`: ID KEY
abbrev pub next_line : List (List ℕ) → Option Line
next_line words = option_map (λ asked. Job (Next asked.0 asked.1)) (id_and_key words)

-- the words after `list`: ID PREFIX, spelled as a key is
abbrev pub list_line : List (List ℕ) → Option Line
list_line words = option_map (λ asked. Job (Listing asked.0 asked.1)) (id_and_key words)

-- the words after `root`: ID
unfoldable pub root_line : List (List ℕ) → Option Line
root_line (i ∷ []) = option_map (λ id. Job (Root id)) (id_of i)
root_line _ = None

-- a stage's name, and no words after it
unfoldable pub stage_line : List ℕ → List (List ℕ) → Option Line
stage_line word [] = option_map (λ stage. Stage stage) (stage_of word)
stage_line word _ = None

-- by the first word
unfoldable pub line_of_words : List (List ℕ) → Option Line
line_of_words [] = None
line_of_words (w ∷ ws) =
    if bytes_eq w (codes "new") then new_line ws
    else if bytes_eq w (codes "genesis") then genesis_line ws
    else if bytes_eq w (codes "import") then import_line ws
    else if bytes_eq w (codes "read") then read_line ws
    else if bytes_eq w (codes "next") then next_line ws
    else if bytes_eq w (codes "list") then list_line ws
    else if bytes_eq w (codes "root") then root_line ws
    else stage_line w ws

-- the line of a text; none where it is none
unfoldable pub line_of : List ℕ → Option Line
line_of text =
    if nat_lt most_in_line (length text) then None
    else if is_blank text then Some Blank
    else line_of_words (words_of text)
