-- Lines are read as they are written.
use Rattle.std.proofs.Common.{◌≡◌, ℕ, ◌≤◌, ◌==◌, Bool, true, false, not, ◌&&◌, List, [], ◌∷◌, length, map, Option, Some, refl, sym, ap, ◌∙◌, arith}
use Rattle.std.specs.Prelude.{codes}
use Rattle.std.specs.Fmt.{decimal}
use Rattle.std.specs.List.{AllByRecursion, join_with_byte}
use Rattle.std.proofs.lemmas.Bool.{le-leb, le-ltb, and_parts, not-true}
use Rattle.std.proofs.lemmas.List.{length-map}
use Rattle.std.proofs.lemmas.List.Elements.{All-cons, All-nil}
use Rattle.std.proofs.lemmas.List.Splits.{slice_split_at, slice_split_none}
use Rattle.sdb_base.specs.declared.Block.{Block}
use Rattle.sdb_base.specs.declared.BlockId.{BlockId}
use Rattle.sdb_base.specs.declared.Change.{Change}
use Rattle.sdb_model.specs.declared.Task.TheVariants.{Import, Read, Next, List as Listing, Root}
use Rattle.sdb_script.specs.declared.line.Line.{Line}
use Rattle.sdb_script.specs.declared.line.Line.TheVariants as lines
use Rattle.sdb_script.specs.declared.line.Line.TheVariants.{Blank, New, Genesis, Job}
use Rattle.sdb_script.specs.declared.stage.Stage.{Stage}
use Rattle.sdb_script.specs.declared.stage.Stage.TheVariants.{Log, Flush, Enact, Clean, Grow}
use Rattle.sdb_script.specs.Grammar.{most_in_line, words_of, is_blank, each_change, changes_of, block_with, no_parent, new_line, genesis_line, import_line, id_and_key, read_line, next_line, list_line, root_line, stage_line, line_of_words, line_of}
use Rattle.sdb_script.specs.LineTexts.{id_text, change_text, line_text, IsChange, IsBlock, IsId, HasAtMost, IsWithin}
use Rattle.sdb_script.specs.Texts.{bytes_text}
use Rattle.sdb_script.specs.Words.{most_in_key}
use Rattle.sdb_script.proofs.WrittenWords.{Free, id_free, bytes_free, decimal_free, change_free, number_back, id_back, bytes_back, change_back}

-- ---- the words of joined words

pub split_join : (w : List ℕ) (ws : List (List ℕ)) → Free 32 w → AllByRecursion (Free 32) ws → words_of (join_with_byte 32 (w ∷ ws)) ≡ w ∷ ws
split_join w [] h hs = slice_split_none (λ c. c == 32) w h
split_join w (y ∷ ys) h hs =
    slice_split_at (λ c. c == 32) w 32 (join_with_byte 32 (y ∷ ys)) h refl ∙ ap (λ (r : List (List ℕ)). w ∷ r) (split_join y ys hs.0 hs.1)

changes_free : (changes : List Change) → AllByRecursion IsChange changes → AllByRecursion (Free 32) (map change_text changes)
changes_free [] h = tt
changes_free (c ∷ cs) h = (change_free c h.0, changes_free cs h.1)

-- ---- the changes of a block

each_back : (changes : List Change) → AllByRecursion IsChange changes → each_change (map change_text changes) ≡ Some changes
unfolding each_change
each_back [] h = refl
each_back (c ∷ cs) h = rw (change_back c h.0, each_back cs h.1) refl

changes_back : (changes : List Change) → length changes ≤ 65536 → AllByRecursion IsChange changes → changes_of (map change_text changes) ≡ Some changes
unfolding changes_of
changes_back changes few h =
    let le : length (map change_text changes) ≤ 65536 = rw length-map few in
    rw (le-leb (length (map change_text changes)) 65536 le) (each_back changes h)

block_is : (block : Block) → block.version ≡ 0 → block_with block.id block.parent block.changes ≡ block
block_is block h = ap (λ (v : ℕ). let made : Block = record { id = block.id; parent = block.parent; changes = block.changes; version = v } in made) (sym h)

-- ---- the lines

-- what the words of a text give is its line
line_is : (text : List ℕ) (words : List (List ℕ)) (line : Option Line) → length text ≤ most_in_line → is_blank text ≡ false → words_of text ≡ words → line_of_words words ≡ line → line_of text ≡ line
unfolding line_of
line_is text words line le b w l = rw (le-ltb most_in_line (length text) le, b, w) l

new_back : (base : ℕ) → base ≤ 16 → new_line (decimal base ∷ []) ≡ Some (New base)
unfolding new_line
new_back base h = rw (number_back 0 16 base (omega arith) (omega arith) h) refl

genesis_back : (window : ℕ) (block : Block) → 1 ≤ window → window ≤ 4096 → IsBlock block → block.parent ≡ no_parent
    → genesis_line (id_text block.id ∷ decimal window ∷ map change_text block.changes) ≡ Some (Genesis window block)
unfolding genesis_line
genesis_back window block low high h parent =
    rw (id_back block.id h.id, number_back 1 4096 window (omega arith) low high, changes_back block.changes h.within.few h.changes, ← parent) (ap (λ (b : Block). Some (Genesis window b)) (block_is block h.version))

import_back : (block : Block) → IsBlock block → import_line (id_text block.id ∷ id_text block.parent ∷ map change_text block.changes) ≡ Some (Job (Import block))
unfolding import_line
import_back block h =
    rw (id_back block.id h.id, id_back block.parent h.parent, changes_back block.changes h.within.few h.changes) (ap (λ (b : Block). Some (Job (Import b))) (block_is block h.version))

asked_back : (id : BlockId) (key : List ℕ) → IsId id × HasAtMost most_in_key key → id_and_key (id_text id ∷ bytes_text key ∷ []) ≡ Some (id, key)
unfolding id_and_key
asked_back id key h = rw (id_back id h.0, bytes_back most_in_key key h.1) refl

read_back : (id : BlockId) (key : List ℕ) → IsId id × HasAtMost most_in_key key → read_line (id_text id ∷ bytes_text key ∷ []) ≡ Some (Job (Read id key))
read_back id key h = rw (asked_back id key h) refl

next_back : (id : BlockId) (key : List ℕ) → IsId id × HasAtMost most_in_key key → next_line (id_text id ∷ bytes_text key ∷ []) ≡ Some (Job (Next id key))
next_back id key h = rw (asked_back id key h) refl

listing_back : (id : BlockId) (prefix : List ℕ) → IsId id × HasAtMost most_in_key prefix → list_line (id_text id ∷ bytes_text prefix ∷ []) ≡ Some (Job (Listing id prefix))
listing_back id prefix h = rw (asked_back id prefix h) refl

root_back : (id : BlockId) → IsId id → root_line (id_text id ∷ []) ≡ Some (Job (Root id))
unfolding root_line
root_back id i = rw (id_back id i) refl

-- whether a byte occurs nowhere in a text
abbrev is_free : List ℕ → Bool
is_free [] = true
is_free (c ∷ cs) = not (c == 32) && is_free cs

list_free : (text : List ℕ) → is_free text ≡ true → Free 32 text
list_free [] h = All-nil (λ c. (c == 32) ≡ false)
list_free (c ∷ cs) h =
    let parts = and_parts (not (c == 32)) (is_free cs) h in
    All-cons (λ b. (b == 32) ≡ false) c cs (not-true (c == 32) parts.0) (list_free cs parts.1)

-- the words of a line that asks for some bytes in a block's state
asked_words : (word : List ℕ) (id : BlockId) (key : List ℕ) → is_free word ≡ true → IsId id × HasAtMost most_in_key key
    → words_of (join_with_byte 32 (word ∷ id_text id ∷ bytes_text key ∷ [])) ≡ word ∷ id_text id ∷ bytes_text key ∷ []
asked_words word id key free h =
    split_join word (id_text id ∷ bytes_text key ∷ []) (list_free word free) (id_free id h.0, (bytes_free 32 refl refl key h.1.1, tt))

-- the line of one word without a space
alone_back : (c : ℕ) (cs : List ℕ) (line : Line) → is_free (c ∷ cs) ≡ true → is_blank (c ∷ cs) ≡ false → length (c ∷ cs) ≤ most_in_line
    → line_of_words ((c ∷ cs) ∷ []) ≡ Some line → line_of (c ∷ cs) ≡ Some line
alone_back c cs line free b le l = line_is (c ∷ cs) ((c ∷ cs) ∷ []) (Some line) le b (split_join (c ∷ cs) [] (list_free (c ∷ cs) free) tt) l

stage_back : (stage : Stage) → length (line_text (lines.Stage stage)) ≤ most_in_line → line_of (line_text (lines.Stage stage)) ≡ Some (lines.Stage stage)
unfolding is_blank line_of_words stage_line
stage_back Log le = alone_back _ _ (lines.Stage Log) refl refl le refl
stage_back Flush le = alone_back _ _ (lines.Stage Flush) refl refl le refl
stage_back Enact le = alone_back _ _ (lines.Stage Enact) refl refl le refl
stage_back Clean le = alone_back _ _ (lines.Stage Clean) refl refl le refl
stage_back Grow le = alone_back _ _ (lines.Stage Grow) refl refl le refl

blank_back : line_of [] ≡ Some Blank
unfolding line_of is_blank
blank_back = refl

pub line_back : (line : Line) → IsWithin line → length (line_text line) ≤ most_in_line → line_of (line_text line) ≡ Some line
unfolding is_blank line_of_words
line_back Blank h le = blank_back
line_back (New base) h le =
    let words = split_join (codes "new") (decimal base ∷ []) (list_free (codes "new") refl) (decimal_free base (omega arith), tt) in
    line_is _ _ (Some (New base)) le refl words (new_back base h)
line_back (Genesis window block) h le =
    let words = split_join (codes "genesis") (id_text block.id ∷ decimal window ∷ map change_text block.changes) (list_free (codes "genesis") refl) (id_free block.id h.2.id, (decimal_free window (omega (arith, h.1)), changes_free block.changes h.2.changes)) in
    line_is _ _ (Some (Genesis window block)) le refl words (genesis_back window block h.0 h.1 h.2 h.3)
line_back (Job (Import block)) h le =
    let words = split_join (codes "import") (id_text block.id ∷ id_text block.parent ∷ map change_text block.changes) (list_free (codes "import") refl) (id_free block.id h.id, (id_free block.parent h.parent, changes_free block.changes h.changes)) in
    line_is _ _ (Some (Job (Import block))) le refl words (import_back block h)
line_back (Job (Read id key)) h le =
    line_is _ _ (Some (Job (Read id key))) le refl (asked_words (codes "read") id key refl h) (read_back id key h)
line_back (Job (Next id key)) h le =
    line_is _ _ (Some (Job (Next id key))) le refl (asked_words (codes "next") id key refl h) (next_back id key h)
line_back (Job (Listing id prefix)) h le =
    line_is _ _ (Some (Job (Listing id prefix))) le refl (asked_words (codes "list") id prefix refl h) (listing_back id prefix h)
line_back (Job (Root id)) h le =
    let words = split_join (codes "root") (id_text id ∷ []) (list_free (codes "root") refl) (id_free id h, tt) in
    line_is _ _ (Some (Job (Root id))) le refl words (root_back id h)
line_back (lines.Stage stage) h le = stage_back stage le
