-- The line of a text keeps the limits.
use Rattle.std.proofs.Common.{◌≡◌, ℕ, ◌≤◌, ◌&&◌, cond, List, [], ◌∷◌, length, Some, None, Result, Ok, Err, refl, subst, arith}
use Rattle.std.specs.Prelude.{All, IfOk, nat_le, nat_lt, codes}
use Rattle.std.specs.Option.{option_map}
use Rattle.std.specs.List.{AllByRecursion}
use Rattle.std.specs.Str.{bytes_eq}
use Rattle.std.proofs.lemmas.Bool.{and_parts, leb-true}
use Rattle.std.proofs.lemmas.List.Elements.{All-cons, All-nil}
use Rattle.std.proofs.lemmas.Option.{none-some, same_Some}
use Rattle.sdb_base.specs.declared.BlockId.{BlockId}
use Rattle.sdb_base.specs.declared.Change.{Change}
use Rattle.sdb_model.specs.Limits.{ChangeIsWithin}
use Rattle.sdb_model.specs.declared.Task.TheVariants.{Import, Read, Next, List as Listing, Root}
use Rattle.sdb_script.specs.declared.line.Line.{Line}
use Rattle.sdb_script.specs.declared.line.Line.TheVariants.{Blank, New, Genesis, Job, Stage}
use Rattle.sdb_script.specs.declared.line.LineFault.{LineFault}
use Rattle.sdb_script.specs.declared.line.LineFault.TheVariants.{NotInGrammar, OutOfMemory}
use Rattle.sdb_script.specs.inner.Reading.{IsParsed}
use Rattle.sdb_script.specs.Grammar.{block_with, changes_of, genesis_line, id_and_key, import_line, is_blank, line_of, line_of_words, list_line, most_changes, most_in_line, new_line, next_line, no_parent, read_line, root_line, stage_line, words_of}
use Rattle.sdb_script.specs.LineTexts.{HasAtMost, IsBlock, IsChange, IsId, IsWithin}
use Rattle.sdb_script.specs.Numbers.{number_spelled, number_within}
use Rattle.sdb_script.specs.Words.{bytes_of, id_of, most_in_key, stage_of}
use Rattle.sdb_script.proofs.ChangesWithin.{changes_within}
use Rattle.sdb_script.proofs.Within.{bytes_within, chosen, id_within, map_some, passed, then_some, zeros_are_bytes}

number_within_is : (low high : ℕ) (w : List ℕ) (n : ℕ) → number_within low high w ≡ Some n → (low ≤ n) × (n ≤ high)
number_within_is low high w n h =
    let k = then_some (λ k. cond (nat_le low k && nat_le k high) (Some k) None) (number_spelled w) n h in
    let p = passed (nat_le low k.0 && nat_le k.0 high) k.0 n k.2 in
    let both = and_parts (nat_le low k.0) (nat_le k.0 high) p.0 in
    let above = leb-true low k.0 both.0 in
    let below = leb-true k.0 high both.1 in
    (omega (arith, p.1), omega (arith, p.1))

no_parent_is_id : IsId no_parent
no_parent_is_id = (refl, zeros_are_bytes 32)

each_is_within : (cs : List Change) → AllByRecursion IsChange cs → All ChangeIsWithin cs
each_is_within [] h = All-nil ChangeIsWithin
each_is_within (c ∷ cs) h = All-cons ChangeIsWithin c cs h.0.within (each_is_within cs h.1)

-- a block of words that were read
block_is : (id parent : BlockId) (cs : List Change) → IsId id → IsId parent → AllByRecursion IsChange cs × (length cs ≤ most_changes) → IsBlock (block_with id parent cs)
block_is id parent cs i p h = record { id = i; parent = p; within = record { few = h.1; each = each_is_within cs h.0 }; changes = h.0; version = refl }

new_is : (ws : List (List ℕ)) (line : Line) → new_line ws ≡ Some line → IsWithin line
unfolding new_line
new_is [] line h = absurd (none-some line h)
new_is (b ∷ []) line h =
    let n = map_some (λ base. New base) (number_within 0 16 b) line h in
    subst IsWithin n.2 (number_within_is 0 16 b n.0 n.1).1
new_is (b ∷ (w ∷ ws)) line h = absurd (none-some line h)

genesis_is : (ws : List (List ℕ)) (line : Line) → genesis_line ws ≡ Some line → IsWithin line
unfolding genesis_line
genesis_is [] line h = absurd (none-some line h)
genesis_is (i ∷ []) line h = absurd (none-some line h)
genesis_is (i ∷ (w ∷ cs)) line h =
    let id = then_some _ (id_of i) line h in
    let window = then_some _ (number_within 1 4096 w) line id.2 in
    let changes = map_some (λ changes. Genesis window.0 (block_with id.0 no_parent changes)) (changes_of cs) line window.2 in
    let n = number_within_is 1 4096 w window.0 window.1 in
    subst IsWithin changes.2 (n.0, n.1, block_is id.0 no_parent changes.0 (id_within i id.0 id.1) no_parent_is_id (changes_within cs changes.0 changes.1), refl)

import_is : (ws : List (List ℕ)) (line : Line) → import_line ws ≡ Some line → IsWithin line
unfolding import_line
import_is [] line h = absurd (none-some line h)
import_is (i ∷ []) line h = absurd (none-some line h)
import_is (i ∷ (p ∷ cs)) line h =
    let id = then_some _ (id_of i) line h in
    let parent = then_some _ (id_of p) line id.2 in
    let changes = map_some (λ changes. Job (Import (block_with id.0 parent.0 changes))) (changes_of cs) line parent.2 in
    subst IsWithin changes.2 (block_is id.0 parent.0 changes.0 (id_within i id.0 id.1) (id_within p parent.0 parent.1) (changes_within cs changes.0 changes.1))

-- a block and the bytes that are asked for in its state
abbrev Asked : BlockId × List ℕ → Type 0
Asked asked = IsId asked.0 × HasAtMost most_in_key asked.1

asked_within : (ws : List (List ℕ)) (asked : BlockId × List ℕ) → id_and_key ws ≡ Some asked → Asked asked
unfolding id_and_key
asked_within [] asked h = absurd (none-some asked h)
asked_within (i ∷ []) asked h = absurd (none-some asked h)
asked_within (i ∷ (k ∷ [])) asked h =
    let id = then_some _ (id_of i) asked h in
    let key = map_some (λ key. (id.0, key)) (bytes_of most_in_key k) asked id.2 in
    subst Asked key.2 (id_within i id.0 id.1, bytes_within most_in_key k key.0 key.1)
asked_within (i ∷ (k ∷ (w ∷ ws))) asked h = absurd (none-some asked h)

-- the line that is made of them
asked_is : (made : BlockId × List ℕ → Line) → ((asked : BlockId × List ℕ) → Asked asked → IsWithin (made asked)) → (ws : List (List ℕ)) (line : Line)
    → option_map made (id_and_key ws) ≡ Some line → IsWithin line
asked_is made within ws line h =
    let asked = map_some made (id_and_key ws) line h in
    subst IsWithin asked.2 (within asked.0 (asked_within ws asked.0 asked.1))

root_is : (ws : List (List ℕ)) (line : Line) → root_line ws ≡ Some line → IsWithin line
unfolding root_line
root_is [] line h = absurd (none-some line h)
root_is (i ∷ []) line h =
    let id = map_some (λ id. Job (Root id)) (id_of i) line h in
    subst IsWithin id.2 (id_within i id.0 id.1)
root_is (i ∷ (w ∷ ws)) line h = absurd (none-some line h)

stage_is : (w : List ℕ) (ws : List (List ℕ)) (line : Line) → stage_line w ws ≡ Some line → IsWithin line
unfolding stage_line
stage_is w [] line h =
    let stage = map_some (λ stage. Stage stage) (stage_of w) line h in
    subst IsWithin stage.2 tt
stage_is w (x ∷ ws) line h = absurd (none-some line h)

words_are : (ws : List (List ℕ)) (line : Line) → line_of_words ws ≡ Some line → IsWithin line
unfolding line_of_words
words_are [] line h = absurd (none-some line h)
words_are (w ∷ ws) line h =
    chosen IsWithin (bytes_eq w (codes "new")) (new_line ws) _ line h (new_is ws line)
    (λ h1. chosen IsWithin (bytes_eq w (codes "genesis")) (genesis_line ws) _ line h1 (genesis_is ws line)
    (λ h2. chosen IsWithin (bytes_eq w (codes "import")) (import_line ws) _ line h2 (import_is ws line)
    (λ h3. chosen IsWithin (bytes_eq w (codes "read")) (read_line ws) _ line h3 (asked_is (λ asked. Job (Read asked.0 asked.1)) (λ asked within. within) ws line)
    (λ h4. chosen IsWithin (bytes_eq w (codes "next")) (next_line ws) _ line h4 (asked_is (λ asked. Job (Next asked.0 asked.1)) (λ asked within. within) ws line)
    (λ h5. chosen IsWithin (bytes_eq w (codes "list")) (list_line ws) _ line h5 (asked_is (λ asked. Job (Listing asked.0 asked.1)) (λ asked within. within) ws line)
    (λ h6. chosen IsWithin (bytes_eq w (codes "root")) (root_line ws) (stage_line w ws) line h6 (root_is ws line) (stage_is w ws line)))))))

pub gives_within : (ws : List (List ℕ)) (r : Result Line LineFault) → IsParsed r (line_of_words ws) → IfOk r IsWithin
gives_within ws (Ok line) h = words_are ws line h
gives_within ws (Err NotInGrammar) h = tt
gives_within ws (Err OutOfMemory) h = tt

pub line_within : (text : List ℕ) (line : Line) → line_of text ≡ Some line → IsWithin line
unfolding line_of
line_within text line h =
    chosen IsWithin (nat_lt most_in_line (length text)) None _ line h (λ e. absurd (none-some line e))
    (λ e. chosen IsWithin (is_blank text) (Some Blank) (line_of_words (words_of text)) line e
    (λ b. subst IsWithin (same_Some Blank line b) tt) (words_are (words_of text) line))
