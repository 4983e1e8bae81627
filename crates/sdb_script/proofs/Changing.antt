-- The changes of words one after the other.
use Rattle.std.proofs.Common.{◌≡◌, ℕ, ◌<◌, ◌≤◌, List, [], ◌∷◌, ◌++◌, length, Option, Some, None, Err, refl, sym, ap, ◌∙◌, append_assoc, inl, inr}
use Rattle.std.specs.Option.{option_map}
use Rattle.std.proofs.lemmas.Bool.{lt-leb, le-leb, cases_lt}
use Rattle.std.proofs.lemmas.List.{append-nil}
use Rattle.sdb_base.specs.declared.Change.{Change}
use Rattle.sdb_script.specs.Grammar.{each_change, changes_of}
use Rattle.sdb_script.specs.inner.Reading.{IsParsed}
use Rattle.sdb_script.specs.Words.{change_of}
use Rattle.sdb_script.specs.declared.line.LineFault.{LineFault}
use Rattle.sdb_script.specs.declared.line.LineFault.TheVariants.{NotInGrammar, OutOfMemory}

-- changes in front of those that are given
abbrev pub with_front : List Change → Option (List Change) → Option (List Change)
with_front front given = option_map (λ cs. front ++ cs) given

regroup : (front : List Change) (c : Change) (given : Option (List Change)) → with_front front (option_map (λ cs. c ∷ cs) given) ≡ with_front (front ++ c ∷ []) given
regroup front c None = refl
regroup front c (Some cs) = ap (λ (x : List Change). Some x) (simp append_assoc)

pub goes_on : (front : List Change) (w : List ℕ) (ws left : List (List ℕ)) (c : Change) (total : Option (List Change)) → left ≡ w ∷ ws → change_of w ≡ Some c → with_front front (each_change left) ≡ total
    → with_front (front ++ c ∷ []) (each_change ws) ≡ total
unfolding each_change
goes_on front w ws left c total l h same =
    let one : with_front front (each_change (w ∷ ws)) ≡ with_front (front ++ c ∷ []) (each_change ws) = rw h (regroup front c (each_change ws)) in
    sym one ∙ ap (λ x. with_front front (each_change x)) (sym l) ∙ same

no_changes : (words : List (List ℕ)) → each_change words ≡ None → changes_of words ≡ None
unfolding changes_of
no_changes words e = rw e (elim (cases_lt 65536 (length words)) [
  | inl lt ↦ rw (lt-leb (length words) 65536 lt) refl
  | inr le ↦ rw (le-leb (length words) 65536 le) refl
])

pub bad_change : (front : List Change) (w : List ℕ) (ws left words : List (List ℕ)) → left ≡ w ∷ ws → change_of w ≡ None → with_front front (each_change left) ≡ each_change words → changes_of words ≡ None
unfolding each_change
bad_change front w ws left words l h same =
    let one : with_front front (each_change (w ∷ ws)) ≡ None = rw h refl in
    no_changes words (sym same ∙ ap (λ x. with_front front (each_change x)) l ∙ one)

pub too_many : (words : List (List ℕ)) → 65536 < length words → changes_of words ≡ None
unfolding changes_of
too_many words lt = rw (lt-leb (length words) 65536 lt) refl

pub all_changes : (front : List Change) (left words : List (List ℕ)) → left ≡ [] → length words ≤ 65536 → with_front front (each_change left) ≡ each_change words → changes_of words ≡ Some front
unfolding each_change changes_of
all_changes front left words l le same =
    let one : with_front front (each_change []) ≡ Some front = ap (λ (x : List Change). Some x) (append-nil front) in
    rw (le-leb (length words) 65536 le) (sym same ∙ ap (λ x. with_front front (each_change x)) l ∙ one)

-- the fault of a word is the fault of all words
pub word_fault : (e : LineFault) (front : List Change) (w : List ℕ) (ws left words : List (List ℕ)) → left ≡ w ∷ ws → IsParsed {X = Change} (Err e) (change_of w) → with_front front (each_change left) ≡ each_change words
    → IsParsed {X = List Change} (Err e) (changes_of words)
word_fault OutOfMemory front w ws left words l h same = tt
word_fault NotInGrammar front w ws left words l h same = bad_change front w ws left words l h same
