-- The values of keys after changes: of those that no change names, and of those that a change is the last to name.
use Rattle.std.proofs.Common.{◌≡◌, ℕ, Bool, true, false, cond, List, [], ◌∷◌, ◌++◌, refl, ap, ◌∙◌, inl, inr}
use Rattle.std.specs.FinMap.{get}
use Rattle.std.specs.Str.{bytes_eq}
use Rattle.std.proofs.lemmas.Slice.Eq.{bytes_eq-Decides}
use Rattle.sdb_base.specs.declared.Change.{Change}
use Rattle.trie_model.specs.State.{State, apply, with_key}
use Rattle.trie_model.proofs.States.{apply-append, get-with_key}
use Rattle.trie_read.proofs.Among.{Among}
use Rattle.trie_change.specs.ChangedKeys.{keys_in_changes}

pub false_from : (b : Bool) → (b ≡ true → ⊥) → b ≡ false
false_from true h = absurd (h refl)
false_from false h = refl

pub value_unnamed : (cs : List Change) (m : State) (key : List ℕ) → (Among key (keys_in_changes cs) → ⊥) → get (apply m cs) key ≡ get m key
value_unnamed [] m key none = refl
value_unnamed (c ∷ cs) m key none =
    value_unnamed cs (with_key m c.key c.value) key (λ a. none (inr a)) ∙ get-with_key m c.key key c.value
    ∙ ap (λ b. cond b c.value (get m key)) (false_from (bytes_eq c.key key) (λ e. none (inl ((bytes_eq-Decides c.key key).0 e))))

pub value_named_last : (m : State) (before after : List Change) (c : Change) → (Among c.key (keys_in_changes after) → ⊥)
    → get (apply m (before ++ c ∷ after)) c.key ≡ c.value
value_named_last m before after c none =
    ap (λ (n : State). get n c.key) (apply-append m before (c ∷ after))
    ∙ value_unnamed after (with_key (apply m before) c.key c.value) c.key none
    ∙ get-with_key (apply m before) c.key c.key c.value
    ∙ ap (λ b. cond b c.value (get (apply m before) c.key)) ((bytes_eq-Decides c.key c.key).1 refl)
