-- A change that a later one of its key follows can be left out.
use Rattle.std.proofs.Common.{◌≡◌, ℕ, Bool, true, false, cond, List, [], ◌∷◌, ◌++◌, refl, ap, sym, subst, ◌∙◌, inl, inr}
use Rattle.std.specs.Prelude.{Contains}
use Rattle.std.specs.FinMap.{get}
use Rattle.std.specs.Str.{bytes_eq}
use Rattle.std.proofs.lemmas.Slice.Eq.{bytes_eq-Decides}
use Rattle.sdb_base.specs.declared.Change.{Change}
use Rattle.trie_model.specs.State.{State, apply, with_key}
use Rattle.trie_model.proofs.States.{apply-append, get-with_key}
use Rattle.trie_read.proofs.Among.{Among, among_from}
use Rattle.trie_change.specs.ChangedKeys.{keys_in_changes}
use Rattle.trie_change.proofs.Idle.{same_by_values}

alike_after : (cs : List Change) (m n : State) (q : List ℕ) → get m q ≡ get n q → get (apply m cs) q ≡ get (apply n cs) q
alike_after [] m n q e = e
alike_after (c ∷ cs) m n q e =
    alike_after cs (with_key m c.key c.value) (with_key n c.key c.value) q
    (get-with_key m c.key q c.value ∙ ap (cond (bytes_eq c.key q) c.value) e ∙ sym (get-with_key n c.key q c.value))

set_here : (m : State) (c : Change) (q : List ℕ) → c.key ≡ q → get (with_key m c.key c.value) q ≡ c.value
set_here m c q e = get-with_key m c.key q c.value ∙ ap (λ b. cond b c.value (get m q)) ((bytes_eq-Decides c.key q).1 e)

named_after : (cs : List Change) (m n : State) (q : List ℕ) → Among q (keys_in_changes cs) → get (apply m cs) q ≡ get (apply n cs) q
named_after [] m n q a = absurd a
named_after (c ∷ cs) m n q (inl e) =
    alike_after cs (with_key m c.key c.value) (with_key n c.key c.value) q (set_here m c q e ∙ sym (set_here n c q e))
named_after (c ∷ cs) m n q (inr a) = named_after cs (with_key m c.key c.value) (with_key n c.key c.value) q a

superseded : (m : State) (after : List Change) (c : Change) → Among c.key (keys_in_changes after) → apply (with_key m c.key c.value) after ≡ apply m after
superseded m after c a = same_by_values (apply (with_key m c.key c.value) after) (apply m after) (λ q. by_test q (bytes_eq c.key q) refl)
  where
    by_test : (q : List ℕ) (b : Bool) → bytes_eq c.key q ≡ b → get (apply (with_key m c.key c.value) after) q ≡ get (apply m after) q
    by_test q true e =
        named_after after (with_key m c.key c.value) m q (subst (λ (k : List ℕ). Among k (keys_in_changes after)) ((bytes_eq-Decides c.key q).0 e) a)
    by_test q false e =
        alike_after after (with_key m c.key c.value) m q (get-with_key m c.key q c.value ∙ ap (λ b. cond b c.value (get m q)) e)

pub left_out : (m : State) (before after : List Change) (c : Change) → Contains (keys_in_changes after) c.key
    → apply m (before ++ c ∷ after) ≡ apply m (before ++ after)
left_out m before after c h =
    apply-append m before (c ∷ after) ∙ superseded (apply m before) after c (among_from c.key (keys_in_changes after) h) ∙ sym (apply-append m before after)
