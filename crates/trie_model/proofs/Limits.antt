-- Changes within the limits keep a state within them.
use Rattle.std.proofs.Common.{◌≡◌, ℕ, List, [], ◌∷◌, All, Bool, true, false, cond, Option, Some, None, refl, sym, subst, ◌∙◌}
use Rattle.std.specs.FinMap.{get}
use Rattle.std.specs.Prelude.{◌≤◌, length, IfSome}
use Rattle.std.specs.Str.{bytes_eq}
use Rattle.std.proofs.lemmas.List.Elements.{All-head, All-tail}
use Rattle.std.proofs.lemmas.Slice.Eq.{bytes_eq-Decides}
use Rattle.sdb_base.specs.declared.Change.{Change}
use Rattle.trie_model.specs.Limits.{AreWithin, ChangeIsWithin, StateIsWithin, most_in_key, most_in_value}
use Rattle.trie_model.specs.State.{State, apply, no_keys, with_key}
use Rattle.trie_model.proofs.States.{get-no_keys, get-with_key}

pub empty_is_within : StateIsWithin no_keys
empty_is_within key value e = let none : None ≡ Some value = sym (get-no_keys key) ∙ e in absurd cc

short_value : (value : Option (List ℕ)) (v : List ℕ) → IfSome value (λ x. length x ≤ most_in_value) → value ≡ Some v → length v ≤ most_in_value
short_value None v h e = absurd cc
short_value (Some x) v h e = let same : x ≡ v = cc in subst (λ (y : List ℕ). length y ≤ most_in_value) same h

one_change : (m : State) (c : Change) → StateIsWithin m → ChangeIsWithin c → StateIsWithin (with_key m c.key c.value)
one_change m c h w key value e = by_test (bytes_eq c.key key) refl
  where
    found : cond (bytes_eq c.key key) c.value (get m key) ≡ Some value
    found = sym (get-with_key m c.key key c.value) ∙ e

    by_test : (t : Bool) → bytes_eq c.key key ≡ t → AreWithin key value
    by_test true is =
        let same : c.key ≡ key = (bytes_eq-Decides c.key key).0 is in
        let here : c.value ≡ Some value = rw is at found in
        record {
          short_key = subst (λ (k : List ℕ). length k ≤ most_in_key) same w.short_key;
          short_value = short_value c.value value w.short_value here;
        }
    by_test false is = let there : get m key ≡ Some value = rw is at found in h key value there

pub within_after : (cs : List Change) (m : State) → StateIsWithin m → All ChangeIsWithin cs → StateIsWithin (apply m cs)
within_after [] m h w = h
within_after (c ∷ cs) m h w =
    within_after cs (with_key m c.key c.value) (one_change m c h (All-head ChangeIsWithin c cs w)) (All-tail ChangeIsWithin c cs w)
