-- One setting after the other is merged into the items.
use Rattle.std.proofs.Common.{◌≡◌, ℕ, List, [], ◌∷◌, ◌++◌, length, reverse, refl, ap, subst, sym, ◌∙◌, arith, append_assoc}
use Rattle.std.proofs.lemmas.List.{reverse-append}
use Rattle.trie_change.specs.Item.{Item}
use Rattle.trie_change.specs.declared.settings.Setting.{Setting}
use Rattle.trie_change.specs.inner.Merged.{IsBelowKey, IsMerged, IsMovedDown, comes_in, no_more_set, nothing_left, set_item}

pub one_set : (s : Setting) (key : List ℕ) (settings less : List Setting) (found later found2 later2 later3 rest : List Item) → s.path.items ≡ key
    → settings ≡ less ++ s ∷ [] → IsMovedDown key found later found2 later2 → IsBelowKey s (reverse found2) → later3 ≡ later2 ++ set_item s s.value
    → IsMerged (reverse found2) (reverse less) rest
    → (merged : List Item) × (later3 ++ rest ≡ later ++ merged) × IsMerged (reverse found) (reverse settings) merged
one_set s key settings less found later found2 later2 later3 rest at e d below is m = (
  d.moved ++ (set_item s s.value ++ rest),
  ap (λ (xs : List Item). xs ++ rest) (is ∙ ap (λ (xs : List Item). xs ++ set_item s s.value) d.later_is)
      ∙ ap (λ (xs : List Item). xs ++ rest) (append_assoc later d.moved (set_item s s.value))
      ∙ append_assoc later (d.moved ++ set_item s s.value) rest
      ∙ ap (λ (xs : List Item). later ++ xs) (append_assoc d.moved (set_item s s.value) rest),
  subst (λ (ss : List Setting). IsMerged (reverse found) ss (d.moved ++ (set_item s s.value ++ rest)))
      (sym (ap reverse e ∙ reverse-append less (s ∷ [])))
      (d.merges s (reverse less) (set_item s s.value ++ rest) at (comes_in (reverse found2) s (reverse less) rest below m)),
)

pub no_items : {X : Type 0} (xs : List X) → length xs ≡ 0 → xs ≡ []
no_items [] e = refl
no_items (x ∷ xs) e = absurd (omega arith)

only_items : (items : List Item) → IsMerged items [] items
only_items [] = nothing_left
only_items (i ∷ items) = no_more_set i items items (only_items items)

-- where nothing more is set, the items that are left stay
pub all_set : (found all : List Item) (settings whole : List Setting) (later last : List Item) → settings ≡ [] → last ≡ later ++ reverse found
    → ((rest : List Item) → IsMerged (reverse found) (reverse settings) rest → IsMerged (reverse all) (reverse whole) (later ++ rest))
    → IsMerged (reverse all) (reverse whole) last
all_set found all settings whole later last none is merges =
    subst (λ (xs : List Item). IsMerged (reverse all) (reverse whole) xs) (sym is)
    (merges (reverse found) (subst (λ (ss : List Setting). IsMerged (reverse found) (reverse ss) (reverse found)) (sym none) (only_items (reverse found))))
