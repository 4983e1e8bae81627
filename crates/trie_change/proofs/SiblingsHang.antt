-- Siblings hang, since two at least go on with the end of the node above them.
use Rattle.std.proofs.Common.{◌≡◌, ℕ, ◌-◌, ◌≤◌, Bool, true, false, List, [], ◌∷◌, ◌++◌, length, reverse, take, Option, Some, refl, ap, ap₂, subst, sym, ◌∙◌, append_assoc, length-append, arith}
use Rattle.std.specs.Prelude.{◌||◌}
use Rattle.std.specs.List.{AllByRecursion, slice_get}
use Rattle.std.proofs.Math.Seq.{take-append_seam}
use Rattle.std.proofs.lemmas.List.{reverse-append, reverse-reverse}
use Rattle.trie_model.specs.Trie.{Suffix}
use Rattle.trie_read.proofs.Sound.{Sound}
use Rattle.trie_change.specs.Frontier.{IsFrontier, IsHanging}
use Rattle.trie_change.specs.Item.{Item}
use Rattle.trie_change.specs.inner.InOrder.{hangs_between, item_goes_on}
use Rattle.trie_change.specs.inner.Pieces.{sibling_item, sibling_items}
use Rattle.trie_change.specs.declared.frontier.Sibling.{Sibling}
use Rattle.trie_change.proofs.HangingBetween.{last_is, the_test}
use Rattle.trie_change.proofs.LongerPaths.{begins_longer}

-- the test of a path, by its front
between_front : (q : List ℕ) (y : ℕ) (before after : Option Item) → hangs_between before (q ++ y ∷ []) after ≡ (item_goes_on q before || item_goes_on q after)
between_front [] y before after = refl
between_front (x ∷ q) y before after =
    let len : length (q ++ y ∷ []) ≡ length (x ∷ q) = omega (arith, length-append q (y ∷ [])) in
    let front : take (length (q ++ y ∷ [])) (x ∷ (q ++ y ∷ [])) ≡ x ∷ q = ap (λ (n : ℕ). take n (x ∷ (q ++ y ∷ []))) len ∙ take-append_seam (x ∷ q) (y ∷ []) in
    ap (λ (r : List ℕ). item_goes_on r before || item_goes_on r after) front

goes_on_end : (end : List ℕ) (s : Sibling) → item_goes_on end (Some (sibling_item end s)) ≡ true
goes_on_end end s = begins_longer end (s.nibble ∷ []) (end ++ s.nibble ∷ []) refl

either_left : (a b : Bool) → a ≡ true → (a || b) ≡ true
either_left a b e = ap (λ c. c || b) e

either_right : (a b : Bool) → b ≡ true → (a || b) ≡ true
either_right true b e = refl
either_right false b e = e

module _ (ss : List Suffix) (sound : Sound ss) (end : List ℕ) where
  -- one after an item that goes on with the end, or before one that does
  one_hangs : (found : List Item) (s : Sibling) (tail : List Item) (before after : Option Item) → slice_get found (length found - 1) ≡ before → slice_get tail 0 ≡ after
      → (item_goes_on end before || item_goes_on end after) ≡ true → IsFrontier ss (found ++ (sibling_item end s ∷ tail)) → IsHanging ss (sibling_item end s)
  one_hangs found s tail before after last first e f =
      (the_test ss sound found (reverse tail) (record { path = record { items = end ++ s.nibble ∷ []; capacity = 0 }; hash = s.hash })
      (subst (λ (is : List Item). IsFrontier ss (found ++ (sibling_item end s ∷ is))) (sym (reverse-reverse tail)) f)).0
      (between_front end s.nibble _ _
      ∙ ap₂ (λ (o n : Option Item). item_goes_on end o || item_goes_on end n) last (first_of tail ∙ first) ∙ e)
    where
      first_of : (is : List Item) → slice_get (reverse is) (length (reverse is) - 1) ≡ slice_get is 0
      first_of [] = refl
      first_of (i ∷ is) = last_is (reverse (i ∷ is)) (reverse is) i (reverse-append (i ∷ []) is)

  all_after : (found : List Item) (i : Item) → item_goes_on end (Some i) ≡ true → (nodes : List Sibling) (tail : List Item)
      → IsFrontier ss ((found ++ i ∷ []) ++ (sibling_items end nodes ++ tail)) → AllByRecursion (IsHanging ss) (sibling_items end nodes)
  all_after found i g [] tail f = tt
  all_after found i g (s ∷ nodes) tail f = (
    one_hangs (found ++ i ∷ []) s (sibling_items end nodes ++ tail) (Some i) _ (last_is (found ++ i ∷ []) found i refl) refl
        (either_left (item_goes_on end (Some i)) _ g) f,
    all_after (found ++ i ∷ []) (sibling_item end s) (goes_on_end end s) nodes tail
        (subst (IsFrontier ss) (sym (append_assoc (found ++ i ∷ []) (sibling_item end s ∷ []) (sibling_items end nodes ++ tail))) f),
  )

  pub siblings_hang : (found : List Item) (nodes : List Sibling) (tail : List Item) → 2 ≤ length nodes → IsFrontier ss (found ++ (sibling_items end nodes ++ tail))
      → AllByRecursion (IsHanging ss) (sibling_items end nodes)
  siblings_hang found [] tail two f = tt
  siblings_hang found (s ∷ []) tail two f = absurd (omega arith)
  siblings_hang found (s ∷ t ∷ nodes) tail two f = (
    one_hangs found s (sibling_items end (t ∷ nodes) ++ tail) _ (Some (sibling_item end t)) refl refl (either_right _ _ (goes_on_end end t)) f,
    all_after found (sibling_item end s) (goes_on_end end s) (t ∷ nodes) tail
        (subst (IsFrontier ss) (sym (append_assoc found (sibling_item end s ∷ []) (sibling_items end (t ∷ nodes) ++ tail))) f),
  )
