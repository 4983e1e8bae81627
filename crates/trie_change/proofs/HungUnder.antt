-- Where a stub hangs, all nodes under it hang, and none of them is to be fetched.
use Rattle.std.proofs.Common.{◌≡◌, ℕ, Bool, true, false, List, [], ◌∷◌, ◌++◌, refl, ap, subst, sym, ◌∙◌, inl, inr, arith, append_assoc}
use Rattle.std.specs.Prelude.{◌&&◌, filter, not}
use Rattle.std.specs.List.{AllByRecursion}
use Rattle.std.proofs.lemmas.List.{append-nil}
use Rattle.trie_model.specs.Fetches.{is_changed, is_unhung}
use Rattle.trie_model.specs.Nodes.{PathNode, all_over, has_path, is_stored, nodes_over}
use Rattle.trie_model.specs.Trie.{Suffix, below, common_prefix, levels_of}
use Rattle.trie_root.proofs.Prefixes.{below-append}
use Rattle.trie_root.proofs.ShapesBytes.{all_joined}
use Rattle.trie_read.specs.Paths.{AreNibbles, Hangs}
use Rattle.trie_read.proofs.Among.{Among, among_kept}
use Rattle.trie_read.proofs.Hanging.{Hung, hung_from}
use Rattle.trie_read.proofs.Stored.{among_hung, is_hung}
use Rattle.trie_change.specs.Frontier.{IsHanging, path_node_at}
use Rattle.trie_change.specs.Item.{Item}
use Rattle.trie_change.specs.Item as item
use Rattle.trie_change.specs.declared.frontier.Stub.{Stub}
use Rattle.trie_change.specs.inner.Stages.{all_under, stored_under}
use Rattle.trie_change.proofs.Found.{has_its_path, path_found}
use Rattle.trie_change.proofs.OffWay.{none_pass}

pub hangs_on : (ss : List Suffix) (p r : List ℕ) → Hangs ss p → Hangs (below p ss) r → Hangs ss (p ++ r)
hangs_on ss p r h (inl root) = subst (Hangs ss) (sym (ap (λ (x : List ℕ). p ++ x) root ∙ append-nil p)) h
hangs_on ss p r h (inr k) = inr (
  p ++ k.0,
  k.1,
  ap (λ (x : List ℕ). p ++ x) k.2 ∙ sym (append_assoc p k.0 (k.1 ∷ [])),
  ap common_prefix (below-append p k.0 ss) ∙ k.3,
  λ z. k.4 (sym (below-append p r ss) ∙ z),
)

pub path_is_there : (ss : List Suffix) (p : List ℕ) → AreNibbles ss → Hangs ss p → has_path (all_over ss) p ≡ true
path_is_there ss p a h = has_its_path (all_over ss) (path_node_at ss p) (among_hung ss (path_node_at ss p) a (record { path = h; bytes = refl }))

pub path_not_there : (ss : List Suffix) (p : List ℕ) → (Hangs ss p → ⊥) → has_path (all_over ss) p ≡ false
path_not_there ss p none = by_test (has_path (all_over ss) p) refl
  where
    by_test : (b : Bool) → has_path (all_over ss) p ≡ b → b ≡ false
    by_test false e = refl
    by_test true e =
        let o : (o : PathNode) × (o.path ≡ p) × Among o (all_over ss) = path_found (all_over ss) p e in
        absurd (none (subst (Hangs ss) o.1 (is_hung ss o.0 o.2).path))

pub each_of : (test : PathNode → Bool) (ns : List PathNode) → ((n : PathNode) → Among n ns → test n ≡ false) → AllByRecursion (λ (n : PathNode). test n ≡ false) ns
each_of test [] f = tt
each_of test (n ∷ ns) f = (f n (inl refl), each_of test ns (λ m a. f m (inr a)))

module _ (ss : List Suffix) (nibbles : AreNibbles ss) where
  there_too : (s : Stub) → Hangs ss s.path.items → (n : PathNode) → Among n (stored_under ss (item.Stub s)) → has_path (all_over ss) n.path ≡ true
  there_too s h n a =
      let p : List ℕ = s.path.items in
      let k : Among n (nodes_over (levels_of (below p ss)) p (below p ss)) = (among_kept n is_stored (nodes_over (levels_of (below p ss)) p (below p ss)) a).0 in
      let hung : Hung p (below p ss) n = hung_from (levels_of (below p ss)) p (below p ss) n (omega arith) k in
      path_is_there ss n.path nibbles (subst (Hangs ss) (sym hung.path) (hangs_on ss p hung.rest h hung.hangs))

  hung_off : (keys : List (List ℕ)) (n : PathNode) → has_path (all_over ss) n.path ≡ true → is_unhung (all_over ss) keys n ≡ false
  hung_off keys n e = ap (λ b. not (is_changed keys n) && not b) e ∙ and_false (not (is_changed keys n))
    where
      and_false : (b : Bool) → (b && false) ≡ false
      and_false true = refl
      and_false false = refl

  one_hung : (keys : List (List ℕ)) (i : Item) → IsHanging ss i → AllByRecursion (λ (n : PathNode). is_unhung (all_over ss) keys n ≡ false) (stored_under ss i)
  one_hung keys (item.Entry e) h = tt
  one_hung keys (item.Stub s) h =
      each_of (is_unhung (all_over ss) keys) (stored_under ss (item.Stub s)) (λ n a. hung_off keys n (there_too s h n a))

  all_hung : (keys : List (List ℕ)) (items : List Item) → AllByRecursion (IsHanging ss) items
      → AllByRecursion (λ (n : PathNode). is_unhung (all_over ss) keys n ≡ false) (all_under ss items)
  all_hung keys [] a = tt
  all_hung keys (i ∷ items) a =
      all_joined (λ (n : PathNode). is_unhung (all_over ss) keys n ≡ false) (stored_under ss i) (all_under ss items) (one_hung keys i a.0) (all_hung keys items a.1)

  pub hung_none : (keys : List (List ℕ)) (items : List Item) → AllByRecursion (IsHanging ss) items → filter (is_unhung (all_over ss) keys) (all_under ss items) ≡ []
  hung_none keys items a = none_pass (is_unhung (all_over ss) keys) (all_under ss items) (all_hung keys items a)
