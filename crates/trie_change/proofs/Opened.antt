-- A stub gives place to what its node has.
use Rattle.std.proofs.Common.{◌≡◌, ℕ, zero, suc, ◌≤◌, Bool, true, false, List, [], ◌∷◌, ◌++◌, refl, ap, ap₂, subst, sym, ◌∙◌, inl, inr, arith, length-append}
use Rattle.std.specs.Prelude.{◌||◌, nat_eq, Ok, filter}
use Rattle.std.specs.List.{AllByRecursion, list_any, starts_with}
use Rattle.std.proofs.lemmas.List.Concat.{flat_map-append}
use Rattle.trie_model.specs.Node.{IsNode, Node}
use Rattle.trie_model.specs.Nodes.{PathNode, is_stored, nodes_over}
use Rattle.trie_model.specs.Trie.{Suffix, below, levels_of, with_prefix}
use Rattle.trie_codec.specs.Reading.{node_of_bytes}
use Rattle.trie_codec.proofs.Spellings.{whole_read}
use Rattle.trie_root.proofs.Levels.{levels_above_none}
use Rattle.trie_root.proofs.ShapesBytes.{all_joined}
use Rattle.trie_read.specs.Paths.{node_at}
use Rattle.trie_read.proofs.Depths.{first_over}
use Rattle.trie_read.proofs.NextStage.{one_of}
use Rattle.trie_read.proofs.OneFed.{all_split}
use Rattle.trie_read.proofs.Sound.{Sound, node_sound, sound_below}
use Rattle.trie_change.specs.Frontier.{IsFrontier, IsItem, IsStub, is_at_stub, is_under, path_node_at, suffixes_for}
use Rattle.trie_change.specs.Item.{Item}
use Rattle.trie_change.specs.Item as item
use Rattle.trie_change.specs.declared.frontier.Stub.{Stub}
use Rattle.trie_change.specs.inner.InOrder.{IsBelowRoot, RootIsAlone}
use Rattle.trie_change.specs.inner.Known.{all_known, known_in}
use Rattle.trie_change.specs.inner.Stages.{all_under, stored_under}
use Rattle.trie_change.proofs.CarriedStep.{no_items}
use Rattle.trie_change.proofs.Disjoint.{none_around, not_above}
use Rattle.trie_change.proofs.HangingBetween.{neither_true}
use Rattle.trie_change.proofs.ItemsKnown.{items_for, items_sound, items_under, itself_all, off_all}
use Rattle.trie_change.proofs.KnownDeeper.{IsDeeper, all_deeper}
use Rattle.trie_change.proofs.Neighbours.{all_for}
use Rattle.trie_change.proofs.Split.{kept_one}
use Rattle.trie_change.proofs.UnfoldedNode.{unfolded}
use Rattle.trie_change.proofs.Unfolds.{Unfolds, unfold_as}

-- ---- tests of lists

pub none_joined : {X : Type 0} (test : X → Bool) (xs ys : List X) → list_any test xs ≡ false → list_any test ys ≡ false → list_any test (xs ++ ys) ≡ false
none_joined test [] ys e f = f
none_joined test (x ∷ xs) ys e f =
    let parts : (test x ≡ false) × (list_any test xs ≡ false) = neither_true (test x) (list_any test xs) e in
    ap₂ (λ b c. b || c) parts.0 (none_joined test xs ys parts.1 f)

pub none_parts : {X : Type 0} (test : X → Bool) (xs ys : List X) → list_any test (xs ++ ys) ≡ false → (list_any test xs ≡ false) × (list_any test ys ≡ false)
none_parts test [] ys e = (refl, e)
none_parts test (x ∷ xs) ys e =
    let parts : (test x ≡ false) × (list_any test (xs ++ ys) ≡ false) = neither_true (test x) (list_any test (xs ++ ys)) e in
    let more : (list_any test xs ≡ false) × (list_any test ys ≡ false) = none_parts test xs ys parts.1 in
    (ap₂ (λ b c. b || c) parts.0 more.0, more.1)

-- ---- the node at a stub, and the stored ones below it

first_of : (k : ℕ) (ss : List Suffix) (p : List ℕ) → levels_of (below p ss) ≤ k → (t : List PathNode) × (nodes_over k p (below p ss) ≡ path_node_at ss p ∷ t)
first_of zero ss p fits = absurd (omega (arith, levels_above_none (below p ss)))
first_of (suc d) ss p fits = (_, first_over d ss p fits)

pub record IsOpen (ss : List Suffix) (s : Stub) : Type 0 where
  pub rest : List PathNode
  pub first : nodes_over (levels_of (below s.path.items ss)) s.path.items (below s.path.items ss) ≡ path_node_at ss s.path.items ∷ rest
  pub under : stored_under ss (item.Stub s) ≡ path_node_at ss s.path.items ∷ filter is_stored rest

pub opened : (ss : List Suffix) (s : Stub) → IsStub ss s → IsOpen ss s
opened ss s is =
    let one : (t : List PathNode) × (nodes_over (levels_of (below s.path.items ss)) s.path.items (below s.path.items ss) ≡ path_node_at ss s.path.items ∷ t) =
    first_of (levels_of (below s.path.items ss)) ss s.path.items (omega arith) in
    record { rest = one.0; first = one.1; under = ap (filter is_stored) one.1 ∙ kept_one is_stored (path_node_at ss s.path.items) one.0 is.stored }

module _ (ss : List Suffix) (sound : Sound ss) (s : Stub) (is : IsStub ss s) (items : List Item) (node : Node)
    (read : node_of_bytes (path_node_at ss s.path.items).bytes ≡ Ok node) (known : all_known items ≡ known_in 33 node s.path.items) where
  pub unfolds : (o : IsOpen ss s) → Unfolds ss (all_known items) (with_prefix s.path.items (below s.path.items ss)) (filter is_stored o.rest)
  unfolds o =
      let p : List ℕ = s.path.items in
      let us : List Suffix = below p ss in
      let whole : IsNode (node_at ss p) = node_sound us (sound_below p ss sound) in
      let same : node ≡ node_at ss p = one_of node (node_at ss p) (sym read ∙ whole_read (node_at ss p) whole) in
      unfold_as (known_in 33 (node_at ss p) p) (all_known items) (with_prefix p us) (with_prefix p us) (filter is_stored o.rest) (filter is_stored o.rest)
      (ap (λ (x : Node). known_in 33 x p) (sym same) ∙ sym known) refl refl
      (unfolded ss 33 (levels_of us) sound p (omega arith) (omega arith) whole o.rest o.first)

  pub deeper : AllByRecursion (IsDeeper s.path.items) (all_known items)
  deeper = subst (AllByRecursion (IsDeeper s.path.items)) (sym known) (all_deeper 33 node s.path.items)

  module _ (found rest : List Item) where
    pub frontier_opened : IsFrontier ss (found ++ (item.Stub s ∷ rest)) → IsFrontier ss (found ++ (items ++ rest))
    frontier_opened f =
        let o : IsOpen ss s = opened ss s is in
        let u : Unfolds ss (all_known items) (with_prefix s.path.items (below s.path.items ss)) (filter is_stored o.rest) = unfolds o in
        let split : AllByRecursion (IsItem ss) found × AllByRecursion (IsItem ss) (item.Stub s ∷ rest) = all_split (IsItem ss) found (item.Stub s ∷ rest) f.stubs in
        let here : all_for ss items ≡ suffixes_for ss (item.Stub s) = sym (items_for ss items) ∙ u.whole in
        record {
          stubs = all_joined (IsItem ss) found (items ++ rest) split.0 (all_joined (IsItem ss) items rest (items_sound ss items u.sound) split.1.1);
          whole = flat_map-append (suffixes_for ss) found (items ++ rest) ∙ ap (λ (xs : List Suffix). all_for ss found ++ xs) (flat_map-append (suffixes_for ss) items rest)
              ∙ ap (λ (xs : List Suffix). all_for ss found ++ (xs ++ all_for ss rest)) here
              ∙ sym (flat_map-append (suffixes_for ss) found (item.Stub s ∷ rest)) ∙ f.whole;
        }

    pub under_before : (o : IsOpen ss s) → all_under ss (found ++ (item.Stub s ∷ rest)) ≡ all_under ss found ++ path_node_at ss s.path.items ∷ (filter is_stored o.rest ++ all_under ss rest)
    under_before o =
        flat_map-append (stored_under ss) found (item.Stub s ∷ rest) ∙ ap (λ (ns : List PathNode). all_under ss found ++ (ns ++ all_under ss rest)) o.under

    pub under_after : (o : IsOpen ss s) → all_under ss (found ++ (items ++ rest)) ≡ all_under ss found ++ (filter is_stored o.rest ++ all_under ss rest)
    under_after o =
        flat_map-append (stored_under ss) found (items ++ rest)
        ∙ ap (λ (ns : List PathNode). all_under ss found ++ ns) (flat_map-append (stored_under ss) items rest
        ∙ ap (λ (ns : List PathNode). ns ++ all_under ss rest) (sym (items_under ss items) ∙ (unfolds o).nodes))

    -- no other stub is at the path or above it
    pub off_others : RootIsAlone (found ++ (item.Stub s ∷ rest)) → IsFrontier ss (found ++ (item.Stub s ∷ rest))
        → (list_any (is_at_stub s.path.items) found ≡ false) × (list_any (is_at_stub s.path.items) rest ≡ false)
    off_others (inl one) f =
        let none : (found ≡ []) × (rest ≡ []) = (no_items found (omega (arith, length-append found (item.Stub s ∷ rest))), no_items rest (omega (arith, length-append found (item.Stub s ∷ rest)))) in
        (ap (list_any (is_at_stub s.path.items)) none.0, ap (list_any (is_at_stub s.path.items)) none.1)
    off_others (inr below_root) f =
        let split : AllByRecursion IsBelowRoot found × AllByRecursion IsBelowRoot (item.Stub s ∷ rest) = all_split IsBelowRoot found (item.Stub s ∷ rest) below_root in
        let some : below s.path.items ss ≡ [] → ⊥ = elim is.some [ inl root ↦ absurd (split.1.0 root) | inr more ↦ more ] in
        let around : (below s.path.items (all_for ss found) ≡ []) × (below s.path.items (all_for ss rest) ≡ []) =
        none_around ss s.path.items (all_for ss found) (all_for ss rest) (sym (flat_map-append (suffixes_for ss) found (item.Stub s ∷ rest)) ∙ f.whole) in
        (not_above ss s.path.items found around.0 some, not_above ss s.path.items rest around.1 some)

    pub itself_apart : RootIsAlone (found ++ (item.Stub s ∷ rest)) → IsFrontier ss (found ++ (item.Stub s ∷ rest)) → list_any (is_at_stub s.path.items) (found ++ (items ++ rest)) ≡ false
    itself_apart alone f =
        let others : (list_any (is_at_stub s.path.items) found ≡ false) × (list_any (is_at_stub s.path.items) rest ≡ false) = off_others alone f in
        none_joined (is_at_stub s.path.items) found (items ++ rest) others.0
        (none_joined (is_at_stub s.path.items) items rest (itself_all s.path.items items deeper) others.1)

    pub stays_apart : (n : PathNode) → is_under (found ++ (item.Stub s ∷ rest)) n ≡ false → is_under (found ++ (items ++ rest)) n ≡ false
    stays_apart n e =
        let one : (list_any (is_at_stub n.path) found ≡ false) × (list_any (is_at_stub n.path) (item.Stub s ∷ rest) ≡ false) =
        none_parts (is_at_stub n.path) found (item.Stub s ∷ rest) e in
        let two : (starts_with nat_eq n.path s.path.items ≡ false) × (list_any (is_at_stub n.path) rest ≡ false) =
        neither_true (starts_with nat_eq n.path s.path.items) (list_any (is_at_stub n.path) rest) one.1 in
        none_joined (is_at_stub n.path) found (items ++ rest) one.0
        (none_joined (is_at_stub n.path) items rest (off_all s.path.items n.path items deeper (λ at. let no : true ≡ false = sym at ∙ two.0 in cc)) two.1)
