-- The wanted node is fed, and what it has takes its place.
use Rattle.std.proofs.Common.{◌≡◌, ℕ, false, List, [], ◌∷◌, ◌++◌, ◌⊎◌, length, length-append, ap, subst, sym, ◌∙◌, inl, inr, arith}
use Rattle.std.specs.Prelude.{IsPermutation, Ok, filter}
use Rattle.std.specs.List.{AllByRecursion, list_any}
use Rattle.std.proofs.lemmas.List.{map-append}
use Rattle.std.proofs.lemmas.List.Concat.{flat_map-append}
use Rattle.std.proofs.lemmas.List.Sorted.{IsPermutation-cons, IsPermutation-sym, IsPermutation-to_front, IsPermutation-trans}
use Rattle.sdb_base.specs.declared.Change.{Change}
use Rattle.sdb_base.specs.declared.node.NodeHash.{NodeHash}
use Rattle.sdb_blake2.specs.Blake2b.{H}
use Rattle.trie_model.specs.Fetches.{for_change}
use Rattle.trie_model.specs.Node.{Node}
use Rattle.trie_model.specs.Nodes.{PathNode, all_nodes, is_stored, stored_nodes}
use Rattle.trie_model.specs.State.{State, apply}
use Rattle.trie_model.specs.Trie.{Suffix, suffixes_of}
use Rattle.trie_codec.specs.Reading.{node_of_bytes}
use Rattle.trie_root.proofs.ShapesBytes.{all_joined}
use Rattle.trie_read.proofs.Followed.{tail_alike}
use Rattle.trie_read.proofs.Hanging.{alike}
use Rattle.trie_read.proofs.OneFed.{all_split, head_alike}
use Rattle.trie_read.proofs.Rising.{all_weaker}
use Rattle.trie_read.proofs.Sound.{Sound}
use Rattle.trie_change.specs.ChangedKeys.{keys_in_changes}
use Rattle.trie_change.specs.Frontier.{IsItem, IsStub, is_at_stub, is_under, path_node_at}
use Rattle.trie_change.specs.declared.frontier.Fed.{Fed}
use Rattle.trie_change.specs.Item.{Item}
use Rattle.trie_change.specs.Item as item
use Rattle.trie_change.specs.declared.frontier.Stub.{Stub}
use Rattle.trie_change.specs.inner.InOrder.{IsBelowRoot}
use Rattle.trie_change.specs.inner.Known.{all_known, known_in}
use Rattle.trie_change.specs.inner.Settled.{fed_nodes}
use Rattle.trie_change.specs.inner.Stages.{IsHeld, IsSplit, all_under, stored_under}
use Rattle.trie_change.proofs.CarriedStep.{no_items}
use Rattle.trie_change.proofs.ItemsKnown.{items_below_root}
use Rattle.trie_change.proofs.Opened.{IsOpen, deeper, frontier_opened, itself_apart, stays_apart, under_after, under_before}
use Rattle.trie_change.proofs.Split.{IsMoved, one_moved}

-- the items below the root, once one of them was opened
below_root : (found rest items : List Item) (s : Stub) → (length (found ++ (item.Stub s ∷ rest)) ≡ 1) ⊎ AllByRecursion IsBelowRoot (found ++ (item.Stub s ∷ rest))
    → AllByRecursion IsBelowRoot items → AllByRecursion IsBelowRoot (found ++ (items ++ rest))
below_root found rest items s (inl one) all =
    let none : (found ≡ []) × (rest ≡ []) = (no_items found (omega (arith, length-append found (item.Stub s ∷ rest))), no_items rest (omega (arith, length-append found (item.Stub s ∷ rest)))) in
    all_joined IsBelowRoot found (items ++ rest) (subst (AllByRecursion IsBelowRoot) (sym none.0) tt)
    (all_joined IsBelowRoot items rest all (subst (AllByRecursion IsBelowRoot) (sym none.1) tt))
below_root found rest items s (inr whole) all =
    let split : AllByRecursion IsBelowRoot found × AllByRecursion IsBelowRoot (item.Stub s ∷ rest) = all_split IsBelowRoot found (item.Stub s ∷ rest) whole in
    all_joined IsBelowRoot found (items ++ rest) split.0 (all_joined IsBelowRoot items rest all split.1.1)

-- one more was fed
one_more : (left : List PathNode) (n : PathNode) (fed : List Fed) (f : Fed) (ls : List PathNode) → IsPermutation left (n ∷ ls) → IsPermutation ls (fed_nodes fed)
    → n ≡ record { path = f.path.items; bytes = f.bytes } → IsPermutation left (fed_nodes (fed ++ f ∷ []))
one_more left n fed f ls a b e =
    let last : PathNode = record { path = f.path.items; bytes = f.bytes } in
    subst (λ (ns : List PathNode). IsPermutation left ns) (sym (map-append (λ (g : Fed). let x : PathNode = record { path = g.path.items; bytes = g.bytes } in x) fed (f ∷ [])))
    (IsPermutation-trans left (n ∷ ls) (fed_nodes fed ++ last ∷ []) a
    (IsPermutation-trans (n ∷ ls) (n ∷ fed_nodes fed) (fed_nodes fed ++ last ∷ []) (IsPermutation-cons n ls (fed_nodes fed) b)
    (IsPermutation-sym (fed_nodes fed ++ last ∷ []) (n ∷ fed_nodes fed)
    (subst (λ (x : PathNode). IsPermutation (fed_nodes fed ++ last ∷ []) (x ∷ fed_nodes fed)) (sym e) (IsPermutation-to_front (fed_nodes fed) last)))))

-- the node at the stub comes first of those that are to be fed
abbrev pub ComesFirst : List Suffix → State → List Change → List Item → Stub → List PathNode → List Item → Type 0
ComesFirst ss m changes found s below rest =
    for_change (all_under ss found ++ path_node_at ss s.path.items ∷ (below ++ all_under ss rest)) (all_nodes (apply m changes)) (keys_in_changes changes)
    ≡ path_node_at ss s.path.items ∷ for_change (all_under ss found ++ (below ++ all_under ss rest)) (all_nodes (apply m changes)) (keys_in_changes changes)

module _ (now m : State) (changes : List Change) (sound : Sound (suffixes_of now)) (fed : List Fed) (found rest : List Item) (s : Stub) (n : PathNode) (todo : List PathNode)
    (held : IsHeld now m changes fed (found ++ (item.Stub s ∷ rest)) (n ∷ todo)) where
  pub stub_is : IsStub (suffixes_of now) s
  stub_is = (all_split (IsItem (suffixes_of now)) found (item.Stub s ∷ rest) held.frontier.stubs).1.0

  module _ (o : IsOpen (suffixes_of now) s) (first : ComesFirst (suffixes_of now) m changes found s (filter is_stored o.rest) rest) where
    listed : n ∷ todo ≡ path_node_at (suffixes_of now) s.path.items
        ∷ for_change (all_under (suffixes_of now) found ++ (filter is_stored o.rest ++ all_under (suffixes_of now) rest)) (all_nodes (apply m changes)) (keys_in_changes changes)
    listed =
        held.todo_is
        ∙ ap (λ (ns : List PathNode). for_change ns (all_nodes (apply m changes)) (keys_in_changes changes))
        (flat_map-append (stored_under (suffixes_of now)) found (item.Stub s ∷ rest)
        ∙ ap (λ (ns : List PathNode). all_under (suffixes_of now) found ++ (ns ++ all_under (suffixes_of now) rest)) o.under)
        ∙ first

    pub is_first : n ≡ path_node_at (suffixes_of now) s.path.items
    is_first = head_alike n (path_node_at (suffixes_of now) s.path.items) todo _ listed

    pub others : todo ≡ for_change (all_under (suffixes_of now) found ++ (filter is_stored o.rest ++ all_under (suffixes_of now) rest)) (all_nodes (apply m changes)) (keys_in_changes changes)
    others = tail_alike n (path_node_at (suffixes_of now) s.path.items) todo _ listed

    module _ (f : Fed) (items : List Item) (node : Node) (path : f.path.items ≡ s.path.items) (hash : f.hash ≡ s.hash) (bytes : f.bytes ≡ n.bytes)
        (read : node_of_bytes n.bytes ≡ Ok node) (known : all_known items ≡ known_in 33 node s.path.items) where
      its_read : node_of_bytes (path_node_at (suffixes_of now) s.path.items).bytes ≡ Ok node
      its_read = ap (λ (x : PathNode). node_of_bytes x.bytes) (sym is_first) ∙ read

      fed_is : path_node_at (suffixes_of now) s.path.items ≡ record { path = f.path.items; bytes = f.bytes }
      fed_is = alike s.path.items f.path.items (path_node_at (suffixes_of now) s.path.items).bytes f.bytes (sym path) (ap (λ (x : PathNode). x.bytes) (sym is_first) ∙ sym bytes)

      split_off : IsMoved (stored_nodes m) held.left (all_under (suffixes_of now) found ++ (filter is_stored o.rest ++ all_under (suffixes_of now) rest)) (path_node_at (suffixes_of now) s.path.items)
      split_off =
          one_moved (filter is_stored o.rest ++ all_under (suffixes_of now) rest) (path_node_at (suffixes_of now) s.path.items) (all_under (suffixes_of now) found)
          (stored_nodes m) held.left (all_under (suffixes_of now) (found ++ (item.Stub s ∷ rest))) held.split
          (under_before (suffixes_of now) sound s stub_is items node its_read known found rest o)

      all_apart : AllByRecursion (λ (x : PathNode). is_under (found ++ (items ++ rest)) x ≡ false) (fed_nodes (fed ++ f ∷ []))
      all_apart =
          subst (AllByRecursion (λ (x : PathNode). is_under (found ++ (items ++ rest)) x ≡ false))
          (sym (map-append (λ (g : Fed). let x : PathNode = record { path = g.path.items; bytes = g.bytes } in x) fed (f ∷ [])))
          (all_joined (λ (x : PathNode). is_under (found ++ (items ++ rest)) x ≡ false) (fed_nodes fed) (record { path = f.path.items; bytes = f.bytes } ∷ [])
          (all_weaker (λ (x : PathNode). is_under (found ++ (item.Stub s ∷ rest)) x ≡ false) (λ (x : PathNode). is_under (found ++ (items ++ rest)) x ≡ false)
          (stays_apart (suffixes_of now) sound s stub_is items node its_read known found rest) (fed_nodes fed) held.apart) (
            ap (λ (p : List ℕ). list_any (is_at_stub p) (found ++ (items ++ rest))) path
                ∙ itself_apart (suffixes_of now) sound s stub_is items node its_read known found rest held.alone held.frontier,
            tt,
          ))

      pub held_after : IsHeld now m changes (fed ++ f ∷ []) (found ++ (items ++ rest)) todo
      held_after = record {
        frontier = frontier_opened (suffixes_of now) sound s stub_is items node its_read known found rest held.frontier;
        alone = inr (below_root found rest items s held.alone (items_below_root s.path.items items (deeper (suffixes_of now) sound s stub_is items node its_read known)));
        left = split_off.with;
        left_fed = one_more split_off.with (path_node_at (suffixes_of now) s.path.items) fed f held.left split_off.same held.left_fed fed_is;
        split = subst (IsSplit (stored_nodes m) split_off.with) (sym (under_after (suffixes_of now) sound s stub_is items node its_read known found rest o)) split_off.split;
        apart = all_apart;
        hashes = all_joined (λ (g : Fed). g.hash.0 ≡ H g.bytes) fed (f ∷ []) held.hashes
            (ap (λ (h : NodeHash). h.0) hash ∙ stub_is.is_hash ∙ ap (λ (x : PathNode). H x.bytes) fed_is, tt);
        todo_is = others ∙ ap (λ (ns : List PathNode). for_change ns (all_nodes (apply m changes)) (keys_in_changes changes))
            (sym (under_after (suffixes_of now) sound s stub_is items node its_read known found rest o));
      }
