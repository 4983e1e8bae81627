-- Below a key that is alone and ends there is nothing.
use Rattle.std.proofs.Common.{◌≡◌, ℕ, List, [], ◌∷◌, ◌++◌, length, map, replicate, drop, Option, None, true, refl, ap, ap₂, subst, sym, ◌∙◌, length-drop, arith}
use Rattle.std.specs.Prelude.{◌==◌, filter}
use Rattle.std.specs.List.{flat_map}
use Rattle.std.proofs.lemmas.List.{append-nil}
use Rattle.trie_model.specs.Nodes.{PathNode, if_any}
use Rattle.trie_model.specs.Trie.{after_prefix, below, child_value, every_nibble, node_of_all}
use Rattle.trie_root.proofs.Prefixes.{below-append}
use Rattle.trie_change.specs.declared.frontier.Entry.{Entry}
use Rattle.trie_change.specs.declared.frontier.Piece.{Piece}
use Rattle.trie_change.specs.declared.diff.Diff.{Diff}
use Rattle.trie_change.specs.Item as item
use Rattle.trie_change.specs.inner.Built.{ItemBranch, is_made, nodes_at, nodes_below, nodes_from, values_below}
use Rattle.trie_change.specs.inner.Diffs.{Comparison, IsComparison, after_nodes}
use Rattle.trie_change.specs.inner.Pieces.{IsKeyAlone, all_items}
use Rattle.trie_change.proofs.ItemSuffixes.{below_with}

pub same_number : (n : ℕ) → (n == n) ≡ true
same_number n = grind arith

-- a path doesn't go on with itself and more
past_itself : (p : List ℕ) (n : ℕ) → after_prefix (p ++ n ∷ []) p ≡ None
past_itself [] n = refl
past_itself (x ∷ p) n = rw (same_number x) (past_itself p n)

no_values : (f : ℕ → Option (List ℕ)) → ((n : ℕ) → f n ≡ None) → (ns : List ℕ) → map f ns ≡ replicate (length ns) None
no_values f none [] = refl
no_values f none (n ∷ ns) = ap₂ (λ (c : Option (List ℕ)) (cs : List (Option (List ℕ))). c ∷ cs) (none n) (no_values f none ns)

no_nodes : (f : ℕ → List PathNode) → ((n : ℕ) → f n ≡ []) → (ns : List ℕ) → flat_map f ns ≡ []
no_nodes f none [] = refl
no_nodes f none (n ∷ ns) = ap₂ (λ (xs ys : List PathNode). xs ++ ys) (none n) (no_nodes f none ns)

module _ (at : ℕ) (e : Entry) (b : ItemBranch at (item.Entry e ∷ [])) (len : length e.path.items ≡ at) where
  abbrev q : List ℕ
  q = b.group.path

  nothing_more : (xs : List ℕ) → length xs ≡ 0 → xs ≡ []
  nothing_more [] z = refl
  nothing_more (x ∷ xs) z = absurd (omega (arith, z))

  at_path : e.path.items ≡ q
  at_path =
      b.group.goes_on.0 ∙ ap (λ (xs : List ℕ). q ++ xs) (nothing_more (drop (length q) e.path.items) (omega (arith, length-drop (length q) e.path.items, len, b.group.place)))
      ∙ append-nil q

  there : below q b.group.suffixes ≡ below q ((q, e.value) ∷ [])
  there =
      sym (below_with q (below q b.group.suffixes)) ∙ ap (below q) (sym b.group.whole) ∙ ap (λ (p : List ℕ). below q ((p, e.value) ∷ [])) at_path

  nothing_below : (n : ℕ) → below (q ++ n ∷ []) b.group.suffixes ≡ []
  nothing_below n =
      below-append q (n ∷ []) b.group.suffixes ∙ ap (below (n ∷ [])) there ∙ sym (below-append q (n ∷ []) ((q, e.value) ∷ []))
      ∙ rw (past_itself q n) refl

  pub none_values : replicate 16 None ≡ values_below b.group.suffixes q
  none_values = sym (no_values (λ n. child_value node_of_all (below (q ++ n ∷ []) b.group.suffixes)) (λ n. ap (child_value node_of_all) (nothing_below n)) every_nibble)

  pub none_nodes : nodes_below b.group.suffixes q ≡ []
  none_nodes = no_nodes (λ n. nodes_at b.group.suffixes (q ++ n ∷ [])) (λ n. ap (if_any (nodes_from (q ++ n ∷ []))) (nothing_below n)) every_nibble

-- no child comes of such a key
pub none_of_key : (at : ℕ) (pieces : List Piece) (d : Diff) → IsKeyAlone at pieces → (b : ItemBranch at (all_items pieces)) (c : Comparison) → IsComparison d c
    → (replicate 16 None ≡ values_below b.group.suffixes b.group.path)
    × IsComparison d (after_nodes c (filter (is_made b.group.under) (nodes_below b.group.suffixes b.group.path)))
none_of_key at pieces d alone =
    subst (λ (ps : List Piece). (b : ItemBranch at (all_items ps)) (c : Comparison) → IsComparison d c
    → (replicate 16 None ≡ values_below b.group.suffixes b.group.path)
    × IsComparison d (after_nodes c (filter (is_made b.group.under) (nodes_below b.group.suffixes b.group.path)))) (sym alone.1)
    (λ b c is. (
      none_values at alone.0 b alone.2,
      subst (λ (ns : List PathNode). IsComparison d (after_nodes c (filter (is_made b.group.under) ns))) (sym (none_nodes at alone.0 b alone.2)) is,
    ))
