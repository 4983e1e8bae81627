-- A comparison of old and new nodes, from the highest path down, puts and drops what the others have not.
use Rattle.std.proofs.Common.{◌≡◌, false, List, [], ◌∷◌, ◌++◌, reverse, refl, ap, ap₂, sym, ◌∙◌}
use Rattle.std.specs.Prelude.{not}
use Rattle.std.proofs.lemmas.List.{append-nil, reverse-reverse}
use Rattle.std.proofs.lemmas.List.Elements.{filter-append}
use Rattle.trie_model.specs.Nodes.{PathNode, has_node, nodes_without}
use Rattle.trie_read.proofs.Rising.{LowerThan, Rises, all_weaker}
use Rattle.trie_change.specs.inner.Diffs.{Comparison, after_node, after_nodes, all_dropped, all_left, passed_by}
use Rattle.trie_change.proofs.LowerNodes.{all_reversed, all_without, none_above, reversed, reversed_falls}
use Rattle.trie_change.proofs.MetNodes.{meets}
use Rattle.trie_change.proofs.OldAbove.{Below, Compares, passes}

pub compares_first : (old : List PathNode) → Rises old → Compares old [] (all_left old)
compares_first old r = record {
  gone = [];
  parts = sym (append-nil (reverse (reverse old)) ∙ reverse-reverse old);
  falls = reversed_falls old r;
  lower = nothing_above (reverse old);
  high = λ p h. tt;
  puts = refl;
  drops = refl;
}
  where
    nothing_above : (os : List PathNode) → Below os []
    nothing_above [] = tt
    nothing_above (o ∷ os) = (tt, nothing_above os)

one_compared : (old new : List PathNode) (n : PathNode) (c : Comparison) → LowerThan n.path new → Compares old new c → Compares old (n ∷ new) (after_node c n)
one_compared old new n c l k =
    let p : Comparison = passed_by n.path c.left c.puts c.drops in
    meets old new n c.puts p.left p.puts p.drops (passes old new n c.left k.gone c.puts c.drops k.parts k.falls k.lower (k.high n.path l) k.drops) k.puts

pub all_compared : (old new : List PathNode) → Rises old → Rises new → Compares old new (after_nodes (all_left old) new)
all_compared old [] r s = compares_first old r
all_compared old (n ∷ new) r s = one_compared old new n (after_nodes (all_left old) new) s.0 (all_compared old new r s.1)

-- ---- what is left at the end

dropped_last : (left drops : List PathNode) → all_dropped left drops ≡ reverse left ++ drops
dropped_last [] drops = refl
dropped_last (o ∷ os) drops = dropped_last os (o ∷ drops) ∙ sym (reversed o os drops)

pub drops_at_end : (old new : List PathNode) (c : Comparison) → Compares old new c → all_dropped c.left c.drops ≡ nodes_without old new
drops_at_end old new c k =
    let none : nodes_without (reverse c.left) new ≡ reverse c.left =
    all_without (reverse c.left) new (all_reversed (λ o. has_node new o ≡ false) c.left
    (all_weaker (λ (o : PathNode). LowerThan o.path new) (λ (o : PathNode). has_node new o ≡ false) (λ o h. none_above o new h) c.left k.lower)) in
    dropped_last c.left c.drops ∙ ap₂ (λ (xs ys : List PathNode). xs ++ ys) (sym none) k.drops
    ∙ sym (filter-append (λ n. not (has_node new n)) (reverse c.left) k.gone)
    ∙ ap (λ (os : List PathNode). nodes_without os new) (sym k.parts)
