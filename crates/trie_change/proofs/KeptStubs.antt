-- A stub at the path of a group stands for the node there, and nothing is made.
use Rattle.std.proofs.Common.{◌≡◌, ℕ, ◌≤◌, Bool, true, false, cond, List, [], ◌∷◌, ◌++◌, length, get_or, drop, Some, None, refl, ap, ap₂, subst, sym, ◌∙◌, inl, inr, arith}
use Rattle.std.specs.Prelude.{◌==◌, ◌&&◌, ◌||◌, not, is_some}
use Rattle.std.specs.List.{AllByRecursion}
use Rattle.std.proofs.lemmas.Bool.Decides.{eqb_tells}
use Rattle.std.proofs.lemmas.List.{append-nil, drop_all}
use Rattle.sdb_base.specs.declared.node.NodeHash.{NodeHash}
use Rattle.sdb_blake2.specs.Blake2b.{H}
use Rattle.trie_model.specs.Nodes.{PathNode, is_stored}
use Rattle.trie_model.specs.Trie.{after_prefix, below, levels_of}
use Rattle.trie_read.proofs.Among.{Among}
use Rattle.trie_read.proofs.Rising.{StartsWith, rises_over}
use Rattle.trie_read.proofs.Ways.{follows}
use Rattle.trie_change.specs.Frontier.{is_at_stub, is_under, path_node_at}
use Rattle.trie_change.specs.declared.build.Made.TheVariants as made
use Rattle.trie_change.specs.declared.diff.Diff.{Diff}
use Rattle.trie_change.specs.Item.{Item}
use Rattle.trie_change.specs.Item as item
use Rattle.trie_change.specs.declared.frontier.Stub.{Stub}
use Rattle.trie_change.specs.inner.Built.{IsMade, ItemGroup, hash_here, is_made, made_of_group, node_of_group, nodes_from}
use Rattle.trie_change.specs.inner.Diffs.{Comparison, IsComparison, after_nodes}
use Rattle.trie_change.proofs.Found.{nothing_kept}
use Rattle.trie_change.proofs.ItemSuffixes.{after_itself}

-- ---- a stub at the path

at_the_path : (path ns : List ℕ) → ns ≡ path ++ drop (length path) ns → length ns ≡ length path → ns ≡ path
at_the_path path ns e h = e ∙ ap (λ (t : List ℕ). path ++ t) (drop_all (length path) ns (omega arith)) ∙ append-nil path

found_here : (b : Bool) (h k : NodeHash) → cond b (Some h) None ≡ Some k → (b ≡ true) × (h ≡ k)
found_here true h k e = (refl, cc)
found_here false h k e = absurd cc

pub kept_stub : (at : ℕ) (s : Stub) (is : List Item) (g : ItemGroup at (item.Stub s ∷ is)) → length s.path.items ≡ at → (c : Comparison) (d : Diff) → IsComparison d c
    → IsMade c (node_of_group g) (made_of_group g) d (made.Kept s.hash)
kept_stub at s is g e c d k =
    let here : s.path.items ≡ g.path = at_the_path g.path s.path.items g.goes_on.0 (e ∙ sym g.place) in
    let nodes : List PathNode = nodes_from g.path (below g.path g.suffixes) in
    let none : made_of_group g ≡ [] = nothing_kept (is_made g.under) nodes (λ n a. all_under here n (starts nodes (rises_over (levels_of (below g.path g.suffixes)) g.path (below g.path g.suffixes)).1 n a)) in (
      g.stubs.0.is_hash ∙ ap (λ (p : List ℕ). H (path_node_at g.suffixes p).bytes) here,
      ap (λ (p : List ℕ). is_stored (path_node_at g.suffixes p)) (sym here) ∙ g.stubs.0.stored,
      subst (λ (ns : List PathNode). IsComparison d (after_nodes c ns)) (sym none) k,
    )
  where
    starts : (ns : List PathNode) → AllByRecursion (StartsWith g.path) ns → (n : PathNode) → Among n ns → StartsWith g.path n
    starts (m ∷ ns) a n (inl same) = subst (StartsWith g.path) same a.0
    starts (m ∷ ns) a n (inr more) = starts ns a.1 n more
    starts [] a n w = absurd w

    and_false : (b : Bool) → (b && false) ≡ false
    and_false true = refl
    and_false false = refl

    all_under : s.path.items ≡ g.path → (n : PathNode) → StartsWith g.path n → is_made g.under n ≡ false
    all_under here n w =
        let at_stub : is_at_stub n.path (item.Stub s) ≡ true =
        follows s.path.items n.path ∙ ap₂ (λ (p q : List ℕ). is_some (after_prefix p q)) here w.1 ∙ ap is_some (after_itself g.path w.0) in
        let under : g.under n ≡ true = g.same n w.0 w.1 ∙ ap (λ (b : Bool). b || is_under is n) at_stub in
        ap (λ (b : Bool). is_stored n && not b) under ∙ and_false (is_stored n)

pub kept_made : (at : ℕ) (items : List Item) (g : ItemGroup at items) (first : Item) (hash : NodeHash) (c : Comparison) (d : Diff) → 1 ≤ length items
    → first ≡ get_or items 0 first → Some hash ≡ hash_here at first → IsComparison d c → IsMade c (node_of_group g) (made_of_group g) d (made.Kept hash)
kept_made at [] g first hash c d some is e k = absurd (omega arith)
kept_made at (item.Entry x ∷ is) g first hash c d some same e k =
    let none : Some hash ≡ None = e ∙ ap (hash_here at) same in absurd cc
kept_made at (item.Stub s ∷ is) g first hash c d some same e k =
    let both = found_here (length s.path.items == at) s.hash hash (sym (e ∙ ap (hash_here at) same)) in
    elim (eqb_tells (length s.path.items) at) [
      | inl t ↦ subst (λ (h : NodeHash). IsMade c (node_of_group g) (made_of_group g) d (made.Kept h)) both.1 (kept_stub at s is g t.1 c d k)
      | inr f ↦ let no : true ≡ false = sym both.0 ∙ f.0 in absurd cc
    ]
