-- Where there are no items, the root node is that of the empty trie.
use Rattle.std.proofs.Common.{◌≡◌, ℕ, suc, Bool, true, false, cond, eqb, List, [], ◌∷◌, length, refl, ap, sym, ◌∙◌, arith}
use Rattle.std.specs.Prelude.{◌==◌, ◌&&◌, not, filter}
use Rattle.std.proofs.lemmas.List.{append-nil}
use Rattle.trie_model.specs.Node.{spelling}
use Rattle.trie_model.specs.Nodes.{PathNode, is_stored, nodes_over}
use Rattle.trie_model.specs.Trie.{Suffix, below, node_of_all, with_prefix}
use Rattle.trie_root.proofs.Rows.{unlike}
use Rattle.trie_change.specs.declared.build.Made.TheVariants as made
use Rattle.trie_change.specs.declared.diff.Diff.{Diff}
use Rattle.trie_change.specs.Item.{Item}
use Rattle.trie_change.specs.inner.Built.{IsMade, ItemGroup, is_made, made_of_group, node_of_group, nodes_from}
use Rattle.trie_change.specs.inner.Diffs.{Comparison, IsComparison}

pub path_of_root : (items : List Item) (g : ItemGroup 0 items) → g.path ≡ []
path_of_root items g = none g.path g.place
  where
    none : (p : List ℕ) → length p ≡ 0 → p ≡ []
    none [] e = refl
    none (x ∷ p) e = absurd (omega arith)

pub nothing_with : (p : List ℕ) (us : List Suffix) → [] ≡ with_prefix p us → us ≡ []
nothing_with p [] e = refl
nothing_with p (u ∷ us) e = absurd cc

nodes_from_none : (path : List ℕ) → nodes_from path [] ≡ record { path = path; bytes = spelling (node_of_all []) } ∷ []
unfolding nodes_over
nodes_from_none path = refl

none_made : (g : ItemGroup 0 []) (bytes : List ℕ) (c : Comparison) (d : Diff) → bytes ≡ spelling (node_of_all []) → IsComparison d c
    → IsMade c (node_of_group g) (made_of_group g) d (made.New bytes)
none_made g bytes c d e k =
    let none : below g.path g.suffixes ≡ [] = nothing_with g.path (below g.path g.suffixes) g.whole in
    let n : PathNode = node_of_group g in
    let same : n.bytes ≡ spelling (node_of_all []) = ap (λ (us : List Suffix). spelling (node_of_all us)) none in
    let node : (let m : PathNode = record { path = g.path; bytes = spelling (node_of_all []) } in m) ≡ n = ap (λ (b : List ℕ). let m : PathNode = record { path = g.path; bytes = b } in m) (sym same) in
    let not_under : g.under n ≡ false = g.same n [] (sym (append-nil g.path)) in
    let all : made_of_group g ≡ cond (is_stored n) (n ∷ []) [] =
    ap (λ (us : List Suffix). filter (is_made g.under) (nodes_from g.path us)) none
    ∙ ap (λ (ns : List PathNode). filter (is_made g.under) ns) (nodes_from_none g.path ∙ ap (λ (m : PathNode). m ∷ []) node)
    ∙ ap (λ (b : Bool). cond (is_stored n && not b) (n ∷ []) []) not_under
    ∙ ap (λ (b : Bool). cond b (n ∷ []) []) (and_true (is_stored n)) in
    (e ∙ sym same, [], all, k)
  where
    and_true : (b : Bool) → (b && true) ≡ b
    and_true true = refl
    and_true false = refl

pub no_items_made : (items : List Item) (g : ItemGroup 0 items) (bytes : List ℕ) (c : Comparison) (d : Diff) → true ≡ (length items == 0) → bytes ≡ spelling (node_of_all [])
    → IsComparison d c → IsMade c (node_of_group g) (made_of_group g) d (made.New bytes)
no_items_made [] g bytes c d e h k = none_made g bytes c d h k
no_items_made (i ∷ is) g bytes c d e h k = absurd (not_none (length is) (sym e))
  where
    not_none : (n : ℕ) → (suc n == 0) ≡ true → ⊥
    not_none n e = let other : eqb (suc n) 0 ≡ false = unlike (suc n) 0 (λ z. omega arith) in let both : false ≡ true = sym other ∙ e in cc
