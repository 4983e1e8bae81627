-- A comparison of old and new nodes, in which the old ones above a new one are dropped.
use Rattle.std.proofs.Common.{◌≡◌, ℕ, Bool, true, false, cond, List, [], ◌∷◌, ◌++◌, reverse, T, refl, ap, subst, sym, ◌∙◌}
use Rattle.std.specs.Prelude.{not}
use Rattle.std.specs.List.{AllByRecursion}
use Rattle.std.specs.Ordering.{is_lt, nat_cmp}
use Rattle.std.specs.Cmp.Lexicographic.{slice_cmp}
use Rattle.trie_model.specs.Nodes.{PathNode, has_node, nodes_without}
use Rattle.trie_read.proofs.Rising.{LowerThan}
use Rattle.trie_change.specs.inner.Diffs.{Comparison, passed_by}
use Rattle.trie_change.proofs.LowerNodes.{Falls, none_above, reversed}

-- each of some nodes is below all of others
abbrev pub Below : List PathNode → List PathNode → Type 0
Below os ns = AllByRecursion (λ (o : PathNode). LowerThan o.path ns) os

-- a list whose nodes are all above what is below the new nodes
abbrev pub Above : List PathNode → List PathNode → Type 0
Above gone ns = (p : List ℕ) → LowerThan p ns → LowerThan p gone

-- The old nodes are those that are left, by rising path, and those that are gone. What is put are the new ones that the old
-- are without, and what is dropped those gone that the new are without.
pub record Compares (old new : List PathNode) (c : Comparison) : Type 0 where
  pub gone : List PathNode
  pub parts : old ≡ reverse c.left ++ gone
  pub falls : Falls c.left
  pub lower : Below c.left new
  pub high : Above gone new
  pub puts : c.puts ≡ nodes_without new old
  pub drops : c.drops ≡ nodes_without gone new

-- ---- old nodes above a new one

-- as above, and none of what is left is above the node
pub record Passes (old new : List PathNode) (n : PathNode) (ps : List PathNode) (c : Comparison) : Type 0 where
  pub gone : List PathNode
  pub parts : old ≡ reverse c.left ++ gone
  pub falls : Falls c.left
  pub lower : Below c.left new
  pub high : LowerThan n.path gone
  pub puts : c.puts ≡ ps
  pub drops : c.drops ≡ nodes_without gone new
  pub not_above : (o : PathNode) (os : List PathNode) → c.left ≡ o ∷ os → is_lt (slice_cmp nat_cmp n.path o.path) ≡ false

pub passes : (old new : List PathNode) (n : PathNode) (left gone puts drops : List PathNode) → old ≡ reverse left ++ gone → Falls left → Below left new
    → LowerThan n.path gone → drops ≡ nodes_without gone new → Passes old new n puts (passed_by n.path left puts drops)
passes old new n [] gone puts drops e f l h d = record { gone = gone; parts = e; falls = tt; lower = tt; high = h; puts = refl; drops = d; not_above = λ o os k. cc }
passes old new n (o ∷ os) gone puts drops e f l h d =
    by_test (λ t. passes old new n os (o ∷ gone) puts (o ∷ drops) (e ∙ reversed o os gone) f.1 l.1 (subst (λ b. T b) (sym t) tt, h) dropped) (is_lt (slice_cmp nat_cmp n.path o.path)) refl
  where
    head_is : (a b : PathNode) (xs ys : List PathNode) → a ∷ xs ≡ b ∷ ys → a ≡ b
    head_is a b xs ys e = cc

    dropped : o ∷ drops ≡ nodes_without (o ∷ gone) new
    dropped =
        let none : has_node new o ≡ false = none_above o new l.0 in
        ap (λ (ds : List PathNode). o ∷ ds) d ∙ sym (ap (λ b. cond (not b) (o ∷ nodes_without gone new) (nodes_without gone new)) none)

    by_test : (is_lt (slice_cmp nat_cmp n.path o.path) ≡ true → Passes old new n puts (passed_by n.path os puts (o ∷ drops))) → (b : Bool) → is_lt (slice_cmp nat_cmp n.path o.path) ≡ b
        → Passes old new n puts (cond b (passed_by n.path os puts (o ∷ drops)) (record { left = o ∷ os; puts = puts; drops = drops }))
    by_test more true t = more t
    by_test more false t = record {
      gone = gone;
      parts = e;
      falls = f;
      lower = l;
      high = h;
      puts = refl;
      drops = d;
      not_above = λ x xs k. ap (λ (y : PathNode). is_lt (slice_cmp nat_cmp n.path y.path)) (sym (head_is o x os xs k)) ∙ t;
    }
