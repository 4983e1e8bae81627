-- Fed nodes above a path are dropped one by one.
use Rattle.std.proofs.Common.{◌≡◌, ℕ, true, false, List, [], ◌∷◌, ◌++◌, map, reverse, refl, ap, sym, ◌∙◌, inl, inr}
use Rattle.std.specs.Ordering.{is_lt, nat_cmp}
use Rattle.std.specs.Cmp.Lexicographic.{slice_cmp}
use Rattle.std.proofs.lemmas.List.{reverse-reverse}
use Rattle.sdb_base.specs.declared.node.Node.{Node}
use Rattle.sdb_base.specs.declared.node.NodeHash.{NodeHash}
use Rattle.trie_model.specs.Nodes.{PathNode}
use Rattle.trie_change.specs.Deltas.{hash_of_node, hashed}
use Rattle.trie_change.specs.inner.Diffs.{Comparison, IsComparison, after_node, all_dropped, met, passed_by}
use Rattle.trie_change.specs.inner.Settled.{fed_nodes}
use Rattle.trie_change.specs.declared.diff.Diff.{Diff}
use Rattle.trie_change.specs.declared.frontier.Fed.{Fed}
use Rattle.trie_change.proofs.FedNodes.{ended, fed_node, last_dropped, last_first}

-- all that is left after a path is passed_by
abbrev pub passed_from : List ℕ → Comparison → Comparison
passed_from path c = passed_by path c.left c.puts c.drops

-- fed nodes were dropped that the path passes too
abbrev pub Passing : List ℕ → Comparison → Diff → Type 0
Passing path c d = (now : Comparison) × IsComparison d now × (passed_from path now ≡ passed_from path c)

one_passed : (path : List ℕ) (o : PathNode) (os puts drops : List PathNode) → is_lt (slice_cmp nat_cmp path o.path) ≡ true
    → passed_by path (o ∷ os) puts drops ≡ passed_by path os puts (o ∷ drops)
one_passed path o os puts drops e = rw e

pub passed_one : (path : List ℕ) (c : Comparison) (d e : Diff) → ((before : List Fed) (last : Fed) → d.fed.items ≡ before ++ last ∷ []
    → true ≡ is_lt (slice_cmp nat_cmp path last.path.items))
    → (d.fed.items ≡ [] → ⊥) → e.puts ≡ d.puts
    → ((before : List Fed) (last : Fed) → d.fed.items ≡ before ++ last ∷ [] → (e.fed.items ≡ before) × (e.drops.items ≡ d.drops.items ++ last.hash ∷ []))
    → Passing path c d → Passing path c e
passed_one path c d e above some puts dropped p = elim (ended d.fed.items) [
  | inl nothing ↦ absurd (some nothing)
  | inr l ↦
      let now = p.0 in
      let f : Fed = l.1 in
      let both = dropped l.0 f l.2 in
      let taken : d.fed.items ≡ e.fed.items ++ f ∷ [] = l.2 ∙ ap (λ (fs : List Fed). fs ++ f ∷ []) (sym both.0) in
      let left : now.left ≡ fed_node f ∷ reverse (fed_nodes e.fed.items) =
      p.1.left ∙ ap (λ (fs : List Fed). reverse (fed_nodes fs)) taken ∙ last_first e.fed.items f in
      let n : PathNode = fed_node f in (
        record { left = reverse (fed_nodes e.fed.items); puts = now.puts; drops = fed_node f ∷ now.drops },
        last_dropped d e now n p.1 f taken puts both.1,
        sym (ap (λ (os : List PathNode). passed_by path os now.puts now.drops) left
            ∙ one_passed path (fed_node f) (reverse (fed_nodes e.fed.items)) now.puts now.drops (sym (above l.0 f l.2))) ∙ p.2,
      )
]

none_passed : (path : List ℕ) (left puts drops : List PathNode) → ((o : PathNode) (os : List PathNode) → left ≡ o ∷ os → is_lt (slice_cmp nat_cmp path o.path) ≡ false)
    → passed_by path left puts drops ≡ record { left = left; puts = puts; drops = drops }
none_passed path [] puts drops h = refl
none_passed path (o ∷ os) puts drops h = let other : is_lt (slice_cmp nat_cmp path o.path) ≡ false = h o os refl in rw other

-- once the last is not above the path, what is left is compared with the new node
pub all_passed : (path : List ℕ) (n : PathNode) (c : Comparison) (d : Diff) → ((before : List Fed) (last : Fed) → d.fed.items ≡ before ++ last ∷ []
    → false ≡ is_lt (slice_cmp nat_cmp path last.path.items))
    → n.path ≡ path → (p : Passing path c d) → met n p.0.left p.0.puts p.0.drops ≡ after_node c n
all_passed path n c d above same p =
    let now = p.0 in
    let left : now.left ≡ reverse (fed_nodes d.fed.items) = p.1.left in
    let here : passed_from path now ≡ now = none_passed path now.left now.puts now.drops (not_above now left) in
    ap (λ (x : Comparison). met n x.left x.puts x.drops) (sym here ∙ p.2 ∙ ap (λ (q : List ℕ). passed_from q c) (sym same))
  where
    head_is : (a b : PathNode) (xs ys : List PathNode) → a ∷ xs ≡ b ∷ ys → a ≡ b
    head_is a b xs ys e = cc

    not_above : (now : Comparison) → now.left ≡ reverse (fed_nodes d.fed.items) → (o : PathNode) (os : List PathNode) → now.left ≡ o ∷ os → is_lt (slice_cmp nat_cmp path o.path) ≡ false
    not_above now left o os e = elim (ended d.fed.items) [
      | inl nothing ↦ let empty : [] ≡ o ∷ os = sym (left ∙ ap (λ (fs : List Fed). reverse (fed_nodes fs)) nothing) ∙ e in absurd cc
      | inr l ↦
          let first : fed_node l.1 ∷ reverse (fed_nodes l.0) ≡ o ∷ os = sym (left ∙ ap (λ (fs : List Fed). reverse (fed_nodes fs)) l.2 ∙ last_first l.0 l.1) ∙ e in
          ap (λ (x : PathNode). is_lt (slice_cmp nat_cmp path x.path)) (sym (head_is (fed_node l.1) o (reverse (fed_nodes l.0)) os first)) ∙ sym (above l.0 l.1 l.2)
    ]

-- ---- at the end

-- the last of what is left is dropped, whatever its path
abbrev pub Dropping : Comparison → Diff → Type 0
Dropping c d = (now : Comparison) × IsComparison d now × (now.puts ≡ c.puts) × (all_dropped now.left now.drops ≡ all_dropped c.left c.drops)

pub dropped_one : (c : Comparison) (d e : Diff) → (d.fed.items ≡ [] → ⊥) → e.puts ≡ d.puts
    → ((before : List Fed) (last : Fed) → d.fed.items ≡ before ++ last ∷ [] → (e.fed.items ≡ before) × (e.drops.items ≡ d.drops.items ++ last.hash ∷ []))
    → Dropping c d → Dropping c e
dropped_one c d e some puts dropped p = elim (ended d.fed.items) [
  | inl nothing ↦ absurd (some nothing)
  | inr l ↦
      let now = p.0 in
      let f : Fed = l.1 in
      let both = dropped l.0 f l.2 in
      let taken : d.fed.items ≡ e.fed.items ++ f ∷ [] = l.2 ∙ ap (λ (fs : List Fed). fs ++ f ∷ []) (sym both.0) in
      let left : now.left ≡ fed_node f ∷ reverse (fed_nodes e.fed.items) =
      p.1.left ∙ ap (λ (fs : List Fed). reverse (fed_nodes fs)) taken ∙ last_first e.fed.items f in (
        record { left = reverse (fed_nodes e.fed.items); puts = now.puts; drops = fed_node f ∷ now.drops },
        last_dropped d e now (fed_node f) p.1 f taken puts both.1,
        p.2,
        sym (ap (λ (os : List PathNode). all_dropped os now.drops) left) ∙ p.3,
      )
]

-- nothing is left
pub none_left : (c : Comparison) (d : Diff) → d.fed.items ≡ [] → (p : Dropping c d)
    → (reverse d.puts.items ≡ map hashed c.puts) × (reverse d.drops.items ≡ map hash_of_node (all_dropped c.left c.drops))
none_left c d nothing p =
    let now = p.0 in
    let left : now.left ≡ [] = p.1.left ∙ ap (λ (fs : List Fed). reverse (fed_nodes fs)) nothing in (
      ap (λ (ns : List Node). reverse ns) p.1.puts ∙ reverse-reverse (map hashed now.puts) ∙ ap (λ (ns : List PathNode). map hashed ns) p.2,
      ap (λ (hs : List NodeHash). reverse hs) p.1.drops ∙ reverse-reverse (map hash_of_node now.drops)
          ∙ ap (λ (ns : List PathNode). map hash_of_node ns) (sym (ap (λ (os : List PathNode). all_dropped os now.drops) left) ∙ p.3),
    )
