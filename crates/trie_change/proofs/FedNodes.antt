-- What a comparison has come to once a fed node is taken off, and a new one put.
use Rattle.std.proofs.Common.{◌≡◌, ◌⊎◌, ℕ, true, false, List, [], ◌∷◌, ◌++◌, map, reverse, refl, ap, ap₂, subst, sym, ◌∙◌, inl, inr}
use Rattle.std.specs.Prelude.{All}
use Rattle.std.specs.Str.{bytes_eq}
use Rattle.std.proofs.lemmas.List.{map-append, reverse-append, reverse-reverse}
use Rattle.std.proofs.lemmas.List.Elements.{All-pop}
use Rattle.std.specs.Prelude.{Some, IfSome}
use Rattle.sdb_base.specs.declared.node.Node.{Node}
use Rattle.sdb_base.specs.declared.node.NodeHash.{NodeHash}
use Rattle.sdb_blake2.specs.Blake2b.{H}
use Rattle.trie_model.specs.Nodes.{PathNode}
use Rattle.trie_change.specs.Deltas.{hash_of_node, hashed}
use Rattle.trie_change.specs.inner.Diffs.{Comparison, HasItsHash, IsComparison, met}
use Rattle.trie_change.specs.inner.Settled.{fed_nodes}
use Rattle.trie_change.specs.declared.diff.Diff.{Diff}
use Rattle.trie_change.specs.declared.frontier.Fed.{Fed}

-- a fed node, by its path
abbrev pub fed_node : Fed → PathNode
fed_node f = record { path = f.path.items; bytes = f.bytes }

-- a comparison has come no further where the nodes of two are the same
pub same_comparison : (d e : Diff) (k : Comparison) → e.fed ≡ d.fed → e.puts ≡ d.puts → e.drops ≡ d.drops → IsComparison d k → IsComparison e k
same_comparison d e k fed puts drops is = record {
  left = is.left ∙ ap (λ v. reverse (fed_nodes v.items)) (sym fed);
  hashes = subst (λ v. All HasItsHash v.items) (sym fed) is.hashes;
  puts = ap (λ v. v.items) puts ∙ is.puts;
  drops = ap (λ v. v.items) drops ∙ is.drops;
}

-- a list is empty or has a last
pub ended : {X : Type 0} (xs : List X) → (xs ≡ []) ⊎ ((before : List X) × (last : X) × (xs ≡ before ++ last ∷ []))
ended {X = X} xs = by_reverse (reverse xs) refl
  where
    by_reverse : (ys : List X) → reverse xs ≡ ys → (xs ≡ []) ⊎ ((before : List X) × (last : X) × (xs ≡ before ++ last ∷ []))
    by_reverse [] e = inl (sym (reverse-reverse xs) ∙ ap (λ zs. reverse zs) e)
    by_reverse (y ∷ ys) e = inr (reverse ys, y, sym (reverse-reverse xs) ∙ ap (λ zs. reverse zs) e ∙ reverse-append (y ∷ []) ys)

pub last_first : (before : List Fed) (last : Fed) → reverse (fed_nodes (before ++ last ∷ [])) ≡ fed_node last ∷ reverse (fed_nodes before)
last_first before last =
    ap (λ (ns : List PathNode). reverse ns) (map-append fed_node before (last ∷ [])) ∙ reverse-append (fed_nodes before) (fed_node last ∷ [])

-- one more at the front of a reversed list
pub pushed_one : {X : Type 0} (f : PathNode → X) (xs ys : List X) (ns : List PathNode) (n : PathNode) (x : X) → ys ≡ xs ++ x ∷ [] → xs ≡ reverse (map f ns) → x ≡ f n
    → ys ≡ reverse (map f (n ∷ ns))
pushed_one f xs ys ns n x e k same =
    e ∙ ap₂ (λ us u. us ++ u ∷ []) k same ∙ sym (reverse-append (f n ∷ []) (map f ns))

met_other : (n : PathNode) (left puts drops : List PathNode) → ((o : PathNode) (os : List PathNode) → left ≡ o ∷ os → bytes_eq o.path n.path ≡ false)
    → met n left puts drops ≡ record { left = left; puts = n ∷ puts; drops = drops }
met_other n [] puts drops h = refl
met_other n (o ∷ os) puts drops h = let other : bytes_eq o.path n.path ≡ false = h o os refl in rw other

met_same : (n o : PathNode) (os puts drops : List PathNode) → bytes_eq o.path n.path ≡ true → bytes_eq o.bytes n.bytes ≡ true
    → met n (o ∷ os) puts drops ≡ record { left = os; puts = puts; drops = drops }
met_same n o os puts drops h k = rw (h, k)

met_changed : (n o : PathNode) (os puts drops : List PathNode) → bytes_eq o.path n.path ≡ true → bytes_eq o.bytes n.bytes ≡ false
    → met n (o ∷ os) puts drops ≡ record { left = os; puts = n ∷ puts; drops = o ∷ drops }
met_changed n o os puts drops h k = rw (h, k)

module _ (d e : Diff) (c : Comparison) (n : PathNode) (k : IsComparison d c) where
  -- no fed node is at the path
  pub put_alone : (x : Node) → e.fed.items ≡ d.fed.items → e.puts.items ≡ d.puts.items ++ x ∷ [] → e.drops.items ≡ d.drops.items → x ≡ hashed n
      → ((before : List Fed) (last : Fed) → d.fed.items ≡ before ++ last ∷ [] → bytes_eq last.path.items n.path ≡ false)
      → IsComparison e (met n c.left c.puts c.drops)
  put_alone x fed puts drops is none =
      subst (IsComparison e) (sym (met_other n c.left c.puts c.drops other)) (record {
        left = k.left ∙ ap (λ (fs : List Fed). reverse (fed_nodes fs)) (sym fed);
        hashes = subst (λ (fs : List Fed). All HasItsHash fs) (sym fed) k.hashes;
        puts = pushed_one hashed d.puts.items e.puts.items c.puts n x puts k.puts is;
        drops = drops ∙ k.drops;
      })
    where
      head_is : (a b : PathNode) (xs ys : List PathNode) → a ∷ xs ≡ b ∷ ys → a ≡ b
      head_is a b xs ys e = cc

      other : (o : PathNode) (os : List PathNode) → c.left ≡ o ∷ os → bytes_eq o.path n.path ≡ false
      other o os same = elim (ended d.fed.items) [
        | inl nothing ↦ let empty : [] ≡ o ∷ os = sym (k.left ∙ ap (λ (fs : List Fed). reverse (fed_nodes fs)) nothing) ∙ same in absurd cc
        | inr l ↦
            let first : fed_node l.1 ∷ reverse (fed_nodes l.0) ≡ o ∷ os =
            sym (k.left ∙ ap (λ (fs : List Fed). reverse (fed_nodes fs)) l.2 ∙ last_first l.0 l.1) ∙ same in
            ap (λ (x : PathNode). bytes_eq x.path n.path) (sym (head_is (fed_node l.1) o (reverse (fed_nodes l.0)) os first)) ∙ none l.0 l.1 l.2
      ]

  module _ (f : Fed) (taken : d.fed.items ≡ e.fed.items ++ f ∷ []) where
    left_is : c.left ≡ fed_node f ∷ reverse (fed_nodes e.fed.items)
    left_is = k.left ∙ ap (λ (fs : List Fed). reverse (fed_nodes fs)) taken ∙ last_first e.fed.items f

    hashes_both : All HasItsHash e.fed.items × IfSome (Some f) HasItsHash
    hashes_both = All-pop HasItsHash d.fed.items e.fed.items (Some f) taken k.hashes

    pub hash_of_last : f.hash.0 ≡ H f.bytes
    hash_of_last = hashes_both.1

    -- the one at the path has the same bytes
    pub kept_same : e.puts ≡ d.puts → e.drops ≡ d.drops → bytes_eq f.path.items n.path ≡ true → bytes_eq f.bytes n.bytes ≡ true
        → IsComparison e (met n c.left c.puts c.drops)
    kept_same puts drops path bytes =
        let is : met n c.left c.puts c.drops ≡ record { left = reverse (fed_nodes e.fed.items); puts = c.puts; drops = c.drops } =
        ap (λ (ns : List PathNode). met n ns c.puts c.drops) left_is ∙ met_same n (fed_node f) (reverse (fed_nodes e.fed.items)) c.puts c.drops path bytes in
        subst (IsComparison e) (sym is) (record {
          left = refl;
          hashes = hashes_both.0;
          puts = ap (λ v. v.items) puts ∙ k.puts;
          drops = ap (λ v. v.items) drops ∙ k.drops;
        })

    -- the one at the path has others
    pub put_changed : (x : Node) → e.puts.items ≡ d.puts.items ++ x ∷ [] → e.drops.items ≡ d.drops.items ++ f.hash ∷ [] → x ≡ hashed n
        → bytes_eq f.path.items n.path ≡ true → bytes_eq f.bytes n.bytes ≡ false → IsComparison e (met n c.left c.puts c.drops)
    put_changed x puts drops is path bytes =
        let same : met n c.left c.puts c.drops ≡ record { left = reverse (fed_nodes e.fed.items); puts = n ∷ c.puts; drops = fed_node f ∷ c.drops } =
        ap (λ (ns : List PathNode). met n ns c.puts c.drops) left_is ∙ met_changed n (fed_node f) (reverse (fed_nodes e.fed.items)) c.puts c.drops path bytes in
        subst (IsComparison e) (sym same) (record {
          left = refl;
          hashes = hashes_both.0;
          puts = pushed_one hashed d.puts.items e.puts.items c.puts n x puts k.puts is;
          drops = pushed_one hash_of_node d.drops.items e.drops.items c.drops (fed_node f) f.hash drops k.drops hash_is;
        })
      where
        hash_is : f.hash ≡ hash_of_node (fed_node f)
        hash_is = ap (λ (h : List ℕ). let r : NodeHash = record { 0 = h } in r) hash_of_last

    -- the last is dropped
    pub last_dropped : e.puts ≡ d.puts → e.drops.items ≡ d.drops.items ++ f.hash ∷ []
        → IsComparison e (record { left = reverse (fed_nodes e.fed.items); puts = c.puts; drops = fed_node f ∷ c.drops })
    last_dropped puts drops = record {
      left = refl;
      hashes = hashes_both.0;
      puts = ap (λ v. v.items) puts ∙ k.puts;
      drops = pushed_one hash_of_node d.drops.items e.drops.items c.drops (fed_node f) f.hash drops k.drops hash_is;
    }
      where
        hash_is : f.hash ≡ hash_of_node (fed_node f)
        hash_is = ap (λ (h : List ℕ). let r : NodeHash = record { 0 = h } in r) hash_of_last
