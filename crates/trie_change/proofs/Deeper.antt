-- Below a path from which two tries have the same suffixes, they have the same nodes.
use Rattle.std.proofs.Common.{◌≡◌, ℕ, false, List, [], ◌∷◌, ◌++◌, refl, ap, sym, ◌∙◌, inl, inr, append_assoc}
use Rattle.std.specs.Prelude.{Contains}
use Rattle.sdb_base.specs.declared.Change.{Change}
use Rattle.trie_model.specs.Fetches.{is_changed}
use Rattle.trie_model.specs.Node.{spelling}
use Rattle.trie_model.specs.Nodes.{PathNode, all_nodes, all_over}
use Rattle.trie_model.specs.State.{State, apply}
use Rattle.trie_model.specs.Trie.{Suffix, below, common_prefix, node_of_all, suffixes_of}
use Rattle.trie_root.proofs.Prefixes.{below-append}
use Rattle.trie_read.specs.Paths.{AreNibbles, Hangs, IsHung}
use Rattle.trie_read.proofs.Among.{among_from, contains_from}
use Rattle.trie_read.proofs.Stored.{among_hung, is_hung}
use Rattle.trie_change.specs.ChangedKeys.{keys_in_changes}
use Rattle.trie_change.proofs.Unchanged.{below_stays}

-- ---- lists up to their last element

nothing_after : (p r : List ℕ) → p ++ r ≡ [] → r ≡ []
nothing_after [] r e = e
nothing_after (x ∷ p) r e = absurd cc

ends : (r : List ℕ) → (r ≡ [] → ⊥) → (s : List ℕ) × (x : ℕ) × (r ≡ s ++ x ∷ [])
ends [] some = absurd (some refl)
ends (x ∷ []) some = ([], x, refl)
ends (x ∷ (y ∷ r)) some =
    let more : (s : List ℕ) × (z : ℕ) × (y ∷ r ≡ s ++ z ∷ []) = ends (y ∷ r) (λ e. cc) in
    (x ∷ more.0, more.1, ap (λ (t : List ℕ). x ∷ t) more.2)

some_end : (a : List ℕ) (x : ℕ) → a ++ x ∷ [] ≡ [] → ⊥
some_end [] x e = cc
some_end (z ∷ a) x e = cc

same_front : (a b : List ℕ) (x y : ℕ) → a ++ x ∷ [] ≡ b ++ y ∷ [] → a ≡ b
same_front [] [] x y e = refl
same_front [] (z ∷ b) x y e = let rest : [] ≡ b ++ y ∷ [] = cc in absurd (some_end b y (sym rest))
same_front (w ∷ a) [] x y e = let rest : a ++ x ∷ [] ≡ [] = cc in absurd (some_end a x rest)
same_front (w ∷ a) (z ∷ b) x y e =
    let one : w ≡ z = cc in let rest : a ++ x ∷ [] ≡ b ++ y ∷ [] = cc in
    let more : a ≡ b = same_front a b x y rest in cc

-- ---- below the path

below_further : (ss ts : List Suffix) (p r q : List ℕ) → q ≡ p ++ r → below p ts ≡ below p ss → below q ts ≡ below q ss
below_further ss ts p r q e same =
    ap (λ (t : List ℕ). below t ts) e ∙ below-append p r ts ∙ ap (below r) same ∙ sym (below-append p r ss) ∙ ap (λ (t : List ℕ). below t ss) (sym e)

hangs_also : (ss ts : List Suffix) (p r q : List ℕ) → q ≡ p ++ r → (r ≡ [] → ⊥) → below p ts ≡ below p ss → Hangs ts q → Hangs ss q
hangs_also ss ts p r q e some same (inl root) = absurd (some (nothing_after p r (sym e ∙ root)))
hangs_also ss ts p r q e some same (inr h) =
    let last : (s : List ℕ) × (x : ℕ) × (r ≡ s ++ x ∷ []) = ends r some in
    let front : h.0 ≡ p ++ last.0 =
    same_front h.0 (p ++ last.0) h.1 last.1 (sym h.2 ∙ e ∙ ap (λ (t : List ℕ). p ++ t) last.2 ∙ sym (append_assoc p last.0 (last.1 ∷ []))) in
    inr (
      h.0,
      h.1,
      h.2,
      ap common_prefix (sym (below_further ss ts p last.0 h.0 front same)) ∙ h.3,
      λ z. h.4 (below_further ss ts p r q e same ∙ z),
    )

same_deeper : (ss ts : List Suffix) (p r : List ℕ) (o : PathNode) → AreNibbles ss → below p ts ≡ below p ss → o.path ≡ p ++ r → (r ≡ [] → ⊥)
    → Contains (all_over ts) o → Contains (all_over ss) o
same_deeper ss ts p r o a same e some c =
    let h : IsHung ts o = is_hung ts o (among_from o (all_over ts) c) in
    contains_from o (all_over ss) (among_hung ss o a (record {
      path = hangs_also ss ts p r o.path e some same h.path;
      bytes = h.bytes ∙ ap (λ (us : List Suffix). spelling (node_of_all us)) (below_further ss ts p r o.path e same);
    }))

pub deeper_before : (m : State) (cs : List Change) (n o : PathNode) (rest : List ℕ) → AreNibbles (suffixes_of m) → is_changed (keys_in_changes cs) n ≡ false
    → o.path ≡ n.path ++ rest → (rest ≡ [] → ⊥) → Contains (all_nodes (apply m cs)) o → Contains (all_nodes m) o
deeper_before m cs n o rest a off e some c =
    same_deeper (suffixes_of m) (suffixes_of (apply m cs)) n.path rest o a (below_stays m cs n off) e some c

pub deeper_after : (m : State) (cs : List Change) (n o : PathNode) (rest : List ℕ) → AreNibbles (suffixes_of (apply m cs))
    → is_changed (keys_in_changes cs) n ≡ false → o.path ≡ n.path ++ rest → (rest ≡ [] → ⊥) → Contains (all_nodes m) o → Contains (all_nodes (apply m cs)) o
deeper_after m cs n o rest a off e some c =
    same_deeper (suffixes_of (apply m cs)) (suffixes_of m) n.path rest o a (sym (below_stays m cs n off)) e some c
