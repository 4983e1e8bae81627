-- What is known of a node stands for the suffixes and the stored nodes under its path.
use Rattle.std.proofs.Common.{◌≡◌, ℕ, zero, suc, ◌+◌, ◌<◌, ◌≤◌, true, List, [], ◌∷◌, ◌++◌, refl, ap, ap₂, subst, sym, ◌∙◌, arith, append_assoc}
use Rattle.std.specs.Prelude.{filter}
use Rattle.std.specs.List.{AllByRecursion, flat_map}
use Rattle.std.proofs.lemmas.List.{map-append}
use Rattle.std.proofs.lemmas.List.Concat.{flat_map-append}
use Rattle.sdb_blake2.specs.Blake2b.{H}
use Rattle.trie_model.specs.Nodes.{PathNode, is_stored, nodes_over}
use Rattle.trie_model.specs.Trie.{Suffix, below, levels_of, with_prefix}
use Rattle.trie_root.proofs.ReadOffNibbles.{from}
use Rattle.trie_root.proofs.ShapesBytes.{all_joined}
use Rattle.trie_change.specs.Frontier.{path_node_at}
use Rattle.trie_change.specs.inner.Known.{Known, KnownKey, KnownNode}

-- the suffixes and the stored nodes for which what is known stands
abbrev pub suffixes_known : List Suffix → Known → List Suffix
suffixes_known ss (KnownKey key value) = (key, value) ∷ []
suffixes_known ss (KnownNode hash path) = with_prefix path (below path ss)

abbrev pub nodes_known : List Suffix → Known → List PathNode
nodes_known ss (KnownKey key value) = []
nodes_known ss (KnownNode hash path) = filter is_stored (nodes_over (levels_of (below path ss)) path (below path ss))

-- a stored node below the root, by its hash
pub record IsChildNode (ss : List Suffix) (hash path : List ℕ) : Type 0 where
  pub is_hash : hash ≡ H (path_node_at ss path).bytes
  pub stored : is_stored (path_node_at ss path) ≡ true
  pub some : below path ss ≡ [] → ⊥

abbrev pub IsKnown : List Suffix → Known → Type 0
IsKnown ss (KnownKey key value) = Unit {0}
IsKnown ss (KnownNode hash path) = IsChildNode ss hash path

pub record Unfolds (ss : List Suffix) (ks : List Known) (us : List Suffix) (ns : List PathNode) : Type 0 where
  pub sound : AllByRecursion (IsKnown ss) ks
  pub whole : flat_map (suffixes_known ss) ks ≡ us
  pub nodes : flat_map (nodes_known ss) ks ≡ ns

module _ {ss : List Suffix} where
  pub unfold_as : (ks ls : List Known) (us vs : List Suffix) (ms ns : List PathNode) → ks ≡ ls → us ≡ vs → ms ≡ ns → Unfolds ss ks us ms → Unfolds ss ls vs ns
  unfold_as ks ls us vs ms ns e k n s =
      subst (λ (xs : List Known). Unfolds ss xs vs ns) e
      (subst (λ (xs : List Suffix). Unfolds ss ks xs ns) k (subst (λ (xs : List PathNode). Unfolds ss ks us xs) n s))

  pub unfold_none : Unfolds ss [] [] []
  unfold_none = record { sound = tt; whole = refl; nodes = refl }

  pub unfold_joined : (ks ls : List Known) (us vs : List Suffix) (ms ns : List PathNode) → Unfolds ss ks us ms → Unfolds ss ls vs ns
      → Unfolds ss (ks ++ ls) (us ++ vs) (ms ++ ns)
  unfold_joined ks ls us vs ms ns s t = record {
    sound = all_joined (IsKnown ss) ks ls s.sound t.sound;
    whole = flat_map-append (suffixes_known ss) ks ls ∙ ap₂ (λ (xs ys : List Suffix). xs ++ ys) s.whole t.whole;
    nodes = flat_map-append (nodes_known ss) ks ls ∙ ap₂ (λ (xs ys : List PathNode). xs ++ ys) s.nodes t.nodes;
  }

  pub unfold_flat : (f : ℕ → List Known) (u : ℕ → List Suffix) (n : ℕ → List PathNode) → ((i : ℕ) → i < 16 → Unfolds ss (f i) (u i) (n i))
      → (i c : ℕ) → i + c ≤ 16 → Unfolds ss (flat_map f (from i c)) (flat_map u (from i c)) (flat_map n (from i c))
  unfold_flat f u n each i zero h = unfold_none
  unfold_flat f u n each i (suc c) h =
      unfold_joined (f i) (flat_map f (from (suc i) c)) (u i) (flat_map u (from (suc i) c)) (n i) (flat_map n (from (suc i) c))
      (each i (omega arith)) (unfold_flat f u n each (suc i) c (omega arith))

-- ---- suffixes after a path

pub after_joined : (p : List ℕ) (us vs : List Suffix) → with_prefix p (us ++ vs) ≡ with_prefix p us ++ with_prefix p vs
after_joined p us vs = map-append (λ (t : Suffix). (p ++ t.0, t.1)) us vs

pub after_further : (p c : List ℕ) (us : List Suffix) → with_prefix p (with_prefix c us) ≡ with_prefix (p ++ c) us
after_further p c [] = refl
after_further p c (s ∷ us) =
    ap₂ (λ (k : List ℕ) (rest : List Suffix). (k, s.1) ∷ rest) (sym (append_assoc p c s.0)) (after_further p c us)

pub after_all : (p : List ℕ) (f : ℕ → List Suffix) (is : List ℕ) → with_prefix p (flat_map f is) ≡ flat_map (λ i. with_prefix p (f i)) is
after_all p f [] = refl
after_all p f (i ∷ is) = after_joined p (f i) (flat_map f is) ∙ ap (λ (us : List Suffix). with_prefix p (f i) ++ us) (after_all p f is)

pub after_nothing : (us : List Suffix) → with_prefix [] us ≡ us
after_nothing [] = refl
after_nothing (s ∷ us) = ap (λ (rest : List Suffix). s ∷ rest) (after_nothing us)
