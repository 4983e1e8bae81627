-- The stored nodes that a node has hang further down than it.
use Rattle.std.proofs.Common.{◌≡◌, ℕ, zero, suc, true, false, eqb, leb, cond, List, [], ◌∷◌, ◌++◌, length, get_or, Option, Some, None, ap, ◌∙◌, append_assoc}
use Rattle.std.specs.Prelude.{Result, Ok, Err}
use Rattle.std.specs.List.{AllByRecursion, flat_map}
use Rattle.trie_model.specs.Node.{Node}
use Rattle.trie_model.specs.Trie.{every_nibble}
use Rattle.trie_codec.specs.Reading.{node_of_bytes}
use Rattle.trie_codec.specs.declared.fault.CodecFault.{CodecFault}
use Rattle.trie_root.proofs.ShapesBytes.{all_joined}
use Rattle.trie_read.proofs.Rising.{all_weaker}
use Rattle.trie_change.specs.inner.Known.{Known, KnownKey, KnownNode, inline_known, known_at, known_in, own_known, stub_known}

abbrev pub IsDeeper : List ℕ → Known → Type 0
IsDeeper p (KnownKey key value) = Unit {0}
IsDeeper p (KnownNode hash path) = (r : List ℕ) × (path ≡ p ++ r) × (r ≡ [] → ⊥)

pub all_flat : {X : Type 0} (P : X → Type 0) (f : ℕ → List X) → ((i : ℕ) → AllByRecursion P (f i)) → (is : List ℕ) → AllByRecursion P (flat_map f is)
all_flat P f each [] = tt
all_flat P f each (i ∷ is) = all_joined P (f i) (flat_map f is) (each i) (all_flat P f each is)

some_end : (a : List ℕ) (x : ℕ) → a ++ x ∷ [] ≡ [] → ⊥
some_end [] x e = cc
some_end (z ∷ a) x e = cc

longer : (c : List ℕ) (i : ℕ) (r : List ℕ) → (c ++ i ∷ []) ++ r ≡ [] → ⊥
longer [] i r e = cc
longer (x ∷ c) i r e = cc

further : (p c : List ℕ) (i : ℕ) (k : Known) → IsDeeper ((p ++ c) ++ i ∷ []) k → IsDeeper p k
further p c i (KnownKey key value) d = tt
further p c i (KnownNode hash path) d = (
  (c ++ i ∷ []) ++ d.0,
  d.1 ∙ ap (λ (xs : List ℕ). xs ++ d.0) (append_assoc p c (i ∷ [])) ∙ append_assoc p (c ++ i ∷ []) d.0,
  longer c i d.0,
)

own_deeper : (p key : List ℕ) (v : Option (List ℕ)) → AllByRecursion (IsDeeper p) (own_known key v)
own_deeper p key None = tt
own_deeper p key (Some value) = (tt, tt)

stub_deeper : (p c hash : List ℕ) (i : ℕ) → AllByRecursion (IsDeeper p) (stub_known ((p ++ c) ++ i ∷ []) hash)
stub_deeper p c hash i =
    elim (leb (length ((p ++ c) ++ i ∷ [])) 2048) as (λ b. AllByRecursion (IsDeeper p) (cond b (KnownNode hash ((p ++ c) ++ i ∷ []) ∷ []) [])) [
      | true ↦ ((c ++ i ∷ [], append_assoc p c (i ∷ []), some_end c i), tt)
      | false ↦ tt
    ]

child_deeper : (go : Node → List ℕ → List Known) (p c : List ℕ) (i : ℕ) → ((n : Node) → AllByRecursion (IsDeeper p) (go n ((p ++ c) ++ i ∷ [])))
    → (o : Option (List ℕ)) → AllByRecursion (IsDeeper p) (known_at go ((p ++ c) ++ i ∷ []) o)
child_deeper go p c i each None = tt
child_deeper go p c i each (Some b) =
    elim (eqb (length b) 32) as (λ t. AllByRecursion (IsDeeper p) (cond t (stub_known ((p ++ c) ++ i ∷ []) b) (inline_known (λ n. go n ((p ++ c) ++ i ∷ [])) (node_of_bytes b)))) [
      | true ↦ stub_deeper p c b i
      | false ↦ inline (node_of_bytes b)
    ]
  where
    inline : (r : Result Node CodecFault) → AllByRecursion (IsDeeper p) (inline_known (λ n. go n ((p ++ c) ++ i ∷ [])) r)
    inline (Ok n) = each n
    inline (Err f) = tt

pub all_deeper : (levels : ℕ) (n : Node) (p : List ℕ) → AllByRecursion (IsDeeper p) (known_in levels n p)
unfolding known_in
all_deeper zero n p = tt
all_deeper (suc levels) n p =
    all_joined (IsDeeper p) (own_known (p ++ n.partial) n.value)
    (flat_map (λ i. known_at (known_in levels) ((p ++ n.partial) ++ i ∷ []) (get_or n.children i None)) every_nibble)
    (own_deeper p (p ++ n.partial) n.value)
    (all_flat (IsDeeper p) (λ i. known_at (known_in levels) ((p ++ n.partial) ++ i ∷ []) (get_or n.children i None))
    (λ i. child_deeper (known_in levels) p n.partial i
    (λ m. all_weaker (IsDeeper ((p ++ n.partial) ++ i ∷ [])) (IsDeeper p) (further p n.partial i) (known_in levels m ((p ++ n.partial) ++ i ∷ []))
    (all_deeper levels m ((p ++ n.partial) ++ i ∷ []))) (get_or n.children i None)) every_nibble)
