-- What there is at a child stands for the suffixes and the nodes under it.
use Rattle.std.proofs.Common.{◌≡◌, ℕ, zero, suc, ◌<◌, ◌≤◌, true, false, eqb, ltb, leb, cond, List, [], ◌∷◌, ◌++◌, length, get_or, Option, Some, None, refl, ap, subst, sym, ◌∙◌, inl, inr, arith, append_assoc, eq-eqb}
use Rattle.std.specs.Prelude.{Ok, filter}
use Rattle.std.specs.List.{AllByRecursion, flat_map}
use Rattle.std.proofs.lemmas.Bool.{cases_lt}
use Rattle.std.proofs.lemmas.List.{append-nil}
use Rattle.sdb_blake2.specs.Blake2b.{H}
use Rattle.trie_model.specs.Node.{IsNode, IsNodeWithin, Node, merkle_value, spelling}
use Rattle.trie_model.specs.Nodes.{PathNode, if_any, is_stored, nodes_over}
use Rattle.trie_model.specs.Trie.{Suffix, below, child_value, every_nibble, levels_of, node_of_all, with_prefix}
use Rattle.trie_codec.specs.Reading.{node_of_bytes}
use Rattle.trie_codec.proofs.Spellings.{whole_read}
use Rattle.trie_root.specs.Suffixes.{IsSuffix}
use Rattle.trie_root.proofs.Levels.{levels_above_none, levels_below}
use Rattle.trie_root.proofs.Rows.{unlike}
use Rattle.trie_read.specs.Paths.{child_path, node_at}
use Rattle.trie_read.proofs.Binding.{from_path, none_or_some}
use Rattle.trie_read.proofs.Children.{child_of}
use Rattle.trie_read.proofs.Depths.{first_over, same_nodes}
use Rattle.trie_read.proofs.Followed.{child_within, not_kept, short_child}
use Rattle.trie_read.proofs.Hanging.{Above, fits_below}
use Rattle.trie_read.proofs.Sound.{Sound, length-hash, node_sound, sound_below}
use Rattle.trie_read.proofs.Stored.{is_kept}
use Rattle.trie_change.specs.Frontier.{path_node_at}
use Rattle.trie_change.specs.inner.Known.{Known, KnownNode, inline_known, known_at, known_in, stub_known}
use Rattle.trie_change.proofs.Unfolds.{Unfolds, unfold_as, unfold_none}

all_there : (f : List Suffix → List PathNode) (us : List Suffix) → (us ≡ [] → ⊥) → if_any f us ≡ f us
all_there f [] z = absurd (z refl)
all_there f (u ∷ us) z = refl

-- ---- the limit of paths

levels_within : (ss : List Suffix) → AllByRecursion IsSuffix ss → levels_of ss ≤ 2049
levels_within [] a = omega arith
levels_within (s ∷ ss) a = omega (arith, a.0.few, levels_within ss a.1)

pub path_within : (ss : List Suffix) → Sound ss → (p : List ℕ) → (below p ss ≡ [] → ⊥) → length p ≤ 2048
path_within ss s p some = elim (levels_below p ss) [
  | inl none ↦ absurd (some none)
  | inr fits ↦ omega (arith, fits, levels_above_none (below p ss), levels_within ss s.within)
]

-- ---- what a child has

none_there : (go : Node → List ℕ → List Known) (q : List ℕ) (o : Option (List ℕ)) → o ≡ None → [] ≡ known_at go q o
none_there go q o e = ap (known_at go q) (sym e)

short_there : (go : Node → List ℕ → List Known) (q : List ℕ) (o : Option (List ℕ)) (b : List ℕ) (m : Node) → o ≡ Some (merkle_value b) → length b < 32 → node_of_bytes b ≡ Ok m
    → go m q ≡ known_at go q o
short_there go q o b m e h k =
    let is : o ≡ Some b = short_child o b e h in
    let other : eqb (length b) 32 ≡ false = unlike (length b) 32 (λ z. omega arith) in
    sym (ap (known_at go q) is ∙ ap (λ t. cond t (stub_known q b) (inline_known (λ n. go n q) (node_of_bytes b))) other ∙ ap (inline_known (λ n. go n q)) k)

fits_there : (q hash : List ℕ) → length q ≤ 2048 → stub_known q hash ≡ KnownNode hash q ∷ []
fits_there q hash h =
    let fits : leb (length q) 2048 ≡ true = grind arith in
    ap (λ t. cond t (KnownNode hash q ∷ []) []) fits

long_there : (go : Node → List ℕ → List Known) (q : List ℕ) (o : Option (List ℕ)) (b : List ℕ) → length q ≤ 2048 → o ≡ Some (merkle_value b) → 32 ≤ length b → KnownNode (H b) q ∷ [] ≡ known_at go q o
unfolding merkle_value
long_there go q o b fits e h =
    let long : ltb (length b) 32 ≡ false = grind arith in
    let is : o ≡ Some (H b) = rw long at e in
    let same : eqb (length (H b)) 32 ≡ true = eq-eqb (length (H b)) 32 (length-hash b) in
    sym (ap (known_at go q) is ∙ ap (λ t. cond t (stub_known q (H b)) (inline_known (λ n. go n q) (node_of_bytes (H b)))) same ∙ fits_there q (H b) fits)

module _ (ss : List Suffix) where
  -- what a node has at a path stands for the suffixes and the nodes under it
  abbrev pub Deeper : ℕ → ℕ → Type 0
  Deeper l d = (q : List ℕ) → levels_of (below q ss) ≤ d → IsNodeWithin l (node_at ss q) → (t : List PathNode) → nodes_over d q (below q ss) ≡ path_node_at ss q ∷ t
      → Unfolds ss (known_in l (node_at ss q) q) (with_prefix q (below q ss)) (filter is_stored t)

  abbrev pub ChildUnfolds : ℕ → ℕ → List ℕ → Option (List ℕ) → Type 0
  ChildUnfolds l d q o = Unfolds ss (known_at (known_in l) q o) (with_prefix q (below q ss)) (filter is_stored (if_any (nodes_over d q) (below q ss)))

  no_child : (l d : ℕ) (q : List ℕ) (o : Option (List ℕ)) → o ≡ None → below q ss ≡ [] → ChildUnfolds l d q o
  no_child l d q o e none =
      unfold_as [] (known_at (known_in l) q o) [] (with_prefix q (below q ss)) [] (filter is_stored (if_any (nodes_over d q) (below q ss)))
      (none_there (known_in l) q o e) (ap (with_prefix q) (sym none)) (ap (λ (us : List Suffix). filter is_stored (if_any (nodes_over d q) us)) (sym none)) unfold_none

  short_one : (l d : ℕ) → Deeper l d → (p q c : List ℕ) (i : ℕ) (o : Option (List ℕ)) → q ≡ (p ++ c) ++ i ∷ [] → levels_of (below q ss) ≤ d → (below q ss ≡ [] → ⊥)
      → IsNodeWithin l (node_at ss q) → IsNode (node_at ss q) → o ≡ Some (merkle_value (spelling (node_at ss q))) → length (spelling (node_at ss q)) < 32 → ChildUnfolds l d q o
  short_one l zero deeper p q c i o path fits some within sound child short = absurd (omega (arith, levels_above_none (below q ss)))
  short_one l (suc d) deeper p q c i o path fits some within sound child short =
      let t : List PathNode = flat_map (λ j. if_any (nodes_over d (q ++ Above (below q ss) j)) (below (Above (below q ss) j) (below q ss))) every_nibble in
      let first : nodes_over (suc d) q (below q ss) ≡ path_node_at ss q ∷ t = first_over d ss q fits in
      let go : Node → List ℕ → List Known = known_in l in
      let off : filter is_stored (path_node_at ss q ∷ t) ≡ filter is_stored t = not_kept q (spelling (node_at ss q)) i (p ++ c) t path short in
      unfold_as (go (node_at ss q) q) (known_at go q o) (with_prefix q (below q ss)) (with_prefix q (below q ss)) (filter is_stored t) (filter is_stored (if_any (nodes_over (suc d) q) (below q ss)))
      (short_there go q o (spelling (node_at ss q)) (node_at ss q) child short (whole_read (node_at ss q) sound))
      refl
      (sym (ap (filter is_stored) (all_there (nodes_over (suc d) q) (below q ss) some ∙ first) ∙ off))
      (deeper q fits within t first)

  long_one : (l d : ℕ) (q : List ℕ) (o : Option (List ℕ)) → length q ≤ 2048 → levels_of (below q ss) ≤ d → (below q ss ≡ [] → ⊥)
      → o ≡ Some (merkle_value (spelling (node_at ss q))) → 32 ≤ length (spelling (node_at ss q)) → ChildUnfolds l d q o
  long_one l d q o short fits some child long =
      let go : Node → List ℕ → List Known = known_in l in
      let us : List Suffix = below q ss in
      let h : List ℕ = H (spelling (node_at ss q)) in
      unfold_as (KnownNode h q ∷ []) (known_at go q o) (with_prefix q us) (with_prefix q us) (filter is_stored (nodes_over (levels_of us) q us)) (filter is_stored (if_any (nodes_over d q) us))
      (long_there go q o (spelling (node_at ss q)) short child long)
      refl
      (ap (filter is_stored) (same_nodes (levels_of us) d q us (omega arith) fits ∙ sym (all_there (nodes_over d q) us some)))
      (record {
        sound = (record { is_hash = refl; stored = is_kept (path_node_at ss q) (inr long); some = some }, tt);
        whole = append-nil (with_prefix q us);
        nodes = append-nil (filter is_stored (nodes_over (levels_of us) q us));
      })

  pub child_unfolds : (l d : ℕ) → Sound ss → (p : List ℕ) (i : ℕ) → suc l ≤ 33 → levels_of (below p ss) ≤ suc d → IsNodeWithin (suc l) (node_at ss p) → i < 16 → Deeper l d
      → ChildUnfolds l d (child_path ss p i) (get_or (node_at ss p).children i None)
  child_unfolds l d s p i few fits w small deeper =
      let n : Node = node_at ss p in
      let q : List ℕ = child_path ss p i in
      let b : List ℕ = spelling (node_at ss q) in
      let o : Option (List ℕ) = get_or n.children i None in
      elim (none_or_some (below q ss)) [
        | inl none ↦ no_child l d q o (child_of ss p i small ∙ ap (child_value node_of_all) none) none
        | inr some ↦
            let child : o ≡ Some (merkle_value b) = child_of ss p i small ∙ some.1 in
            let lower : levels_of (below q ss) ≤ d =
            subst (λ (us : List Suffix). levels_of us ≤ d) (sym (from_path ss p i)) (fits_below d (below p ss) i fits (λ z. some.0 (from_path ss p i ∙ z))) in
            let sound : IsNode (node_at ss q) = node_sound (below q ss) (sound_below q ss s) in
            elim (cases_lt (length b) 32) [
              | inl short ↦
                  let within : IsNodeWithin l (node_at ss q) = child_within l n (node_at ss q) i b w small (short_child o b child short) short sound refl (omega arith) in
                  short_one l d deeper p q n.partial i o (sym (append_assoc p n.partial (i ∷ []))) lower some.0 within sound child short
              | inr long ↦ long_one l d q o (path_within ss s q some.0) lower some.0 child long
            ]
      ]
