-- What there is at a child stands for the keys and the nodes under it.
use Rattle.std.proofs.Common.{◌≡◌, ℕ, zero, suc, ◌<◌, ◌≤◌, Bool, true, false, eqb, ltb, cond, List, [], ◌∷◌, ◌++◌, length, get_or, Option, Some, None, refl, ap, subst, sym, ◌∙◌, inl, inr, arith, append_assoc, eq-eqb}
use Rattle.std.specs.Prelude.{Ok, filter}
use Rattle.std.specs.List.{flat_map}
use Rattle.std.proofs.lemmas.Bool.{cases_lt}
use Rattle.std.proofs.lemmas.List.{append-nil}
use Rattle.sdb_blake2.specs.Blake2b.{H}
use Rattle.trie_model.specs.Node.{IsNode, IsNodeWithin, Node, merkle_value, spelling}
use Rattle.trie_model.specs.Nodes.{PathNode, if_any, nodes_over}
use Rattle.trie_model.specs.Trie.{Suffix, below, child_value, every_nibble, levels_of, node_of_all}
use Rattle.trie_codec.specs.Reading.{node_of_bytes}
use Rattle.trie_codec.proofs.Spellings.{whole_read}
use Rattle.trie_root.proofs.Levels.{levels_above_none}
use Rattle.trie_root.proofs.Rows.{unlike}
use Rattle.trie_read.specs.Paths.{child_path, node_at}
use Rattle.trie_read.specs.inner.Following.{Sound, head_at}
use Rattle.trie_read.specs.inner.Parts.{OfNode, Piece, StandFor, child_parts, gone_into, inline_parts, keys_under, parts_in, parts_there}
use Rattle.trie_read.proofs.Binding.{from_path, none_or_some}
use Rattle.trie_read.proofs.Children.{child_of}
use Rattle.trie_read.proofs.Depths.{first_over, same_nodes}
use Rattle.trie_read.proofs.Followed.{child_within, not_kept, short_child}
use Rattle.trie_read.proofs.Hanging.{Above, fits_below}
use Rattle.trie_read.proofs.Sound.{length-hash, node_sound, sound_below}
use Rattle.trie_read.proofs.Standing.{none_gone, none_under, stand_as, stand_none}
use Rattle.trie_read.proofs.Stored.{is_kept}
use Rattle.trie_read.proofs.Ways.{starts_if_any}

-- below a path that isn't gone into there is neither a key that is kept nor a path that is gone into
pub record IsClosed (keeps goes : List ℕ → Bool) : Type 0 where
  pub keys : (p r : List ℕ) → goes p ≡ false → keeps (p ++ r) ≡ false
  pub paths : (p r : List ℕ) → goes p ≡ false → goes (p ++ r) ≡ false

all_there : (f : List Suffix → List PathNode) (us : List Suffix) → (us ≡ [] → ⊥) → if_any f us ≡ f us
all_there f [] z = absurd (z refl)
all_there f (u ∷ us) z = refl

-- ---- what a child has

none_there : (goes : List ℕ → Bool) (go : Node → List ℕ → List Piece) (q : List ℕ) (o : Option (List ℕ)) → o ≡ None → [] ≡ child_parts goes go q o
none_there goes go q o e =
    elim (goes q) as (λ b. [] ≡ cond b (parts_there go q None) []) [ true ↦ refl | false ↦ refl ] ∙ ap (child_parts goes go q) (sym e)

far_there : (goes : List ℕ → Bool) (go : Node → List ℕ → List Piece) (q : List ℕ) (o : Option (List ℕ)) → goes q ≡ false → [] ≡ child_parts goes go q o
far_there goes go q o e = sym (ap (λ b. cond b (parts_there go q o) []) e)

near_there : (goes : List ℕ → Bool) (go : Node → List ℕ → List Piece) (q : List ℕ) (o : Option (List ℕ)) → goes q ≡ true → parts_there go q o ≡ child_parts goes go q o
near_there goes go q o e = sym (ap (λ b. cond b (parts_there go q o) []) e)

short_there : (go : Node → List ℕ → List Piece) (q : List ℕ) (o : Option (List ℕ)) (b : List ℕ) (m : Node) → o ≡ Some (merkle_value b) → length b < 32 → node_of_bytes b ≡ Ok m
    → go m q ≡ parts_there go q o
short_there go q o b m e h k =
    let is : o ≡ Some b = short_child o b e h in
    let other : eqb (length b) 32 ≡ false = unlike (length b) 32 (λ z. omega arith) in
    sym (ap (parts_there go q) is ∙ ap (λ t. cond t (OfNode b q ∷ []) (inline_parts (λ n. go n q) (node_of_bytes b))) other ∙ ap (inline_parts (λ n. go n q)) k)

long_there : (go : Node → List ℕ → List Piece) (q : List ℕ) (o : Option (List ℕ)) (b : List ℕ) → o ≡ Some (merkle_value b) → 32 ≤ length b → OfNode (H b) q ∷ [] ≡ parts_there go q o
unfolding merkle_value
long_there go q o b e h =
    let long : ltb (length b) 32 ≡ false = grind arith in
    let is : o ≡ Some (H b) = rw long at e in
    let same : eqb (length (H b)) 32 ≡ true = eq-eqb (length (H b)) 32 (length-hash b) in
    sym (ap (parts_there go q) is ∙ ap (λ t. cond t (OfNode (H b) q ∷ []) (inline_parts (λ n. go n q) (node_of_bytes (H b)))) same)

module _ (ss : List Suffix) (keeps goes : List ℕ → Bool) where
  -- what a node has at a path stands for the keys and the nodes under it
  abbrev pub Deeper : ℕ → ℕ → Type 0
  Deeper l d = (q : List ℕ) → levels_of (below q ss) ≤ d → IsNodeWithin l (node_at ss q) → (t : List PathNode) → nodes_over d q (below q ss) ≡ head_at ss q ∷ t
      → StandFor ss keeps goes (parts_in keeps goes l (node_at ss q) q) (keys_under keeps q (below q ss)) (gone_into goes t)

  abbrev pub ChildStands : ℕ → ℕ → List ℕ → Option (List ℕ) → Type 0
  ChildStands l d q o = StandFor ss keeps goes (child_parts goes (parts_in keeps goes l) q o) (keys_under keeps q (below q ss)) (gone_into goes (if_any (nodes_over d q) (below q ss)))

  no_child : (l d : ℕ) (q : List ℕ) (o : Option (List ℕ)) → o ≡ None → below q ss ≡ [] → ChildStands l d q o
  no_child l d q o e none =
      stand_as [] (child_parts goes (parts_in keeps goes l) q o) [] (keys_under keeps q (below q ss)) [] (gone_into goes (if_any (nodes_over d q) (below q ss)))
      (none_there goes (parts_in keeps goes l) q o e) (ap (keys_under keeps q) (sym none)) (ap (λ (us : List Suffix). gone_into goes (if_any (nodes_over d q) us)) (sym none)) stand_none

  far_child : (l d : ℕ) → IsClosed keeps goes → (q : List ℕ) (o : Option (List ℕ)) → goes q ≡ false → ChildStands l d q o
  far_child l d closed q o far =
      stand_as [] (child_parts goes (parts_in keeps goes l) q o) [] (keys_under keeps q (below q ss)) [] (gone_into goes (if_any (nodes_over d q) (below q ss)))
      (far_there goes (parts_in keeps goes l) q o far)
      (sym (none_under keeps q (λ r. closed.keys q r far) (below q ss)))
      (sym (none_gone goes q (λ r. closed.paths q r far) (if_any (nodes_over d q) (below q ss)) (starts_if_any d q (below q ss))))
      stand_none

  short_one : (l d : ℕ) → Deeper l d → (p q c : List ℕ) (i : ℕ) (o : Option (List ℕ)) → q ≡ (p ++ c) ++ i ∷ [] → goes q ≡ true → levels_of (below q ss) ≤ d → (below q ss ≡ [] → ⊥)
      → IsNodeWithin l (node_at ss q) → IsNode (node_at ss q) → o ≡ Some (merkle_value (spelling (node_at ss q))) → length (spelling (node_at ss q)) < 32 → ChildStands l d q o
  short_one l zero deeper p q c i o path near fits some within sound child short = absurd (omega (arith, levels_above_none (below q ss)))
  short_one l (suc d) deeper p q c i o path near fits some within sound child short =
      let t : List PathNode = flat_map (λ j. if_any (nodes_over d (q ++ Above (below q ss) j)) (below (Above (below q ss) j) (below q ss))) every_nibble in
      let first : nodes_over (suc d) q (below q ss) ≡ head_at ss q ∷ t = first_over d ss q fits in
      let go : Node → List ℕ → List Piece = parts_in keeps goes l in
      let off : gone_into goes (head_at ss q ∷ t) ≡ gone_into goes t = ap (filter (λ (n : PathNode). goes n.path)) (not_kept q (spelling (node_at ss q)) i (p ++ c) t path short) in
      stand_as (go (node_at ss q) q) (child_parts goes go q o) (keys_under keeps q (below q ss)) (keys_under keeps q (below q ss)) (gone_into goes t) (gone_into goes (if_any (nodes_over (suc d) q) (below q ss)))
      (short_there go q o (spelling (node_at ss q)) (node_at ss q) child short (whole_read (node_at ss q) sound) ∙ near_there goes go q o near)
      refl
      (sym (ap (gone_into goes) (all_there (nodes_over (suc d) q) (below q ss) some ∙ first) ∙ off))
      (deeper q fits within t first)

  long_one : (l d : ℕ) (q : List ℕ) (o : Option (List ℕ)) → goes q ≡ true → levels_of (below q ss) ≤ d → (below q ss ≡ [] → ⊥)
      → o ≡ Some (merkle_value (spelling (node_at ss q))) → 32 ≤ length (spelling (node_at ss q)) → ChildStands l d q o
  long_one l d q o near fits some child long =
      let go : Node → List ℕ → List Piece = parts_in keeps goes l in
      let us : List Suffix = below q ss in
      let h : List ℕ = H (spelling (node_at ss q)) in
      stand_as (OfNode h q ∷ []) (child_parts goes go q o) (keys_under keeps q us) (keys_under keeps q us) (gone_into goes (nodes_over (levels_of us) q us)) (gone_into goes (if_any (nodes_over d q) us))
      (long_there go q o (spelling (node_at ss q)) child long ∙ near_there goes go q o near)
      refl
      (ap (gone_into goes) (same_nodes (levels_of us) d q us (omega arith) fits ∙ sym (all_there (nodes_over d q) us some)))
      (record {
        sound = (record { is_hash = refl; stored = is_kept (head_at ss q) (inr long); near = near; some = inr some }, tt);
        keys = append-nil (keys_under keeps q us);
        nodes = append-nil (gone_into goes (nodes_over (levels_of us) q us));
      })

  pub child_stands : (l d : ℕ) → IsClosed keeps goes → Sound ss → (p : List ℕ) (i : ℕ) → suc l ≤ 33 → levels_of (below p ss) ≤ suc d → IsNodeWithin (suc l) (node_at ss p) → i < 16 → Deeper l d
      → ChildStands l d (child_path ss p i) (get_or (node_at ss p).children i None)
  child_stands l d closed s p i few fits w small deeper =
      let n : Node = node_at ss p in
      let q : List ℕ = child_path ss p i in
      let b : List ℕ = spelling (node_at ss q) in
      let o : Option (List ℕ) = get_or n.children i None in
      elim (none_or_some (below q ss)) [
        | inl none ↦ no_child l d q o (child_of ss p i small ∙ ap (child_value node_of_all) none) none
        | inr some ↦
            let child : o ≡ Some (merkle_value b) = child_of ss p i small ∙ some.1 in
            let lower : levels_of (below q ss) ≤ d =
            subst (λ (us : List Suffix). levels_of us ≤ d) (sym (from_path ss p i)) (fits_below d (below p ss) i fits (λ z. some.0 (from_path ss p i ∙ z))) in
            let sound : IsNode (node_at ss q) = node_sound (below q ss) (sound_below q ss s) in
            elim (goes q) as (λ x. goes q ≡ x → ChildStands l d q o) [
              | false ↦ λ far. far_child l d closed q o far
              | true ↦ λ near. elim (cases_lt (length b) 32) [
                | inl short ↦
                    let within : IsNodeWithin l (node_at ss q) = child_within l n (node_at ss q) i b w small (short_child o b child short) short sound refl (omega arith) in
                    short_one l d deeper p q n.partial i o (sym (append_assoc p n.partial (i ∷ []))) near lower some.0 within sound child short
                | inr long ↦ long_one l d q o near lower some.0 child long
              ]
            ] refl
      ]
