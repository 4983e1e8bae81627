-- Nodes hang where suffixes part.
use Rattle.std.proofs.Common.{◌≡◌, ℕ, zero, suc, ◌<◌, ◌≤◌, true, false, eqb, List, [], ◌∷◌, ◌++◌, map, drop, refl, ap, subst, sym, ◌∙◌, inl, inr, arith, append_assoc, eq-eqb}
use Rattle.std.specs.List.{AllByRecursion, flat_map}
use Rattle.std.proofs.lemmas.Bool.Decides.{eqb_tells}
use Rattle.std.proofs.lemmas.List.{append-nil}
use Rattle.trie_model.specs.Node.{spelling}
use Rattle.trie_model.specs.Nodes.{PathNode, if_any, nodes_over}
use Rattle.trie_model.specs.Trie.{Suffix, below, common, common_prefix, levels_of, node_of_all, node_over}
use Rattle.trie_root.proofs.Fronts.{all_with, none_with_other}
use Rattle.trie_root.proofs.Levels.{levels_above_none, same_node}
use Rattle.trie_root.proofs.Prefixes.{Begins, begins_further, begins_itself, begins_nothing, begins_parts, below-append, without}
use Rattle.trie_root.proofs.ReadOff.{fewer_levels}
use Rattle.trie_root.proofs.ReadOffNibbles.{InNibbles, from, shorter_in_nibbles}
use Rattle.trie_root.proofs.ReadOffOrder.{all_below}
use Rattle.trie_root.proofs.ShapesShared.{nothing_shared}
use Rattle.trie_root.proofs.Stripped.{AllBegin, all_begin}
use Rattle.trie_read.specs.Paths.{Hangs}
use Rattle.trie_read.proofs.Among.{Among, among_flat, among_if_any, flat_among, if_any_among}

-- ---- what all suffixes begin with

pub below-nil : (ss : List Suffix) → below [] ss ≡ ss
below-nil [] = refl
below-nil (s ∷ ss) = ap (λ (ts : List Suffix). s ∷ ts) (below-nil ss)

begins_common : (p a b : List ℕ) → Begins p a → Begins p b → Begins p (common a b)
begins_common [] a b h k = record { rest = refl }
begins_common (x ∷ p) [] b h k = absurd (begins_nothing x p h)
begins_common (x ∷ p) (n ∷ a) [] h k = absurd (begins_nothing x p k)
begins_common (x ∷ p) (n ∷ a) (m ∷ b) h k =
    let one : (x ≡ n) × Begins p a = begins_parts x n p a h in
    let two : (x ≡ m) × Begins p b = begins_parts x m p b k in
    let same : eqb n m ≡ true = eq-eqb n m (sym one.0 ∙ two.0) in
    rw same (begins_further x n p (common a b) one.0 (begins_common p a b one.1 two.1))

all_share : (p : List ℕ) (s : Suffix) (ss : List Suffix) → AllBegin p (s ∷ ss) → Begins p (common_prefix (s ∷ ss))
all_share p s [] h = h.0
all_share p s (t ∷ ss) h = begins_common p s.0 (common_prefix (t ∷ ss)) h.0 (all_share p t ss h.1)

some_shared : (x : ℕ) (p : List ℕ) (ss : List Suffix) → AllBegin (x ∷ p) ss → (ss ≡ [] → ⊥) → common_prefix ss ≡ [] → ⊥
some_shared x p [] h some e = some refl
some_shared x p (s ∷ ss) h some e = begins_nothing x p (subst (λ (q : List ℕ). Begins (x ∷ p) q) e (all_share (x ∷ p) s ss h))

begins_first : (x : ℕ) (p ns : List ℕ) → Begins (x ∷ p) ns → Begins (x ∷ []) ns × Begins p (drop 1 ns)
begins_first x p [] h = absurd (begins_nothing x p h)
begins_first x p (n ∷ ns) h =
    let parts : (x ≡ n) × Begins p ns = begins_parts x n p ns h in
    (begins_further x n [] ns parts.0 (record { rest = refl }), parts.1)

all_begin_first : (x : ℕ) (p : List ℕ) (ss : List Suffix) → AllBegin (x ∷ p) ss → AllBegin (x ∷ []) ss × AllBegin p (map (without 1) ss)
all_begin_first x p [] h = (tt, tt)
all_begin_first x p (s ∷ ss) h =
    let one : Begins (x ∷ []) s.0 × Begins p (drop 1 s.0) = begins_first x p s.0 h.0 in
    let others : AllBegin (x ∷ []) ss × AllBegin p (map (without 1) ss) = all_begin_first x p ss h.1 in
    ((one.0, others.0), (one.1, others.1))

-- where suffixes that go on with some nibbles share nothing further, those nibbles go on from what all share
goes_on : (p q : List ℕ) (ss : List Suffix) → AllBegin p ss → common_prefix (below q ss) ≡ [] → (below q ss ≡ [] → ⊥) → (r : List ℕ) × (q ≡ p ++ r)
goes_on [] q ss h none some = (q, refl)
goes_on (x ∷ p) [] ss h none some =
    let same : below [] ss ≡ ss = below-nil ss in
    absurd (some_shared x p ss h (λ e. some (same ∙ e)) (sym (ap common_prefix same) ∙ none))
goes_on (x ∷ p) (y ∷ q) ss h none some =
    let first : AllBegin (x ∷ []) ss × AllBegin p (map (without 1) ss) = all_begin_first x p ss h in
    let two : below (y ∷ q) ss ≡ below q (below (y ∷ []) ss) = below-append (y ∷ []) q ss in
    elim (eqb_tells x y) [
      | inl t ↦
          let is : x ≡ y = t.1 in
          let with : below (y ∷ []) ss ≡ map (without 1) ss = subst (λ (k : ℕ). below (k ∷ []) ss ≡ map (without 1) ss) is (all_with x ss first.0) in
          let all : below (y ∷ q) ss ≡ below q (map (without 1) ss) = two ∙ ap (below q) with in
          let rest : (r : List ℕ) × (q ≡ p ++ r) = goes_on p q (map (without 1) ss) first.1 (sym (ap common_prefix all) ∙ none) (λ e. some (all ∙ e)) in
          (rest.0, first_alike x y q (p ++ rest.0) is rest.1)
      | inr f ↦ absurd (some (two ∙ ap (below q) (none_with_other x y ss (λ e. f.1 (sym e)) first.0)))
    ]
  where
    first_alike : (x y : ℕ) (q r : List ℕ) → x ≡ y → q ≡ r → y ∷ q ≡ x ∷ r
    first_alike x y q r e k = cc

-- ---- from the list to where a node hangs

abbrev pub Above : List Suffix → ℕ → List ℕ
Above ss i = common_prefix ss ++ i ∷ []

pub fits_below : (d : ℕ) (ss : List Suffix) (i : ℕ) → levels_of ss ≤ suc d → (below (Above ss i) ss ≡ [] → ⊥) → levels_of (below (Above ss i) ss) ≤ d
fits_below d ss i fits some =
    let two : below (Above ss i) ss ≡ below (i ∷ []) (below (common_prefix ss) ss) = below-append (common_prefix ss) (i ∷ []) ss in
    elim (fewer_levels d (common_prefix ss) i ss fits) [
      | inl none ↦ absurd (some (two ∙ none))
      | inr less ↦ subst (λ (ts : List Suffix). levels_of ts ≤ d) (sym two) less
    ]

pub hangs_further : (ss : List Suffix) (i : ℕ) (r : List ℕ) → (below (Above ss i) ss ≡ [] → ⊥) → Hangs (below (Above ss i) ss) r → Hangs ss (Above ss i ++ r)
hangs_further ss i r some (inl e) =
    let same : Above ss i ++ r ≡ Above ss i = ap (λ (q : List ℕ). Above ss i ++ q) e ∙ append-nil (Above ss i) in
    inr (common_prefix ss, i, same, nothing_shared ss, λ none. some (sym (ap (λ (q : List ℕ). below q ss) same) ∙ none))
hangs_further ss i r some (inr h) =
    inr (
      Above ss i ++ h.0,
      h.1,
      ap (λ (q : List ℕ). Above ss i ++ q) h.2 ∙ sym (append_assoc (Above ss i) h.0 (h.1 ∷ [])),
      ap common_prefix (below-append (Above ss i) h.0 ss) ∙ h.3,
      λ none. h.4 (sym (below-append (Above ss i) r ss) ∙ none),
    )

-- a node whose path goes on from another's by some nibbles, of the suffixes there
pub record Hung (p : List ℕ) (ss : List Suffix) (n : PathNode) : Type 0 where
  pub rest : List ℕ
  pub path : n.path ≡ p ++ rest
  pub hangs : Hangs ss rest
  pub bytes : n.bytes ≡ spelling (node_of_all (below rest ss))

spelled_whole : (d : ℕ) (ss : List Suffix) → levels_of ss ≤ d → spelling (node_over d ss) ≡ spelling (node_of_all (below [] ss))
spelled_whole d ss fits =
    ap spelling (same_node d (levels_of ss) ss fits (omega arith)) ∙ ap (λ (ts : List Suffix). spelling (node_of_all ts)) (sym (below-nil ss))

pub hung_from : (d : ℕ) (p : List ℕ) (ss : List Suffix) (n : PathNode) → levels_of ss ≤ d → Among n (nodes_over d p ss) → Hung p ss n
unfolding nodes_over
hung_from zero p ss n fits a = absurd a
hung_from (suc d) p ss n fits (inl e) = record {
  rest = [];
  path = sym (ap (λ (m : PathNode). m.path) e) ∙ sym (append-nil p);
  hangs = inl refl;
  bytes = sym (ap (λ (m : PathNode). m.bytes) e) ∙ spelled_whole (suc d) ss fits;
}
hung_from (suc d) p ss n fits (inr a) =
    let f : ℕ → List PathNode = λ i. if_any (nodes_over d (p ++ Above ss i)) (below (Above ss i) ss) in
    let at : (i : ℕ) × Among n (f i) = among_flat n f (from 0 16) a in
    let i : ℕ = at.0 in
    let ts : List Suffix = below (Above ss i) ss in
    let some : (ts ≡ [] → ⊥) × Among n (nodes_over d (p ++ Above ss i) ts) = among_if_any n (nodes_over d (p ++ Above ss i)) ts at.1 in
    let more : Hung (p ++ Above ss i) ts n = hung_from d (p ++ Above ss i) ts n (fits_below d ss i fits some.0) some.1 in
    record {
      rest = Above ss i ++ more.rest;
      path = more.path ∙ append_assoc p (Above ss i) more.rest;
      hangs = hangs_further ss i more.rest some.0 more.hangs;
      bytes = more.bytes ∙ ap (λ (us : List Suffix). spelling (node_of_all us)) (sym (below-append (Above ss i) more.rest ss));
    }

-- ---- and back

abbrev pub hung_at : List ℕ → List Suffix → List ℕ → PathNode
hung_at p ss r = record { path = p ++ r; bytes = spelling (node_of_all (below r ss)) }

pub alike : (a b x y : List ℕ) → a ≡ b → x ≡ y → (let m : PathNode = record { path = a; bytes = x } in m) ≡ record { path = b; bytes = y }
alike a b x y e k = cc

-- the child through which a path goes that isn't empty
pub record Way (ss : List Suffix) (r : List ℕ) : Type 0 where
  pub nibble : ℕ
  pub rest : List ℕ
  pub is : r ≡ Above ss nibble ++ rest
  pub hangs : Hangs (below (Above ss nibble) ss) rest

regrouped : (c : List ℕ) (j : ℕ) (k : List ℕ) (i : ℕ) → (c ++ (j ∷ k)) ++ i ∷ [] ≡ (c ++ j ∷ []) ++ (k ++ i ∷ [])
regrouped c j k i = simp append_assoc

between : (c : List ℕ) (j : ℕ) (k : List ℕ) → c ++ (j ∷ k) ≡ (c ++ j ∷ []) ++ k
between c j k = simp append_assoc

pub way : (ss : List Suffix) (q : List ℕ) (i : ℕ) (r : List ℕ) → r ≡ q ++ i ∷ [] → common_prefix (below q ss) ≡ [] → (below r ss ≡ [] → ⊥) → Way ss r
way ss q i r e none some =
    let through : below r ss ≡ below (i ∷ []) (below q ss) = ap (λ (k : List ℕ). below k ss) e ∙ below-append q (i ∷ []) ss in
    let on : (k : List ℕ) × (q ≡ common_prefix ss ++ k) =
    goes_on (common_prefix ss) q ss (all_begin (common_prefix ss) ss (begins_itself (common_prefix ss))) none (λ z. some (through ∙ ap (below (i ∷ [])) z)) in
    from_rest on.0 on.1
  where
    from_rest : (k : List ℕ) → q ≡ common_prefix ss ++ k → Way ss r
    from_rest [] at = record {
      nibble = i;
      rest = [];
      is = e ∙ ap (λ (t : List ℕ). t ++ i ∷ []) (at ∙ append-nil (common_prefix ss)) ∙ sym (append-nil (Above ss i));
      hangs = inl refl;
    }
    from_rest (j ∷ k) at =
        let is : r ≡ Above ss j ++ (k ++ i ∷ []) = e ∙ ap (λ (t : List ℕ). t ++ i ∷ []) at ∙ regrouped (common_prefix ss) j k i in
        let same : q ≡ Above ss j ++ k = at ∙ between (common_prefix ss) j k in
        record {
          nibble = j;
          rest = k ++ i ∷ [];
          is = is;
          hangs = inr (
            k,
            i,
            refl,
            sym (ap common_prefix (ap (λ (t : List ℕ). below t ss) same ∙ below-append (Above ss j) k ss)) ∙ none,
            λ z. some (ap (λ (t : List ℕ). below t ss) is ∙ below-append (Above ss j) (k ++ i ∷ []) ss ∙ z),
          );
        }

pub is_nibble : (j : ℕ) (ss : List Suffix) → AllByRecursion InNibbles ss → (below (j ∷ []) ss ≡ [] → ⊥) → j < 16
is_nibble j [] a some = absurd (some refl)
is_nibble j (([], v) ∷ ss) a some = is_nibble j ss a.1 some
is_nibble j ((n ∷ ns, v) ∷ ss) a some =
    elim (eqb_tells j n) [
      | inl t ↦ omega (arith, t.1, a.0.0)
      | inr f ↦ let other : eqb j n ≡ false = f.0 in is_nibble j ss a.1 (rw other at some)
    ]

pub hung_among : (d : ℕ) (p : List ℕ) (ss : List Suffix) (r : List ℕ) → levels_of ss ≤ d → AllByRecursion InNibbles ss → Hangs ss r
    → Among (hung_at p ss r) (nodes_over d p ss)
unfolding nodes_over
hung_among zero p ss r fits a h = absurd (omega (arith, levels_above_none ss))
hung_among (suc d) p ss r fits a (inl e) =
    inl (alike p (p ++ r) (spelling (node_over (suc d) ss)) (spelling (node_of_all (below r ss)))
    (sym (append-nil p) ∙ ap (λ (t : List ℕ). p ++ t) (sym e))
    (spelled_whole (suc d) ss fits ∙ ap (λ (t : List ℕ). spelling (node_of_all (below t ss))) (sym e)))
hung_among (suc d) p ss r fits a (inr h) =
    let w : Way ss r = way ss h.0 h.1 r h.2 h.3 h.4 in
    let j : ℕ = w.nibble in
    let ts : List Suffix = below (Above ss j) ss in
    let two : ts ≡ below (j ∷ []) (below (common_prefix ss) ss) = below-append (common_prefix ss) (j ∷ []) ss in
    let at : below r ss ≡ below w.rest ts = ap (λ (t : List ℕ). below t ss) w.is ∙ below-append (Above ss j) w.rest ss in
    let some : ts ≡ [] → ⊥ = λ z. h.4 (at ∙ ap (below w.rest) z) in
    let nibbles : AllByRecursion InNibbles (below (common_prefix ss) ss) = all_below InNibbles shorter_in_nibbles (common_prefix ss) ss a in
    let small : j < 16 = is_nibble j (below (common_prefix ss) ss) nibbles (λ z. some (two ∙ z)) in
    let f : ℕ → List PathNode = λ i. if_any (nodes_over d (p ++ Above ss i)) (below (Above ss i) ss) in
    let deeper : Among (hung_at (p ++ Above ss j) ts w.rest) (nodes_over d (p ++ Above ss j) ts) =
    hung_among d (p ++ Above ss j) ts w.rest (fits_below d ss j fits some) (all_below InNibbles shorter_in_nibbles (Above ss j) ss a) w.hangs in
    let same : hung_at (p ++ Above ss j) ts w.rest ≡ hung_at p ss r =
    alike ((p ++ Above ss j) ++ w.rest) (p ++ r) (spelling (node_of_all (below w.rest ts))) (spelling (node_of_all (below r ss)))
    (append_assoc p (Above ss j) w.rest ∙ ap (λ (t : List ℕ). p ++ t) (sym w.is))
    (ap (λ (us : List Suffix). spelling (node_of_all us)) (sym at)) in
    inr (subst (λ (n : PathNode). Among n (flat_map f (from 0 16))) same
    (flat_among (hung_at (p ++ Above ss j) ts w.rest) f 0 16 j (omega arith) (omega arith)
    (if_any_among (hung_at (p ++ Above ss j) ts w.rest) (nodes_over d (p ++ Above ss j)) ts some deeper)))
