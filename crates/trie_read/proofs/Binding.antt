-- A root binds the state, or shows two spellings with one hash.
use Rattle.std.proofs.Common.{◌≡◌, ◌⊎◌, ℕ, zero, suc, ◌/◌, ◌%◌, ◌<◌, ◌≤◌, true, false, ltb, List, [], ◌∷◌, ◌++◌, length, map, get_or, Some, None, refl, ap, ap₂, subst, sym, ◌∙◌, inl, inr, arith}
use Rattle.std.specs.Prelude.{All}
use Rattle.std.specs.Str.{bytes_eq}
use Rattle.std.specs.FinMap.{entries, same_entries_map}
use Rattle.std.proofs.lemmas.Bool.{cases_lt}
use Rattle.std.proofs.lemmas.Bool.Decides.{leb_tells}
use Rattle.std.proofs.lemmas.List.Elements.{recursion_from_All}
use Rattle.std.proofs.lemmas.Slice.Eq.{bytes_eq-Decides}
use Rattle.sdb_base.specs.Nibbles.{nibbles_of}
use Rattle.sdb_blake2.specs.Blake2b.{H}
use Rattle.trie_model.specs.Node.{Node, merkle_value, spelling}
use Rattle.trie_model.specs.Nodes.{PathNode, all_over, is_stored, stored_nodes, stored_over}
use Rattle.trie_model.specs.State.{State}
use Rattle.trie_model.specs.Trie.{Suffix, below, child_value, common_prefix, levels_of, node_of_all, root_node, suffixes_of, trie_root}
use Rattle.trie_root.specs.Suffixes.{IsEntry}
use Rattle.trie_root.proofs.Levels.{levels_above_none}
use Rattle.trie_root.proofs.OneLevel.{one_level}
use Rattle.trie_root.proofs.Prefixes.{below-append}
use Rattle.trie_root.proofs.ReadOffStates.{in_nibbles, suffixes_sorted}
use Rattle.trie_root.proofs.ShapesEntries.{suffixes_of_entries}
use Rattle.trie_read.specs.Paths.{Hangs, child_path, node_at}
use Rattle.trie_read.specs.Collision.{HaveCollision}
use Rattle.trie_read.proofs.Among.{contains_from, kept_among}
use Rattle.trie_read.proofs.Children.{child_of, hangs_below, partial_of}
use Rattle.trie_read.proofs.Hanging.{Above, below-nil, fits_below}
use Rattle.trie_read.proofs.Sound.{Sound, are_nibbles, length-hash, one_node, same_parts, sound_below}
use Rattle.trie_read.proofs.Stored.{among_hung, is_kept}

-- a fact of each of sixteen numbers, or another fact at one of them
each_or : (n : ℕ) (P : ℕ → Type 0) (C : Type 0) → ((i : ℕ) → i < n → P i ⊎ C) → ((i : ℕ) → i < n → P i) ⊎ C
each_or zero P C f = inl (λ i h. absurd (omega arith))
each_or (suc n) P C f = elim (each_or n P C (λ i h. f i (omega arith))) [
  | inr c ↦ inr c
  | inl lower ↦ elim (f n (omega arith)) [
    | inr c ↦ inr c
    | inl last ↦ inl (λ i h. elim (cases_lt i n) [
      | inl less ↦ lower i less
      | inr more ↦ let same : n ≡ i = omega arith in subst P same last
    ])
  ]
]

-- Merkle values that are equal are those of equal spellings, or are the hashes of long ones
merkle_binds : (a b : List ℕ) → merkle_value a ≡ merkle_value b → (a ≡ b) ⊎ ((32 ≤ length a) × (32 ≤ length b) × (H a ≡ H b))
unfolding merkle_value
merkle_binds a b e = elim (leb_tells (suc (length a)) 32) [
  | inl s ↦ elim (leb_tells (suc (length b)) 32) [
    | inl t ↦ let one : ltb (length a) 32 ≡ true = s.0 in let two : ltb (length b) 32 ≡ true = t.0 in inl (rw (one, two) at e)
    | inr t ↦
        let one : ltb (length a) 32 ≡ true = s.0 in let two : ltb (length b) 32 ≡ false = t.0 in
        let same : a ≡ H b = rw (one, two) at e in
        let short : length a < 32 = s.1 in let len : length (H b) ≡ 32 = length-hash b in let lens : length a ≡ length (H b) = ap length same in
        absurd (omega arith)
  ]
  | inr s ↦ elim (leb_tells (suc (length b)) 32) [
    | inl t ↦
        let one : ltb (length a) 32 ≡ false = s.0 in let two : ltb (length b) 32 ≡ true = t.0 in
        let same : H a ≡ b = rw (one, two) at e in
        let short : length b < 32 = t.1 in let len : length (H a) ≡ 32 = length-hash a in let lens : length (H a) ≡ length b = ap length same in
        absurd (omega arith)
    | inr t ↦
        let one : ltb (length a) 32 ≡ false = s.0 in let two : ltb (length b) 32 ≡ false = t.0 in
        inr (omega (arith, s.1), omega (arith, t.1), rw (one, two) at e)
  ]
]

-- nodes that hang at one path in two tries, of different spellings with one hash
collision_at : (ss ts : List Suffix) → Sound ss → Sound ts → (q : List ℕ) → Hangs ss q → Hangs ts q
    → ((q ≡ []) ⊎ (32 ≤ length (spelling (node_at ss q)))) → ((q ≡ []) ⊎ (32 ≤ length (spelling (node_at ts q))))
    → (spelling (node_at ss q) ≡ spelling (node_at ts q) → ⊥) → H (spelling (node_at ss q)) ≡ H (spelling (node_at ts q))
    → HaveCollision (stored_over ss) (stored_over ts)
collision_at ss ts s t q h k long other differ hash =
    let one : PathNode = record { path = q; bytes = spelling (node_at ss q) } in
    let two : PathNode = record { path = q; bytes = spelling (node_at ts q) } in
    record {
      one = one;
      other = two;
      first = contains_from one (stored_over ss) (kept_among one is_stored (all_over ss) (among_hung ss one (are_nibbles ss s) (record { path = h; bytes = refl })) (is_kept one long));
      second = contains_from two (stored_over ts) (kept_among two is_stored (all_over ts) (among_hung ts two (are_nibbles ts t) (record { path = k; bytes = refl })) (is_kept two other));
      differ = differ;
      hash = hash;
    }

-- equal spellings or a collision, by the bytes
equal_or : (a b : List ℕ) (C : Type 0) → ((a ≡ b → ⊥) → C) → (a ≡ b) ⊎ C
equal_or a b C f = elim (bytes_eq a b) as (λ r. bytes_eq a b ≡ r → (a ≡ b) ⊎ C) [
  | true ↦ λ e. inl ((bytes_eq-Decides a b).0 e)
  | false ↦ λ e. inr (f (λ same. let yes : bytes_eq a b ≡ true = (bytes_eq-Decides a b).1 same in let both : true ≡ false = sym yes ∙ e in cc))
] refl

pub none_or_some : (us : List Suffix) → (us ≡ []) ⊎ ((us ≡ [] → ⊥) × (child_value node_of_all us ≡ Some (merkle_value (spelling (node_of_all us)))))
none_or_some [] = inl refl
none_or_some (u ∷ us) = inr ((λ e. cc), refl)

-- children that are equal come from equal suffixes, or show a collision
child_binds : (ss ts : List Suffix) → Sound ss → Sound ts → (q : List ℕ)
    → ((below q ss ≡ [] → ⊥) → Hangs ss q) → ((below q ts ≡ [] → ⊥) → Hangs ts q)
    → ((below q ss ≡ [] → ⊥) → Hangs ss q → Hangs ts q → spelling (node_at ss q) ≡ spelling (node_at ts q) → (below q ss ≡ below q ts) ⊎ HaveCollision (stored_over ss) (stored_over ts))
    → child_value node_of_all (below q ss) ≡ child_value node_of_all (below q ts) → (below q ss ≡ below q ts) ⊎ HaveCollision (stored_over ss) (stored_over ts)
child_binds ss ts s t q h k deeper e = elim (none_or_some (below q ss)) [
  | inl none ↦ elim (none_or_some (below q ts)) [
    | inl other ↦ inl (none ∙ sym other)
    | inr some ↦ let no : None ≡ Some (merkle_value (spelling (node_at ts q))) = sym (ap (child_value node_of_all) none) ∙ e ∙ some.1 in absurd cc
  ]
  | inr some ↦ elim (none_or_some (below q ts)) [
    | inl other ↦ let no : Some (merkle_value (spelling (node_at ss q))) ≡ None = sym some.1 ∙ e ∙ ap (child_value node_of_all) other in absurd cc
    | inr more ↦
        let both : Some (merkle_value (spelling (node_at ss q))) ≡ Some (merkle_value (spelling (node_at ts q))) = sym some.1 ∙ e ∙ more.1 in
        let values : merkle_value (spelling (node_at ss q)) ≡ merkle_value (spelling (node_at ts q)) = cc in
        elim (merkle_binds (spelling (node_at ss q)) (spelling (node_at ts q)) values) [
          | inl same ↦ deeper some.0 (h some.0) (k more.0) same
          | inr long ↦ elim (equal_or (spelling (node_at ss q)) (spelling (node_at ts q)) (HaveCollision (stored_over ss) (stored_over ts))
              (λ differ. collision_at ss ts s t q (h some.0) (k more.0) (inr long.0) (inr long.1) differ long.2)) [
                | inl same ↦ deeper some.0 (h some.0) (k more.0) same
                | inr c ↦ inr c
              ]
        ]
  ]
]

-- what goes on from a node with a nibble, by the path and by what is left
pub from_path : (ss : List Suffix) (p : List ℕ) (i : ℕ) → below (child_path ss p i) ss ≡ below (Above (below p ss) i) (below p ss)
from_path ss p i =
    below-append p ((node_at ss p).partial ++ i ∷ []) ss ∙ ap (λ (q : List ℕ). below (q ++ i ∷ []) (below p ss)) (partial_of (below p ss))

from_rest : (ss : List Suffix) (p : List ℕ) (i : ℕ) → below (child_path ss p i) ss ≡ below (i ∷ []) (below (common_prefix (below p ss)) (below p ss))
from_rest ss p i = from_path ss p i ∙ below-append (common_prefix (below p ss)) (i ∷ []) (below p ss)

bind : (d : ℕ) (ss ts : List Suffix) → Sound ss → Sound ts → (p : List ℕ) → levels_of (below p ss) ≤ d → spelling (node_at ss p) ≡ spelling (node_at ts p)
    → (below p ss ≡ below p ts) ⊎ HaveCollision (stored_over ss) (stored_over ts)
bind zero ss ts s t p fits e = absurd (omega (arith, levels_above_none (below p ss)))
bind (suc d) ss ts s t p fits e =
    let us : List Suffix = below p ss in
    let vs : List Suffix = below p ts in
    let n : node_of_all us ≡ node_of_all vs = one_node us vs (sound_below p ss s) (sound_below p ts t) e in
    let paths : (i : ℕ) → child_path ss p i ≡ child_path ts p i = λ i. ap (λ (m : Node). p ++ (m.partial ++ i ∷ [])) n in
    let each : (i : ℕ) → i < 16 → (below (child_path ss p i) ss ≡ below (child_path ss p i) ts) ⊎ HaveCollision (stored_over ss) (stored_over ts) = λ i small.
    child_binds ss ts s t (child_path ss p i) (hangs_below ss p i)
    (λ some. subst (λ (q : List ℕ). Hangs ts q) (sym (paths i)) (hangs_below ts p i (λ z. some (ap (λ (q : List ℕ). below q ts) (paths i) ∙ z))))
    (λ some h k same. bind d ss ts s t (child_path ss p i)
    (subst (λ (ws : List Suffix). levels_of ws ≤ d) (sym (from_path ss p i)) (fits_below d us i fits (λ z. some (from_path ss p i ∙ z)))) same)
    (sym (child_of ss p i small) ∙ ap (λ (m : Node). get_or m.children i None) n ∙ child_of ts p i small
    ∙ ap (λ (q : List ℕ). child_value node_of_all (below q ts)) (sym (paths i))) in
    elim (each_or 16 (λ i. below (child_path ss p i) ss ≡ below (child_path ss p i) ts) (HaveCollision (stored_over ss) (stored_over ts)) each) [
      | inr c ↦ inr c
      | inl all ↦ inl (same_parts us vs (sound_below p ss s) (sound_below p ts t)
          (sym (partial_of us) ∙ ap (λ (m : Node). m.partial) n ∙ partial_of vs)
          (sym (ap (λ (m : Node). m.value) (one_level us)) ∙ ap (λ (m : Node). m.value) n ∙ ap (λ (m : Node). m.value) (one_level vs))
          (λ j small. sym (from_rest ss p j) ∙ all j small ∙ ap (λ (q : List ℕ). below q ts) (paths j) ∙ from_rest ts p j))
    ]

-- ---- of states

pub nibbles_bind : (a b : List ℕ) → nibbles_of a ≡ nibbles_of b → a ≡ b
nibbles_bind [] [] e = refl
nibbles_bind [] (y ∷ b) e = absurd cc
nibbles_bind (x ∷ a) [] e = absurd cc
nibbles_bind (x ∷ a) (y ∷ b) e = next x y a b (parts e) (nibbles_bind a b (rest e))
  where
    parts : nibbles_of (x ∷ a) ≡ nibbles_of (y ∷ b) → x ≡ y
    parts k = let high : x / 16 ≡ y / 16 = cc in let low : x % 16 ≡ y % 16 = cc in omega arith

    rest : nibbles_of (x ∷ a) ≡ nibbles_of (y ∷ b) → nibbles_of a ≡ nibbles_of b
    rest k = cc

    next : (x y : ℕ) (a b : List ℕ) → x ≡ y → a ≡ b → x ∷ a ≡ y ∷ b
    next x y a b h k = cc

entries_bind : (es fs : List (List ℕ × List ℕ)) → map in_nibbles es ≡ map in_nibbles fs → es ≡ fs
entries_bind [] [] h = refl
entries_bind [] (f ∷ fs) h = absurd cc
entries_bind (e ∷ es) [] h = absurd cc
entries_bind ((k, v) ∷ es) ((l, w) ∷ fs) h = next k l v w es fs (nibbles_bind k l (keys h)) (values h) (entries_bind es fs (rest h))
  where
    in_all : List (List ℕ × List ℕ) → List Suffix
    in_all es = map in_nibbles es

    head : (nibbles_of k, v) ∷ in_all es ≡ (nibbles_of l, w) ∷ in_all fs → ◌≡◌ {A = Suffix} (nibbles_of k, v) (nibbles_of l, w)
    head z = cc

    keys : (nibbles_of k, v) ∷ in_all es ≡ (nibbles_of l, w) ∷ in_all fs → nibbles_of k ≡ nibbles_of l
    keys z = ap (λ (s : Suffix). s.0) (head z)

    values : (nibbles_of k, v) ∷ in_all es ≡ (nibbles_of l, w) ∷ in_all fs → v ≡ w
    values z = ap (λ (s : Suffix). s.1) (head z)

    rest : (nibbles_of k, v) ∷ in_all es ≡ (nibbles_of l, w) ∷ in_all fs → in_all es ≡ in_all fs
    rest z = cc

    next : (k l v w : List ℕ) (es fs : List (List ℕ × List ℕ)) → k ≡ l → v ≡ w → es ≡ fs → (k, v) ∷ es ≡ (l, w) ∷ fs
    next k l v w es fs a b c = ap₂ (λ (e : List ℕ × List ℕ) (gs : List (List ℕ × List ℕ)). e ∷ gs) (ap₂ (λ (x y : List ℕ). (x, y)) a b) c

pub sound_state : (m : State) → All IsEntry (entries m) → Sound (suffixes_of m)
sound_state m a = record { sorted = suffixes_sorted m; within = suffixes_of_entries (entries m) (recursion_from_All IsEntry (entries m) a) }

pub root_binds : (m m2 : State) → All IsEntry (entries m) → All IsEntry (entries m2) → trie_root m ≡ trie_root m2
    → (m ≡ m2) ⊎ HaveCollision (stored_nodes m) (stored_nodes m2)
unfolding trie_root root_node
root_binds m m2 a b e =
    let ss : List Suffix = suffixes_of m in
    let ts : List Suffix = suffixes_of m2 in
    let s : Sound ss = sound_state m a in
    let t : Sound ts = sound_state m2 b in
    let hash : H (spelling (node_at ss [])) ≡ H (spelling (node_at ts [])) =
    ap (λ (us : List Suffix). H (spelling (node_of_all us))) (below-nil ss) ∙ e ∙ sym (ap (λ (us : List Suffix). H (spelling (node_of_all us))) (below-nil ts)) in
    elim (equal_or (spelling (node_at ss [])) (spelling (node_at ts [])) (HaveCollision (stored_over ss) (stored_over ts))
    (λ differ. collision_at ss ts s t [] (inl refl) (inl refl) (inl refl) (inl refl) differ hash)) [
      | inr c ↦ inr c
      | inl same ↦ elim (bind (levels_of (below [] ss)) ss ts s t [] (omega arith) same) [
        | inr c ↦ inr c
        | inl alike ↦ inl (same_entries_map m m2 (entries_bind (entries m) (entries m2) (sym (below-nil ss) ∙ alike ∙ below-nil ts)))
      ]
    ]
