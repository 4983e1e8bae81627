-- The nodes of a trie within its limits are never bad where they hang.
use Rattle.std.proofs.Common.{◌≡◌, ◌⊎◌, ℕ, zero, suc, ◌+◌, ◌<◌, ◌≤◌, Bool, true, false, eqb, ltb, cond, List, [], ◌∷◌, ◌++◌, length, map, get_or, Some, None, refl, ap, subst, sym, ◌∙◌, inl, inr, arith, length-append}
use Rattle.std.specs.Prelude.{◌&&◌, ◌||◌, nat_lt, All, Contains, Ok}
use Rattle.std.specs.List.{AllByRecursion, list_any}
use Rattle.std.specs.Str.{bytes_eq}
use Rattle.std.specs.FinMap.{entries}
use Rattle.std.proofs.lemmas.Bool.{cases_lt}
use Rattle.std.proofs.lemmas.List.Elements.{All-from_get_or}
use Rattle.std.proofs.lemmas.List.Folds.{list_any_none}
use Rattle.std.proofs.lemmas.Slice.Eq.{bytes_eq-Decides}
use Rattle.sdb_blake2.specs.Blake2b.{H}
use Rattle.trie_model.specs.Node.{IsNode, Node, merkle_value, spelling}
use Rattle.trie_model.specs.Nodes.{PathNode, stored_nodes}
use Rattle.trie_model.specs.State.{State}
use Rattle.trie_model.specs.Trie.{Suffix, below, child_value, common_prefix, levels_of, node_of_all, suffixes_of, value_here}
use Rattle.trie_codec.specs.Reading.{is_nothing, node_of_bytes}
use Rattle.trie_codec.proofs.Spellings.{whole_read}
use Rattle.trie_root.specs.Suffixes.{IsEntry, IsSuffix}
use Rattle.trie_root.proofs.Levels.{levels_above_none, levels_below, same_node}
use Rattle.trie_root.proofs.Prefixes.{all_remain, begins_itself, below-append, without}
use Rattle.trie_root.proofs.Shapes.{has_parts}
use Rattle.trie_root.proofs.ShapesCounts.{HasParts, not_spelled_empty}
use Rattle.trie_read.specs.Depth.{child_too_deep, deep_or_empty, is_bad_node, is_long_value, too_deep}
use Rattle.trie_read.specs.Paths.{IsHung, child_path, node_at}
use Rattle.trie_read.proofs.Binding.{none_or_some, sound_state}
use Rattle.trie_read.proofs.Children.{child_of, partial_of, value_of}
use Rattle.trie_read.proofs.Descents.{has_sixteen, inline_deep, not_past}
use Rattle.trie_read.proofs.Followed.{short_child}
use Rattle.trie_read.proofs.Sound.{Sound, are_nibbles, length-hash, nibbles_in, node_sound, sound_below}
use Rattle.trie_read.proofs.Stored.{stored_hang}

-- the root's path, or one that some suffixes go on with
abbrev pub IsThere : List Suffix → List ℕ → Type 0
IsThere ss p = (p ≡ []) ⊎ (below p ss ≡ [] → ⊥)

-- ---- the path and the partial key

levels_within : (ss : List Suffix) → AllByRecursion IsSuffix ss → levels_of ss ≤ 2049
levels_within [] a = omega arith
levels_within (s ∷ ss) a = omega (arith, a.0.few, levels_within ss a.1)

none_left : (n : ℕ) (us : List Suffix) → map (without n) us ≡ [] → us ≡ []
none_left n [] e = refl
none_left n (u ∷ us) e = absurd cc

path_within : (ss : List Suffix) → Sound ss → (p : List ℕ) → IsThere ss p → length p + length (common_prefix (below p ss)) ≤ 2048
path_within ss s p h =
    let us : List Suffix = below p ss in
    let c : List ℕ = common_prefix us in
    elim (levels_below (p ++ c) ss) [
      | inl none ↦
          let empty : us ≡ [] = none_left (length c) us (sym (all_remain c us (begins_itself c)) ∙ sym (below-append p c ss) ∙ none) in
          elim h [
            | inl root ↦ omega (arith, ap length root, ap (λ (vs : List Suffix). length (common_prefix vs)) empty)
            | inr some ↦ absurd (some empty)
          ]
      | inr fits ↦ omega (arith, fits, length-append p c, levels_above_none (below (p ++ c) ss), levels_within ss s.within)
    ]

-- ---- the value

value_within : (us : List Suffix) → AllByRecursion IsSuffix us → is_long_value (value_here us) ≡ false
value_within [] a = refl
value_within (u ∷ us) a =
    elim (eqb (length u.0) 0) as (λ b. is_long_value (cond b (Some u.1) (value_here us)) ≡ false) [
      | true ↦ not_long (length u.1) a.0.short
      | false ↦ value_within us a.1
    ]
  where
    not_long : (n : ℕ) → n ≤ 4194304 → nat_lt 4194304 n ≡ false
    not_long n h = grind arith

-- ---- the children

hash_not_deep : (deep : Node → Bool) (b : List ℕ) → 32 ≤ length b → child_too_deep deep (Some (merkle_value b)) ≡ false
unfolding merkle_value
hash_not_deep deep b h =
    let len : length (H b) ≡ 32 = length-hash b in
    let long : ltb (length b) 32 ≡ false = grind arith in
    let full : ltb (length (H b)) 32 ≡ false = grind arith in
    rw (long, full) refl

child_not_deep : (deep : Node → Bool) (ss : List Suffix) → Sound ss → (q : List ℕ) → ((below q ss ≡ [] → ⊥) → deep (node_at ss q) ≡ false)
    → child_too_deep deep (child_value node_of_all (below q ss)) ≡ false
child_not_deep deep ss s q not_deep =
    let b : List ℕ = spelling (node_at ss q) in
    let sound : IsNode (node_at ss q) = node_sound (below q ss) (sound_below q ss s) in
    elim (none_or_some (below q ss)) [
      | inl none ↦ ap (λ (us : List Suffix). child_too_deep deep (child_value node_of_all us)) none
      | inr some ↦ ap (child_too_deep deep) some.1 ∙ elim (cases_lt (length b) 32) [
        | inl short ↦
            ap (child_too_deep deep) (short_child (Some (merkle_value b)) b refl short)
            ∙ sym (inline_deep deep b (node_at ss q) short (whole_read (node_at ss q) sound)) ∙ not_deep some.0
        | inr long ↦ hash_not_deep deep b long
      ]
    ]

-- ---- the node

pub not_deep : (levels : ℕ) (ss : List Suffix) → Sound ss → (p : List ℕ) → IsThere ss p → too_deep levels (length p) (node_at ss p) ≡ false
unfolding too_deep
not_deep zero ss s p h = refl
not_deep (suc levels) ss s p h =
    let n : Node = node_at ss p in
    let us : List Suffix = below p ss in
    let sound : Sound us = sound_below p ss s in
    let path : length p + length n.partial ≤ 2048 = subst (λ (c : List ℕ). length p + length c ≤ 2048) (sym (partial_of us)) (path_within ss s p h) in
    let value : is_long_value n.value ≡ false =
    ap is_long_value (value_of us) ∙ value_within (below n.partial us) (sound_below n.partial us sound).within in
    let deep : Node → Bool = too_deep levels (length p + length n.partial + 1) in
    let each : (i : ℕ) → i < length n.children → child_too_deep deep (get_or n.children i None) ≡ false = λ i within.
    let q : List ℕ = child_path ss p i in
    let small : i < 16 = omega (arith, within, has_sixteen n (node_sound us sound)) in
    let at : length p + length n.partial + 1 ≡ length q =
    omega (arith, length-append p (n.partial ++ i ∷ []), length-append n.partial (i ∷ [])) in
    ap (child_too_deep deep) (child_of ss p i small)
    ∙ child_not_deep deep ss s q (λ some. ap (λ (k : ℕ). too_deep levels k (node_at ss q)) at ∙ not_deep levels ss s q (inr some)) in
    ap (λ b. b || list_any (child_too_deep deep) n.children) (not_past (length p) (length n.partial) (is_long_value n.value) path value)
    ∙ list_any_none (child_too_deep deep) n.children (All-from_get_or (λ c. child_too_deep deep c ≡ false) n.children None each)

parts_of : (us : List Suffix) → Sound us → (us ≡ [] → ⊥) → HasParts (node_of_all us)
parts_of [] s some = absurd (some refl)
parts_of (u ∷ us) s some =
    let d : ℕ = levels_of (u ∷ us) in
    subst (λ (n : Node). HasParts n) (same_node (suc d) d (u ∷ us) (omega arith) (omega arith)) (has_parts d u us s.sorted (nibbles_in (u ∷ us) s))

-- below a root a node isn't that of the empty trie
not_empty : (ss : List Suffix) → Sound ss → (p : List ℕ) → IsThere ss p → (nat_lt 0 (length p) && is_nothing (spelling (node_at ss p))) ≡ false
not_empty ss s p (inl root) = rw root refl
not_empty ss s p (inr some) =
    let b : List ℕ = spelling (node_at ss p) in
    let parts : HasParts (node_at ss p) = parts_of (below p ss) (sound_below p ss s) some in
    let other : is_nothing b ≡ false = elim (bytes_eq b (0 ∷ [])) as (λ r. bytes_eq b (0 ∷ []) ≡ r → r ≡ false) [
      | true ↦ λ e. absurd (not_spelled_empty (node_at ss p) parts ((bytes_eq-Decides b (0 ∷ [])).0 e))
      | false ↦ λ e. refl
    ] refl in
    and_not (nat_lt 0 (length p)) (is_nothing b) other
  where
    and_not : (x y : Bool) → y ≡ false → (x && y) ≡ false
    and_not true y e = e
    and_not false y e = refl

-- where it hangs the node over the suffixes that go on with a path isn't bad
pub good_there : (ss : List Suffix) → Sound ss → (p : List ℕ) → IsThere ss p → is_bad_node (length p) (spelling (node_at ss p)) ≡ false
good_there ss s p there =
    let read : node_of_bytes (spelling (node_at ss p)) ≡ Ok (node_at ss p) = whole_read (node_at ss p) (node_sound (below p ss) (sound_below p ss s)) in
    ap (deep_or_empty (length p) (spelling (node_at ss p))) read
    ∙ ap (λ b. b || (nat_lt 0 (length p) && is_nothing (spelling (node_at ss p)))) (not_deep 33 ss s p there) ∙ not_empty ss s p there

pub good : (m : State) (n : PathNode) → All IsEntry (entries m) → Contains (stored_nodes m) n → is_bad_node (length n.path) n.bytes ≡ false
good m n within c =
    let ss : List Suffix = suffixes_of m in
    let s : Sound ss = sound_state m within in
    let hung : IsHung ss n = ((stored_hang ss n (are_nibbles ss s)).0 c).0 in
    let there : IsThere ss n.path = elim hung.path [ inl root ↦ inl root | inr at ↦ inr at.4 ] in
    ap (is_bad_node (length n.path)) hung.bytes ∙ good_there ss s n.path there
