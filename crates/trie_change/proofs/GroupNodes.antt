-- The node over a group of items, where they part, and the nodes below it.
use Rattle.std.proofs.Common.{◌≡◌, ℕ, suc, ◌<◌, Bool, true, false, cond, eqb, List, [], ◌∷◌, ◌++◌, length, map, drop, T, Option, Some, None, refl, ap, ap₂, subst, sym, ◌∙◌, append_assoc, eq-eqb, length-append, arith}
use Rattle.std.specs.Prelude.{◌==◌, ◌&&◌, if◌then◌else◌, not, filter}
use Rattle.std.specs.List.{AllByRecursion, flat_map}
use Rattle.std.specs.Ordering.{nat_cmp}
use Rattle.std.specs.Cmp.Lexicographic.{slice_cmp}
use Rattle.std.specs.FinMap.{is_sorted}
use Rattle.std.proofs.lemmas.List.{append-nil}
use Rattle.trie_model.specs.Node.{spelling}
use Rattle.trie_model.specs.Nodes.{PathNode, if_any, is_stored, nodes_over}
use Rattle.trie_model.specs.Trie.{Suffix, below, child_value, every_nibble, levels_of, node_of_all, value_here, with_prefix}
use Rattle.trie_codec.specs.Parts.{node_with}
use Rattle.trie_root.proofs.Levels.{map_alike}
use Rattle.trie_root.proofs.Prefixes.{below-append, without}
use Rattle.trie_root.proofs.ReadOff.{flat_map_alike}
use Rattle.trie_root.proofs.Rows.{unlike}
use Rattle.trie_root.proofs.Stripped.{value_first}
use Rattle.trie_read.specs.Paths.{node_at}
use Rattle.trie_read.proofs.Depths.{first_over, same_nodes}
use Rattle.trie_read.proofs.Descents.{too_long}
use Rattle.trie_read.proofs.Hanging.{Above, fits_below}
use Rattle.trie_read.proofs.OneNode.{one_node}
use Rattle.trie_read.proofs.Ways.{follows}
use Rattle.trie_change.specs.Frontier.{IsItem, is_at_stub, is_under, suffixes_for, item_path}
use Rattle.trie_change.specs.Item.{Item}
use Rattle.trie_change.specs.Item as item
use Rattle.trie_change.specs.inner.Built.{IsPastPath, ItemGroup, is_made, made_of_group, node_of_group, nodes_at, nodes_below, nodes_from, value_after, values_below}
use Rattle.trie_change.proofs.ItemPaths.{drop_itself}
use Rattle.trie_change.proofs.ItemSuffixes.{without_with}
use Rattle.trie_change.proofs.ItemEnds.{some_below, sorted_below}
use Rattle.trie_change.proofs.ItemsParted.{Parts}

-- ---- the value of the node

-- the value of a list whose first suffix is known
value_of : (q : List ℕ) (us xs : List Suffix) (path value : List ℕ) → T (is_sorted (slice_cmp nat_cmp) us) → with_prefix q us ≡ (path, value) ∷ xs
    → value_here us ≡ (if length (drop (length q) path) == 0 then Some value else None)
value_of q us xs path value s e =
    let cut : us ≡ (drop (length q) path, value) ∷ map (without (length q)) xs = sym (without_with q us) ∙ ap (λ (ss : List Suffix). map (without (length q)) ss) e in
    ap value_here cut ∙ value_first (drop (length q) path, value) (map (without (length q)) xs) (subst (λ (ss : List Suffix). T (is_sorted (slice_cmp nat_cmp) ss)) cut s)

same_end : (q r : List ℕ) → eqb (length r) 0 ≡ eqb (length (q ++ r)) (length q)
same_end q [] = sym (eq-eqb (length (q ++ [])) (length q) (omega (arith, length-append {A = ℕ} q [])))
same_end q (x ∷ r) = unlike (suc (length r)) 0 (λ e. omega arith) ∙ sym (unlike (length (q ++ x ∷ r)) (length q) (λ e. omega (arith, length-append q (x ∷ r))))

-- the suffixes are in the order of items of which the first is known
pub value_of_first : (ss : List Suffix) (q : List ℕ) (first : Item) (others : List Item) → T (is_sorted (slice_cmp nat_cmp) ss) → IsItem ss first → IsPastPath q first
    → item_path first ≡ q ++ drop (length q) (item_path first)
    → flat_map (suffixes_for ss) (first ∷ others) ≡ with_prefix q (below q ss) → value_here (below q ss) ≡ value_after (length q) first
value_of_first ss q (item.Entry e) others s is past on whole =
    let r : List ℕ = drop (length q) e.path.items in
    value_of q (below q ss) (flat_map (suffixes_for ss) others) e.path.items e.value (sorted_below q ss s) (sym whole)
    ∙ ap (λ (b : Bool). cond b (Some e.value) None) (same_end q r ∙ ap (λ (p : List ℕ). eqb (length p) (length q)) (sym on))
value_of_first ss q (item.Stub t) others s is past on whole = elim (below t.path.items ss) as (λ us. below t.path.items ss ≡ us → value_here (below q ss) ≡ None) [
  | [] ↦ λ e. absurd (some_below ss q (item.Stub t) is past refl e)
  | u ∷ us ↦ λ e.
      let first : with_prefix q (below q ss) ≡ (t.path.items ++ u.0, u.1) ∷ (with_prefix t.path.items us ++ flat_map (suffixes_for ss) others) =
      sym whole ∙ ap (λ (vs : List Suffix). with_prefix t.path.items vs ++ flat_map (suffixes_for ss) others) e in
      let longer : length (drop (length q) (t.path.items ++ u.0)) ≡ suc (length (past.1 ++ u.0)) =
      ap (λ (p : List ℕ). length (drop (length q) (p ++ u.0))) past.2 ∙ ap (λ (p : List ℕ). length (drop (length q) p)) (append_assoc q (past.0 ∷ past.1) u.0)
      ∙ ap length (drop_itself q (past.0 ∷ (past.1 ++ u.0))) in
      value_of q (below q ss) (with_prefix t.path.items us ++ flat_map (suffixes_for ss) others) (t.path.items ++ u.0) u.1 (sorted_below q ss s) first
      ∙ ap (λ (n : ℕ). cond (eqb n 0) (Some u.1) None) longer
      ∙ ap (λ (b : Bool). cond b (Some u.1) None) (unlike (suc (length (past.1 ++ u.0))) 0 (λ z. omega arith))
] refl

-- ---- the node

-- its parts
pub parts_of_node : {at : ℕ} {items : List Item} (g : ItemGroup at items) (c : List ℕ) → Parts g c
    → node_at g.suffixes g.path ≡ node_with c (value_here (below (g.path ++ c) g.suffixes)) (values_below g.suffixes (g.path ++ c))
parts_of_node g c parts =
    let ss : List Suffix = g.suffixes in
    let us : List Suffix = below g.path ss in
    let further : below c us ≡ below (g.path ++ c) ss = sym (below-append g.path c ss) in
    one_node us
    ∙ ap (λ (p : List ℕ). node_with p (value_here (below p us)) (map (λ n. child_value node_of_all (below (n ∷ []) (below p us))) every_nibble)) parts.shared
    ∙ ap (λ (vs : List Suffix). node_with c (value_here vs) (map (λ n. child_value node_of_all (below (n ∷ []) vs)) every_nibble)) further
    ∙ ap (λ (cs : List (Option (List ℕ))). node_with c (value_here (below (g.path ++ c) ss)) cs)
    (map_alike (λ n. child_value node_of_all (below (n ∷ []) (below (g.path ++ c) ss))) (λ n. child_value node_of_all (below ((g.path ++ c) ++ n ∷ []) ss))
    (λ n. ap (child_value node_of_all) (sym (below-append (g.path ++ c) (n ∷ []) ss))) every_nibble)

-- ---- the nodes below it

if_any_alike : (f h : List Suffix → List PathNode) (us : List Suffix) → ((us ≡ [] → ⊥) → f us ≡ h us) → if_any f us ≡ if_any h us
if_any_alike f h [] e = refl
if_any_alike f h (u ∷ us) e = e (λ z. cc)

nodes_part : {at : ℕ} {items : List Item} (g : ItemGroup at items) (c : List ℕ) → Parts g c
    → nodes_from g.path (below g.path g.suffixes) ≡ node_of_group g ∷ nodes_below g.suffixes (g.path ++ c)
nodes_part g c parts =
    let ss : List Suffix = g.suffixes in
    let us : List Suffix = below g.path ss in
    let d : ℕ = levels_of us in
    let child : ℕ → List PathNode = λ i. if_any (nodes_over d (g.path ++ Above us i)) (below (Above us i) us) in
    let each : (i : ℕ) → child i ≡ nodes_at ss ((g.path ++ c) ++ i ∷ []) = λ i.
    if_any_alike (nodes_over d (g.path ++ Above us i)) (nodes_from (g.path ++ Above us i)) (below (Above us i) us)
    (λ some. same_nodes d (levels_of (below (Above us i) us)) (g.path ++ Above us i) (below (Above us i) us) (fits_below d us i (omega arith) some) (omega arith))
    ∙ ap (λ (p : List ℕ). if_any (nodes_from (g.path ++ (p ++ i ∷ []))) (below (p ++ i ∷ []) us)) parts.shared
    ∙ ap₂ (λ (p : List ℕ) (vs : List Suffix). if_any (nodes_from p) vs) (sym (append_assoc g.path c (i ∷ [])))
    (sym (below-append g.path (c ++ i ∷ []) ss) ∙ ap (λ (p : List ℕ). below p ss) (sym (append_assoc g.path c (i ∷ [])))) in
    same_nodes d (suc d) g.path us (omega arith) (omega arith)
    ∙ first_over d ss g.path (omega arith)
    ∙ ap (λ (ns : List PathNode). node_of_group g ∷ ns) (flat_map_alike child (λ i. nodes_at ss ((g.path ++ c) ++ i ∷ [])) each every_nibble)

-- ---- which of them are made

not_above : (p c : List ℕ) (i : Item) → IsPastPath (p ++ c) i → is_at_stub p i ≡ false
not_above p c (item.Entry e) past = refl
not_above p c (item.Stub s) past =
    let path : s.path.items ≡ p ++ (c ++ past.0 ∷ past.1) = past.2 ∙ append_assoc p c (past.0 ∷ past.1) in
    let longer : length p < length s.path.items =
    omega (arith, ap length path, length-append p (c ++ past.0 ∷ past.1), length-append c (past.0 ∷ past.1)) in
    follows s.path.items p ∙ too_long s.path.items 0 p (omega (arith, longer))

none_above : (p c : List ℕ) (is : List Item) (bytes : List ℕ) → AllByRecursion (IsPastPath (p ++ c)) is → is_under is (record { path = p; bytes = bytes }) ≡ false
none_above p c [] bytes a = refl
none_above p c (i ∷ is) bytes a = let one : is_at_stub p i ≡ false = not_above p c i a.0 in let rest : is_under is (record { path = p; bytes = bytes }) ≡ false = none_above p c is bytes a.1 in rw (one, rest)

not_under : {at : ℕ} {items : List Item} (g : ItemGroup at items) (c : List ℕ) → Parts g c → g.under (node_of_group g) ≡ false
not_under {items = items} g c parts =
    g.same (node_of_group g) [] (sym (append-nil g.path)) ∙ none_above g.path c items (spelling (node_at g.suffixes g.path)) parts.past

-- the node is made and stored, or is not stored, and those below it are made
pub made_parts : {at : ℕ} {items : List Item} (g : ItemGroup at items) (c : List ℕ) → Parts g c
    → made_of_group g ≡ (let n = node_of_group g in let rest = filter (is_made g.under) (nodes_below g.suffixes (g.path ++ c)) in if is_stored n then n ∷ rest else rest)
made_parts g c parts =
    let n : PathNode = node_of_group g in
    let rest : List PathNode = filter (is_made g.under) (nodes_below g.suffixes (g.path ++ c)) in
    ap (λ (ns : List PathNode). filter (is_made g.under) ns) (nodes_part g c parts)
    ∙ ap (λ (b : Bool). cond (is_stored n && not b) (n ∷ rest) rest) (not_under g c parts)
    ∙ ap (λ (b : Bool). cond b (n ∷ rest) rest) (and_true (is_stored n))
  where
    and_true : (b : Bool) → (b && true) ≡ b
    and_true true = refl
    and_true false = refl
