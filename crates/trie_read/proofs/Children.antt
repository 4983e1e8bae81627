-- A node's children are the nodes below it, and each node but the root is a child.
use Rattle.std.proofs.Common.{◌≡◌, ◌⊎◌, ℕ, zero, suc, ◌<◌, ◌≤◌, true, false, List, [], ◌∷◌, ◌++◌, length, get_or, Option, Some, None, refl, ap, subst, sym, ◌∙◌, inl, inr, arith, append_assoc}
use Rattle.std.specs.Prelude.{Contains, is_some}
use Rattle.std.specs.List.{AllByRecursion}
use Rattle.std.proofs.lemmas.List.{append-nil}
use Rattle.std.proofs.lemmas.List.FromFn.{get_or-map-range_with_len}
use Rattle.trie_model.specs.Node.{Node, merkle_value, spelling}
use Rattle.trie_model.specs.Nodes.{PathNode, all_over, is_stored, stored_over}
use Rattle.trie_model.specs.Trie.{Suffix, below, child_value, common_prefix, levels_of, node_of_all, value_here}
use Rattle.trie_root.proofs.Levels.{levels_above_none}
use Rattle.trie_root.proofs.Prefixes.{below-append}
use Rattle.trie_root.proofs.ReadOffNibbles.{InNibbles, shorter_in_nibbles}
use Rattle.trie_root.proofs.ReadOffOrder.{all_below}
use Rattle.trie_root.proofs.ShapesShared.{nothing_shared}
use Rattle.trie_read.specs.Paths.{AreNibbles, Hangs, IsHung, IsNamed, child_at, child_path, node_at}
use Rattle.trie_read.proofs.OneNode.{children_of, one_node}
use Rattle.trie_read.proofs.Among.{among_from, contains_from, kept_among}
use Rattle.trie_read.proofs.Hanging.{Above, Way, below-nil, fits_below, hangs_further, is_nibble, way}
use Rattle.trie_read.proofs.Stored.{among_hung, in_nibbles, is_hung, is_kept}

pub partial_of : (ss : List Suffix) → (node_of_all ss).partial ≡ common_prefix ss
partial_of ss = ap (λ (n : Node). n.partial) (one_node ss)

pub value_of : (ss : List Suffix) → (node_of_all ss).value ≡ value_here (below (node_of_all ss).partial ss)
value_of ss = ap (λ (n : Node). n.value) (one_node ss) ∙ ap (λ (p : List ℕ). value_here (below p ss)) (sym (partial_of ss))

child_here : (ss : List Suffix) (i : ℕ) → i < 16 → get_or (children_of ss) i None ≡ child_value node_of_all (below (i ∷ []) ss)
child_here ss i h = get_or-map-range_with_len (λ n. child_value node_of_all (below (n ∷ []) ss)) 0 16 i i None h (omega arith)

-- the child of a node at a nibble, by the suffixes that go on from it
pub child_of : (ss : List Suffix) (path : List ℕ) (i : ℕ) → i < 16 → child_at ss path i ≡ child_value node_of_all (below (child_path ss path i) ss)
child_of ss path i h =
    let ts : List Suffix = below path ss in
    let p : List ℕ = common_prefix ts in
    ap (λ (n : Node). get_or n.children i None) (one_node ts) ∙ child_here (below p ts) i h
    ∙ ap (child_value node_of_all) (sym (below-append p (i ∷ []) ts) ∙ sym (below-append path (p ++ i ∷ []) ss)
    ∙ ap (λ (q : List ℕ). below (path ++ (q ++ i ∷ [])) ss) (sym (partial_of ts)))

some_child : (f : List Suffix → Node) (ss : List Suffix) → is_some (child_value f ss) ≡ true → ss ≡ [] → ⊥
some_child f [] h e = let no : false ≡ true = h in cc
some_child f (s ∷ ss) h e = cc

pub some_below : (ss : List Suffix) (path : List ℕ) (i : ℕ) → i < 16 → is_some (child_at ss path i) ≡ true → below (child_path ss path i) ss ≡ [] → ⊥
some_below ss path i h some =
    some_child node_of_all (below (child_path ss path i) ss) (subst (λ (c : Option (List ℕ)). is_some c ≡ true) (child_of ss path i h) some)

pub hangs_below : (ss : List Suffix) (path : List ℕ) (i : ℕ) → (below (child_path ss path i) ss ≡ [] → ⊥) → Hangs ss (child_path ss path i)
hangs_below ss path i some =
    let p : List ℕ = (node_at ss path).partial in
    let none : common_prefix (below (path ++ p) ss) ≡ [] =
    ap common_prefix (below-append path p ss ∙ ap (λ (q : List ℕ). below q (below path ss)) (partial_of (below path ss))) ∙ nothing_shared (below path ss) in
    inr (path ++ p, i, sym (append_assoc path p (i ∷ [])), none, some)

pub child_hangs : (ss : List Suffix) (path : List ℕ) (i : ℕ) → i < 16 → is_some (child_at ss path i) ≡ true → Hangs ss (child_path ss path i)
child_hangs ss path i h some = hangs_below ss path i (some_below ss path i h some)

pub child_stored : (ss : List Suffix) (path : List ℕ) (i : ℕ) (n : PathNode) → AreNibbles ss → i < 16 → is_some (child_at ss path i) ≡ true
    → n.path ≡ child_path ss path i → n.bytes ≡ spelling (node_at ss n.path) → 32 ≤ length n.bytes → Contains (stored_over ss) n
child_stored ss path i n a h some at bytes long =
    let hung : IsHung ss n = record { path = subst (λ (p : List ℕ). Hangs ss p) (sym at) (child_hangs ss path i h some); bytes = bytes } in
    contains_from n (stored_over ss) (kept_among n is_stored (all_over ss) (among_hung ss n a hung) (is_kept n (inr long)))

-- ---- the node above

record Parent (ss : List Suffix) (r : List ℕ) : Type 0 where
  path : List ℕ
  nibble : ℕ
  small : nibble < 16
  hangs : Hangs ss path
  is : r ≡ path ++ (common_prefix (below path ss) ++ nibble ∷ [])

parent : (d : ℕ) (ss : List Suffix) (q : List ℕ) (i : ℕ) (r : List ℕ) → levels_of ss ≤ d → AllByRecursion InNibbles ss → r ≡ q ++ i ∷ []
    → common_prefix (below q ss) ≡ [] → (below r ss ≡ [] → ⊥) → Parent ss r
parent zero ss q i r fits a e none some = absurd (omega (arith, levels_above_none ss))
parent (suc d) ss q i r fits a e none some =
    let w : Way ss r = way ss q i r e none some in
    let j : ℕ = w.nibble in
    let ts : List Suffix = below (Above ss j) ss in
    let two : ts ≡ below (j ∷ []) (below (common_prefix ss) ss) = below-append (common_prefix ss) (j ∷ []) ss in
    let at : below r ss ≡ below w.rest ts = ap (λ (t : List ℕ). below t ss) w.is ∙ below-append (Above ss j) w.rest ss in
    let some_there : ts ≡ [] → ⊥ = λ z. some (at ∙ ap (below w.rest) z) in
    let small : j < 16 =
    is_nibble j (below (common_prefix ss) ss) (all_below InNibbles shorter_in_nibbles (common_prefix ss) ss a) (λ z. some_there (two ∙ z)) in
    elim w.hangs [
      | inl nothing ↦ record {
        path = [];
        nibble = j;
        small = small;
        hangs = inl refl;
        is = w.is ∙ ap (λ (t : List ℕ). Above ss j ++ t) nothing ∙ append-nil (Above ss j)
            ∙ ap (λ (us : List Suffix). common_prefix us ++ j ∷ []) (sym (below-nil ss));
      }
      | inr h ↦
          let above : Parent ts w.rest = parent d ts h.0 h.1 w.rest (fits_below d ss j fits some_there) (all_below InNibbles shorter_in_nibbles (Above ss j) ss a) h.2 h.3 h.4 in
          record {
            path = Above ss j ++ above.path;
            nibble = above.nibble;
            small = above.small;
            hangs = hangs_further ss j above.path some_there above.hangs;
            is = w.is ∙ ap (λ (t : List ℕ). Above ss j ++ t) above.is ∙ sym (append_assoc (Above ss j) above.path (common_prefix (below above.path ts) ++ above.nibble ∷ []))
                ∙ ap (λ (us : List Suffix). (Above ss j ++ above.path) ++ (common_prefix us ++ above.nibble ∷ [])) (sym (below-append (Above ss j) above.path ss));
          }
    ]

value_of_some : (ss : List Suffix) → (ss ≡ [] → ⊥) → child_value node_of_all ss ≡ Some (merkle_value (spelling (node_of_all ss)))
value_of_some [] some = absurd (some refl)
value_of_some (s ∷ ss) some = refl

pub named : (ss : List Suffix) (n : PathNode) → AreNibbles ss → Contains (all_over ss) n → (n.path ≡ []) ⊎ IsNamed ss n
named ss n a c =
    let h : IsHung ss n = is_hung ss n (among_from n (all_over ss) c) in
    elim h.path [
      | inl root ↦ inl root
      | inr at ↦
          let above : Parent ss n.path = parent (levels_of ss) ss at.0 at.1 n.path (omega arith) (in_nibbles ss a) at.2 at.3 at.4 in
          let path : n.path ≡ child_path ss above.path above.nibble =
          above.is ∙ ap (λ (q : List ℕ). above.path ++ (q ++ above.nibble ∷ [])) (sym (partial_of (below above.path ss))) in
          let child : child_at ss above.path above.nibble ≡ Some (merkle_value n.bytes) =
          child_of ss above.path above.nibble above.small ∙ ap (λ (q : List ℕ). child_value node_of_all (below q ss)) (sym path)
          ∙ value_of_some (below n.path ss) at.4 ∙ ap (λ (b : List ℕ). Some (merkle_value b)) (sym h.bytes) in
          inr (record { above = above.path; nibble = above.nibble; small = above.small; hangs = above.hangs; path = path; child = child })
    ]
