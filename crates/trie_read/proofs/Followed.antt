-- A key's way down a node leads to the next stored node on it, or to the key's value.
use Rattle.std.proofs.Common.{◌≡◌, ℕ, zero, suc, ◌<◌, ◌≤◌, true, false, eqb, ltb, cond, List, [], ◌∷◌, ◌++◌, length, get_or, Option, Some, None, refl, ap, subst, sym, ◌∙◌, inl, inr, arith, append_assoc}
use Rattle.std.specs.Prelude.{Ok, filter}
use Rattle.std.specs.List.{flat_map}
use Rattle.std.proofs.lemmas.Bool.{cases_lt}
use Rattle.std.proofs.lemmas.List.Elements.{All-get_or}
use Rattle.sdb_blake2.specs.Blake2b.{H}
use Rattle.trie_model.specs.Fetches.{on_the_way}
use Rattle.trie_model.specs.Node.{IsChild, IsNode, IsNodeWithin, Node, merkle_value, spelling}
use Rattle.trie_model.specs.Nodes.{PathNode, if_any, is_stored, nodes_over}
use Rattle.trie_model.specs.Trie.{Suffix, after_prefix, below, child_value, common_prefix, every_nibble, levels_of, node_of_all, node_over, value_here}
use Rattle.trie_codec.specs.Reading.{node_of_bytes}
use Rattle.trie_codec.proofs.Spellings.{one_spelling, whole_read}
use Rattle.trie_root.proofs.Depths.{within_more}
use Rattle.trie_root.proofs.Levels.{levels_above_none, same_node}
use Rattle.trie_root.proofs.Prefixes.{below-append}
use Rattle.trie_root.proofs.Rows.{unlike}
use Rattle.trie_read.specs.Paths.{child_path, node_at}
use Rattle.trie_read.specs.inner.Descent.{Outcome, Ended, Wants, child_way, way_after, way_down}
use Rattle.trie_read.specs.inner.Following.{IsFollowed, WantsNext, head_at, way_from}
use Rattle.trie_read.proofs.Binding.{from_path, none_or_some}
use Rattle.trie_read.proofs.Children.{child_of, partial_of, value_of}
use Rattle.trie_read.proofs.Hanging.{below-nil, fits_below, is_nibble}
use Rattle.trie_read.proofs.Sound.{Sound, length-hash, nibbles_in, node_sound, sound_below}
use Rattle.trie_read.proofs.Descents.{hashed_way, inline_ok}
use Rattle.trie_read.proofs.Stored.{is_kept}
use Rattle.trie_read.proofs.Ways.{on_its_way, put_back, value_off, value_on, way_beyond, way_ends, way_goes_on}

pub tail_alike : (a b : PathNode) (xs ys : List PathNode) → a ∷ xs ≡ b ∷ ys → xs ≡ ys
tail_alike a b xs ys e = cc

spelled_whole : (d : ℕ) (ts : List Suffix) → levels_of ts ≤ suc d → spelling (node_over (suc d) ts) ≡ spelling (node_of_all ts)
spelled_whole d ts fits = ap spelling (same_node (suc d) (levels_of ts) ts fits (omega arith))

-- what stands where the key goes on with a nibble
abbrev child_nodes : ℕ → List Suffix → List ℕ → List ℕ → ℕ → List PathNode
child_nodes d ss p ks j =
    if_any (λ us. filter (on_the_way (p ++ ks)) (nodes_over d (p ++ (common_prefix (below p ss) ++ j ∷ [])) us)) (below (common_prefix (below p ss) ++ j ∷ []) (below p ss))

value_there : (ss : List Suffix) (p ks : List ℕ) → value_here (below (p ++ ks) ss) ≡ value_here (below ks (below p ss))
value_there ss p ks = ap value_here (below-append p ks ss)

-- ---- an inline child of a node is one on a level less

pub child_within : (l : ℕ) (n m : Node) (i : ℕ) (c : List ℕ) → IsNodeWithin (suc l) n → i < 16 → get_or n.children i None ≡ Some c → length c < 32 → IsNode m → c ≡ spelling m
    → l ≤ 32 → IsNodeWithin l m
unfolding IsNodeWithin
child_within l n m i c h small e short k is few =
    let child : IsChild (IsNodeWithin l) (Some c) = subst (IsChild (IsNodeWithin l)) e (All-get_or (IsChild (IsNodeWithin l)) n.children i None (omega (arith, h.sixteen)) h.children) in
    elim child [
      | inl hash ↦ absurd (omega arith)
      | inr w ↦
          let same : w.1 ≡ m = (one_spelling w.1 m [] [] (within_more l 33 w.1 (omega arith) w.2) k (ap (λ (b : List ℕ). b ++ []) (sym w.3 ∙ is))).0 in
          subst (IsNodeWithin l) same w.2
    ]

pub not_kept : (q b : List ℕ) (x : ℕ) (r : List ℕ) (xs : List PathNode) → q ≡ r ++ x ∷ [] → length b < 32 → filter is_stored (record { path = q; bytes = b } ∷ xs) ≡ filter is_stored xs
not_kept q b x r xs e h =
    let long : eqb (length q) 0 ≡ false = unlike (length q) 0 (λ z. nonempty r (sym (ap length e) ∙ z)) in
    let short : ltb 31 (length b) ≡ false = grind arith in
    let no : is_stored (record { path = q; bytes = b }) ≡ false = rw (long, short) refl in
    ap (λ t. cond t (record { path = q; bytes = b } ∷ filter is_stored xs) (filter is_stored xs)) no
  where
    nonempty : (s : List ℕ) → length (s ++ x ∷ []) ≡ 0 → ⊥
    nonempty [] z = omega arith
    nonempty (y ∷ s) z = omega arith

get_or_past : (cs : List (Option (List ℕ))) (i : ℕ) → length cs ≤ i → get_or cs i None ≡ None
get_or_past [] i h = refl
get_or_past (c ∷ cs) zero h = absurd (omega arith)
get_or_past (c ∷ cs) (suc i) h = get_or_past cs i (omega arith)

-- the node at a path stands first on the way from it
pub first_on : (d : ℕ) (ss : List Suffix) (q ks : List ℕ) → levels_of (below q ss) ≤ d → (t : List PathNode) × (way_from d ss q ks ≡ head_at ss q ∷ t)
unfolding nodes_over
first_on zero ss q ks fits = absurd (omega (arith, levels_above_none (below q ss)))
first_on (suc d) ss q ks fits =
    let us : List Suffix = below q ss in
    let b : List ℕ = spelling (node_over (suc d) us) in
    let xs : List PathNode = flat_map (λ i. if_any (nodes_over d (q ++ (common_prefix us ++ i ∷ []))) (below (common_prefix us ++ i ∷ []) us)) every_nibble in (
      filter (on_the_way (q ++ ks)) xs,
      ap (λ t. cond t (record { path = q; bytes = b } ∷ filter (on_the_way (q ++ ks)) xs) (filter (on_the_way (q ++ ks)) xs)) (on_its_way q ks b)
          ∙ ap (λ (bytes : List ℕ). let n : PathNode = record { path = q; bytes = bytes } in n ∷ filter (on_the_way (q ++ ks)) xs) (spelled_whole d us fits),
    )

-- what child of a node a key's way takes
child_none : (g : Node → List ℕ → Outcome) (o : Option (List ℕ)) (rest : List ℕ) → o ≡ None → Ended None ≡ child_way g o rest
child_none g o rest e = ap (λ c. child_way g c rest) (sym e)

child_short : (g : Node → List ℕ → Outcome) (o : Option (List ℕ)) (rest b : List ℕ) (m : Node) → o ≡ Some (merkle_value b) → length b < 32 → node_of_bytes b ≡ Ok m
    → g m rest ≡ child_way g o rest
unfolding merkle_value
child_short g o rest b m e h k =
    let short : ltb (length b) 32 ≡ true = grind arith in
    let is : o ≡ Some b = rw short at e in
    inline_ok g b rest m h k ∙ ap (λ c. child_way g c rest) (sym is)

child_long : (g : Node → List ℕ → Outcome) (o : Option (List ℕ)) (rest b : List ℕ) → o ≡ Some (merkle_value b) → 32 ≤ length b → Wants (H b) rest ≡ child_way g o rest
unfolding merkle_value
child_long g o rest b e h =
    let long : ltb (length b) 32 ≡ false = grind arith in
    let is : o ≡ Some (H b) = rw long at e in
    hashed_way g (H b) rest (length-hash b) ∙ ap (λ c. child_way g c rest) (sym is)

-- an inline child's bytes are its child's place
pub short_child : (o : Option (List ℕ)) (b : List ℕ) → o ≡ Some (merkle_value b) → length b < 32 → o ≡ Some b
unfolding merkle_value
short_child o b e h = let short : ltb (length b) 32 ≡ true = grind arith in rw short at e

pub has_children : (l : ℕ) (n : Node) → IsNodeWithin (suc l) n → length n.children ≡ 16
unfolding IsNodeWithin
has_children l n h = h.sixteen

way_step : (l : ℕ) (n : Node) (ks : List ℕ) → way_down (suc l) n ks ≡ way_after (way_down l) n (after_prefix n.partial ks)
unfolding way_down
way_step l n ks = refl

pub no_levels : (n : Node) → IsNodeWithin 0 n → ⊥
unfolding IsNodeWithin
no_levels n h = h

abbrev Deeper : ℕ → ℕ → List Suffix → Type 0
Deeper l d ss = (q rest : List ℕ) → levels_of (below q ss) ≤ d → IsNodeWithin l (node_at ss q) → (t : List PathNode) → way_from d ss q rest ≡ head_at ss q ∷ t
    → IsFollowed ss (q ++ rest) (way_down l (node_at ss q) rest) (filter is_stored t)

ended : (ss : List Suffix) (p ks : List ℕ) (o : Outcome) (v : Option (List ℕ)) (t : List PathNode) → Ended v ≡ o → t ≡ [] → v ≡ value_here (below (p ++ ks) ss)
    → IsFollowed ss (p ++ ks) o (filter is_stored t)
ended ss p ks o v t e none value = subst (λ (x : Outcome). IsFollowed ss (p ++ ks) x (filter is_stored t)) e (ap (filter is_stored) none, value)

-- the key goes on with a nibble, at which there is a child
at_child : (l d : ℕ) (ss : List Suffix) → Sound ss → (p ks q rest : List ℕ) (j : ℕ) → suc l ≤ 33 → IsNodeWithin (suc l) (node_at ss p) → j < 16 → (t : List PathNode) → Deeper l d ss
    → q ≡ child_path ss p j → p ++ ks ≡ q ++ rest → levels_of (below q ss) ≤ d → get_or (node_at ss p).children j None ≡ Some (merkle_value (spelling (node_at ss q)))
    → t ≡ way_from d ss q rest → IsFollowed ss (p ++ ks) (child_way (way_down l) (get_or (node_at ss p).children j None) rest) (filter is_stored t)
at_child l d ss s p ks q rest j few w small t deeper path whole fits child nodes =
    let b : List ℕ = spelling (node_at ss q) in
    let first : (t2 : List PathNode) × (way_from d ss q rest ≡ head_at ss q ∷ t2) = first_on d ss q rest fits in
    let ended_with : q ≡ (p ++ (node_at ss p).partial) ++ j ∷ [] = path ∙ sym (append_assoc p (node_at ss p).partial (j ∷ [])) in
    let sound : IsNode (node_at ss q) = node_sound (below q ss) (sound_below q ss s) in
    elim (cases_lt (length b) 32) [
      | inl short ↦
          let within : IsNodeWithin l (node_at ss q) =
          child_within l (node_at ss p) (node_at ss q) j b w small (short_child (get_or (node_at ss p).children j None) b child short) short sound refl (omega arith) in
          let lower : IsFollowed ss (q ++ rest) (way_down l (node_at ss q) rest) (filter is_stored first.0) = deeper q rest fits within first.0 first.1 in
          let list : filter is_stored t ≡ filter is_stored first.0 =
          ap (filter is_stored) (nodes ∙ first.1) ∙ not_kept q b j (p ++ (node_at ss p).partial) first.0 ended_with short in
          subst (λ (o : Outcome). IsFollowed ss (p ++ ks) o (filter is_stored t)) (child_short (way_down l) (get_or (node_at ss p).children j None) rest b (node_at ss q) child short (whole_read (node_at ss q) sound))
          (subst (λ (ns : List PathNode). IsFollowed ss (p ++ ks) (way_down l (node_at ss q) rest) ns) (sym list)
          (subst (λ (k : List ℕ). IsFollowed ss k (way_down l (node_at ss q) rest) (filter is_stored first.0)) (sym whole) lower))
      | inr long ↦
          let kept : is_stored (head_at ss q) ≡ true = is_kept (head_at ss q) (inr long) in
          let list : filter is_stored t ≡ head_at ss q ∷ filter is_stored first.0 =
          ap (filter is_stored) (nodes ∙ first.1) ∙ ap (λ r. cond r (head_at ss q ∷ filter is_stored first.0) (filter is_stored first.0)) kept in
          let wants : WantsNext ss (p ++ ks) (H b) rest (filter is_stored t) = record {
            path = q;
            whole = whole;
            is_hash = refl;
            stored = kept;
            rest = filter is_stored first.0;
            first = list;
            on_the_way = record { depth = d; enough = fits; all = ap (filter is_stored) nodes };
          } in
          subst (λ (o : Outcome). IsFollowed ss (p ++ ks) o (filter is_stored t)) (child_long (way_down l) (get_or (node_at ss p).children j None) rest b child long) wants
    ]

cases : (l d : ℕ) (ss : List Suffix) → Sound ss → (p ks : List ℕ) → suc l ≤ 33 → levels_of (below p ss) ≤ suc d → IsNodeWithin (suc l) (node_at ss p) → (t : List PathNode)
    → way_from (suc d) ss p ks ≡ head_at ss p ∷ t → Deeper l d ss → (r : Option (List ℕ)) → after_prefix (common_prefix (below p ss)) ks ≡ r
    → IsFollowed ss (p ++ ks) (way_after (way_down l) (node_at ss p) r) (filter is_stored t)
cases l d ss s p ks few fits w t e deeper None r =
    let ts : List Suffix = below p ss in
    (ap (filter is_stored) (tail_alike _ _ t [] (sym e ∙ way_ends d p ks ts (inl r))), sym (value_there ss p ks ∙ value_off ks ts r))
cases l d ss s p ks few fits w t e deeper (Some []) r =
    let ts : List Suffix = below p ss in
    let c : List ℕ = common_prefix ts in (
      ap (filter is_stored) (tail_alike _ _ t [] (sym e ∙ way_ends d p ks ts (inr r))),
      value_of ts ∙ ap (λ (q : List ℕ). value_here (below q ts)) (partial_of ts) ∙ ap value_here (sym (below-nil (below c ts))) ∙ sym (value_there ss p ks ∙ value_on ks ts [] r),
    )
cases l d ss s p ks few fits w t e deeper (Some (j ∷ rest)) r =
    let n : Node = node_at ss p in
    let ts : List Suffix = below p ss in
    let c : List ℕ = common_prefix ts in
    let value : value_here (below (p ++ ks) ss) ≡ value_here (below rest (below (j ∷ []) (below c ts))) =
    value_there ss p ks ∙ value_on ks ts (j ∷ rest) r ∙ ap value_here (below-append (j ∷ []) rest (below c ts)) in
    let nothing : below (j ∷ []) (below c ts) ≡ [] → None ≡ value_here (below (p ++ ks) ss) = λ z. sym (value ∙ ap (λ (us : List Suffix). value_here (below rest us)) z) in
    elim (cases_lt j 16) [
      | inr large ↦
          let none : below (j ∷ []) (below c ts) ≡ [] = elim (none_or_some (below (j ∷ []) (below c ts))) [
            | inl z ↦ z
            | inr some ↦ absurd (omega (arith, is_nibble j (below c ts) (nibbles_in (below c ts) (sound_below c ts (sound_below p ss s))) some.0))
          ] in
          ended ss p ks (child_way (way_down l) (get_or n.children j None) rest) None t
          (child_none (way_down l) (get_or n.children j None) rest (get_or_past n.children j (omega (arith, has_children l n w))))
          (tail_alike _ _ t [] (sym e ∙ way_beyond d p ks ts j rest large r)) (nothing none)
      | inl small ↦
          let q : List ℕ = child_path ss p j in
          let path : p ++ (c ++ j ∷ []) ≡ q = ap (λ (k : List ℕ). p ++ (k ++ j ∷ [])) (sym (partial_of ts)) in
          let there : below q ss ≡ below (c ++ j ∷ []) ts = from_path ss p j in
          let two : below (c ++ j ∷ []) ts ≡ below (j ∷ []) (below c ts) = below-append c (j ∷ []) ts in
          let nodes : t ≡ child_nodes d ss p ks j = tail_alike _ _ t (child_nodes d ss p ks j) (sym e ∙ way_goes_on d p ks ts j rest small r) in
          let whole : p ++ ks ≡ q ++ rest =
          ap (λ (k : List ℕ). p ++ k) (sym (put_back c ks (j ∷ rest) r)) ∙ regrouped p c j rest ∙ ap (λ (k : List ℕ). k ++ rest) path in
          elim (none_or_some (below q ss)) [
            | inl none ↦
                ended ss p ks (child_way (way_down l) (get_or n.children j None) rest) None t
                (child_none (way_down l) (get_or n.children j None) rest (child_of ss p j small ∙ ap (child_value node_of_all) none))
                (nodes ∙ ap (λ (us : List Suffix). if_any (λ vs. filter (on_the_way (p ++ ks)) (nodes_over d (p ++ (c ++ j ∷ [])) vs)) us) (sym there ∙ none))
                (nothing (sym two ∙ sym there ∙ none))
            | inr some ↦
                at_child l d ss s p ks q rest j few w small t deeper refl whole
                (subst (λ (us : List Suffix). levels_of us ≤ d) (sym there) (fits_below d ts j fits (λ z. some.0 (there ∙ z))))
                (child_of ss p j small ∙ some.1)
                (nodes ∙ all_there (λ us. filter (on_the_way (p ++ ks)) (nodes_over d (p ++ (c ++ j ∷ [])) us)) (below (c ++ j ∷ []) ts) (λ z. some.0 (there ∙ z))
                ∙ ap (λ (us : List Suffix). filter (on_the_way (p ++ ks)) (nodes_over d (p ++ (c ++ j ∷ [])) us)) (sym there)
                ∙ ap (λ (k : List ℕ). filter (on_the_way (p ++ ks)) (nodes_over d k (below q ss))) path
                ∙ ap (λ (k : List ℕ). filter (on_the_way k) (nodes_over d q (below q ss))) whole)
          ]
    ]
  where
    regrouped : (a b : List ℕ) (i : ℕ) (k : List ℕ) → a ++ (b ++ (i ∷ k)) ≡ (a ++ (b ++ (i ∷ []))) ++ k
    regrouped a b i k = simp append_assoc

    all_there : (f : List Suffix → List PathNode) (us : List Suffix) → (us ≡ [] → ⊥) → if_any f us ≡ f us
    all_there f [] z = absurd (z refl)
    all_there f (u ∷ us) z = refl

pub followed : (l d : ℕ) (ss : List Suffix) → Sound ss → (p ks : List ℕ) → l ≤ 33 → levels_of (below p ss) ≤ d → IsNodeWithin l (node_at ss p) → (t : List PathNode)
    → way_from d ss p ks ≡ head_at ss p ∷ t → IsFollowed ss (p ++ ks) (way_down l (node_at ss p) ks) (filter is_stored t)
followed zero d ss s p ks few fits w t e = absurd (no_levels (node_at ss p) w)
followed (suc l) zero ss s p ks few fits w t e = absurd (omega (arith, levels_above_none (below p ss)))
followed (suc l) (suc d) ss s p ks few fits w t e =
    let n : Node = node_at ss p in
    let ts : List Suffix = below p ss in
    subst (λ (o : Outcome). IsFollowed ss (p ++ ks) o (filter is_stored t)) (sym (way_step l n ks ∙ ap (λ (q : List ℕ). way_after (way_down l) n (after_prefix q ks)) (partial_of ts)))
    (cases l d ss s p ks few fits w t e (λ q rest more h t2 e2. followed l d ss s q rest (omega arith) more h t2 e2) (after_prefix (common_prefix ts) ks) refl)
