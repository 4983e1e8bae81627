-- Which nodes are for the answer of a search.
use Rattle.std.proofs.Common.{◌≡◌, ℕ, Bool, true, false, cond, eqb, List, [], ◌∷◌, ◌++◌, Option, Some, refl, ap, ap₂, subst, sym, ◌∙◌, inl, inr}
use Rattle.std.specs.Prelude.{◌||◌, All, filter, is_some, nat_eq}
use Rattle.std.specs.List.{AllByRecursion, flat_map, starts_with}
use Rattle.std.specs.FinMap.{entries}
use Rattle.std.proofs.lemmas.Bool.Decides.{eqb_tells}
use Rattle.std.proofs.lemmas.List.Elements.{filter-append, recursion_from_All}
use Rattle.sdb_base.specs.Nibbles.{nibbles_of}
use Rattle.trie_model.specs.Fetches.{keys_of_state, next_key, on_the_way, on_the_way_if}
use Rattle.trie_model.specs.Nodes.{PathNode, is_stored, nodes_over}
use Rattle.trie_model.specs.State.{State}
use Rattle.trie_model.specs.Trie.{Suffix, after_prefix, below, levels_of, suffixes_of}
use Rattle.trie_root.specs.Suffixes.{IsEntry}
use Rattle.trie_read.specs.Searches.{is_for_next, keys_above}
use Rattle.trie_read.specs.inner.Following.{head_at}
use Rattle.trie_read.specs.inner.Parts.{HangsAbove, IsStored, OfKey, OfNode, Piece, StandFor, gone_into, is_above, keys_for, keys_under, leads_above, nodes_for}
use Rattle.trie_read.proofs.AboveNibbles.{above_further, above_off, nibbles_above}
use Rattle.trie_read.proofs.Among.{Among, among_kept, among_left, among_right}
use Rattle.trie_read.proofs.KeysAbove.{among_under, head_of, next_is_first, under_begins}
use Rattle.trie_read.proofs.Rising.{StartsWith, all_kept, all_weaker, rises_over}
use Rattle.trie_read.proofs.Ways.{follows}
use Rattle.trie_read.proofs.KeptFront.{has_key}

-- ---- which nodes are for the answer

module _ (m : State) (key : List ℕ) where
  -- the first key under a path that hangs above begins with it
  first_begins : All IsEntry (entries m) → (p : List ℕ) (rest : List (List ℕ)) → (keys_under (is_above (nibbles_of key)) p (below p (suffixes_of m)) ≡ [] → ⊥)
      → keys_above m key ≡ keys_under (is_above (nibbles_of key)) p (below p (suffixes_of m)) ++ rest → (k : List ℕ) × (next_key m key ≡ Some k) × (is_some (after_prefix p (nibbles_of k)) ≡ true)
  first_begins within p rest some e =
      first (keys_under (is_above (nibbles_of key)) p (below p (suffixes_of m))) some
      (under_begins (is_above (nibbles_of key)) p (entries m) (recursion_from_All IsEntry (entries m) within)) e
    where
      first : (ks : List (List ℕ)) → (ks ≡ [] → ⊥) → AllByRecursion (λ k. is_some (after_prefix p (nibbles_of k)) ≡ true) ks → keys_above m key ≡ ks ++ rest
          → (k : List ℕ) × (next_key m key ≡ Some k) × (is_some (after_prefix p (nibbles_of k)) ≡ true)
      first [] none a h = absurd (none refl)
      first (k ∷ ks) none a h = (k, next_is_first m key ∙ ap head_of h, a.0)

  or_right : (a : Bool) → (a || true) ≡ true
  or_right true = refl
  or_right false = refl

  -- a node that comes first is for the answer
  pub first_passes : All IsEntry (entries m) → (h p : List ℕ) (rest : List Piece) (ns : List PathNode) → IsStored (suffixes_of m) (leads_above (nibbles_of key)) h p
      → StandFor (suffixes_of m) (is_above (nibbles_of key)) (leads_above (nibbles_of key)) (OfNode h p ∷ rest) (keys_above m key) ns → is_for_next m key (head_at (suffixes_of m) p) ≡ true
  first_passes within h p rest ns is stand = next (starts_with nat_eq (nibbles_of key) p) refl
    where
      answer : Option (List ℕ) → Bool
      answer o = on_the_way_if o (head_at (suffixes_of m) p)

      next : (b : Bool) → starts_with nat_eq (nibbles_of key) p ≡ b → is_for_next m key (head_at (suffixes_of m) p) ≡ true
      next true e = ap (λ a. a || on_the_way_if (next_key m key) (head_at (suffixes_of m) p)) e
      next false e =
          let above : is_above (nibbles_of key) p ≡ true = sym (ap (λ a. a || is_above (nibbles_of key) p) e) ∙ is.near in
          let found : (k : List ℕ) × (next_key m key ≡ Some k) × (is_some (after_prefix p (nibbles_of k)) ≡ true) =
          first_begins within p (flat_map (keys_for (suffixes_of m) (is_above (nibbles_of key))) rest) (has_key (suffixes_of m) (nibbles_of key) (OfNode h p) is above) (sym stand.keys) in
          ap (λ o. on_the_way (nibbles_of key) (head_at (suffixes_of m) p) || on_the_way_if o (head_at (suffixes_of m) p)) found.1
          ∙ ap (λ b. on_the_way (nibbles_of key) (head_at (suffixes_of m) p) || b) (follows p (nibbles_of found.0) ∙ found.2)
          ∙ or_right (on_the_way (nibbles_of key) (head_at (suffixes_of m) p))

  -- ---- behind a first key no node is for the answer

  shorter : (p r k : List ℕ) → is_some (after_prefix (p ++ r) k) ≡ true → is_some (after_prefix p k) ≡ true
  shorter [] r k e = refl
  shorter (x ∷ p) r [] e = let no : false ≡ true = e in absurd cc
  shorter (x ∷ p) r (y ∷ k) e = elim (eqb_tells x y) [
    | inl t ↦ let same : eqb x y ≡ true = t.0 in rw same (shorter p r k (rw same at e))
    | inr f ↦ let other : eqb x y ≡ false = f.0 in let no : false ≡ true = rw other at e in absurd cc
  ]

  -- a key of the state that is above the key
  above_key : (k : List ℕ) (ks : List (List ℕ)) → keys_above m key ≡ k ∷ ks → Among k (keys_of_state m) × (is_above key k ≡ true)
  above_key k ks e = among_kept k (is_above key) (keys_of_state m) (subst (λ (ls : List (List ℕ)). Among k ls) (sym e) (inl refl))

  avoids : All IsEntry (entries m) → (k : List ℕ) (ks : List (List ℕ)) → keys_above m key ≡ k ∷ ks → (p : List ℕ)
      → (Among k (keys_under (is_above (nibbles_of key)) p (below p (suffixes_of m))) → ⊥) → is_some (after_prefix p (nibbles_of k)) ≡ false
  avoids within k ks e p not = elim (is_some (after_prefix p (nibbles_of k))) as (λ b. is_some (after_prefix p (nibbles_of k)) ≡ b → b ≡ false) [
    | true ↦ λ on.
        let there : Among k (keys_of_state m) × (is_above key k ≡ true) = above_key k ks e in
        absurd (not (among_under (is_above (nibbles_of key)) p k (nibbles_above key k ∙ there.1) on (entries m) (recursion_from_All IsEntry (entries m) within) there.0))
    | false ↦ λ off. refl
  ] refl

  fails_all : (test : PathNode → Bool) (ns : List PathNode) → AllByRecursion (λ n. test n ≡ false) ns → filter test ns ≡ []
  fails_all test [] a = refl
  fails_all test (n ∷ ns) a = ap (λ b. cond b (n ∷ filter test ns) (filter test ns)) a.0 ∙ fails_all test ns a.1

  node_fails : (k : List ℕ) (ks : List (List ℕ)) → keys_above m key ≡ k ∷ ks → (p : List ℕ) → is_above (nibbles_of key) p ≡ true → is_some (after_prefix p (nibbles_of k)) ≡ false
      → (n : PathNode) → StartsWith p n → is_for_next m key n ≡ false
  node_fails k ks e p above off n s =
      let path : n.path ≡ p ++ s.0 = s.1 in
      let first : on_the_way (nibbles_of key) n ≡ false =
      follows n.path (nibbles_of key) ∙ ap (λ (r : List ℕ). is_some (after_prefix r (nibbles_of key))) path ∙ above_off (nibbles_of key) (p ++ s.0) (above_further (nibbles_of key) p s.0 above) in
      let second : on_the_way (nibbles_of k) n ≡ false =
      follows n.path (nibbles_of k) ∙ ap (λ (r : List ℕ). is_some (after_prefix r (nibbles_of k))) path ∙ longer (is_some (after_prefix (p ++ s.0) (nibbles_of k))) refl in
      ap₂ (λ a b. a || b) first (ap (λ o. on_the_way_if o n) (next_is_first m key ∙ ap head_of e) ∙ second)
    where
      longer : (b : Bool) → is_some (after_prefix (p ++ s.0) (nibbles_of k)) ≡ b → b ≡ false
      longer true e = let no : false ≡ true = sym off ∙ shorter p s.0 (nibbles_of k) e in absurd cc
      longer false e = refl

  pub none_passes : All IsEntry (entries m) → (k : List ℕ) (ks : List (List ℕ)) → keys_above m key ≡ k ∷ ks → (ps : List Piece) → AllByRecursion (HangsAbove (nibbles_of key)) ps
      → (Among k (flat_map (keys_for (suffixes_of m) (is_above (nibbles_of key))) ps) → ⊥)
      → filter (is_for_next m key) (flat_map (nodes_for (suffixes_of m) (leads_above (nibbles_of key))) ps) ≡ []
  none_passes within k ks e [] a not = refl
  none_passes within k ks e (OfKey l ∷ ps) a not = none_passes within k ks e ps a.1 (λ there. not (inr there))
  none_passes within k ks e (OfNode h p ∷ ps) a not =
      let ss : List Suffix = suffixes_of m in
      let us : List Suffix = below p ss in
      let here : List PathNode = nodes_over (levels_of us) p us in
      let others : List PathNode = flat_map (nodes_for ss (leads_above (nibbles_of key))) ps in
      let keys : List (List ℕ) = keys_under (is_above (nibbles_of key)) p us in
      let later : List (List ℕ) = flat_map (keys_for ss (is_above (nibbles_of key))) ps in
      let off : is_some (after_prefix p (nibbles_of k)) ≡ false = avoids within k ks e p (λ there. not (among_left k keys later there)) in
      let fail : AllByRecursion (λ n. is_for_next m key n ≡ false) here =
      all_weaker (StartsWith p) (λ n. is_for_next m key n ≡ false) (node_fails k ks e p a.0 off) here (rises_over (levels_of us) p us).1 in
      let gone : List PathNode = gone_into (leads_above (nibbles_of key)) here in
      filter-append (is_for_next m key) gone others
      ∙ ap (λ (ns : List PathNode). ns ++ filter (is_for_next m key) others)
      (fails_all (is_for_next m key) gone
      (all_kept (λ n. is_for_next m key n ≡ false) (λ (n : PathNode). leads_above (nibbles_of key) n.path) (filter is_stored here) (all_kept (λ n. is_for_next m key n ≡ false) is_stored here fail)))
      ∙ none_passes within k ks e ps a.1 (λ there. not (among_right k keys later there))
