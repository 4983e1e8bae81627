-- Two states that agree on the keys that go on with a path have the same suffixes below it.
use Rattle.std.proofs.Common.{◌≡◌, ℕ, Bool, true, false, eqb, cond, List, [], ◌∷◌, map, Option, Some, None, refl, ap, subst, sym, ◌∙◌, inl, inr}
use Rattle.std.specs.Prelude.{◌&&◌, ◌||◌, is_some, nat_eq}
use Rattle.std.specs.List.{cons_option, list_any, starts_with}
use Rattle.std.specs.Option.{option_map}
use Rattle.std.specs.Ordering.{nat_cmp}
use Rattle.std.specs.declared.cmp.Ordering.TheVariants.{Equal}
use Rattle.std.specs.Cmp.Lexicographic.{slice_cmp}
use Rattle.std.specs.FinMap.{entries, entries_sorted, find, get, get-entries, nat_cmp-IsAntisymmetric, slice_cmp-IsAntisymmetric}
use Rattle.std.specs.FinMap.Entries.{find-where_key, is_sorted-where_key, same_entries, where_key}
use Rattle.std.proofs.lemmas.Cmp.{nat_list_cmp_total}
use Rattle.sdb_base.specs.Nibbles.{nibbles_of}
use Rattle.sdb_base.specs.declared.Change.{Change}
use Rattle.trie_model.specs.Fetches.{is_changed, on_the_way}
use Rattle.trie_model.specs.Nodes.{PathNode}
use Rattle.trie_model.specs.State.{State, apply}
use Rattle.trie_model.specs.Trie.{Suffix, after_prefix, below, suffixes_of}
use Rattle.trie_root.proofs.ReadOffStates.{in_nibbles}
use Rattle.trie_read.proofs.Among.{Among}
use Rattle.trie_change.specs.ChangedKeys.{keys_in_changes}
use Rattle.trie_change.proofs.Values.{value_unnamed}

-- whether a key's nibbles go on with a path
abbrev pub goes_on : List ℕ → List ℕ → Bool
goes_on path key = is_some (after_prefix path (nibbles_of key))

-- the entries of such keys
abbrev pub entries_below : List ℕ → List (List ℕ × List ℕ) → List (List ℕ × List ℕ)
entries_below path es = where_key (slice_cmp nat_cmp) (goes_on path) es

abbrev pub with_rest : List ℕ → Option (List ℕ) → List Suffix → List Suffix
with_rest value rest others = cons_option (option_map (λ (r : List ℕ). (r, value)) rest) others

below_entries : (p : List ℕ) (es : List (List ℕ × List ℕ)) → below p (map in_nibbles es) ≡ below p (map in_nibbles (entries_below p es))
below_entries p [] = refl
below_entries p (e ∷ es) = by_rest (below_entries p es) (after_prefix p (nibbles_of e.0)) refl
  where
    kept : (o : Option (List ℕ)) → after_prefix p (nibbles_of e.0) ≡ o
        → below p (map in_nibbles (entries_below p (e ∷ es))) ≡ below p (map in_nibbles (cond (is_some o) (e ∷ entries_below p es) (entries_below p es)))
    kept o h = ap (λ (r : Option (List ℕ)). below p (map in_nibbles (cond (is_some r) (e ∷ entries_below p es) (entries_below p es)))) h

    by_rest : below p (map in_nibbles es) ≡ below p (map in_nibbles (entries_below p es)) → (o : Option (List ℕ)) → after_prefix p (nibbles_of e.0) ≡ o
        → below p (map in_nibbles (e ∷ es)) ≡ below p (map in_nibbles (entries_below p (e ∷ es)))
    by_rest others None h = ap (λ (r : Option (List ℕ)). with_rest e.1 r (below p (map in_nibbles es))) h ∙ others ∙ sym (kept None h)
    by_rest others (Some r) h = ap (with_rest e.1 (after_prefix p (nibbles_of e.0))) others ∙ sym (kept (Some r) h)

both_or_none : (b : Bool) (x y : Option (List ℕ)) → (b ≡ true → x ≡ y) → cond b x None ≡ cond b y None
both_or_none true x y h = h refl
both_or_none false x y h = refl

same_bytes : (k l : List ℕ) → slice_cmp nat_cmp k l ≡ Equal → k ≡ l
same_bytes = slice_cmp-IsAntisymmetric nat_cmp-IsAntisymmetric

found_below : (p : List ℕ) (m : State) (q : List ℕ) → find (slice_cmp nat_cmp) q (entries_below p (entries m)) ≡ cond (goes_on p q) (get m q) None
found_below p m q =
    find-where_key (slice_cmp nat_cmp) (goes_on p) q (λ x e. ap (goes_on p) (sym (same_bytes q x e))) (entries m)
    ∙ ap (λ (o : Option (List ℕ)). cond (goes_on p q) o None) (sym (get-entries m q))

pub same_below : (p : List ℕ) (m n : State) → ((key : List ℕ) → goes_on p key ≡ true → get m key ≡ get n key) → below p (suffixes_of m) ≡ below p (suffixes_of n)
same_below p m n alike =
    let one : entries_below p (entries m) ≡ entries_below p (entries n) =
    same_entries (slice_cmp nat_cmp) nat_list_cmp_total same_bytes (entries_below p (entries m)) (entries_below p (entries n))
    (is_sorted-where_key (slice_cmp nat_cmp) (goes_on p) (entries m) (entries_sorted m))
    (is_sorted-where_key (slice_cmp nat_cmp) (goes_on p) (entries n) (entries_sorted n))
    (λ q. found_below p m q ∙ both_or_none (goes_on p q) (get m q) (get n q) (alike q) ∙ sym (found_below p n q)) in
    below_entries p (entries m) ∙ ap (λ (es : List (List ℕ × List ℕ)). below p (map in_nibbles es)) one ∙ sym (below_entries p (entries n))

-- ---- after changes

follows : (q ks : List ℕ) → starts_with nat_eq ks q ≡ is_some (after_prefix q ks)
follows [] ks = refl
follows (x ∷ q) [] = refl
follows (x ∷ q) (k ∷ ks) =
    elim (eqb x k) as (λ b. (b && starts_with nat_eq ks q) ≡ is_some (cond b (after_prefix q ks) None)) [
      | true ↦ follows q ks
      | false ↦ refl
    ]

first_false : (a b : Bool) → (a || b) ≡ false → a ≡ false
first_false true b e = e
first_false false b e = refl

second_false : (a b : Bool) → (a || b) ≡ false → b ≡ false
second_false true b e = absurd cc
second_false false b e = e

none_passes : (test : List ℕ → Bool) (xs : List (List ℕ)) (x : List ℕ) → list_any test xs ≡ false → Among x xs → test x ≡ false
none_passes test [] x e a = absurd a
none_passes test (y ∷ ys) x e (inl same) = subst (λ (z : List ℕ). test z ≡ false) same (first_false (test y) (list_any test ys) e)
none_passes test (y ∷ ys) x e (inr a) = none_passes test ys x (second_false (test y) (list_any test ys) e) a

pub below_stays : (m : State) (cs : List Change) (n : PathNode) → is_changed (keys_in_changes cs) n ≡ false
    → below n.path (suffixes_of (apply m cs)) ≡ below n.path (suffixes_of m)
below_stays m cs n off = same_below n.path (apply m cs) m (λ key on. value_unnamed cs m key (λ a. unnamed key on a))
  where
    unnamed : (key : List ℕ) → goes_on n.path key ≡ true → Among key (keys_in_changes cs) → ⊥
    unnamed key on a =
        let no : on_the_way (nibbles_of key) n ≡ false = none_passes (λ k. on_the_way (nibbles_of k) n) (keys_in_changes cs) key off a in
        let both : true ≡ false = sym on ∙ sym (follows n.path (nibbles_of key)) ∙ no in cc
