-- What changes set is what their state has over the one before, and the keys that are set are those that they name.
use Rattle.std.proofs.Common.{◌≡◌, ℕ, Bool, true, false, cond, List, [], ◌∷◌, map, Option, Some, None, T, refl, ap, ap₂, sym, ◌∙◌, inl, inr, subst}
use Rattle.std.specs.Prelude.{◌||◌, is_some, nat_eq}
use Rattle.std.specs.List.{list_any, starts_with}
use Rattle.std.specs.Ordering.{nat_cmp}
use Rattle.std.specs.Cmp.Lexicographic.{slice_cmp}
use Rattle.std.specs.FinMap.{FinMap, empty, entries, entries_sorted, find, get, get-empty, get-entries, get-insert, insert, is_sorted}
use Rattle.std.specs.Str.{bytes_eq}
use Rattle.std.proofs.lemmas.Cmp.{nat_list_cmp_total}
use Rattle.std.proofs.lemmas.Slice.Eq.{bytes_eq-Decides}
use Rattle.sdb_base.specs.Nibbles.{nibbles_of}
use Rattle.sdb_base.specs.declared.Change.{Change}
use Rattle.trie_model.specs.Fetches.{is_changed}
use Rattle.trie_model.specs.State.{State, apply, with_key}
use Rattle.trie_model.specs.Trie.{suffixes_of}
use Rattle.trie_model.proofs.States.{get-with_key, key_ties}
use Rattle.trie_read.proofs.Among.{Among}
use Rattle.trie_change.specs.ChangedKeys.{keys_in_changes}
use Rattle.trie_change.specs.declared.settings.Setting.{Setting}
use Rattle.trie_change.specs.inner.InOrder.{IsRising, begins_one, set_pairs}
use Rattle.trie_change.proofs.MergedSteps.{Setted, overlaid}
use Rattle.trie_change.proofs.Nibbled.{entry_found, found_itself, found_nibbled, key_found, same_bools, sorted_nibbled}
use Rattle.trie_change.proofs.OffWay.{at_path}
use Rattle.trie_change.proofs.Orders.{key_cmp}
use Rattle.trie_change.specs.Settings.{settings_of, settings_from}

abbrev pub SetMap : Type 0
SetMap = FinMap (slice_cmp nat_cmp) (Option (List ℕ))

pub sorted_set : (changes : List Change) → T (is_sorted key_cmp (settings_of changes))
sorted_set changes = sorted_nibbled (entries (settings_from empty changes)) (entries_sorted (settings_from empty changes))

pub rises : (settings : List Setting) (changes : List Change) → set_pairs settings ≡ settings_of changes → IsRising settings
rises settings changes e = subst (λ (ps : List Setted). T (is_sorted key_cmp ps)) (sym e) (sorted_set changes)

-- ---- the values

over : (b : Bool) (v : Option (List ℕ)) (x : Option (Option (List ℕ))) (o : Option (List ℕ)) → cond b v (overlaid x o) ≡ overlaid (cond b (Some v) x) o
over true v x o = refl
over false v x o = refl

after_all : (cs : List Change) (m : State) (set : SetMap) (k : List ℕ) (o : Option (List ℕ)) → get m k ≡ overlaid (get set k) o → get (apply m cs) k ≡ overlaid (get (settings_from set cs) k) o
after_all [] m set k o e = e
after_all (c ∷ cs) m set k o e =
    after_all cs (with_key m c.key c.value) (insert set c.key c.value) k o
    (get-with_key m c.key k c.value ∙ ap (cond (bytes_eq c.key k) c.value) e ∙ over (bytes_eq c.key k) c.value (get set k) o
    ∙ sym (ap (λ (x : Option (Option (List ℕ))). overlaid x o)
    (get-insert nat_list_cmp_total set c.key c.value k ∙ ap (λ t. cond t (Some c.value) (get set k)) (key_ties c.key k))))

pub after_at : (changes : List Change) (m : State) (k : List ℕ) → get (apply m changes) k ≡ overlaid (get (settings_from empty changes) k) (get m k)
after_at changes m k = after_all changes m empty k (get m k) (ap (λ (x : Option (Option (List ℕ))). overlaid x (get m k)) (sym (get-empty (slice_cmp nat_cmp) k)))

at_key : (changes : List Change) (m : State) (k : List ℕ)
    → find key_cmp (nibbles_of k) (suffixes_of (apply m changes)) ≡ overlaid (find key_cmp (nibbles_of k) (settings_of changes)) (find key_cmp (nibbles_of k) (suffixes_of m))
at_key changes m k =
    found_nibbled k (entries (apply m changes)) ∙ sym (get-entries (apply m changes) k) ∙ after_at changes m k
    ∙ ap₂ overlaid (get-entries (settings_from empty changes) k ∙ sym (found_nibbled k (entries (settings_from empty changes))))
    (get-entries m k ∙ sym (found_nibbled k (entries m)))

pub set_over : (changes : List Change) (m : State) (q : List ℕ)
    → find key_cmp q (suffixes_of (apply m changes)) ≡ overlaid (find key_cmp q (settings_of changes)) (find key_cmp q (suffixes_of m))
set_over changes m q = by_set (find key_cmp q (settings_of changes)) (find key_cmp q (suffixes_of m)) (find key_cmp q (suffixes_of (apply m changes))) refl refl refl
  where
    at : (k : List ℕ) → q ≡ nibbles_of k
        → find key_cmp q (suffixes_of (apply m changes)) ≡ overlaid (find key_cmp q (settings_of changes)) (find key_cmp q (suffixes_of m))
    at k e =
        ap (λ (p : List ℕ). find key_cmp p (suffixes_of (apply m changes))) e ∙ at_key changes m k
        ∙ ap (λ (p : List ℕ). overlaid (find key_cmp p (settings_of changes)) (find key_cmp p (suffixes_of m))) (sym e)

    by_set : (x : Option (Option (List ℕ))) (y z : Option (List ℕ)) → find key_cmp q (settings_of changes) ≡ x → find key_cmp q (suffixes_of m) ≡ y
        → find key_cmp q (suffixes_of (apply m changes)) ≡ z
        → find key_cmp q (suffixes_of (apply m changes)) ≡ overlaid (find key_cmp q (settings_of changes)) (find key_cmp q (suffixes_of m))
    by_set (Some v) y z a b c =
        let k : (k : List ℕ) × (q ≡ nibbles_of k) = key_found q (entries (settings_from empty changes)) v a in at k.0 k.1
    by_set None (Some v) z a b c = let k : (k : List ℕ) × (q ≡ nibbles_of k) = key_found q (entries m) v b in at k.0 k.1
    by_set None None (Some v) a b c = let k : (k : List ℕ) × (q ≡ nibbles_of k) = key_found q (entries (apply m changes)) v c in at k.0 k.1
    by_set None None None a b c = c ∙ sym (ap₂ overlaid a b)

-- ---- the keys

named : (cs : List Change) (set : SetMap) (q : List ℕ) → is_some (get (settings_from set cs) q) ≡ (list_any (λ k. bytes_eq k q) (keys_in_changes cs) || is_some (get set q))
named [] set q = refl
named (c ∷ cs) set q =
    named cs (insert set c.key c.value) q
    ∙ ap (λ b. list_any (λ k. bytes_eq k q) (keys_in_changes cs) || b)
    (ap is_some (get-insert nat_list_cmp_total set c.key c.value q ∙ ap (λ t. cond t (Some c.value) (get set q)) (key_ties c.key q)) ∙ either (bytes_eq c.key q) (get set q))
    ∙ moved (list_any (λ k. bytes_eq k q) (keys_in_changes cs)) (bytes_eq c.key q) (is_some (get set q))
  where
    either : (b : Bool) (o : Option (Option (List ℕ))) → is_some (cond b (Some c.value) o) ≡ (b || is_some o)
    either true o = refl
    either false o = refl

    moved : (a b d : Bool) → (a || (b || d)) ≡ ((b || a) || d)
    moved true true d = refl
    moved true false d = refl
    moved false true d = refl
    moved false false d = refl

pub any_found : {X : Type 0} (test : X → Bool) (xs : List X) → list_any test xs ≡ true → (x : X) × Among x xs × (test x ≡ true)
any_found test [] e = absurd cc
any_found {X = X} test (x ∷ xs) e = by_test (any_found test xs) (test x) refl
  where
    by_test : (list_any test xs ≡ true → (y : X) × Among y xs × (test y ≡ true)) → (b : Bool) → test x ≡ b → (y : X) × Among y (x ∷ xs) × (test y ≡ true)
    by_test further true h = (x, inl refl, h)
    by_test further false h =
        let more : (y : X) × Among y xs × (test y ≡ true) = further (sym (ap (λ b. b || list_any test xs) h) ∙ e) in (more.0, inr more.1, more.2)

pub among_any : {X : Type 0} (test : X → Bool) (xs : List X) (x : X) → Among x xs → test x ≡ true → list_any test xs ≡ true
among_any test [] x a e = absurd a
among_any test (y ∷ ys) x (inl same) e = ap (λ b. b || list_any test ys) (ap test same ∙ e)
among_any test (y ∷ ys) x (inr a) e = ap (λ b. test y || b) (among_any test ys x a e) ∙ or_true (test y)
  where
    or_true : (b : Bool) → (b || true) ≡ true
    or_true true = refl
    or_true false = refl

any_mapped : {X Y : Type 0} (f : X → Y) (test : Y → Bool) (xs : List X) → list_any test (map f xs) ≡ list_any (λ x. test (f x)) xs
any_mapped f test [] = refl
any_mapped f test (x ∷ xs) = ap (λ b. test (f x) || b) (any_mapped f test xs)

or_false : (b : Bool) → (b || false) ≡ b
or_false true = refl
or_false false = refl

pub set_keys : (changes : List Change) (q : List ℕ) → is_some (get (settings_from empty changes) q) ≡ list_any (λ k. bytes_eq k q) (keys_in_changes changes)
set_keys changes q =
    named changes empty q ∙ ap (λ (o : Option (Option (List ℕ))). list_any (λ k. bytes_eq k q) (keys_in_changes changes) || is_some o) (get-empty (slice_cmp nat_cmp) q)
    ∙ or_false (list_any (λ k. bytes_eq k q) (keys_in_changes changes))

-- a test passes for a key that is set where it passes for one that changes name
same_keys : (changes : List Change) (test : List ℕ → Bool)
    → list_any (λ (e : Setted). test e.0) (entries (settings_from empty changes)) ≡ list_any test (keys_in_changes changes)
same_keys changes test =
    same_bools (list_any (λ (e : Setted). test e.0) (entries (settings_from empty changes))) (list_any test (keys_in_changes changes)) there back
  where
    set : SetMap
    set = settings_from empty changes

    there : list_any (λ (e : Setted). test e.0) (entries (settings_from empty changes)) ≡ true → list_any test (keys_in_changes changes) ≡ true
    there h =
        let e : (e : Setted) × Among e (entries (settings_from empty changes)) × (test e.0 ≡ true) = any_found (λ (e : Setted). test e.0) (entries (settings_from empty changes)) h in
        let some : get (settings_from empty changes) e.0.0 ≡ Some e.0.1 =
        get-entries (settings_from empty changes) e.0.0 ∙ found_itself (entries (settings_from empty changes)) e.0 (entries_sorted (settings_from empty changes)) e.1 in
        let k : (k : List ℕ) × Among k (keys_in_changes changes) × (bytes_eq k e.0.0 ≡ true) =
        any_found (λ k. bytes_eq k e.0.0) (keys_in_changes changes) (sym (set_keys changes e.0.0) ∙ ap is_some some) in
        among_any test (keys_in_changes changes) k.0 k.1 (ap test ((bytes_eq-Decides k.0 e.0.0).0 k.2) ∙ e.2)

    by_value : (k : List ℕ) → test k ≡ true → (o : Option (Option (List ℕ))) → get (settings_from empty changes) k ≡ o → is_some o ≡ true
        → list_any (λ (e : Setted). test e.0) (entries (settings_from empty changes)) ≡ true
    by_value k e None h some = absurd cc
    by_value k e (Some v) h some =
        among_any (λ (e : Setted). test e.0) (entries (settings_from empty changes)) (k, v)
        (entry_found k (entries (settings_from empty changes)) v (sym (get-entries (settings_from empty changes) k) ∙ h)) e

    back : list_any test (keys_in_changes changes) ≡ true → list_any (λ (e : Setted). test e.0) (entries (settings_from empty changes)) ≡ true
    back h =
        let k : (k : List ℕ) × Among k (keys_in_changes changes) × (test k ≡ true) = any_found test (keys_in_changes changes) h in
        by_value k.0 k.2 (get (settings_from empty changes) k.0) refl
        (set_keys changes k.0 ∙ among_any (λ x. bytes_eq x k.0) (keys_in_changes changes) k.0 k.1 ((bytes_eq-Decides k.0 k.0).1 refl))

pub begins_changed : (settings : List Setting) (changes : List Change) (p : List ℕ) → set_pairs settings ≡ settings_of changes
    → begins_one settings p ≡ is_changed (keys_in_changes changes) (at_path p)
begins_changed settings changes p e =
    sym (any_mapped (λ (s : Setting). let x : Setted = (s.path.items, s.value) in x) (λ (x : Setted). starts_with nat_eq x.0 p) settings)
    ∙ ap (list_any (λ (x : Setted). starts_with nat_eq x.0 p)) e
    ∙ any_mapped (λ (x : Setted). let y : Setted = (nibbles_of x.0, x.1) in y) (λ (x : Setted). starts_with nat_eq x.0 p) (entries (settings_from empty changes))
    ∙ same_keys changes (λ k. starts_with nat_eq (nibbles_of k) p)
