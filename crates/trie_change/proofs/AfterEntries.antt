-- The entries of a state after changes are within the limits.
use Rattle.std.proofs.Common.{◌≡◌, ℕ, ◌/◌, ◌<◌, ◌≤◌, List, [], ◌∷◌, length, map, Option, Some, None, refl, ap, subst, sym, ◌∙◌, inl, inr, arith}
use Rattle.std.specs.Prelude.{All, IfSome}
use Rattle.std.specs.FinMap.{empty, entries, entries_sorted, get, get-entries}
use Rattle.std.specs.List.{AllByRecursion}
use Rattle.std.proofs.lemmas.List.Elements.{All-from_recursion, recursion_from_All}
use Rattle.sdb_base.specs.Nibbles.{nibbles_of}
use Rattle.sdb_base.specs.declared.Change.{Change}
use Rattle.trie_model.specs.Limits.{most_in_value}
use Rattle.trie_model.specs.Node.{IsPartial}
use Rattle.trie_model.specs.State.{State, apply, no_keys}
use Rattle.trie_model.proofs.States.{get-no_keys}
use Rattle.trie_root.specs.Suffixes.{IsEntry}
use Rattle.trie_root.proofs.Nibble.{length-nibbles_of}
use Rattle.trie_read.proofs.Among.{Among}
use Rattle.trie_change.specs.Changing.{IsLimitedSetting}
use Rattle.trie_change.specs.declared.settings.Setting.{Setting}
use Rattle.trie_change.specs.inner.InOrder.{set_pairs}
use Rattle.trie_change.specs.inner.Merged.{HasBytes}
use Rattle.trie_change.proofs.MergedSteps.{Setted, overlaid}
use Rattle.trie_change.proofs.Nibbled.{entry_found, found_itself}
use Rattle.trie_change.proofs.SetBy.{after_at}
use Rattle.trie_change.specs.Settings.{settings_of, settings_from}

bytes_again : (k : List ℕ) → AllByRecursion (λ n. n < 16) (nibbles_of k) → AllByRecursion (λ b. b < 256) k
bytes_again [] a = tt
bytes_again (b ∷ k) a = let high : b / 16 < 16 = a.0 in (omega arith, bytes_again k a.1.1)

-- a setting within the limits
record IsGood (s : Setting) : Type 0 where
  limited : IsLimitedSetting s
  bytes : HasBytes s

good_entry : (s : Setting) (k v : List ℕ) → IsGood s → s.path.items ≡ nibbles_of k → s.value ≡ Some v → IsEntry (k, v)
good_entry s k v g path value =
    let short : length v ≤ most_in_value = subst (λ (o : Option (List ℕ)). IfSome o (λ x. length x ≤ most_in_value)) value g.limited.value in
    let all : All (λ b. b < 256) v = subst (λ (o : Option (List ℕ)). IfSome o (λ x. All (λ b. b < 256) x)) value g.bytes in
    let partial : IsPartial (nibbles_of k) = subst IsPartial path g.limited.path in
    record {
      within = record { short_key = omega (arith, partial.short, length-nibbles_of k); short_value = short };
      key = All-from_recursion (λ b. b < 256) k (bytes_again k (recursion_from_All (λ n. n < 16) (nibbles_of k) partial.nibbles));
      value = all;
    }

-- the setting of an entry
setting_of : (settings : List Setting) (es : List Setted) (k : List ℕ) (v : Option (List ℕ)) → AllByRecursion IsGood settings
    → set_pairs settings ≡ map (λ (e : Setted). let x : Setted = (nibbles_of e.0, e.1) in x) es → Among (k, v) es
    → (s : Setting) × IsGood s × (s.path.items ≡ nibbles_of k) × (s.value ≡ v)
setting_of settings [] k v g e a = absurd a
setting_of [] (x ∷ es) k v g e a = absurd cc
setting_of (s ∷ settings) (x ∷ es) k v g e (inl same) =
    let pair : (s.path.items, s.value) ≡ (nibbles_of x.0, x.1) = cc in (
      s,
      g.0,
      ap (λ (p : Setted). p.0) pair ∙ ap (λ (y : Setted). nibbles_of y.0) same,
      ap (λ (p : Setted). p.1) pair ∙ ap (λ (y : Setted). y.1) same,
    )
setting_of (s ∷ settings) (x ∷ es) k v g e (inr a) =
    let rest : set_pairs settings ≡ map (λ (y : Setted). let z : Setted = (nibbles_of y.0, y.1) in z) es = cc in
    setting_of settings es k v g.1 rest a

both_good : (settings : List Setting) → AllByRecursion IsLimitedSetting settings → AllByRecursion HasBytes settings → AllByRecursion IsGood settings
both_good [] a b = tt
both_good (s ∷ settings) a b = (record { limited = a.0; bytes = b.0 }, both_good settings a.1 b.1)

each_entry : (es : List (List ℕ × List ℕ)) → ((e : List ℕ × List ℕ) → Among e es → IsEntry e) → AllByRecursion IsEntry es
each_entry [] f = tt
each_entry (e ∷ es) f = (f e (inl refl), each_entry es (λ x a. f x (inr a)))

among_all : {X : Type 0} (P : X → Type 0) (xs : List X) (x : X) → AllByRecursion P xs → Among x xs → P x
among_all P [] x a i = absurd i
among_all P (y ∷ ys) x a (inl e) = subst P e a.0
among_all P (y ∷ ys) x a (inr i) = among_all P ys x a.1 i

pub entries_after : (m : State) (changes : List Change) (settings : List Setting) → All IsEntry (entries m) → set_pairs settings ≡ settings_of changes
    → AllByRecursion IsLimitedSetting settings → AllByRecursion HasBytes settings → All IsEntry (entries (apply m changes))
entries_after m changes settings within e limits bytes =
    All-from_recursion IsEntry (entries (apply m changes)) (each_entry (entries (apply m changes)) (λ x a. by_set x a (get (settings_from empty changes) x.0) refl))
  where
    value : (x : List ℕ × List ℕ) → Among x (entries (apply m changes)) → overlaid (get (settings_from empty changes) x.0) (get m x.0) ≡ Some x.1
    value x a =
        sym (after_at changes m x.0) ∙ get-entries (apply m changes) x.0 ∙ found_itself (entries (apply m changes)) x (entries_sorted (apply m changes)) a

    by_set : (x : List ℕ × List ℕ) → Among x (entries (apply m changes)) → (o : Option (Option (List ℕ))) → get (settings_from empty changes) x.0 ≡ o → IsEntry x
    by_set x a None h =
        let old : get m x.0 ≡ Some x.1 = sym (ap (λ (o : Option (Option (List ℕ))). overlaid o (get m x.0)) h) ∙ value x a in
        among_all IsEntry (entries m) x (recursion_from_All IsEntry (entries m) within) (entry_found x.0 (entries m) x.1 (sym (get-entries m x.0) ∙ old))
    by_set x a (Some v) h =
        let new : v ≡ Some x.1 = sym (ap (λ (o : Option (Option (List ℕ))). overlaid o (get m x.0)) h) ∙ value x a in
        let s : (s : Setting) × IsGood s × (s.path.items ≡ nibbles_of x.0) × (s.value ≡ v) =
        setting_of settings (entries (settings_from empty changes)) x.0 v (both_good settings limits bytes) e
        (entry_found x.0 (entries (settings_from empty changes)) v (sym (get-entries (settings_from empty changes) x.0) ∙ h)) in
        good_entry s.0 x.0 x.1 s.1 s.2 (s.3 ∙ new)

pub none_within : All IsEntry (entries no_keys)
none_within = All-from_recursion IsEntry (entries no_keys) (each_entry (entries no_keys) (λ x a. nothing x a))
  where
    nothing : (x : List ℕ × List ℕ) → Among x (entries no_keys) → IsEntry x
    nothing x a =
        let no : None ≡ Some x.1 = sym (get-no_keys x.0) ∙ get-entries no_keys x.0 ∙ found_itself (entries no_keys) x (entries_sorted no_keys) a in absurd cc
