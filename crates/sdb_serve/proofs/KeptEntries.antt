-- A block's changes keep the entries of a state within the limits.
use Rattle.std.proofs.Common.{◌≡◌, ℕ, ◌<◌, ◌≤◌, Bool, true, false, cond, List, [], ◌∷◌, length, Option, Some, None, refl, subst, sym, ◌∙◌, inl, inr}
use Rattle.std.specs.Prelude.{All, IfSome}
use Rattle.std.specs.FinMap.{entries, entries_sorted, get, get-entries}
use Rattle.std.specs.List.{AllByRecursion}
use Rattle.std.specs.Str.{bytes_eq}
use Rattle.std.proofs.lemmas.List.{get_or_default}
use Rattle.std.proofs.lemmas.List.Elements.{All-from_recursion, recursion_from_All}
use Rattle.std.proofs.lemmas.Option.{none-some}
use Rattle.std.proofs.lemmas.Slice.Eq.{bytes_eq-Decides}
use Rattle.hex.specs.Hex.{IsBytes}
use Rattle.sdb_base.specs.declared.Change.{Change}
use Rattle.sdb_script.specs.LineTexts.{IsChange}
use Rattle.trie_model.specs.Limits.{most_in_key, most_in_value}
use Rattle.trie_model.specs.State.{State, apply, with_key}
use Rattle.trie_model.proofs.States.{get-with_key}
use Rattle.trie_root.specs.Suffixes.{IsEntry}
use Rattle.trie_read.proofs.Among.{Among}
use Rattle.trie_change.proofs.Nibbled.{entry_found, found_itself}

-- each key with its value is an entry within the limits
abbrev HasEntries : State → Type 0
HasEntries m = (key value : List ℕ) → get m key ≡ Some value → IsEntry (key, value)

among_all : {X : Type 0} (P : X → Type 0) (xs : List X) (x : X) → AllByRecursion P xs → Among x xs → P x
among_all P [] x a i = absurd i
among_all P (y ∷ ys) x a (inl e) = subst P e a.0
among_all P (y ∷ ys) x a (inr i) = among_all P ys x a.1 i

each_entry : (es : List (List ℕ × List ℕ)) → ((e : List ℕ × List ℕ) → Among e es → IsEntry e) → AllByRecursion IsEntry es
each_entry [] f = tt
each_entry (e ∷ es) f = (f e (inl refl), each_entry es (λ x a. f x (inr a)))

has_entries : (m : State) → All IsEntry (entries m) → HasEntries m
has_entries m all key value e =
    among_all IsEntry (entries m) (key, value) (recursion_from_All IsEntry (entries m) all) (entry_found key (entries m) value (sym (get-entries m key) ∙ e))

all_entries : (m : State) → HasEntries m → All IsEntry (entries m)
all_entries m has = All-from_recursion IsEntry (entries m) (each_entry (entries m) (λ x a.
    has x.0 x.1 (get-entries m x.0 ∙ found_itself (entries m) x (entries_sorted m) a)))

all_bytes : (xs : List ℕ) → IsBytes xs → All (λ b. b < 256) xs
all_bytes xs h k d lt = subst (λ (x : ℕ). x < 256) (get_or_default xs k 0 d lt) (h k)

value_within : (v : Option (List ℕ)) (value : List ℕ) → v ≡ Some value → IfSome v (λ x. length x ≤ most_in_value) → IfSome v IsBytes
    → (length value ≤ most_in_value) × IsBytes value
value_within None value e short bytes = absurd (none-some value e)
value_within (Some x) value e short bytes = let same : x ≡ value = cc in subst (λ (y : List ℕ). (length y ≤ most_in_value) × IsBytes y) same (short, bytes)

one_change : (m : State) (c : Change) → HasEntries m → IsChange c → HasEntries (with_key m c.key c.value)
one_change m c has is key value e = by_test (bytes_eq c.key key) refl
  where
    found : cond (bytes_eq c.key key) c.value (get m key) ≡ Some value
    found = sym (get-with_key m c.key key c.value) ∙ e

    by_test : (t : Bool) → bytes_eq c.key key ≡ t → IsEntry (key, value)
    by_test true test =
        let same : c.key ≡ key = (bytes_eq-Decides c.key key).0 test in
        let here : c.value ≡ Some value = rw test at found in
        let within : (length value ≤ most_in_value) × IsBytes value = value_within c.value value here is.within.short_value is.value in
        record {
          within = record { short_key = subst (λ (k : List ℕ). length k ≤ most_in_key) same is.within.short_key; short_value = within.0 };
          key = subst (λ (k : List ℕ). All (λ b. b < 256) k) same (all_bytes c.key is.key);
          value = all_bytes value within.1;
        }
    by_test false test = let there : get m key ≡ Some value = rw test at found in has key value there

after_changes : (cs : List Change) (m : State) → HasEntries m → AllByRecursion IsChange cs → HasEntries (apply m cs)
after_changes [] m has all = has
after_changes (c ∷ cs) m has all = after_changes cs (with_key m c.key c.value) (one_change m c has all.0) all.1

pub entries_after_block : (m : State) (changes : List Change) → All IsEntry (entries m) → AllByRecursion IsChange changes → All IsEntry (entries (apply m changes))
entries_after_block m changes all are = all_entries (apply m changes) (after_changes changes m (has_entries m all) are)
