-- What keys are set to last, and the limits of it.
use Rattle.std.proofs.Common.{◌≡◌, ℕ, ◌<◌, ◌≤◌, List, [], ◌∷◌, length, Option, refl, ap, sym, ◌∙◌, arith}
use Rattle.std.specs.Prelude.{All}
use Rattle.std.specs.BTreeMap.{insert_entry}
use Rattle.std.specs.List.{AllByRecursion}
use Rattle.std.specs.Ordering.{match_ordering, nat_cmp}
use Rattle.std.specs.declared.cmp.Ordering.TheVariants.{Less, Equal, Greater}
use Rattle.std.specs.Cmp.Lexicographic.{slice_cmp}
use Rattle.std.specs.FinMap.{empty, entries, entries-insert, get-empty, get-entries, insert, put}
use Rattle.std.specs.FinMap.Entries.{by_order, same_entries}
use Rattle.std.specs.FinMap.{entries_sorted}
use Rattle.std.proofs.lemmas.Cmp.{nat_list_cmp_total}
use Rattle.std.proofs.lemmas.List.Elements.{All-from_recursion, All-head, All-tail, recursion_from_All}
use Rattle.sdb_base.specs.Nibbles.{nibbles_of}
use Rattle.sdb_base.specs.declared.Change.{Change}
use Rattle.trie_model.specs.Limits.{ChangeIsWithin, most_in_key}
use Rattle.trie_model.specs.Node.{IsPartial}
use Rattle.trie_root.proofs.Nibble.{length-nibbles_of}
use Rattle.trie_root.proofs.ReadOffStates.{nibbles_small}
use Rattle.trie_change.specs.inner.LastSet.{IsShortEntry, set_all}
use Rattle.trie_change.proofs.MergedSteps.{Setted, same_key}
use Rattle.trie_change.proofs.Orders.{key_cmp}
use Rattle.trie_change.proofs.SetBy.{SetMap}
use Rattle.trie_change.specs.Settings.{settings_from}

pub partial_of_key : (key : List ℕ) → All (λ b. b < 256) key → length key ≤ most_in_key → IsPartial (nibbles_of key)
partial_of_key key all few = record {
  nibbles = All-from_recursion (λ n. n < 16) (nibbles_of key) (nibbles_small key (recursion_from_All (λ b. b < 256) key all));
  short = omega (arith, length-nibbles_of key);
}

-- ---- as a finite map

put_is : (es : List Setted) (k : List ℕ) (v : Option (List ℕ)) → insert_entry key_cmp es k v ≡ put key_cmp k v es
put_is [] k v = refl
put_is (e ∷ es) k v =
    elim (key_cmp k e.0) as (λ o. match_ordering o ((k, v) ∷ e ∷ es) ((e.0, v) ∷ es) (e ∷ insert_entry key_cmp es k v)
    ≡ by_order o ((k, v) ∷ e ∷ es) ((e.0, v) ∷ es) (e ∷ put key_cmp k v es)) [
      | Less ↦ refl
      | Equal ↦ refl
      | Greater ↦ ap (λ (xs : List Setted). e ∷ xs) (put_is es k v)
    ]

all_set : (cs : List Change) (set : SetMap) → set_all (entries set) cs ≡ entries (settings_from set cs)
all_set [] set = refl
all_set (c ∷ cs) set =
    ap (λ (es : List Setted). set_all es cs) (put_is (entries set) c.key c.value ∙ sym (entries-insert nat_list_cmp_total set c.key c.value))
    ∙ all_set cs (insert set c.key c.value)

none_in_empty : entries (empty {X = Option (List ℕ)} {R = slice_cmp nat_cmp}) ≡ []
none_in_empty =
    same_entries key_cmp nat_list_cmp_total same_key (entries (empty {X = Option (List ℕ)} {R = slice_cmp nat_cmp})) [] (entries_sorted empty) tt
    (λ q. sym (get-entries (empty {X = Option (List ℕ)} {R = slice_cmp nat_cmp}) q) ∙ get-empty (slice_cmp nat_cmp) q)

pub set_all_is : (changes : List Change) → set_all [] changes ≡ entries (settings_from empty changes)
set_all_is changes = ap (λ (es : List Setted). set_all es changes) (sym none_in_empty) ∙ all_set changes empty

-- ---- the limits

short_put : (es : List Setted) (k : List ℕ) (v : Option (List ℕ)) → IsShortEntry (k, v) → AllByRecursion IsShortEntry es → AllByRecursion IsShortEntry (insert_entry key_cmp es k v)
short_put [] k v h a = (h, tt)
short_put (e ∷ es) k v h a =
    elim (key_cmp k e.0) as (λ o. AllByRecursion IsShortEntry (match_ordering o ((k, v) ∷ e ∷ es) ((e.0, v) ∷ es) (e ∷ insert_entry key_cmp es k v))) [
      | Less ↦ (h, (a.0, a.1))
      | Equal ↦ ((a.0.0, h.1), a.1)
      | Greater ↦ (a.0, short_put es k v h a.1)
    ]

short_all : (cs : List Change) (es : List Setted) → All ChangeIsWithin cs → AllByRecursion IsShortEntry es → AllByRecursion IsShortEntry (set_all es cs)
short_all [] es w a = a
short_all (c ∷ cs) es w a =
    let one : ChangeIsWithin c = All-head ChangeIsWithin c cs w in
    short_all cs (insert_entry key_cmp es c.key c.value) (All-tail ChangeIsWithin c cs w) (short_put es c.key c.value (one.short_key, one.short_value) a)

pub short_set : (changes : List Change) → All ChangeIsWithin changes → AllByRecursion IsShortEntry (set_all [] changes)
short_set changes w = short_all changes [] w tt
