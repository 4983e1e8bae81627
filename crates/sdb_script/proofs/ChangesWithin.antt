-- The changes of a text keep the limits.
use Rattle.std.proofs.Common.{◌≡◌, ℕ, suc, ◌≤◌, Bool, true, false, cond, List, [], ◌∷◌, length, Some, None, refl, ap, subst, arith}
use Rattle.std.specs.Prelude.{nat_le}
use Rattle.std.specs.Option.{option_map}
use Rattle.std.specs.List.{AllByRecursion, after_first, before_first, list_any}
use Rattle.std.proofs.lemmas.Bool.{leb-true}
use Rattle.std.proofs.lemmas.Option.{none-some, same_Some}
use Rattle.sdb_base.specs.declared.Change.{Change}
use Rattle.sdb_script.specs.Grammar.{changes_of, each_change, most_changes}
use Rattle.sdb_script.specs.LineTexts.{IsChange}
use Rattle.sdb_script.specs.Words.{bytes_of, change_of, change_to, deletion_of, is_equals, is_exclamation, most_in_key, most_in_value, setting_of}
use Rattle.sdb_script.proofs.Within.{bytes_within, chosen, map_some, then_some}

set_within : (w : List ℕ) (c : Change) → setting_of w ≡ Some c → IsChange c
set_within w c h =
    let k = then_some _ (bytes_of most_in_key (before_first is_equals w)) c h in
    let v = map_some (λ value. change_to k.0 (Some value)) (bytes_of most_in_value (after_first is_equals w)) c k.2 in
    let key = bytes_within most_in_key (before_first is_equals w) k.0 k.1 in
    let value = bytes_within most_in_value (after_first is_equals w) v.0 v.1 in
    subst IsChange v.2 (record {
      trie = refl;
      within = record { short_key = key.0; short_value = value.0 };
      key = key.1;
      value = value.1;
    })

delete_within : (w : List ℕ) (c : Change) → deletion_of w ≡ Some c → IsChange c
delete_within w c h =
    chosen IsChange _ (option_map (λ key. change_to key None) (bytes_of most_in_key (before_first is_exclamation w))) None c h
    (λ e. let k = map_some (λ key. change_to key None) (bytes_of most_in_key (before_first is_exclamation w)) c e in
    let key = bytes_within most_in_key (before_first is_exclamation w) k.0 k.1 in
    subst IsChange k.2 (record { trie = refl; within = record { short_key = key.0; short_value = tt }; key = key.1; value = tt }))
    (λ e. absurd (none-some c e))

change_within : (w : List ℕ) (c : Change) → change_of w ≡ Some c → IsChange c
unfolding change_of
change_within w c h =
    chosen IsChange (list_any is_equals w) (setting_of w) (deletion_of w) c h (set_within w c) (delete_within w c)

each_within : (ws : List (List ℕ)) (cs : List Change) → each_change ws ≡ Some cs → AllByRecursion IsChange cs × (length cs ≡ length ws)
unfolding each_change
each_within [] cs h = let e : [] ≡ cs = same_Some [] cs h in rw (← e) (tt, refl)
each_within (w ∷ ws) cs h =
    let c = then_some (λ c. option_map (λ rest. c ∷ rest) (each_change ws)) (change_of w) cs h in
    let rest = map_some (λ rest. c.0 ∷ rest) (each_change ws) cs c.2 in
    let others = each_within ws rest.0 rest.1 in
    let e : c.0 ∷ rest.0 ≡ cs = rest.2 in
    rw (← e) ((change_within w c.0 c.1, others.0), ap suc others.1)

few_changes : (ws : List (List ℕ)) (cs : List Change) (few : Bool) → nat_le (length ws) most_changes ≡ few → cond few (each_change ws) None ≡ Some cs
    → AllByRecursion IsChange cs × (length cs ≤ most_changes)
few_changes ws cs true e h = let each = each_within ws cs h in (each.0, omega (arith, each.1, leb-true (length ws) most_changes e))
few_changes ws cs false e h = absurd (none-some cs h)

pub changes_within : (ws : List (List ℕ)) (cs : List Change) → changes_of ws ≡ Some cs → AllByRecursion IsChange cs × (length cs ≤ most_changes)
unfolding changes_of
changes_within ws cs h = few_changes ws cs (nat_le (length ws) most_changes) refl h
