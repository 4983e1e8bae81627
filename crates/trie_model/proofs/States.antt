-- What a state has after a change, and after changes one after another.
use Rattle.std.proofs.Common.{◌≡◌, ℕ, List, [], ◌∷◌, ◌++◌, Option, Some, None, cond, refl, ap, ◌∙◌}
use Rattle.std.specs.FinMap.{get, get-empty, get-insert, get-remove}
use Rattle.std.specs.Str.{bytes_eq}
use Rattle.std.specs.Ordering.{eq_by_cmp, nat_cmp}
use Rattle.std.specs.Cmp.Lexicographic.{slice_cmp}
use Rattle.std.proofs.lemmas.Cmp.{eq_by_cmp_equiv, nat_list_cmp_total}
use Rattle.std.proofs.lemmas.Map.Text.{is_eq-slice_cmp}
use Rattle.sdb_base.specs.declared.Change.{Change}
use Rattle.trie_model.specs.State.{State, apply, no_keys, with_key}

-- keys that the order of bytes does not tell apart are equal bytes
pub key_ties : (key q : List ℕ) → eq_by_cmp (slice_cmp nat_cmp) q key ≡ bytes_eq key q
key_ties key q = (eq_by_cmp_equiv nat_list_cmp_total).symm q key ∙ is_eq-slice_cmp key q

pub get-no_keys : (key : List ℕ) → get no_keys key ≡ None
get-no_keys key = get-empty (slice_cmp nat_cmp) key

pub get-with_key : (m : State) (key q : List ℕ) (value : Option (List ℕ))
    → get (with_key m key value) q ≡ cond (bytes_eq key q) value (get m q)
get-with_key m key q None = get-remove nat_list_cmp_total m key q ∙ ap (λ t. cond t None (get m q)) (key_ties key q)
get-with_key m key q (Some value) = get-insert nat_list_cmp_total m key value q ∙ ap (λ t. cond t (Some value) (get m q)) (key_ties key q)

pub apply-append : (m : State) (cs ds : List Change) → apply m (cs ++ ds) ≡ apply (apply m cs) ds
apply-append m [] ds = refl
apply-append m (c ∷ cs) ds = apply-append (with_key m c.key c.value) cs ds
