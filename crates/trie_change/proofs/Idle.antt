-- Changes that change nothing.
use Rattle.std.proofs.Common.{◌≡◌, ℕ, Bool, true, false, cond, List, [], ◌∷◌, ◌++◌, refl, ap, ap₂, sym, ◌∙◌}
use Rattle.std.specs.Prelude.{All, not}
use Rattle.std.specs.FinMap.{get, nat_cmp-IsAntisymmetric, same_map, slice_cmp-IsAntisymmetric}
use Rattle.std.specs.Str.{bytes_eq}
use Rattle.std.proofs.lemmas.Cmp.{nat_list_cmp_total}
use Rattle.std.proofs.lemmas.List.Elements.{All-head, All-tail}
use Rattle.std.proofs.lemmas.Slice.Eq.{bytes_eq-Decides}
use Rattle.sdb_base.specs.declared.Change.{Change}
use Rattle.trie_model.specs.Fetches.{change_fetches, is_changed, is_unhung}
use Rattle.trie_model.specs.Nodes.{PathNode, all_nodes, dropped_nodes, has_node, is_stored, put_nodes, stored_nodes}
use Rattle.trie_model.specs.State.{State, apply, with_key}
use Rattle.trie_model.proofs.States.{get-with_key}
use Rattle.trie_read.proofs.Among.{among_kept}
use Rattle.trie_change.proofs.Found.{has_it, has_its_path, nothing_kept}

pub nothing_put : (m : State) → put_nodes m m ≡ []
nothing_put m = nothing_kept (λ n. not (has_node (stored_nodes m) n)) (stored_nodes m) (λ n a. ap not (has_it (stored_nodes m) n a))

pub nothing_fetched : (m : State) → change_fetches m [] ≡ []
nothing_fetched m =
    ap₂ (λ (xs ys : List PathNode). xs ++ ys) (nothing_kept (is_changed []) (stored_nodes m) (λ n a. refl))
    (nothing_kept (is_unhung (all_nodes m) []) (stored_nodes m)
    (λ n a. ap not (has_its_path (all_nodes m) n (among_kept n is_stored (all_nodes m) a).0)))

pub same_by_values : (m n : State) → ((q : List ℕ) → get m q ≡ get n q) → m ≡ n
same_by_values = same_map nat_list_cmp_total (slice_cmp-IsAntisymmetric nat_cmp-IsAntisymmetric)

same_value : (m : State) (c : Change) → get m c.key ≡ c.value → with_key m c.key c.value ≡ m
same_value m c h = same_by_values (with_key m c.key c.value) m (λ q. get-with_key m c.key q c.value ∙ by_test q (bytes_eq c.key q) refl)
  where
    by_test : (q : List ℕ) (b : Bool) → bytes_eq c.key q ≡ b → cond (bytes_eq c.key q) c.value (get m q) ≡ get m q
    by_test q true e = ap (λ b. cond b c.value (get m q)) e ∙ sym h ∙ ap (get m) ((bytes_eq-Decides c.key q).0 e)
    by_test q false e = ap (λ b. cond b c.value (get m q)) e

pub same_values : (m : State) (cs : List Change) → All (λ (c : Change). get m c.key ≡ c.value) cs → apply m cs ≡ m
same_values m [] a = refl
same_values m (c ∷ cs) a =
    ap (λ (n : State). apply n cs) (same_value m c (All-head (λ (d : Change). get m d.key ≡ d.value) c cs a))
    ∙ same_values m cs (All-tail (λ (d : Change). get m d.key ≡ d.value) c cs a)

pub same_put : (m : State) (cs : List Change) → All (λ (c : Change). get m c.key ≡ c.value) cs → put_nodes m (apply m cs) ≡ []
same_put m cs a = ap (put_nodes m) (same_values m cs a) ∙ nothing_put m

pub same_dropped : (m : State) (cs : List Change) → All (λ (c : Change). get m c.key ≡ c.value) cs → dropped_nodes m (apply m cs) ≡ []
same_dropped m cs a = ap (dropped_nodes m) (same_values m cs a) ∙ nothing_put m
