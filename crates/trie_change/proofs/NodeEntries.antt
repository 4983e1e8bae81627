-- Two ways to say that nodes rise by path: each below all others, and as a sorted list.
use Rattle.std.proofs.Common.{ℕ, List, [], ◌∷◌, map, T}
use Rattle.std.specs.Ordering.{is_lt, nat_cmp}
use Rattle.std.specs.Cmp.Lexicographic.{slice_cmp}
use Rattle.std.specs.FinMap.{is_sorted}
use Rattle.std.proofs.lemmas.Float.{T_from_true}
use Rattle.trie_model.specs.Nodes.{PathNode}
use Rattle.trie_root.proofs.Ends.{below_all, first_of_and, second_of_and}
use Rattle.trie_root.proofs.Stripped.{and, true_from_T}
use Rattle.trie_read.specs.Paths.{RiseByPath}
use Rattle.trie_read.proofs.Rising.{LowerThan, Rises}

abbrev as_entry : PathNode → List ℕ × List ℕ
as_entry n = (n.path, n.bytes)

lower_entries : (p : List ℕ) (ns : List PathNode) → T (below_all p (map as_entry ns)) → LowerThan p ns
lower_entries p [] b = tt
lower_entries p (n ∷ ns) b =
    (first_of_and _ (below_all p (map as_entry ns)) b, lower_entries p ns (second_of_and (is_lt (slice_cmp nat_cmp p n.path)) _ b))

rises_by : (ns : List PathNode) → T (is_sorted (slice_cmp nat_cmp) (map as_entry ns)) → Rises ns
rises_by [] s = tt
rises_by (n ∷ ns) s = (
  lower_entries n.path ns (first_of_and _ (is_sorted (slice_cmp nat_cmp) (map as_entry ns)) s),
  rises_by ns (second_of_and (below_all n.path (map as_entry ns)) _ s),
)

pub rises_from : (ns : List PathNode) → RiseByPath ns → Rises ns
rises_from ns s = rises_by ns (T_from_true _ s)

below_entries : (p : List ℕ) (ns : List PathNode) → LowerThan p ns → T (below_all p (map as_entry ns))
below_entries p [] a = tt
below_entries p (n ∷ ns) a = and _ _ a.0 (below_entries p ns a.1)

sorted_entries : (ns : List PathNode) → Rises ns → T (is_sorted (slice_cmp nat_cmp) (map as_entry ns))
sorted_entries [] a = tt
sorted_entries (n ∷ ns) a = and _ _ (below_entries n.path ns a.0) (sorted_entries ns a.1)

pub rise_by_path : (ns : List PathNode) → Rises ns → RiseByPath ns
rise_by_path ns r = true_from_T _ (sorted_entries ns r)
