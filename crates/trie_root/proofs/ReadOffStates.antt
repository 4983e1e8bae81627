-- The suffixes of a state are sorted, and their nibbles are below 16.
use Rattle.std.proofs.Common.{ℕ, ◌<◌, List, [], ◌∷◌, map, T, arith}
use Rattle.std.specs.Ordering.{nat_cmp, is_lt}
use Rattle.std.specs.Cmp.Lexicographic.{slice_cmp}
use Rattle.std.specs.FinMap.{entries, entries_sorted, is_sorted}
use Rattle.std.specs.List.{AllByRecursion}
use Rattle.sdb_base.specs.Nibbles.{nibbles_of}
use Rattle.trie_model.specs.State.{State}
use Rattle.trie_model.specs.Trie.{Suffix, suffixes_of}
use Rattle.trie_root.proofs.Ends.{below_all, first_of_and, second_of_and}
use Rattle.trie_root.proofs.ReadOffNibbles.{InNibbles}
use Rattle.trie_root.proofs.Rising.{nibbles_rise}
use Rattle.trie_root.proofs.Stripped.{and}

-- a key in nibbles, with its value
abbrev pub in_nibbles : List ℕ × List ℕ → Suffix
in_nibbles e = (nibbles_of e.0, e.1)

pub nibbles_small : (bs : List ℕ) → AllByRecursion (λ b. b < 256) bs → AllByRecursion (λ n. n < 16) (nibbles_of bs)
nibbles_small [] a = tt
nibbles_small (b ∷ bs) a = let small : b < 256 = a.0 in (omega arith, (omega arith, nibbles_small bs a.1))

pub all_in_nibbles : (es : List (List ℕ × List ℕ)) → AllByRecursion (λ (e : List ℕ × List ℕ). AllByRecursion (λ b. b < 256) e.0) es
    → AllByRecursion InNibbles (map in_nibbles es)
all_in_nibbles [] a = tt
all_in_nibbles (e ∷ es) a = (nibbles_small e.0 a.0, all_in_nibbles es a.1)

below_all-in_nibbles : (key : List ℕ) (es : List (List ℕ × List ℕ)) → T (below_all key es) → T (below_all (nibbles_of key) (map in_nibbles es))
below_all-in_nibbles key [] b = tt
below_all-in_nibbles key (e ∷ es) b =
    and _ _ (nibbles_rise key e.0 (first_of_and _ (below_all key es) b))
    (below_all-in_nibbles key es (second_of_and (is_lt (slice_cmp nat_cmp key e.0)) _ b))

is_sorted-in_nibbles : (es : List (List ℕ × List ℕ)) → T (is_sorted (slice_cmp nat_cmp) es) → T (is_sorted (slice_cmp nat_cmp) (map in_nibbles es))
is_sorted-in_nibbles [] s = tt
is_sorted-in_nibbles (e ∷ es) s =
    and _ _ (below_all-in_nibbles e.0 es (first_of_and _ (is_sorted (slice_cmp nat_cmp) es) s))
    (is_sorted-in_nibbles es (second_of_and (below_all e.0 es) _ s))

-- a state's suffixes are sorted
pub suffixes_sorted : (m : State) → T (is_sorted (slice_cmp nat_cmp) (suffixes_of m))
suffixes_sorted m = is_sorted-in_nibbles (entries m) (entries_sorted m)
