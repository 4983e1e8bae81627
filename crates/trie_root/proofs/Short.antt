-- Merkle values are short, and there are sixteen.
use Rattle.std.proofs.Common.{◌≡◌, ℕ, ◌<◌, ◌≤◌, ◌^◌, ◌*◌, true, false, ltb, List, [], ◌∷◌, length, get_or, All, Option, refl, subst, inl, inr, sym, arith, length-take}
use Rattle.std.specs.Prelude.{IfSome}
use Rattle.std.proofs.lemmas.Bool.{cases_lt}
use Rattle.std.proofs.lemmas.Bool.Decides.{nat_tests}
use Rattle.std.proofs.lemmas.List.Elements.{All-map}
use Rattle.sdb_base.specs.declared.Pair.{Pair}
use Rattle.sdb_blake2.specs.Blake2b.{H, digest}
use Rattle.trie_model.specs.Node.{HasCompactLength, merkle_value, spelling}
use Rattle.trie_model.specs.Trie.{Suffix, below, child_value, node_of_all, every_nibble}
use Rattle.trie_root.specs.inner.Groups.{IsGroup, child_below, children_over}

short_hash : (bytes : List ℕ) → length (H bytes) ≤ 32
unfolding H digest
short_hash bytes = simp length-take (omega arith)

short_value : (bytes : List ℕ) → length (merkle_value bytes) < 2 ^ 30
unfolding merkle_value
short_value bytes = elim (cases_lt (length bytes) 32) [
  | inl less ↦ let t : ltb (length bytes) 32 ≡ true = grind (arith, nat_tests) in rw t (omega arith)
  | inr more ↦ let f : ltb (length bytes) 32 ≡ false = grind (arith, nat_tests) in rw f (omega (arith, short_hash bytes))
]

short_child : (ts : List Suffix) → IfSome (child_value node_of_all ts) HasCompactLength
short_child [] = tt
short_child (t ∷ ts) = short_value (spelling (node_of_all (t ∷ ts)))

pub short_children : (ss : List Suffix) → All (λ c. IfSome c HasCompactLength) (children_over ss)
unfolding children_over
short_children ss =
    All-map (λ (c : Option (List ℕ)). IfSome c HasCompactLength) (child_below ss) every_nibble (λ k d h. short_child (below (get_or every_nibble k d ∷ []) ss))

pub sixteen_children : (ss : List Suffix) → length (children_over ss) ≡ 16
unfolding children_over
sixteen_children ss = refl

pub end_of_key : (end : ℕ) (pairs : List Pair) (p : Pair) → 1 ≤ length pairs → p ≡ get_or pairs 0 p → IsGroup end pairs → end ≤ 2 * length p.key
end_of_key end pairs p h e r = subst (λ (x : Pair). end ≤ 2 * length x.key) (sym e) (r.long 0 p (omega arith))

pub end_of_longest : (end : ℕ) (pairs : List Pair) → 1 ≤ length pairs → IsGroup end pairs → end ≤ 2048
end_of_longest end [] h r = absurd (omega arith)
end_of_longest end (p ∷ ps) h r = omega (arith, r.long 0 p (omega arith), (r.within 0 p (omega arith)).short_key)
