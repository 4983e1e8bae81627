-- The Merkle values of nodes below the root, and which of these are stored.
use Rattle.std.proofs.Common.{◌≡◌, ℕ, ◌<◌, ◌≤◌, Bool, true, false, cond, ltb, List, [], ◌∷◌, length, refl, ap, subst, sym, ◌∙◌, inl, inr, arith}
use Rattle.std.proofs.lemmas.Bool.Decides.{nat_tests}
use Rattle.sdb_blake2.specs.Blake2b.{H}
use Rattle.trie_model.specs.Node.{merkle_value}
use Rattle.trie_model.specs.Nodes.{PathNode, is_stored}
use Rattle.trie_read.proofs.Stored.{is_kept, is_long}
use Rattle.trie_change.specs.declared.diff.Diff.{Diff}
use Rattle.trie_change.specs.inner.Diffs.{Comparison, IsComparison, after_nodes}

pub value_itself : (bytes : List ℕ) → length bytes < 32 → merkle_value bytes ≡ bytes
unfolding merkle_value
value_itself bytes h = let t : ltb (length bytes) 32 ≡ true = grind (arith, nat_tests) in rw t

pub value_hashed : (bytes : List ℕ) → 32 ≤ length bytes → merkle_value bytes ≡ H bytes
unfolding merkle_value
value_hashed bytes h = let f : ltb (length bytes) 32 ≡ false = grind (arith, nat_tests) in rw f

pub stored_long : (n : PathNode) → (n.path ≡ [] → ⊥) → is_stored n ≡ true → 32 ≤ length n.bytes
stored_long n below e = elim (is_long n e) [ inl root ↦ absurd (below root) | inr long ↦ long ]

pub long_stored : (n : PathNode) → 32 ≤ length n.bytes → is_stored n ≡ true
long_stored n h = is_kept n (inr h)

false_from : (b : Bool) → (b ≡ true → ⊥) → b ≡ false
false_from true h = absurd (h refl)
false_from false h = refl

pub short_inline : (n : PathNode) → (n.path ≡ [] → ⊥) → length n.bytes < 32 → is_stored n ≡ false
short_inline n below h = false_from (is_stored n) (λ e. omega (arith, stored_long n below e))

-- what has come, with or without the node
pub come_with : (c : Comparison) (n : PathNode) (all rest : List PathNode) (d : Diff) (b : Bool) → is_stored n ≡ b → all ≡ cond (is_stored n) (n ∷ rest) rest
    → IsComparison d (after_nodes c (cond b (n ∷ rest) rest)) → IsComparison d (after_nodes c all)
come_with c n all rest d b e is k =
    subst (λ (ns : List PathNode). IsComparison d (after_nodes c ns)) (sym (is ∙ ap (λ t. cond t (n ∷ rest) rest) e)) k
