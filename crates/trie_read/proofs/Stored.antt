-- The nodes that hang in a trie are those of its list, and the long ones are stored.
use Rattle.std.proofs.Common.{◌≡◌, ◌⊎◌, ℕ, suc, ◌<◌, ◌≤◌, true, false, eqb, List, [], ◌∷◌, length, refl, ap, subst, sym, ◌∙◌, inl, inr, arith}
use Rattle.std.specs.Prelude.{◌||◌, ◌==◌, nat_le, All, Contains, ◌↔◌}
use Rattle.std.specs.List.{AllByRecursion}
use Rattle.std.proofs.lemmas.List.Elements.{All-weaker, recursion_from_All}
use Rattle.trie_model.specs.Node.{spelling}
use Rattle.trie_model.specs.Nodes.{PathNode, all_over, is_stored, stored_over}
use Rattle.trie_model.specs.Trie.{Suffix, below, levels_of, node_of_all}
use Rattle.trie_root.proofs.ReadOffNibbles.{InNibbles}
use Rattle.trie_root.proofs.Rows.{unlike}
use Rattle.trie_read.specs.Paths.{AreNibbles, Hangs, IsHung, IsLong}
use Rattle.trie_read.proofs.Among.{Among, among_from, among_kept, contains_from, kept_among}
use Rattle.trie_read.proofs.Hanging.{Hung, alike, hung_among, hung_at, hung_from}

pub in_nibbles : (ss : List Suffix) → AreNibbles ss → AllByRecursion InNibbles ss
in_nibbles ss a =
    recursion_from_All InNibbles ss
    (All-weaker (λ (s : Suffix). All (λ n. n < 16) s.0) InNibbles (λ s h. recursion_from_All (λ n. n < 16) s.0 h) ss a)

pub is_hung : (ss : List Suffix) (n : PathNode) → Among n (all_over ss) → IsHung ss n
is_hung ss n a =
    let h : Hung [] ss n = hung_from (levels_of ss) [] ss n (omega arith) a in
    let at : n.path ≡ h.rest = h.path in
    record {
      path = subst (λ (p : List ℕ). Hangs ss p) (sym at) h.hangs;
      bytes = h.bytes ∙ ap (λ (p : List ℕ). spelling (node_of_all (below p ss))) (sym at);
    }

pub among_hung : (ss : List Suffix) (n : PathNode) → AreNibbles ss → IsHung ss n → Among n (all_over ss)
among_hung ss n a h =
    let same : hung_at [] ss n.path ≡ n = alike n.path n.path (spelling (node_of_all (below n.path ss))) n.bytes refl (sym h.bytes) in
    subst (λ (m : PathNode). Among m (all_over ss)) same (hung_among (levels_of ss) [] ss n.path (omega arith) (in_nibbles ss a) h.path)

long_by : (p : List ℕ) (len : ℕ) → ((length p == 0) || nat_le 32 len) ≡ true → (p ≡ []) ⊎ (32 ≤ len)
long_by [] len e = inl refl
long_by (x ∷ p) len e = let other : eqb (suc (length p)) 0 ≡ false = unlike (suc (length p)) 0 (λ z. omega arith) in inr (at_least (rw other at e))
  where
    at_least : nat_le 32 len ≡ true → 32 ≤ len
    at_least h = grind arith

by_long : (p : List ℕ) (len : ℕ) → (p ≡ []) ⊎ (32 ≤ len) → ((length p == 0) || nat_le 32 len) ≡ true
by_long p len (inl e) = rw e refl
by_long [] len (inr h) = refl
by_long (x ∷ p) len (inr h) = let other : eqb (suc (length p)) 0 ≡ false = unlike (suc (length p)) 0 (λ z. omega arith) in rw other (at_least h)
  where
    at_least : 32 ≤ len → nat_le 32 len ≡ true
    at_least k = grind arith

pub is_long : (n : PathNode) → is_stored n ≡ true → IsLong n
is_long n e = long_by n.path (length n.bytes) e

pub is_kept : (n : PathNode) → IsLong n → is_stored n ≡ true
is_kept n h = by_long n.path (length n.bytes) h

pub all_hang : (ss : List Suffix) (n : PathNode) → AreNibbles ss → Contains (all_over ss) n ↔ IsHung ss n
all_hang ss n a = ((λ c. is_hung ss n (among_from n (all_over ss) c)), (λ h. contains_from n (all_over ss) (among_hung ss n a h)))

pub stored_hang : (ss : List Suffix) (n : PathNode) → AreNibbles ss → Contains (stored_over ss) n ↔ (IsHung ss n × IsLong n)
stored_hang ss n a = (
  (λ c. let k : Among n (all_over ss) × (is_stored n ≡ true) = among_kept n is_stored (all_over ss) (among_from n (stored_over ss) c) in
      (is_hung ss n k.0, is_long n k.1)),
  (λ h. contains_from n (stored_over ss) (kept_among n is_stored (all_over ss) (among_hung ss n a h.0) (is_kept n h.1))),
)
