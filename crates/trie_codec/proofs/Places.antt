-- Parts of parts.
use Rattle.std.proofs.Common.{◌≡◌, ℕ, ◌+◌, ◌-◌, ◌≤◌, List, length, take, drop, Option, Some, None, refl, sym, ap, ◌∙◌, arith}
use Rattle.std.specs.Prelude.{IfSome}
use Rattle.std.specs.Borrow.{Bor}
use Rattle.std.proofs.lemmas.Grind.{common_steps}
use Rattle.std.proofs.lemmas.List.{drop-take, take-take}
use Rattle.trie_codec.specs.NodeParts.{child_slice, node_of_ref, value_slice}
use Rattle.trie_codec.specs.Places.{IsSliceOf, BorrowsParts, children_from, place_in}
use Rattle.trie_codec.specs.declared.node_ref.NodeRef.{NodeRef}

pub part_self : (s : Bor (List ℕ)) → IsSliceOf s s 0
part_self s = record { block = refl; begins = omega arith; ends = omega arith; bytes = grind (arith, common_steps) }

-- so many elements of so many elements
middle : (xs : List ℕ) (i j k n m : ℕ) → j + m ≤ n → k ≡ i + j → take m (drop j (take n (drop i xs))) ≡ take m (drop k xs)
middle xs i j k n m within at =
    let split : n ≡ j + (n - j) = omega arith in
    let less : m ≤ n - j = omega arith in
    let front : drop j (take n (drop i xs)) ≡ take (n - j) (drop j (drop i xs)) = ap (λ t. drop j (take t (drop i xs))) split ∙ drop-take j (n - j) (drop i xs) in
    let from : drop j (drop i xs) ≡ drop k xs = grind (arith, common_steps) in
    ap (take m) front ∙ take-take m (n - j) (drop j (drop i xs)) less ∙ ap (take m) from

-- a part of a part that nothing stands after is a part
pub part_within : (input part inner : Bor (List ℕ)) (after : ℕ) → IsSliceOf input part 0 → IsSliceOf part inner after → IsSliceOf input inner after
part_within input part inner after outer deep =
    let i = place_in input part in
    let j = place_in part inner in
    let k = place_in input inner in
    let n = length part.now in
    let m = length inner.now in
    let at : k ≡ i + j = omega (arith, deep.begins, outer.begins) in
    let n_is : i + n - i ≡ n = omega arith in
    let m_is : j + m - j ≡ m = omega arith in
    let k_is : k + m - k ≡ m = omega arith in
    let outside : part.now ≡ take n (drop i input.now) = outer.bytes ∙ ap (λ t. take t (drop i input.now)) n_is in
    let inside : inner.now ≡ take m (drop j part.now) = deep.bytes ∙ ap (λ t. take t (drop j part.now)) m_is in record {
      block = deep.block ∙ outer.block;
      begins = omega (arith, deep.begins, outer.begins);
      ends = omega (arith, deep.begins, outer.begins, deep.ends, outer.ends);
      bytes = inside ∙ ap (λ (ys : List ℕ). take m (drop j ys)) outside ∙ middle input.now i j k n m (omega (arith, deep.ends)) at ∙ ap (λ t. take t (drop k input.now)) (sym k_is);
    }

-- the same of what need not be there, and of what may have failed
pub some_within : (input part : Bor (List ℕ)) (inner : Option (Bor (List ℕ))) (after : ℕ) → IsSliceOf input part 0 → IfSome inner (λ s. IsSliceOf part s after) → IfSome inner (λ s. IsSliceOf input s after)
some_within input part None after outer deep = tt
some_within input part (Some s) after outer deep = part_within input part s after outer deep

pub borrows_within : (input part : Bor (List ℕ)) (r : NodeRef) (after : ℕ) → IsSliceOf input part 0 → BorrowsParts part r after → BorrowsParts input r after
borrows_within input part r after outer lends = (
  some_within input part (value_slice r) (length (children_from 0 (node_of_ref r)) + after) outer lends.0,
  (λ i. some_within input part (child_slice r i) (length (children_from (i + 1) (node_of_ref r)) + after) outer (lends.1 i)),
)
