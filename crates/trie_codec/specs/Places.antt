-- Where borrowed slices lie in the input.
use Rattle.std.specs.Prelude.{◌≡◌, ℕ, ◌+◌, ◌-◌, ◌≤◌, List, drop, length, slice_range, IfSome}
use Rattle.std.specs.List.{flat_map}
use Rattle.std.specs.Borrow.{Bor}
use Rattle.trie_model.specs.Node.{Node, optional_string}
use Rattle.trie_codec.specs.NodeParts.{child_slice, node_of_ref, value_slice}
use Rattle.trie_codec.specs.declared.node_ref.NodeRef.{NodeRef}

-- how many bytes after the input's first one a slice begins
abbrev pub place_in : Bor (List ℕ) → Bor (List ℕ) → ℕ
place_in input part = part.ref_ptr.1 - input.ref_ptr.1

-- A slice is the part of the input that so many bytes follow: it lies in the input's memory, has the bytes that
-- are at its place, and ends so many bytes before the input does.
pub record IsSliceOf (input part : Bor (List ℕ)) (after : ℕ) : Type 0 where
  pub block : part.ref_ptr.0 ≡ input.ref_ptr.0
  pub begins : input.ref_ptr.1 ≤ part.ref_ptr.1
  pub ends : place_in input part + length part.now + after ≡ length input.now
  pub bytes : part.now ≡ slice_range input.now (place_in input part) (place_in input part + length part.now)

-- the spelling of a node's children from one on
abbrev pub children_from : ℕ → Node → List ℕ
children_from i n = flat_map optional_string (drop i n.children)

-- Where a node's value and children lie in an input that has so many bytes after the node: all children come after
-- the value, and the later children after a child.
abbrev pub BorrowsParts : Bor (List ℕ) → NodeRef → ℕ → Type 0
BorrowsParts input r after =
    IfSome (value_slice r) (λ v. IsSliceOf input v (length (children_from 0 (node_of_ref r)) + after))
    × ((i : ℕ) → IfSome (child_slice r i) (λ c. IsSliceOf input c (length (children_from (i + 1) (node_of_ref r)) + after)))
