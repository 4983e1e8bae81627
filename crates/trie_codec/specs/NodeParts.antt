-- The parts of a node that lies in bytes.
use Rattle.std.specs.Prelude.{◌≡◌, ◌<◌, ℕ, ◌%◌, Bool, true, false, List, length, map, drop, slice_index_or, Option, Some, None}
use Rattle.std.specs.Borrow.{Bor}
use Rattle.sdb_base.specs.Nibbles.{nibbles_of}
use Rattle.trie_model.specs.Node.{Node, has_child}
use Rattle.trie_codec.specs.Slices.{bytes_in}
use Rattle.trie_codec.specs.declared.node_ref.NodeRef.{NodeRef}
use Rattle.trie_codec.specs.declared.node_ref.Kind.{Kind}
use Rattle.trie_codec.specs.declared.node_ref.Kind.TheVariants.{Empty, Leaf, Branch}
use Rattle.trie_codec.specs.declared.node_ref.ChildRef.{ChildRef}
use Rattle.trie_codec.specs.declared.node_ref.ChildRef.TheVariants as child

-- what a node is, by whether it has a child and a value
abbrev pub kind_by : Bool → Option (List ℕ) → Kind
kind_by false None = Empty
kind_by false (Some v) = Leaf
kind_by true value = Branch

abbrev pub kind_of : Node → Kind
kind_of n = kind_by (has_child n.children) n.value

-- a node's parts, without where they lie
abbrev pub node_of_ref : NodeRef → Node
node_of_ref r = record {
  partial = drop (r.partial_len % 2) (nibbles_of r.partial.now);
  value = bytes_in r.value;
  children = map bytes_in r.children;
}

-- the slices of the value and of child i
abbrev pub value_slice : NodeRef → Option (Bor (List ℕ))
value_slice r = r.value

abbrev pub child_slice : NodeRef → ℕ → Option (Bor (List ℕ))
child_slice r i = slice_index_or r.children i None

-- a child's Merkle value: a hash is one of 32 bytes
abbrev pub IsChildOf : ChildRef → Option (Bor (List ℕ)) → Type 0
IsChildOf child.None c = c ≡ None
IsChildOf (child.Inline bytes) c = (c ≡ Some bytes) × (length bytes.now < 32)
IsChildOf (child.Hashed hash) c = (c ≡ Some hash) × (length hash.now ≡ 32)

abbrev pub child_bytes : ChildRef → Option (List ℕ)
child_bytes child.None = None
child_bytes (child.Inline bytes) = Some bytes.now
child_bytes (child.Hashed hash) = Some hash.now
