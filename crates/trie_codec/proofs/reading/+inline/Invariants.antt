use Rattle.std.proofs.Common.{◌≡◌, ◌≤◌, ◌+◌, ◌*◌, ◌-◌, ℕ, None, get_or, length, map, take}
use Rattle.std.specs.Prelude.{IfSome}
use Rattle.trie_codec.specs.Slices.{bytes_in}
use Rattle.trie_codec.specs.Places.{IsSliceOf}
use Rattle.trie_codec.specs.Reading.{first_children, reads_inline}
use Rattle.trie_codec.proofs.Children.{with_front}
use Rattle.trie_codec.proofs.Slices.{HoldsBefore, NoneFrom, slice_bytes}
use Rattle.trie_codec.proofs.reading.+inline.Given as goal

abbrev pub decreases-reads_alone : goal.decreases-reads_alone
decreases-reads_alone l = 6 * l.depth

abbrev pub decreases-read_child : goal.decreases-read_child
decreases-read_child l = 6 * l.depth + 1

abbrev pub decreases-read_lowest_child : goal.decreases-read_lowest_child
decreases-read_lowest_child l = 6 * l.depth + 2

abbrev pub decreases-read_children : goal.decreases-read_children
decreases-read_children l = 6 * l.depth + 3

abbrev pub decreases-read_branch : goal.decreases-read_branch
decreases-read_branch l = 6 * l.depth + 4

abbrev pub decreases-read_node : goal.decreases-read_node
decreases-read_node l = 6 * l.depth + 5

abbrev pub invariant-read_children-loop-i : goal.invariant-read_children-loop-i
invariant-read_children-loop-i l = record {
  sixteen : length l.children.found ≡ 16;
  none : NoneFrom l.i l.children.found;
  lent : (k : ℕ) → HoldsBefore (IsSliceOf l.initial.children.rest) l.children.found (length l.children.rest.now) k;
  took : length l.bytes ≡ length (slice_bytes l.children.found) + length l.children.rest.now;
  small : (k : ℕ) → IfSome (get_or l.children.found k None) (λ s. length s.now ≤ 32);
  rest : IsSliceOf l.initial.children.rest l.children.rest 0;
  so_far : with_front (map bytes_in (take l.i l.children.found)) (first_children (reads_inline l.depth) (16 - l.i) l.bits l.children.rest.now) ≡ first_children (reads_inline l.depth) 16 l.fn.bits l.bytes;
}
