use Rattle.std.proofs.Common.{◌≡◌, ◌++◌, take}
use Rattle.std.specs.List.{flat_map}
use Rattle.trie_model.specs.Node.{optional_string}
use Rattle.trie_codec.proofs.writing.put_children.Given as goal

-- the children so far are written
abbrev pub invariant-loop-child : goal.invariant-loop-child
invariant-loop-child l = l.out.items ≡ l.initial.out.items ++ flat_map optional_string (take l.child-index l.children)
