-- The parts of a node as the writer takes them.
use Rattle.std.specs.Prelude.{ℕ, List, Option, None, Some, replicate}
use Rattle.trie_model.specs.Node.{Node}
use Rattle.trie_codec.specs.declared.plain.Plain.{Plain}

-- the node of these parts
abbrev pub node_with : List ℕ → Option (List ℕ) → List (Option (List ℕ)) → Node
node_with partial value children = record { partial = partial; value = value; children = children }

-- the leaf of a partial key and a value
abbrev pub leaf_with : List ℕ → List ℕ → Node
leaf_with partial value = node_with partial (Some value) (replicate 16 None)

-- a node's parts, without where they lie in memory
abbrev pub node_of : Plain → Node
node_of p = node_with p.partial p.value p.children
