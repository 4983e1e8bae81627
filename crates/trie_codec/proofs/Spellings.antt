-- Spellings of whole nodes, and two spellings in front of the same bytes.
use Rattle.std.proofs.Common.{◌≡◌, List, ℕ, [], ◌++◌, Result, Ok, Err, sym, ap, ◌∙◌}
use Rattle.std.proofs.lemmas.List.{append-nil}
use Rattle.trie_model.specs.Node.{IsNode, Node, spelling}
use Rattle.trie_codec.specs.declared.fault.CodecFault.{CodecFault}
use Rattle.trie_codec.specs.Reading.{first_node, node_of_bytes, reads_inline, whole}
use Rattle.trie_codec.proofs.Written.{node_read}

pub whole_read : (n : Node) → IsNode n → node_of_bytes (spelling n) ≡ Ok n
unfolding node_of_bytes
whole_read n is_node =
    ap (λ (bytes : List ℕ). whole (first_node (reads_inline 32) bytes)) (sym (append-nil (spelling n))) ∙ ap whole (node_read 32 n [] is_node)

same_found : (read : Result (Node × List ℕ) CodecFault) (m n : Node) (x y : List ℕ) → read ≡ Ok (m, x) → read ≡ Ok (n, y) → (m ≡ n) × (x ≡ y)
same_found read m n x y first second =
    let both : ◌≡◌ {A = Node × List ℕ} (m, x) (n, y) = cc in
    (ap (λ (found : Node × List ℕ). found.0) both, ap (λ (found : Node × List ℕ). found.1) both)

pub one_spelling : (m n : Node) (x y : List ℕ) → IsNode m → IsNode n → spelling m ++ x ≡ spelling n ++ y → (m ≡ n) × (x ≡ y)
one_spelling m n x y first second same =
    same_found (first_node (reads_inline 32) (spelling m ++ x)) m n x y (node_read 32 m x first) (ap (first_node (reads_inline 32)) same ∙ node_read 32 n y second)

-- what bytes read as, where they are the spelling of a node
pub found_as_spelled : (bytes : List ℕ) (m n : Node) → node_of_bytes bytes ≡ Ok m → IsNode n → bytes ≡ spelling n → m ≡ n
found_as_spelled bytes m n found is_node same =
    let spelled : node_of_bytes bytes ≡ Ok n = ap node_of_bytes same ∙ whole_read n is_node in cc

pub spelled_is_no_fault : (bytes : List ℕ) (f : CodecFault) (n : Node) → node_of_bytes bytes ≡ Err f → IsNode n → bytes ≡ spelling n → ⊥
spelled_is_no_fault bytes f n refused is_node same =
    let spelled : node_of_bytes bytes ≡ Ok n = ap node_of_bytes same ∙ whole_read n is_node in cc
