use Rattle.std.proofs.Common.{◌≡◌, ◌%◌, ℕ, List, [], ◌∷◌, ◌++◌, get_or, length, drop, refl, ap, arith, append_assoc}
use Rattle.std.proofs.lemmas.List.{take_rest}
use Rattle.sdb_base.specs.Nibbles.{nibbles_of}
use Rattle.trie_codec.specs.NodeParts.{node_of_ref}
use Rattle.trie_change.proofs.expand.end_of.Goals as goal
use Rattle.trie_change.proofs.expand.end_of.Goals.{then-partial_len-eq1+in_ok-push, else-partial_len-eq1}

-- of an odd count the first byte gives its low half alone
odd_end : (path bytes partial : List ℕ) (k : ℕ) → k ≡ 1 → k ≡ length partial % 2 → drop k (nibbles_of bytes) ≡ partial
    → (path ++ (get_or bytes 0 0 % 16) ∷ []) ++ nibbles_of (drop 1 bytes) ≡ path ++ partial
odd_end path [] partial k one odd e =
    let none : [] ≡ partial = rw one at e in
    let short : 0 ≡ length partial = ap length none in
    absurd (omega arith)
odd_end path (b ∷ bs) partial k one odd e = rw (append_assoc, ← e, one) refl

even_end : (path bytes partial : List ℕ) (k : ℕ) → k ≡ 0 → drop k (nibbles_of bytes) ≡ partial → path ++ nibbles_of bytes ≡ path ++ partial
even_end path bytes partial k none e = rw (← e, none) refl

pub returns : goal.returns
returns c =
    let path : List ℕ = c.args.path.now in
    let bytes : List ℕ = c.partial_bytes-bytes.result.now in
    let partial : List ℕ = (node_of_ref c.args.node.now).partial in
    let count : c.partial_len.result ≡ length partial = c.partial_len.ensures in
    elim c.if-partial_len-eq1.branch [
      | then-partial_len-eq1+in_ok-push w ↦
          rw (c.in_ok-push_nibbles.ensures, w.end-is, w.bytes-is, take_rest bytes 1, w.in_ok-push.ensures.ok, c.in_ok-end.ensures)
          (odd_end path bytes partial (length partial % 2) (rw count at w.if-partial_len-eq1.true) refl c.partial_bytes-bytes.ensures)
      | else-partial_len-eq1 w ↦
          let even : length partial % 2 ≡ 0 = omega (arith, w.if-partial_len-eq1.false) in
          rw (c.in_ok-push_nibbles.ensures, w.end-is, w.bytes-is, c.in_ok-end.ensures)
          (even_end path bytes partial (length partial % 2) even c.partial_bytes-bytes.ensures)
    ]
