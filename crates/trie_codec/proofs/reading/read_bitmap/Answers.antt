use Rattle.std.proofs.Common.{◌≡◌, ◌^◌, ◌<◌, take, arith}
use Rattle.std.specs.Int.{w16, from_le_bytes}
use Rattle.std.proofs.lemmas.Grind.{common_steps}
use Rattle.std.specs.Int.Count.{ones}
use Rattle.trie_codec.proofs.Bits.{bitmap_found}
use Rattle.trie_codec.proofs.reading.read_bitmap.Goals as goal
use Rattle.trie_codec.proofs.reading.read_bitmap.Goals.{else-count-eq1-via-then-count-eq1+else-kind-eq2, else-count-eq1-via-else-count-eq1}

pub returns-clause-gives : goal.returns-clause-gives
returns-clause-gives c =
    let map = c.from_le_bytes-map.result in
    let is : map ≡ from_le_bytes w16 (take 2 c.args.bytes.now) = grind (arith, common_steps) in
    let lt : map < 2 ^ 16 = omega arith in
    let enough : ones map ≡ 1 → c.args.kind ≡ 2 → ⊥ = elim c.else-count-eq1.branch [
      | else-count-eq1-via-then-count-eq1+else-kind-eq2 w ↦ λ one two. omega arith
      | else-count-eq1-via-else-count-eq1 w ↦ λ one two. omega arith
    ] in
    let found = bitmap_found c.args.kind map c.args.bytes.now (omega arith) is lt (λ none. omega arith) enough in
    grind (arith, common_steps, found)
