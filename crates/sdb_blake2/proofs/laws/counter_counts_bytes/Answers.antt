use Rattle.std.proofs.Common.{◌≡◌, ◌-◌, ◌*◌, length, take, drop, refl, ◌∙◌, arith, length-drop}
use Rattle.std.proofs.lemmas.List.{take_all}
use Rattle.sdb_blake2.specs.Blake2b.{block_at, block_count, final_state, state_after}
use Rattle.sdb_blake2.proofs.Blocks.{block_at_full}
use Rattle.sdb_blake2.proofs.laws.counter_counts_bytes.Goals as goal

pub returns-clause-empty : goal.returns-clause-empty
unfolding final_state state_after
returns-clause-empty c = λ nn. refl

pub returns-clause-full_last : goal.returns-clause-full_last
unfolding final_state
returns-clause-full_last c = λ nn n m e.
    let last : block_count (length m) - 1 ≡ n = omega arith in
    let block : block_at m n ≡ drop (128 * n) m =
    block_at_full m n (omega arith) ∙ take_all 128 (drop (128 * n) m) (omega (arith, length-drop (128 * n) m)) in
    rw (last, block, e) refl

pub returns-clause-short_last : goal.returns-clause-short_last
unfolding final_state
returns-clause-short_last c = λ nn n k m low high e.
    let last : block_count (length m) - 1 ≡ n = omega arith in
    let rest : length (drop (128 * n) m) ≡ k = omega (arith, length-drop (128 * n) m) in
    let all : take 128 (drop (128 * n) m) ≡ drop (128 * n) m = take_all 128 (drop (128 * n) m) (omega arith) in
    rw (last, all, rest, e) refl
