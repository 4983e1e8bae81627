use Rattle.std.proofs.Common.{◌≡◌, length, get_or, ap, ◌∙◌, arith}
use Rattle.pdb_cells.specs.declared.Put.{Put}
use Rattle.pdb_record.proofs.Bodies.{next-within}
use Rattle.pdb_redo.proofs.redo_log.is_short.Goals as goal

pub returns-then-len-gt-MOST_IN_BODY : goal.returns-then-len-gt-MOST_IN_BODY
returns-then-len-gt-MOST_IN_BODY c =
    let within = next-within c.loop-put.put-index c.args.puts.now c.put-item.result c.loop-put-test.true in
    let len : c.len.result ≡ length (get_or c.args.puts.now c.loop-put.put-index c.put-item.result).bytes = c.len.ensures ∙ ap (λ (p : Put). length p.bytes) c.put-item.is in
    let high = c.if-len-gt-MOST_IN_BODY.true in
    let so_far = c.loop-put.invariant.so_far in
    let first = c.saturating_add.ensures in
    let sum = c.saturating_add-len.ensures in
    ((λ t. cc), (λ low. absurd (omega (arith, within, len, high, so_far, low, first, sum))))
