use Rattle.std.proofs.Common.{◌≡◌, ◌++◌, ◌≤◌, arith, sym, ap, ◌∙◌}
use Rattle.std.specs.Int.{w32, to_le_bytes}
use Rattle.pdb_model.specs.Tiers.{tier_of}
use Rattle.pdb_value.proofs.Layouts.{head_fields, head_made, head_read, same_back, same_links}
use Rattle.pdb_value.proofs.reading.read_head_of_parts.Goals as goal
use Rattle.pdb_value.proofs.reading.read_head_of_parts.Goals.{then-first-ne2-via-then-first-ne2, then-first-ne2-via-else-first-ne2+then-first-ne4044, then-first-ne2-via-else-first-ne2+else-first-ne4044+then-first-eq0, then-whole-gt8388608-via-then-whole-gt8388608, then-whole-gt8388608-via-else-whole-gt8388608+then-tier_for-ne-PARTS_TIER}

pub returns-in_default : goal.returns-in_default
returns-in_default c key count whole next value head = c.in_default.ensures.spelled 2 4044 count _ (head.spelled ∙ head_fields key value count whole next)

pub returns-then-first-ne2 : goal.returns-then-first-ne2
returns-then-first-ne2 c key count whole next value head =
    let same = head_read c.args.cell.now c.in-Some.first.rest.now key value c.in-Some.first.kind c.in-Some.first.len c.in-Some.first.count count whole next c.in-Some.ensures.spelled c.in-Some.ensures.len.0 c.in-Some.ensures.len.1 head in
    elim c.then-first-ne2.branch [
      | then-first-ne2-via-then-first-ne2 w ↦ omega (arith, same.kind_is)
      | then-first-ne2-via-else-first-ne2+then-first-ne4044 w ↦ omega (arith, same.len_is)
      | then-first-ne2-via-else-first-ne2+else-first-ne4044+then-first-eq0 w ↦ omega (arith, same.count_is, head.counted.some)
    ]

pub returns-then-whole-gt8388608 : goal.returns-then-whole-gt8388608
returns-then-whole-gt8388608 c key count whole next value head =
    let same = head_read c.args.cell.now c.in-Some.first.rest.now key value c.in-Some.first.kind c.in-Some.first.len c.in-Some.first.count count whole next c.in-Some.ensures.spelled c.in-Some.ensures.len.0 c.in-Some.ensures.len.1 head in
    let tail = same_back c.split_at.result.0.now key c.split_at.result.1.now (to_le_bytes w32 whole ++ (to_le_bytes w32 next ++ value)) (omega (arith, head.counted.key_len)) (sym c.split_at.ensures.by_index.0 ∙ same.rest_is) in
    let most : whole ≤ 8388608 = head.not_too_long in
    let links = same_links c.read_u32-whole.result.0 whole c.read_u32-next.result.0 next c.read_u32-next.result.1.now value (omega arith) (omega arith) (omega arith) head.narrow
    (ap (λ z. to_le_bytes w32 c.read_u32-whole.result.0 ++ z) (sym c.read_u32-next.ensures.parts) ∙ (sym c.read_u32-whole.ensures.parts ∙ tail)) in
    elim c.then-whole-gt8388608.branch [
      | then-whole-gt8388608-via-then-whole-gt8388608 w ↦ omega (arith, links.whole_is, most)
      | then-whole-gt8388608-via-else-whole-gt8388608+then-tier_for-ne-PARTS_TIER w ↦
          let is : w.tier_for.result ≡ 15 = w.tier_for.ensures.tier ∙ (ap tier_of links.whole_is ∙ head.long) in omega (arith, is)
    ]

pub returns : goal.returns
returns c =
    head_made c.args.cell.now c.in-Some.first.rest.now c.split_at.result.0.now c.read_u32-next.result.1.now c.split_at.result.1.now c.read_u32-whole.result.1.now
    c.in-Some.first.kind c.in-Some.first.len c.in-Some.first.count c.read_u32-whole.result.0 c.read_u32-next.result.0 c.in-Some.ensures.spelled (omega arith) (omega arith) (omega arith) (omega arith) c.in-Some.ensures.len.1
    (sym c.tier_for.ensures.tier ∙ omega arith) (omega arith) (omega arith) (omega (arith, c.requires, c.in-Some.ensures.len.2))
    (sym c.split_at.ensures.by_index.0) c.read_u32-whole.ensures.parts c.read_u32-next.ensures.parts
