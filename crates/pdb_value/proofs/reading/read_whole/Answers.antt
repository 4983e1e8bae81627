use Rattle.std.proofs.Common.{◌≡◌, ◌-◌, ◌+◌, ◌++◌, length, replicate, arith, sym, ap, ◌∙◌, rules}
use Rattle.pdb_model.specs.Tiers.{slot_size, tier_of}
use Rattle.pdb_value.proofs.Layouts.{whole_fields, whole_made, whole_read, same_back, zeros_only}
use Rattle.pdb_value.proofs.Sizes.{whole_short}
use Rattle.pdb_value.proofs.reading.read_whole.Goals as goal
use Rattle.pdb_value.proofs.reading.read_whole.Goals.{then-first-ne1-via-then-first-ne1, then-first-ne1-via-else-first-ne1+then-first-eq0, then-first-ne1-via-else-first-ne1+else-first-eq0+then-tier_for-tier}

pub returns-in_default : goal.returns-in_default
returns-in_default c key count value whole = c.in_default.ensures.spelled 1 (length value) count _ (whole.spelled ∙ whole_fields (slot_size c.args.tier) key value count whole.counted.key_len)

pub returns-then-first-ne1 : goal.returns-then-first-ne1
returns-then-first-ne1 c key count value whole =
    let short = whole_short (length value) c.args.tier c.requires.tier whole.lowest in
    let same = whole_read c.args.tier c.args.cell.now c.in-Some.first.rest.now key value c.in-Some.first.kind c.in-Some.first.len c.in-Some.first.count count c.in-Some.ensures.spelled c.in-Some.ensures.len.0 c.in-Some.ensures.len.1 (omega arith) whole in
    elim c.then-first-ne1.branch [
      | then-first-ne1-via-then-first-ne1 w ↦ omega (arith, same.kind_is)
      | then-first-ne1-via-else-first-ne1+then-first-eq0 w ↦ omega (arith, same.count_is, whole.counted.some)
      | then-first-ne1-via-else-first-ne1+else-first-eq0+then-tier_for-tier w ↦
          let is : w.tier_for.result ≡ c.args.tier = w.tier_for.ensures.tier ∙ (ap tier_of same.len_is ∙ sym whole.lowest) in omega (arith, is)
    ]

pub returns-then-not-is_zeros : goal.returns-then-not-is_zeros
returns-then-not-is_zeros c key count value whole =
    let short = whole_short (length value) c.args.tier c.requires.tier whole.lowest in
    let same = whole_read c.args.tier c.args.cell.now c.in-Some.first.rest.now key value c.in-Some.first.kind c.in-Some.first.len c.in-Some.first.count count c.in-Some.ensures.spelled c.in-Some.ensures.len.0 c.in-Some.ensures.len.1 (omega arith) whole in
    let tail = same_back c.split_at.result.0.now key c.split_at.result.1.now (value ++ replicate (slot_size c.args.tier - (44 + length value)) 0) (omega (arith, whole.counted.key_len)) (sym c.split_at.ensures.by_index.0 ∙ same.rest_is) in
    let last = same_back c.split_at-2.result.0.now value c.split_at-2.result.1.now (replicate (slot_size c.args.tier - (44 + length value)) 0) (omega (arith, same.len_is)) (sym c.split_at-2.ensures.by_index.0 ∙ tail) in
    let z = zeros_only _ _ last in search rules

pub returns : goal.returns
returns c =
    whole_made c.args.tier c.args.cell.now c.in-Some.first.rest.now c.split_at.result.0.now c.split_at-2.result.0.now c.split_at.result.1.now c.split_at-2.result.1.now
    c.in-Some.first.kind c.in-Some.first.len c.in-Some.first.count c.in-Some.ensures.spelled (omega arith) (omega arith) (omega arith) (omega arith) c.in-Some.ensures.len.1
    (let e : c.args.tier ≡ c.tier_for.result = omega arith in e ∙ c.tier_for.ensures.tier) c.requires.tier
    (sym c.split_at.ensures.by_index.0) (sym c.split_at-2.ensures.by_index.0) (search rules) c.in-Some.ensures.len.2 c.requires.sized
