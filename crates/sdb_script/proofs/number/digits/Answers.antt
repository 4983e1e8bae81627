use Rattle.std.proofs.Common.{◌<◌, ◌+◌, ◌*◌, ◌-◌, get_or, drop, ap, sym, ◌∙◌, arith}
use Rattle.sdb_script.proofs.Digits.{capped, above, digit_at, other_at, past_end, within}
use Rattle.sdb_script.proofs.number.digits.Goals as goal

pub returns-then-not-is_ascii_digit : goal.returns-then-not-is_ascii_digit
returns-then-not-is_ascii_digit c =
    let e = other_at c.loop-digit.value c.loop-digit.digit-index c.args.word.now c.loop-digit-test.true (sym c.is_ascii_digit.ensures.value ∙ c.if-not-is_ascii_digit.true) in
    sym (ap (capped c.args.high) (c.loop-digit.invariant.same ∙ e))

pub returns-then-value-high : goal.returns-then-value-high
returns-then-value-high c =
    let n = 10 * c.loop-digit.value + (get_or c.args.word.now c.loop-digit.digit-index 0 - 48) in
    let e = digit_at c.loop-digit.value c.loop-digit.digit-index c.args.word.now c.loop-digit-test.true (sym c.is_ascii_digit.ensures.value ∙ c.if-not-is_ascii_digit.false) in
    let much : c.args.high < n = omega (arith, c.if-value-high.true, c.from.ensures) in
    sym (ap (capped c.args.high) (c.loop-digit.invariant.same ∙ e) ∙ above c.args.high n much (drop (c.loop-digit.digit-index + 1) c.args.word.now))

pub loop-digit-preserved : goal.loop-digit-preserved
loop-digit-preserved c =
    let e = digit_at c.loop-digit.value c.loop-digit.digit-index c.args.word.now c.loop-digit-test.true (sym c.is_ascii_digit.ensures.value ∙ c.if-not-is_ascii_digit.false) in
    record { within = c.if-value-high.false; same = rw c.from.ensures (c.loop-digit.invariant.same ∙ e) }

pub returns : goal.returns
returns c =
    let e = past_end c.loop-digit.value c.loop-digit.digit-index c.args.word.now c.loop-digit-test.false in
    sym (ap (capped c.args.high) (c.loop-digit.invariant.same ∙ e) ∙ within c.args.high c.loop-digit.value c.loop-digit.invariant.within)
