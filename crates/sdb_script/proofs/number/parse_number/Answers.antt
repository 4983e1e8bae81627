use Rattle.std.proofs.Common.{sym, ap, ◌∙◌}
use Rattle.std.proofs.lemmas.Bool.{iff_false}
use Rattle.sdb_script.proofs.Digits.{from_low, spelled, empty_word, zero_led, too_low, not_low}
use Rattle.sdb_script.proofs.number.parse_number.Goals as goal
use Rattle.sdb_script.proofs.number.parse_number.Goals.{then-is_empty-via-then-is_empty, then-is_empty-via-else-is_empty+then-has_leading_zero}

pub returns-then-is_empty : goal.returns-then-is_empty
returns-then-is_empty c = elim c.then-is_empty.branch [
  | then-is_empty-via-then-is_empty w ↦ sym (empty_word c.args.low c.args.high c.args.word.now (sym c.is_empty.ensures ∙ w.if-is_empty.true))
  | then-is_empty-via-else-is_empty+then-has_leading_zero w ↦ sym (zero_led c.args.low c.args.high c.args.word.now (w.has_leading_zero.ensures.0 w.if-has_leading_zero.true))
]

pub returns-in_err-value : goal.returns-in_err-value
returns-in_err-value c =
    let s = spelled c.args.low c.args.high c.args.word.now (sym c.is_empty.ensures ∙ c.if-is_empty.false) (iff_false c.has_leading_zero.ensures c.if-has_leading_zero.false) in
    rw c.from_residual.ensures (sym (s ∙ sym (ap (from_low c.args.low) c.in_err-value.ensures)))

pub returns-then-value-low : goal.returns-then-value-low
returns-then-value-low c =
    let s = spelled c.args.low c.args.high c.args.word.now (sym c.is_empty.ensures ∙ c.if-is_empty.false) (iff_false c.has_leading_zero.ensures c.if-has_leading_zero.false) in
    sym (s ∙ sym (ap (from_low c.args.low) c.in_ok-value.ensures) ∙ too_low c.args.low c.in_ok-value.value c.if-value-low.true)

pub returns-else-value-low : goal.returns-else-value-low
returns-else-value-low c =
    let s = spelled c.args.low c.args.high c.args.word.now (sym c.is_empty.ensures ∙ c.if-is_empty.false) (iff_false c.has_leading_zero.ensures c.if-has_leading_zero.false) in
    sym (s ∙ sym (ap (from_low c.args.low) c.in_ok-value.ensures) ∙ not_low c.args.low c.in_ok-value.value c.if-value-low.false)
