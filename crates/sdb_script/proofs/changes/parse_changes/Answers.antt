use Rattle.std.proofs.Common.{◌∷◌, [], length, ap, arith}
use Rattle.std.proofs.lemmas.Result.{err_from_is_err_and}
use Rattle.std.proofs.lemmas.List.{length-append}
use Rattle.sdb_script.specs.Grammar.{each_change}
use Rattle.sdb_script.specs.inner.Reading.{words_left}
use Rattle.sdb_script.proofs.Changing.{goes_on, too_many, word_fault, all_changes}
use Rattle.sdb_script.proofs.changes.parse_changes.Goals as goal

pub returns-then-len-eq-MOST_CHANGES : goal.returns-then-len-eq-MOST_CHANGES
returns-then-len-eq-MOST_CHANGES c =
    let left = ap length c.in-Some.ensures in
    too_many (words_left c.args.words) (omega (arith, left, c.words.invariant.all, c.len.ensures, c.if-len-eq-MOST_CHANGES.true))

pub returns-in_err-change : goal.returns-in_err-change
returns-in_err-change c =
    let p = err_from_is_err_and c.from_residual.result c.from_residual.ensures.1 in
    rw (p.1, p.2) (word_fault c.in_err-change.field-0.0 c.words.changes c.in-Some.word.now (words_left c.in-Some.after) (words_left c.words.rest) (words_left c.args.words) c.in-Some.ensures c.in_err-change.ensures c.words.invariant.same)

pub words-preserved : goal.words-preserved
words-preserved c =
    let left = ap length c.in-Some.ensures in
    let pushed = c.in_ok-push.ensures.ok in
    let len = ap length pushed in
    record {
      few = omega (arith, len, length-append c.words.changes (c.in_ok-change.change ∷ []), c.words.invariant.few, c.len.ensures, c.if-len-eq-MOST_CHANGES.false);
      all = omega (arith, len, length-append c.words.changes (c.in_ok-change.change ∷ []), c.words.invariant.all, left);
      same = rw pushed (goes_on c.words.changes c.in-Some.word.now (words_left c.in-Some.after) (words_left c.words.rest) c.in_ok-change.change (each_change (words_left c.args.words)) c.in-Some.ensures c.in_ok-change.ensures c.words.invariant.same);
    }

pub returns : goal.returns
returns c =
    let left = ap length c.in_default.ensures in
    all_changes c.words.changes (words_left c.words.rest) (words_left c.args.words) c.in_default.ensures (omega (arith, left, c.words.invariant.all, c.words.invariant.few)) c.words.invariant.same
