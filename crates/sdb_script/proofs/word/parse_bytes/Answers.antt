use Rattle.std.proofs.Common.{sym, ◌∙◌, inl, inr, length}
use Rattle.std.proofs.lemmas.Bool.{eqb-true, eqb-false}
use Rattle.sdb_script.proofs.Spelled.{outside, inside, dash, digits_only, bad_word}
use Rattle.sdb_script.proofs.word.parse_bytes.Goals as goal
use Rattle.sdb_script.proofs.word.parse_bytes.Goals.{then-is_empty-via-then-is_empty, then-is_empty-via-else-is_empty+then-word-most}

pub returns-then-eq : goal.returns-then-eq
returns-then-eq c = rw c.new.ensures (dash c.args.most c.args.word.now c.as_slice.result.now c.as_slice.ensures (sym c.eq.ensures ∙ c.if-eq.true))

pub returns-then-is_empty : goal.returns-then-is_empty
returns-then-is_empty c =
    let d = digits_only c.args.most c.args.word.now c.as_slice.result.now c.as_slice.ensures (sym c.eq.ensures ∙ c.if-eq.false) in
    elim c.then-is_empty.branch [
      | then-is_empty-via-then-is_empty w ↦ d ∙ outside c.args.most c.args.word.now (inl (eqb-true (length c.args.word.now) 0 (sym c.is_empty.ensures ∙ w.if-is_empty.true)))
      | then-is_empty-via-else-is_empty+then-word-most w ↦ d ∙ outside c.args.most c.args.word.now (inr w.if-word-most.true)
    ]

pub returns-in-Ok : goal.returns-in-Ok
returns-in-Ok c =
    let d = digits_only c.args.most c.args.word.now c.as_slice.result.now c.as_slice.ensures (sym c.eq.ensures ∙ c.if-eq.false) in
    let n = eqb-false (length c.args.word.now) 0 (sym c.is_empty.ensures ∙ c.if-is_empty.false) in
    rw c.from_vec.ensures (d ∙ inside c.args.most c.args.word.now c.in-Ok.bytes.items c.in-Ok.ensures.ok n c.if-word-most.false)

pub returns-in-Err : goal.returns-in-Err
returns-in-Err c =
    let d = digits_only c.args.most c.args.word.now c.as_slice.result.now c.as_slice.ensures (sym c.eq.ensures ∙ c.if-eq.false) in
    rw (c.fault_of.ensures, d) (bad_word c.args.most c.args.word.now c.in-Err.error c.in-Err.ensures.err)
