use Rattle.std.proofs.Common.{sym, ◌∙◌, inl, inr, length}
use Rattle.std.proofs.lemmas.Bool.{eqb-true, eqb-false}
use Rattle.sdb_script.proofs.Spelled.{id_outside, id_none, id_some}
use Rattle.sdb_script.proofs.word.parse_id.Goals as goal
use Rattle.sdb_script.proofs.word.parse_id.Goals.{then-is_empty-via-then-is_empty, then-is_empty-via-else-is_empty+then-word-gt64}

pub returns-then-is_empty : goal.returns-then-is_empty
returns-then-is_empty c = elim c.then-is_empty.branch [
  | then-is_empty-via-then-is_empty w ↦ sym (id_outside c.args.word.now (inl (eqb-true (length c.args.word.now) 0 (sym c.is_empty.ensures ∙ w.if-is_empty.true))))
  | then-is_empty-via-else-is_empty+then-word-gt64 w ↦ sym (id_outside c.args.word.now (inr w.if-word-gt64.true))
]

pub returns-in_err-ok : goal.returns-in_err-ok
returns-in_err-ok c = c.from_residual.ensures ∙ id_none c.args.word.now c.decode_to_slice.new.out c.decode_to_slice.result c.if-word-gt64.false c.decode_to_slice.ensures.value c.in_err-ok.ensures.value

pub returns : goal.returns
returns c = id_some c.args.word.now c.decode_to_slice.new.out c.decode_to_slice.result (eqb-false (length c.args.word.now) 0 (sym c.is_empty.ensures ∙ c.if-is_empty.false)) c.if-word-gt64.false c.decode_to_slice.ensures.value c.in_ok-ok.ensures.value
