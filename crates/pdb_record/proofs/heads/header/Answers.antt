use Rattle.std.proofs.Common.{◌≡◌, true, Some, sym, ap, ◌∙◌, arith}
use Rattle.std.proofs.lemmas.Slice.Eq.{bytes_eq-Decides}
use Rattle.pdb_model.specs.Records.{header_bytes}
use Rattle.pdb_record.specs.declared.heads.Head.{Head}
use Rattle.pdb_record.proofs.Fields.{ReadsHead, one_head}
use Rattle.pdb_record.proofs.heads.header.Goals.{else-h-ge1-via-then-h-ge1+then-h-le-MOST_IN_BODY+else-eq, else-h-ge1-via-then-h-ge1+else-h-le-MOST_IN_BODY, else-h-ge1-via-else-h-ge1}
use Rattle.pdb_record.proofs.heads.header.Goals as goal

pub returns-then-eq-clause-whole : goal.returns-then-eq-clause-whole
returns-then-eq-clause-whole c g is =
    let reads : ReadsHead c.args.bytes.now (record { number = c.number_at.result; commits = c.number_at-2.result; body = c.number_at-3.result; puts = c.number_at-4.result })
    = record { number = c.number_at.ensures; commits = c.number_at-2.ensures; body = c.number_at-3.ensures; puts = c.number_at-4.ensures; small_number = c.number_at.type_inv; small_commits = c.number_at-2.type_inv; small_body = c.number_at-3.type_inv; small_puts = c.number_at-4.type_inv } in
    ap Some (one_head c.args.bytes.now g _ is reads)

pub returns-else-h-ge1-clause-whole : goal.returns-else-h-ge1-clause-whole
returns-else-h-ge1-clause-whole c g is =
    let h : Head = record { number = c.number_at.result; commits = c.number_at-2.result; body = c.number_at-3.result; puts = c.number_at-4.result } in
    let reads : ReadsHead c.args.bytes.now h
    = record { number = c.number_at.ensures; commits = c.number_at-2.ensures; body = c.number_at-3.ensures; puts = c.number_at-4.ensures; small_number = c.number_at.type_inv; small_commits = c.number_at-2.type_inv; small_body = c.number_at-3.type_inv; small_puts = c.number_at-4.type_inv } in
    let same : h ≡ g = one_head c.args.bytes.now g h is reads in
    let number : c.number_at.result ≡ g.number = ap (λ (s : Head). s.number) same in
    let body : c.number_at-3.result ≡ g.body = ap (λ (s : Head). s.body) same in
    elim c.else-h-ge1.branch [
      | else-h-ge1-via-then-h-ge1+then-h-le-MOST_IN_BODY+else-eq w ↦
          let spelled : w.header_bytes.result ≡ c.args.bytes.now = w.header_bytes.ensures ∙ (ap (λ (s : Head). header_bytes s.number s.commits s.body s.puts) same ∙ sym is.spelled) in
          let equal : w.eq.result ≡ true = w.eq.ensures ∙ (bytes_eq-Decides _ _).1 spelled in
          cc
      | else-h-ge1-via-then-h-ge1+else-h-le-MOST_IN_BODY w ↦ absurd (omega (arith, is.is.short))
      | else-h-ge1-via-else-h-ge1 w ↦ absurd (omega (arith, is.is.first))
    ]
