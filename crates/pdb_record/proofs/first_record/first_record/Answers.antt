use Rattle.std.proofs.Common.{◌≡◌, ◌+◌, List, ◌++◌, Some, None, length, take, drop, refl, sym, ap, ◌∙◌}
use Rattle.pdb_cells.specs.Puts.{NoCellTwice}
use Rattle.pdb_cells.specs.declared.Put.{Put}
use Rattle.pdb_model.specs.Gates.{sealed}
use Rattle.pdb_model.specs.Records.{body_bytes}
use Rattle.pdb_record.specs.declared.heads.Head.{Head}
use Rattle.pdb_record.proofs.Grammar.{Parts, head_of, parts, put_together, same_body}
use Rattle.pdb_record.proofs.first_record.first_record.Goals.{then-count-head-via-then-count-head, then-count-head-via-else-count-head+then-not-has_no_cell_twice}
use Rattle.pdb_record.proofs.first_record.first_record.Goals as goal

never : {X : Type 0} (x : X) → None ≡ Some x → ⊥
never x e = cc

same_some : {X : Type 0} (x y : X) → Some x ≡ Some y → x ≡ y
same_some x y e = cc

pub returns-in_err-head-clause-whole : goal.returns-in_err-head-clause-whole
returns-in_err-head-clause-whole c x has = absurd (never (head_of x) (c.in_err-head.ensures.whole (head_of x) (parts c.args.left.now x has).head))

pub returns-in_err-body-clause-whole : goal.returns-in_err-body-clause-whole
returns-in_err-body-clause-whole c x has =
    let p : Parts c.args.left.now x = parts c.args.left.now x has in
    let head : c.in_ok-head.head ≡ head_of x = same_some c.in_ok-head.head (head_of x) (c.in_ok-head.ensures.whole (head_of x) p.head) in
    absurd (c.in_err-body.ensures.none (body_bytes x.puts) p.rest (sym (ap (λ (h : Head). h.body) head)) p.long p.is)

pub returns-in_err-count-clause-whole : goal.returns-in_err-count-clause-whole
returns-in_err-count-clause-whole c x has =
    let p : Parts c.args.left.now x = parts c.args.left.now x has in
    let head : c.in_ok-head.head ≡ head_of x = same_some c.in_ok-head.head (head_of x) (c.in_ok-head.ensures.whole (head_of x) p.head) in
    let body : c.in_ok-body.body.now ≡ body_bytes x.puts
    = same_body c.args.left.now c.in_ok-body.body.now (body_bytes x.puts) _ p.rest p.long (c.in_ok-body.ensures.within.0 ∙ ap (λ (h : Head). h.body) head) c.in_ok-body.ensures.some p.is in
    absurd (never (length x.puts) (c.in_err-count.ensures.whole x.puts body has.is.whole))

pub returns-then-count-head-clause-whole : goal.returns-then-count-head-clause-whole
returns-then-count-head-clause-whole c x has =
    let p : Parts c.args.left.now x = parts c.args.left.now x has in
    let head : c.in_ok-head.head ≡ head_of x = same_some c.in_ok-head.head (head_of x) (c.in_ok-head.ensures.whole (head_of x) p.head) in
    let body : c.in_ok-body.body.now ≡ body_bytes x.puts
    = same_body c.args.left.now c.in_ok-body.body.now (body_bytes x.puts) _ p.rest p.long (c.in_ok-body.ensures.within.0 ∙ ap (λ (h : Head). h.body) head) c.in_ok-body.ensures.some p.is in
    elim c.then-count-head.branch [
      | then-count-head-via-then-count-head w ↦
          let count : c.in_ok-count.count ≡ length x.puts = same_some c.in_ok-count.count (length x.puts) (c.in_ok-count.ensures.whole x.puts body has.is.whole) in
          absurd (w.if-count-head.true (count ∙ sym (ap (λ (h : Head). h.puts) head)))
      | then-count-head-via-else-count-head+then-not-has_no_cell_twice w ↦
          absurd (w.if-not-has_no_cell_twice.ensures x.puts (record { bytes = body; whole = has.is.whole }) has.is.once)
    ]

pub returns-clause-whole : goal.returns-clause-whole
returns-clause-whole c x has =
    let p : Parts c.args.left.now x = parts c.args.left.now x has in
    let head : c.in_ok-head.head ≡ head_of x = same_some c.in_ok-head.head (head_of x) (c.in_ok-head.ensures.whole (head_of x) p.head) in
    record {
      number = ap (λ (h : Head). h.number) head;
      commits = ap (λ (h : Head). h.commits) head;
      puts = ap (λ (h : Head). h.puts) head;
      body = same_body c.args.left.now c.in_ok-body.body.now (body_bytes x.puts) _ p.rest p.long (c.in_ok-body.ensures.within.0 ∙ ap (λ (h : Head). h.body) head) c.in_ok-body.ensures.some p.is;
      whole = has.is.whole;
    }

pub returns-clause-some : goal.returns-clause-some
returns-clause-some c =
    let only = c.in_ok-count.ensures.only in
    let ps : List Put = only.0 in
    let head : Head = c.in_ok-head.head in
    let once : NoCellTwice ps = c.if-not-has_no_cell_twice.ensures ps (record { bytes = only.1; whole = only.2 }) in
    let body : head.body ≡ length (body_bytes ps) = sym c.in_ok-body.ensures.within.0 ∙ ap length only.1 in
    let puts : head.puts ≡ length ps = sym c.if-count-head.false ∙ only.3 in
    let is : c.args.left.now ≡ sealed (take 48 c.args.left.now ++ body_bytes ps) ++ drop (56 + head.body) c.args.left.now
    = c.in_ok-body.ensures.some ∙ ap (λ t. sealed (take 48 c.args.left.now ++ t) ++ drop (56 + head.body) c.args.left.now) only.1 in (
      record { number = head.number; commits = head.commits; puts = ps },
      put_together c.args.left.now head ps (drop (56 + head.body) c.args.left.now) c.in_ok-head.ensures.only only.2 once body puts is,
      record { number = refl; commits = refl; puts = puts; body = only.1; whole = only.2 },
    )
