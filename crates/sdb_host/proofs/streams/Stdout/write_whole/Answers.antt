use Rattle.std.proofs.Common.{◌∙◌, ◌+◌, sym}
use Rattle.sdb_host.proofs.Written.{all_taken, keeps, whole_rest, writes_more}
use Rattle.sdb_host.proofs.streams.Stdout.write_whole.Goals as goal

pub loop-rest-preserved : goal.loop-rest-preserved
loop-rest-preserved g c = record {
  counts = c.loop-rest.invariant.counts;
  written = λ before told.
      let w = c.loop-rest.invariant.written before told in
      let m = writes_more _ _ before c.args.bytes.now c.loop-rest.rest.now w.0 c.in-Ok.count w.1 w.2 c.in-Ok.ensures.bytes in
      (w.0 + c.in-Ok.count, m.0, whole_rest c.in-Ok.count c.loop-rest.rest.now ∙ m.1);
}

pub returns-in-Ok-eq0-clause-written : goal.returns-in-Ok-eq0-clause-written
returns-in-Ok-eq0-clause-written g c = λ before told.
    let w = c.loop-rest.invariant.written before told in
    let m = writes_more _ _ before c.args.bytes.now c.loop-rest.rest.now w.0 c.in-Ok-eq0.field-0 w.1 w.2 c.in-Ok-eq0.ensures.bytes in
    (w.0 + c.in-Ok-eq0.field-0, m.0, λ e. absurd cc)

pub returns-in-Err-clause-written : goal.returns-in-Err-clause-written
returns-in-Err-clause-written g c = λ before told.
    let w = c.loop-rest.invariant.written before told in
    (w.0, keeps _ _ _ w.1 c.in-Err.ensures.bytes, λ e. absurd cc)

pub returns-clause-written : goal.returns-clause-written
returns-clause-written g c = λ before told.
    let w = c.loop-rest.invariant.written before told in
    (w.0, w.1, λ e. all_taken w.0 c.args.bytes.now c.loop-rest.rest.now w.2 (sym c.is_empty.ensures ∙ c.loop-rest-test.false))
