use Rattle.std.proofs.Common.{◌≡◌, ◌+◌, length, ap, ◌∙◌}
use Rattle.std.proofs.lemmas.List.{take_rest}
use Rattle.std.proofs.lemmas.List.Elements.{All-head, All-tail}
use Rattle.pdb_cells.specs.Puts.{IsWholeCell}
use Rattle.pdb_cells.specs.declared.Put.{Put}
use Rattle.pdb_model.specs.Records.{body_bytes}
use Rattle.pdb_record.specs.Scans.{put_of}
use Rattle.pdb_record.proofs.Splits.{after_put}
use Rattle.pdb_record.proofs.put_refs.PutRefs.next.Goals as goal

pub returns-clause-more : goal.returns-clause-more
returns-clause-more c p ps leaves = c.in_ok-put.ensures.whole p (body_bytes ps) leaves.bytes (All-head IsWholeCell p ps leaves.whole)

pub returns-clause-later : goal.returns-clause-later
returns-clause-later c p ps leaves =
    let put : put_of c.in_ok-put.put ≡ p = c.in_ok-put.ensures.whole p (body_bytes ps) leaves.bytes (All-head IsWholeCell p ps leaves.whole) in
    let len : length c.in_ok-put.put.bytes.now ≡ length p.bytes = ap (λ (q : Put). length q.bytes) put in
    record {
      bytes = take_rest c.args.self.now.left.now (10 + length c.in_ok-put.put.bytes.now)
          ∙ after_put c.args.self.now.left.now (body_bytes ps) p (length c.in_ok-put.put.bytes.now) leaves.bytes len;
      whole = All-tail IsWholeCell p ps leaves.whole;
    }
