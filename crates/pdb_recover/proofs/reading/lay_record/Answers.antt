use Rattle.std.proofs.Common.{ℕ, List, Bor, ap}
use Rattle.pdb_recover.proofs.PutLaying.{has_whole, laid_all, laid_on, some_none}
use Rattle.pdb_recover.proofs.ReadWhole.{has_front}
use Rattle.pdb_recover.proofs.reading.lay_record.Goals as goal

pub loop-put-preserved : goal.loop-put-preserved
loop-put-preserved c =
    laid_on c.in-Whole.found.body.now c.args.puts.now c.loop-put.left c.next-in-loop-put.new.self c.loop-put.puts c.put.new.self c.in-Some.put c.loop-put.invariant
    c.in-Some.ensures.more c.in-Some.ensures.later (λ l. some_none c.in-Some.put (c.in-Some.ensures.end l)) c.in_ok-put.ensures.ok

pub returns-clause-commits : goal.returns-clause-commits
returns-clause-commits c r is bytes =
    let seen = ap (λ (b : Bor (List ℕ)). b.now) c.new.ensures.bytes in
    let here = has_front c.new.result c.args.bytes.now r seen c.new.ensures.place (has_whole c.args.bytes.now r is bytes) in
    c.commits.ensures r (c.in-Whole.ensures.found r here).0

pub returns-clause-laid : goal.returns-clause-laid
returns-clause-laid c r is bytes =
    let seen = ap (λ (b : Bor (List ℕ)). b.now) c.new.ensures.bytes in
    let here = has_front c.new.result c.args.bytes.now r seen c.new.ensures.place (has_whole c.args.bytes.now r is bytes) in
    let shows = (c.in-Whole.ensures.found r here).0 in
    laid_all c.in-Whole.found.body.now c.args.puts.now c.loop-put.left c.loop-put.puts c.loop-put.invariant c.in_default-next.ensures.more r.puts shows.whole shows.body
