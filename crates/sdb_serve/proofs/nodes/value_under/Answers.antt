use Rattle.std.proofs.Common.{◌≡◌, rules, refl, ◌∙◌}
use Rattle.trie_model.specs.Fetches.{read_fetches}
use Rattle.trie_read.specs.Reads.{IsReading, wanted_of}
use Rattle.trie_read.specs.declared.fault.TrieFault.{TrieFault}
use Rattle.trie_read.specs.declared.fault.TrieFault.TheVariants as read
use Rattle.sdb_serve.specs.inner.Kept.{MeetsNoBadNode}
use Rattle.sdb_serve.proofs.NodeFetches.{IsNext, all_fed, next_of, read_wants}
use Rattle.sdb_serve.proofs.NodeFilters.{read_kept}
use Rattle.sdb_serve.proofs.nodes.value_under.Goals as goal

pub loop-init : goal.loop-init
loop-init g c = record {
  stands = λ commits h. h;
  later = λ commits h. g.met.K.Keeper.later_itself _ commits h;
  outside = g.met.K.Keeper.only_itself _;
  pipeline = refl;
  counted = refl;
  at = λ commits m h clears k. record {
    todo = read_fetches m c.args.key;
    at = c.in_ok-job.ensures m k.entries_are k.root_is;
    kept = read_kept commits m k.nodes c.args.key;
  };
}

pub returns-in_default-clause-answer : goal.returns-in_default-clause-answer
returns-in_default-clause-answer g c commits m h clears k =
    c.answer.ensures m c.args.key
    (all_fed commits (IsReading c.loop.job m c.args.key) (wanted_of c.loop.job) (read_wants c.loop.job m c.args.key) c.in_default.ensures (c.loop.invariant.at commits m h clears k))

pub returns-in_err-bytes-clause-sound : goal.returns-in_err-bytes-clause-sound
returns-in_err-bytes-clause-sound g c commits m h clears k =
    let next : IsNext commits (IsReading c.loop.job m c.args.key) c.in-Some.hash.now.0 =
    next_of commits (IsReading c.loop.job m c.args.key) (wanted_of c.loop.job) (read_wants c.loop.job m c.args.key) c.in-Some.hash.now.0 c.in-Some.ensures (c.loop.invariant.at commits m h clears k) in
    let e : MeetsNoBadNode c.in_err-bytes.field-0.0 =
    c.in_err-bytes.ensures.sound commits next.node.bytes (c.loop.invariant.stands commits h) (clears commits c.in-Some.hash.now.0 (k.alike c.in-Some.hash.now.0)) next.kept next.is_hash in
    search rules

pub returns-in_err-feed-clause-sound : goal.returns-in_err-feed-clause-sound
returns-in_err-feed-clause-sound g c commits m h clears k =
    let next : IsNext commits (IsReading c.loop.job m c.args.key) c.in-Some.hash.now.0 =
    next_of commits (IsReading c.loop.job m c.args.key) (wanted_of c.loop.job) (read_wants c.loop.job m c.args.key) c.in-Some.hash.now.0 c.in-Some.ensures (c.loop.invariant.at commits m h clears k) in
    let bytes : c.in_ok-bytes.bytes ≡ next.node.bytes =
    c.in_ok-bytes.ensures.answer commits next.node.bytes (c.loop.invariant.stands commits h) (clears commits c.in-Some.hash.now.0 (k.alike c.in-Some.hash.now.0)) next.kept next.is_hash in
    let e : ◌≡◌ {A = TrieFault} c.in_err-feed.field-0.0 read.OutOfMemory =
    c.in_err-feed.ensures.sound m c.args.key next.node next.todo next.at (c.as_slice.ensures ∙ bytes) in
    search rules

pub loop-preserved : goal.loop-preserved
loop-preserved g c = record {
  stands = λ commits h. c.in_ok-bytes.ensures.stands commits (c.loop.invariant.stands commits h);
  later = λ commits h.
      g.met.K.Keeper.later_on _ _ _ commits commits commits (c.loop.invariant.later commits h) (c.in_ok-bytes.ensures.later commits (c.loop.invariant.stands commits h));
  outside = g.met.K.Keeper.only_on _ _ _ c.loop.invariant.outside c.in_ok-bytes.ensures.outside;
  pipeline = c.in_ok-bytes.ensures.pipeline ∙ c.loop.invariant.pipeline;
  counted = c.in_ok-bytes.ensures.counted ∙ c.loop.invariant.counted;
  at = λ commits m h clears k.
      let next : IsNext commits (IsReading c.loop.job m c.args.key) c.in-Some.hash.now.0 =
      next_of commits (IsReading c.loop.job m c.args.key) (wanted_of c.loop.job) (read_wants c.loop.job m c.args.key) c.in-Some.hash.now.0 c.in-Some.ensures (c.loop.invariant.at commits m h clears k) in
      let bytes : c.in_ok-bytes.bytes ≡ next.node.bytes =
      c.in_ok-bytes.ensures.answer commits next.node.bytes (c.loop.invariant.stands commits h) (clears commits c.in-Some.hash.now.0 (k.alike c.in-Some.hash.now.0)) next.kept next.is_hash in
      record { todo = next.todo; at = c.in_ok-feed.ensures.read m c.args.key next.node next.todo next.at (c.as_slice.ensures ∙ bytes); kept = next.others };
}
