use Rattle.std.proofs.Common.{◌≡◌, ℕ, ◌+◌, ◌-◌, ◌^◌, ◌≤◌, List, vec_len, Some}
use Rattle.sdb_serve.specs.Runs.{HasNoLineFeed, Run}
use Rattle.sdb_serve.specs.inner.Steps.{GoesOn, IsAt, PieceAnswered}
use Rattle.sdb_serve.proofs.serve.read_lines.Given as goal

-- what was read and not used is pending: less than a line
abbrev pub invariant-chunks : goal.invariant-chunks
invariant-chunks g l =
    let tells = g.D.Disk.tells in
    let clock = g.D.Disk.clock in
    let past = g.D.Disk.past in
    let left = g.S.Source.left in
    let got = g.K.Sink.got in
    record {
      room : vec_len l.chunk ≡ 65536;
      short : vec_len l.pending ≤ 16777216;
      clear : HasNoLineFeed l.pending.items;
      told : (input : List ℕ) → left l.fn.source ≡ Some input → (rest : List ℕ) × (left l.source ≡ Some rest);
      answered : (given : g.row.D.Denot) (input rest : List ℕ) (r : Run) → left l.fn.source ≡ Some input → left l.source ≡ Some rest
          → IsAt tells clock past given r input l.fn.session input
          → PieceAnswered tells clock past given 0 l.pending.items rest r input l.session (got l.fn.sink) (got l.sink);
      goes_on : (given : g.row.D.Denot) → GoesOn tells clock past given g.D.Disk.fault_count l.fn.session l.session;
      source : g.S.Source.fault_count l.source ≡ g.S.Source.fault_count l.fn.source;
      sink : g.K.Sink.fault_count l.sink ≡ g.K.Sink.fault_count l.fn.sink;
    }

abbrev pub decreases-chunks : goal.decreases-chunks
decreases-chunks g l = 2 ^ 41 - (l.session.read + vec_len l.pending)
