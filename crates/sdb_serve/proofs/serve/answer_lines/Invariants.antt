use Rattle.std.proofs.Common.{◌≡◌, ◌≢◌, ℕ, ◌+◌, ◌-◌, ◌<◌, ◌≤◌, List, ◌++◌, length, take, get_or}
use Rattle.sdb_serve.specs.Runs.{HasNoLineFeed, Run}
use Rattle.sdb_serve.specs.inner.Steps.{GoesOn, IsAt, PieceAnswered}
use Rattle.sdb_serve.proofs.serve.answer_lines.Given as goal

-- the lines before `start` were answered, and no line feed is from there up to `seek`
abbrev pub invariant-lines : goal.invariant-lines
invariant-lines g l =
    let tells = g.D.Disk.tells in
    let clock = g.D.Disk.clock in
    let past = g.D.Disk.past in
    let got = g.K.Sink.got in
    record {
      order : l.start ≤ l.seek;
      past_from : l.fn.from ≤ l.seek;
      within : l.seek ≤ length l.piece;
      clear : HasNoLineFeed (take l.fn.from l.piece) → (k : ℕ) → l.start ≤ k → k < l.seek → get_or l.piece k 0 ≢ 10;
      answered : (given : g.row.D.Denot) (input rest : List ℕ) (r : Run) → HasNoLineFeed (take l.fn.from l.piece)
          → IsAt tells clock past given r input l.fn.session (l.piece ++ rest)
          → PieceAnswered tells clock past given l.start l.piece rest r input l.session (got l.fn.sink) (got l.sink);
      goes_on : (given : g.row.D.Denot) → GoesOn tells clock past given g.D.Disk.fault_count l.fn.session l.session;
      read : l.session.read ≡ l.fn.session.read + l.start;
      counted : g.K.Sink.fault_count l.sink ≡ g.K.Sink.fault_count l.fn.sink;
    }

abbrev pub decreases-lines : goal.decreases-lines
decreases-lines g l = length l.piece - l.start
