use Rattle.std.proofs.Common.{◌≡◌, ◌==◌, ℕ, List, [], true, length, sym, ap, subst, ◌∙◌, arith}
use Rattle.pdb_record.specs.Scans.{put_of}
use Rattle.pdb_record.specs.inner.Blocks.{Taken}
use Rattle.pdb_record.proofs.FirstPuts.{whole_len}
use Rattle.pdb_record.proofs.Loops.{taken_more, taken_stops, taken_twice}
use Rattle.pdb_record.proofs.Splits.{Stops}
use Rattle.pdb_record.proofs.repeats.fill.Goals as goal

pub returns-in_default-clause-takes : goal.returns-in_default-clause-takes
returns-in_default-clause-takes c ps leaves once =
    let stops : Stops c.loop-puts.puts.left.now = λ p qs e w. c.in_default.ensures.more p qs (record { bytes = e; whole = w }) in
    let empty : c.loop-puts.puts.left.now ≡ [] = taken_stops ps c.loop-puts.block.items c.loop-puts.puts (c.loop-puts.invariant.0 ps leaves) stops in
    let ended : c.is_empty.result ≡ true = c.is_empty.ensures ∙ ap (λ n. n == 0) (ap length empty) in
    cc

pub returns-then-not-add_name-clause-takes : goal.returns-then-not-add_name-clause-takes
returns-then-not-add_name-clause-takes c ps leaves =
    taken_twice ps c.loop-puts.block.items c.loop-puts.puts (put_of c.in-Some.put) c.next.new.self.left.now (c.loop-puts.invariant.0 ps leaves)
    c.in-Some.ensures.only.0 c.in-Some.ensures.only.1 c.if-not-add_name.ensures.apart

pub loop-puts-preserved : goal.loop-puts-preserved
loop-puts-preserved c =
    let added = c.if-not-add_name.ensures.added in
    let len = whole_len c.loop-puts.puts.left.now c.next.new.self.left.now (put_of c.in-Some.put) c.in-Some.ensures.only.1 in (
      (λ ps leaves. subst (λ (ks : List (ℕ × ℕ)). Taken ps ks c.next.new.self) (sym added.1)
          (taken_more ps c.loop-puts.block.items c.loop-puts.puts c.next.new.self (put_of c.in-Some.put) added.0 (c.loop-puts.invariant.0 ps leaves)
          c.in-Some.ensures.only.0 c.in-Some.ensures.only.1 c.if-not-add_name.ensures.apart)),
      c.add_name.ensures.ascends,
      omega (arith, len, c.if-not-add_name.ensures.len, c.loop-puts.invariant.2),
    )
