-- What a later gate and a cut make of a log that stands in its files.
use Rattle.std.proofs.Common.{◌≡◌, inl, inr, ⊎_elim, ℕ, ◌+◌, ◌<◌, List, [], ◌∷◌, ◌++◌, length, refl, sym, ◌∙◌, ap, subst, arith, append_assoc}
use Rattle.std.specs.Prelude.{Contains}
use Rattle.std.proofs.lemmas.List.Elements.{Contains-append_left, Contains-append_right, Contains-append_cases}
use Rattle.pdb_disk.specs.Files.{Step, FileState, Files, Begins}
use Rattle.pdb_disk.specs.Files.{Step as step}
use Rattle.pdb_model.specs.Logs.{IsLogFile}
use Rattle.pdb_model.specs.Records.{Record}
use Rattle.pdb_model.specs.declared.gate_slot.GateSlot.{GateSlot}
use Rattle.pdb_model.specs.Recovery.{Row}
use Rattle.pdb_log.specs.Ledger.{AreNumbered, IsNextGate, IsPassed, IsSegment, Ledger, Segment, StandsInFiles, emptied, passed, records_of, spelled_records, writes_of}
use Rattle.pdb_log.proofs.Members.{from_in, in_none, numbered_from, numbered_rest, numbered_upto}
use Rattle.pdb_log.proofs.Segments.{spent_of}
use Rattle.pdb_log.proofs.Ledgers.{Lies, each_segment}

-- the same log after a later gate
pub passed_stands : (rows : List Row) (f : ℕ) (fs : Files) (l : Ledger) (g : GateSlot) (dropped flushed : List Record) → StandsInFiles fs l → IsNextGate rows f fs l g dropped flushed → StandsInFiles fs (passed l g flushed)
passed_stands rows f fs l g dropped flushed is next = record {
  segments = λ j m. ⊎_elim (λ r. inl r)
      (λ s. inr ((λ c image clear r h. let le = s.0 c image clear r h in let n = next.number in omega (arith, le, n)), s.1)) (is.segments j m);
  numbers =
      let e : l.gate.number + 1 + length dropped ≡ g.number + 1 = let n = next.number in omega (arith, n) in
      subst (λ n. AreNumbered n (flushed ++ l.rest)) e (numbered_rest (l.gate.number + 1) dropped (flushed ++ l.rest) split);
  into = λ j r m i more. ⊎_elim
      (λ k. let lt = numbered_upto (l.gate.number + 1) dropped (flushed ++ l.rest) r split k in let n = next.number in absurd (omega (arith, lt, n, more)))
      (λ k. k)
      (Contains-append_cases dropped (flushed ++ l.rest) r (subst (λ rs. Contains rs r) parts (is.into j r m i (let n = next.number in omega (arith, n, more)))));
  placed = is.placed;
  safe = λ r i. is.safe r (subst (λ rs. Contains rs r) (sym next.parts) (Contains-append_right dropped flushed r i));
}
  where
    parts : l.flushed ++ l.rest ≡ dropped ++ (flushed ++ l.rest)
    parts = ap (λ rs. rs ++ l.rest) next.parts ∙ append_assoc dropped flushed l.rest

    split : AreNumbered (l.gate.number + 1) (dropped ++ (flushed ++ l.rest))
    split = subst (AreNumbered (l.gate.number + 1)) parts is.numbers

-- a cut of a file that the gate has passed, answered or failed
pub cut_stands : (old new : Files) (l : Ledger) (file n : ℕ) → IsLogFile file → StandsInFiles old l → IsSegment (old file) (l.segments file) → IsPassed (l.segments file) l.gate.number → Begins file step.Cut old new → StandsInFiles new (emptied l file n)
cut_stands old new l file n m is segment pass begun = record {
  segments = λ j. each_segment (λ k h. IsLogFile k → Lies (new k) h l.gate.number) l.segments file g
      (λ mk. inr ((λ c image clear r h. pass.each r (from_in (records_of (l.segments file)) r (spent_of (new file) (l.segments file) c (begun.kept ∙ segment.kept_bytes) since pass.synced segment.numbers clear r h))), refl))
      (λ k ne mk. subst (λ (s : FileState). Lies s (l.segments k) l.gate.number) (sym (begun.others k ne)) (is.segments k mk)) j;
  numbers = is.numbers;
  into = λ j r. each_segment (λ k h. IsLogFile k → Contains (records_of h) r → l.gate.number < r.number → Contains (l.flushed ++ l.rest) r) l.segments file g
      (λ mk i more. absurd (in_none r i)) (λ k ne mk i more. is.into k r mk i more) j;
  placed = λ r i. let k = is.placed r i in (
    k.0,
    k.1,
    each_segment (λ p h. Contains (records_of (l.segments p)) r → Contains (records_of h) r) l.segments file g
        (λ q. absurd (not_here r (Contains-append_right l.flushed l.rest r i) q)) (λ p ne q. q) k.0 k.2,
  );
  safe = λ r i. let k = is.safe r i in (
    k.0,
    k.1,
    each_segment (λ p h. Contains (l.segments p).kept r → Contains h.kept r) l.segments file g
        (λ q. absurd (not_here r (Contains-append_left l.flushed l.rest r i) (Contains-append_left (l.segments file).kept (l.segments file).pending r q))) (λ p ne q. q) k.0 k.2,
  );
}
  where
    g : Segment
    g = record { first = n; kept = []; pending = [] }

    since : (new file).since ≡ step.Cut ∷ []
    since = begun.since ∙ ap (λ (ss : List Step). ss ++ step.Cut ∷ []) (segment.since ∙ ap (λ (rs : List Record). writes_of (length (spelled_records (l.segments file).kept)) rs) pass.synced)

    not_here : (r : Record) → Contains (l.flushed ++ l.rest) r → Contains (records_of (l.segments file)) r → ⊥
    not_here r i q = let low = numbered_from (l.gate.number + 1) (l.flushed ++ l.rest) r is.numbers i in let high = pass.each r q in omega (arith, low, high)
