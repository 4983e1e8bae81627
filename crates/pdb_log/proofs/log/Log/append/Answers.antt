use Rattle.std.proofs.Common.{rules, ◌≡◌, ◌<◌, ◌+◌, ◌^◌, List, [], ◌∷◌, length, inl, refl, sym, ap, ◌∙◌, subst, arith}
use Rattle.std.specs.Prelude.{set}
use Rattle.pdb_cells.specs.declared.Put.{Put}
use Rattle.pdb_disk.proofs.Calls.{no_call}
use Rattle.pdb_model.specs.Logs.{most_in_log}
use Rattle.pdb_model.specs.Records.{Record, body_bytes, record_bytes}
use Rattle.pdb_model.specs.Recovery.{Safe}
use Rattle.pdb_log.specs.Ledger.{row_after}
use Rattle.pdb_log.specs.Standing.{end_of_log, next_record}
use Rattle.pdb_log.proofs.Logs.{SetTo, begun_as, done_as, good_record, may_as, safe_now, set_to, write_log, write_moments}
use Rattle.pdb_log.proofs.Rows.{more_rows}
use Rattle.pdb_record.proofs.Lengths.{record_len}
use Rattle.pdb_log.proofs.log.Log.append.Goals as goal
use Rattle.pdb_log.proofs.log.Log.append.Goals.{then-at-gt-MOST-via-then-at-gt-MOST, then-at-gt-MOST-via-else-at-gt-MOST+then-len-at}

pub returns-then-self-clause-any_moment : goal.returns-then-self-clause-any_moment
returns-then-self-clause-any_moment g c l rows f row is last =
    no_call (g.D.Disk.clock c.args.self.now.disk) (g.D.Disk.past c.args.self.now.disk) (Safe _ f)
    (more_rows rows (row_after row (next_record c.args.self.now c.args.commits c.args.puts.now) ∷ []) f _ (safe_now g.D.Disk.tells g.D.Disk.clock g.D.Disk.past c.args.self.now l rows f is))

pub returns-then-at-gt-MOST-clause-any_moment : goal.returns-then-at-gt-MOST-clause-any_moment
returns-then-at-gt-MOST-clause-any_moment g c l rows f row is last =
    no_call (g.D.Disk.clock c.args.self.now.disk) (g.D.Disk.past c.args.self.now.disk) (Safe _ f)
    (more_rows rows (row_after row (next_record c.args.self.now c.args.commits c.args.puts.now) ∷ []) f _ (safe_now g.D.Disk.tells g.D.Disk.clock g.D.Disk.past c.args.self.now l rows f is))

pub returns-in_default-clause-any_moment : goal.returns-in_default-clause-any_moment
returns-in_default-clause-any_moment g c l rows f row is last =
    no_call (g.D.Disk.clock c.args.self.now.disk) (g.D.Disk.past c.args.self.now.disk) (Safe _ f)
    (more_rows rows (row_after row (next_record c.args.self.now c.args.commits c.args.puts.now) ∷ []) f _ (safe_now g.D.Disk.tells g.D.Disk.clock g.D.Disk.past c.args.self.now l rows f is))

pub write_at-requires : goal.write_at-requires
write_at-requires g c =
    let r : Record = next_record c.args.self.now c.args.commits c.args.puts.now in
    let bytes : c.as_slice-2.result.now ≡ record_bytes r = c.as_slice-2.ensures ∙ c.in-Ok.ensures in
    let short : length (record_bytes r) ≡ 56 + length (body_bytes c.args.puts.now) = record_len r in
    let low = c.if-at-gt-MOST.false in
    omega (arith, ap length bytes, short, low, c.requires.short)

pub returns-then-at-gt-MOST-clause-bytes_end : goal.returns-then-at-gt-MOST-clause-bytes_end
returns-then-at-gt-MOST-clause-bytes_end g c =
    let r : Record = next_record c.args.self.now c.args.commits c.args.puts.now in
    let short : length (record_bytes r) ≡ 56 + length (body_bytes c.args.puts.now) = record_len r in
    let len : 56 + c.body_len-len.result ≡ 56 + length (body_bytes c.args.puts.now) = ap (λ n. 56 + n) (c.body_len-len.ensures ∙ ap (λ (ps : List Put). length (body_bytes ps)) c.as_slice.ensures) in
    let past : most_in_log < end_of_log c.args.self.now + length (record_bytes r) = elim c.then-at-gt-MOST.branch [
      | then-at-gt-MOST-via-then-at-gt-MOST w ↦ let high = w.if-at-gt-MOST.true in omega (arith, high)
      | then-at-gt-MOST-via-else-at-gt-MOST+then-len-at w ↦ let high = w.if-len-at.true in let low = w.if-at-gt-MOST.false in omega (arith, high, low, len, short)
    ] in
    ((λ _. (c.if-self.false, past)), (λ _. refl))

pub returns-in_default-clause-bytes_end : goal.returns-in_default-clause-bytes_end
returns-in_default-clause-bytes_end g c =
    let r : Record = next_record c.args.self.now c.args.commits c.args.puts.now in
    let short : length (record_bytes r) ≡ 56 + length (body_bytes c.args.puts.now) = record_len r in
    let len : 56 + c.body_len-len.result ≡ 56 + length (body_bytes c.args.puts.now) = ap (λ n. 56 + n) (c.body_len-len.ensures ∙ ap (λ (ps : List Put). length (body_bytes ps)) c.as_slice.ensures) in
    let low = c.if-at-gt-MOST.false in
    let fits = c.if-len-at.false in
    ((λ e. cc), (λ h. let past = h.1 in absurd (omega (arith, past, short, len, low, fits))))

pub returns-in-Ok-write_at-clause-appended : goal.returns-in-Ok-write_at-clause-appended
returns-in-Ok-write_at-clause-appended g c l rows f row is last =
    let r : Record = next_record c.args.self.now c.args.commits c.args.puts.now in
    let e = c.write_at.ensures in
    let bytes : c.as_slice-2.result.now ≡ record_bytes r = c.as_slice-2.ensures ∙ c.in-Ok.ensures in
    let short : length (record_bytes r) ≡ 56 + length (body_bytes c.args.puts.now) = record_len r in
    let len : 56 + c.body_len-len.result ≡ length (record_bytes r) = ap (λ n. 56 + n) (c.body_len-len.ensures ∙ ap (λ (ps : List Put). length (body_bytes ps)) c.as_slice.ensures) ∙ sym short in
    let low = c.if-at-gt-MOST.false in
    let fits = c.if-len-at.false in
    let count : c.args.self.now.number + 1 < 2 ^ 64 = search rules in
    let ring = c.args.self.now.file.in_ring in
    let five : length c.args.self.now.ends ≡ 5 = search rules in
    let five_too : length c.args.self.now.last ≡ 5 = search rules in
    let ends = set_to c.args.self.now.ends c.args.self.now.file.number (end_of_log c.args.self.now + (56 + c.body_len-len.result)) (let p = ring.1 in omega (arith, five, p)) in
    write_log g.D.Disk.tells g.D.Disk.clock g.D.Disk.past c.args.self.now c.write_at.new.self r l rows f row
    (good_record (c.args.self.now.number + 1) c.args.commits c.args.puts.now (omega arith) count (search rules) c.requires.short c.requires.whole c.requires.once)
    refl is last _ refl refl refl refl refl
    (subst (λ n. SetTo c.args.self.now.ends (set c.args.self.now.ends c.args.self.now.file.number (end_of_log c.args.self.now + (56 + c.body_len-len.result))) c.args.self.now.file.number (end_of_log c.args.self.now + n)) len ends)
    (set_to c.args.self.now.last c.args.self.now.file.number (c.args.self.now.number + 1) (let p = ring.1 in omega (arith, five_too, p)))
    (omega (arith, len, low, fits))
    (e.told is.told)
    (begun_as _ _ _ _ _ _ bytes (c.in-Ok-write_at.ensures.begun is.told))
    (done_as _ _ _ _ _ bytes (c.in-Ok-write_at.ensures.written is.told))

pub returns-in-Ok-write_at-clause-any_moment : goal.returns-in-Ok-write_at-clause-any_moment
returns-in-Ok-write_at-clause-any_moment g c l rows f row is last =
    let r : Record = next_record c.args.self.now c.args.commits c.args.puts.now in
    let bytes : c.as_slice-2.result.now ≡ record_bytes r = c.as_slice-2.ensures ∙ c.in-Ok.ensures in
    let count : c.args.self.now.number + 1 < 2 ^ 64 = search rules in
    write_moments g.D.Disk.tells g.D.Disk.clock g.D.Disk.past c.args.self.now c.write_at.new.self r l rows f row
    (good_record (c.args.self.now.number + 1) c.args.commits c.args.puts.now (omega arith) count (search rules) c.requires.short c.requires.whole c.requires.once)
    refl is last c.write_at.ensures.time
    (λ told. inl (begun_as _ _ _ _ _ _ bytes (c.in-Ok-write_at.ensures.begun told)))

pub returns-in-Ok-write_at-clause-place : goal.returns-in-Ok-write_at-clause-place
returns-in-Ok-write_at-clause-place g c =
    let r : Record = next_record c.args.self.now c.args.commits c.args.puts.now in
    let len : 56 + c.body_len-len.result ≡ length (record_bytes r) = ap (λ n. 56 + n) (c.body_len-len.ensures ∙ ap (λ (ps : List Put). length (body_bytes ps)) c.as_slice.ensures) ∙ sym (record_len r) in
    λ i. record { number = c.args.self.now.number + 1; file = c.args.self.now.file.number; at = end_of_log c.args.self.now; len = len i }

pub returns-in-Ok-write_at-clause-bytes_end : goal.returns-in-Ok-write_at-clause-bytes_end
returns-in-Ok-write_at-clause-bytes_end g c =
    let r : Record = next_record c.args.self.now c.args.commits c.args.puts.now in
    let short : length (record_bytes r) ≡ 56 + length (body_bytes c.args.puts.now) = record_len r in
    let len : 56 + c.body_len-len.result ≡ 56 + length (body_bytes c.args.puts.now) = ap (λ n. 56 + n) (c.body_len-len.ensures ∙ ap (λ (ps : List Put). length (body_bytes ps)) c.as_slice.ensures) in
    let low = c.if-at-gt-MOST.false in
    let fits = c.if-len-at.false in
    ((λ e. cc), (λ h. let past = h.1 in absurd (omega (arith, past, short, len, low, fits))))

pub returns-clause-any_moment : goal.returns-clause-any_moment
returns-clause-any_moment g c l rows f row is last =
    let r : Record = next_record c.args.self.now c.args.commits c.args.puts.now in
    let bytes : c.as_slice-2.result.now ≡ record_bytes r = c.as_slice-2.ensures ∙ c.in-Ok.ensures in
    let count : c.args.self.now.number + 1 < 2 ^ 64 = search rules in
    write_moments g.D.Disk.tells g.D.Disk.clock g.D.Disk.past c.args.self.now c.write_at.new.self r l rows f row
    (good_record (c.args.self.now.number + 1) c.args.commits c.args.puts.now (omega arith) count (search rules) c.requires.short c.requires.whole c.requires.once)
    refl is last c.write_at.ensures.time
    (λ told. may_as _ _ _ _ _ _ bytes (c.in-Err.ensures.failed told))

pub returns-clause-bytes_end : goal.returns-clause-bytes_end
returns-clause-bytes_end g c =
    let r : Record = next_record c.args.self.now c.args.commits c.args.puts.now in
    let short : length (record_bytes r) ≡ 56 + length (body_bytes c.args.puts.now) = record_len r in
    let len : 56 + c.body_len-len.result ≡ 56 + length (body_bytes c.args.puts.now) = ap (λ n. 56 + n) (c.body_len-len.ensures ∙ ap (λ (ps : List Put). length (body_bytes ps)) c.as_slice.ensures) in
    let low = c.if-at-gt-MOST.false in
    let fits = c.if-len-at.false in
    ((λ e. cc), (λ h. let past = h.1 in absurd (omega (arith, past, short, len, low, fits))))

pub returns-in-Ok-write_at-clause-tally : goal.returns-in-Ok-write_at-clause-tally
returns-in-Ok-write_at-clause-tally g c t is =
    let r : Record = next_record c.args.self.now c.args.commits c.args.puts.now in
    let len : 56 + c.body_len-len.result ≡ length (record_bytes r) =
    ap (λ n. 56 + n) (c.body_len-len.ensures ∙ ap (λ (ps : List Put). length (body_bytes ps)) c.as_slice.ensures) ∙ sym (record_len r) in
    let five : length c.args.self.now.ends ≡ 5 = search rules in
    let end = (set_to c.args.self.now.ends c.args.self.now.file.number (end_of_log c.args.self.now + (56 + c.body_len-len.result))
    (let p = c.args.self.now.file.in_ring.1 in omega (arith, five, p))).here in
    record { records = ap (λ n. n + 1) is.records; gates = is.gates; bytes = let most = is.bytes in omega (arith, end, len, most) }
