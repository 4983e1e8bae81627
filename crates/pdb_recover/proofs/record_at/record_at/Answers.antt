use Rattle.std.proofs.Common.{◌≡◌, ◌+◌, ◌≤◌, ◌^◌, ◌++◌, List, ℕ, Bor, ◌∙◌, ap, subst, arith}
use Rattle.std.specs.Prelude.{IfSome, MatchBool}
use Rattle.pdb_disk.specs.Files.{Files}
use Rattle.pdb_model.specs.Recovery.{bytes_from}
use Rattle.pdb_recover.specs.inner.ReadPuts.{HasNoBody}
use Rattle.pdb_recover.proofs.ReadBytes.{reads_after, same_files}
use Rattle.pdb_recover.proofs.ReadRecords.{Headed, no_record}
use Rattle.pdb_recover.proofs.ReadWhole.{has_at, has_front, has_headed, is_whole, no_body, scanned_whole, three_parts, too_long}
use Rattle.pdb_record.specs.Scans.{IsScan, Shows}
use Rattle.pdb_recover.proofs.record_at.record_at.Goals.{in-Whole, in_default}
use Rattle.pdb_recover.proofs.record_at.record_at.Goals as goal

pub returns-in-Ok-None-clause-whole : goal.returns-in-Ok-None-clause-whole
returns-in-Ok-None-clause-whole g c told =
    no_record (g.D.Disk.past c.args.disk.now (g.D.Disk.clock c.args.disk.now) c.args.file).read c.args.at (subst (Headed (g.D.Disk.past c.args.disk.now (g.D.Disk.clock c.args.disk.now) c.args.file).read c.args.at) c.in-Ok-None.field-0-is (c.in-Ok-None.ensures.head told))

pub overflow_add-len : goal.overflow_add-len
overflow_add-len g c = let low = subst (λ o. IfSome o (λ h. h.body ≤ 2 ^ 62)) c.in-Ok-Some.field-0-is c.in-Ok-Some.ensures.short in omega (arith, low)

pub returns-then-len-at-clause-whole : goal.returns-then-len-at-clause-whole
returns-then-len-at-clause-whole g c told =
    too_long (g.D.Disk.past c.args.disk.now (g.D.Disk.clock c.args.disk.now) c.args.file).read c.args.at c.in-Ok-Some.head c.requires c.if-len-at.true (subst (Headed (g.D.Disk.past c.args.disk.now (g.D.Disk.clock c.args.disk.now) c.args.file).read c.args.at) c.in-Ok-Some.field-0-is (c.in-Ok-Some.ensures.head told))

pub returns-then-not-branch-clause-whole : goal.returns-then-not-branch-clause-whole
returns-then-not-branch-clause-whole g c told =
    let one = c.in-Ok-Some.ensures.only_reads in
    let two = reads_after g.D.Disk.tells g.D.Disk.clock g.D.Disk.past g.D.Disk.read_count c.args.disk.now c.head_at.new.disk c.add_bytes.new.disk one c.in_ok-add_bytes.ensures.only_reads in
    let same = same_files g.D.Disk.clock g.D.Disk.past c.args.disk.now c.add_bytes.new.disk two.time two.unchanged in
    let body = subst (λ (x : Files). MatchBool c.in_ok-add_body.field-0
    (c.add_body.new.bytes.items ≡ c.add_bytes.new.bytes.items ++ bytes_from (x c.args.file).read (c.args.at + 48) c.in-Ok-Some.head.body)
    (HasNoBody (x c.args.file).read (c.args.at + 48) c.in-Ok-Some.head.body)) same (c.in_ok-add_body.ensures.body (two.told told)) in
    let fs = g.D.Disk.past c.args.disk.now (g.D.Disk.clock c.args.disk.now) in
    let none = subst (λ b. MatchBool b
    (c.add_body.new.bytes.items ≡ c.add_bytes.new.bytes.items ++ bytes_from (fs c.args.file).read (c.args.at + 48) c.in-Ok-Some.head.body)
    (HasNoBody (fs c.args.file).read (c.args.at + 48) c.in-Ok-Some.head.body)) c.if-not-branch.true body in
    no_body (fs c.args.file).read c.args.at c.in-Ok-Some.head none (subst (Headed (g.D.Disk.past c.args.disk.now (g.D.Disk.clock c.args.disk.now) c.args.file).read c.args.at) c.in-Ok-Some.field-0-is (c.in-Ok-Some.ensures.head told))

pub returns-then-matches-clause-whole : goal.returns-then-matches-clause-whole
returns-then-matches-clause-whole g c told =
    let one = c.in-Ok-Some.ensures.only_reads in
    let two = reads_after g.D.Disk.tells g.D.Disk.clock g.D.Disk.past g.D.Disk.read_count c.args.disk.now c.head_at.new.disk c.add_bytes.new.disk one c.in_ok-add_bytes.ensures.only_reads in
    let three = reads_after g.D.Disk.tells g.D.Disk.clock g.D.Disk.past g.D.Disk.read_count c.args.disk.now c.add_bytes.new.disk c.add_body.new.disk two c.in_ok-add_body.ensures.only_reads in
    let fs = g.D.Disk.past c.args.disk.now (g.D.Disk.clock c.args.disk.now) in
    let headed = subst (Headed (fs c.args.file).read c.args.at) c.in-Ok-Some.field-0-is (c.in-Ok-Some.ensures.head told) in
    let header = subst (λ (x : Files). c.add_bytes.new.bytes.items ≡ c.new-bytes.result.items ++ bytes_from (x c.args.file).read c.args.at 48)
    (same_files g.D.Disk.clock g.D.Disk.past c.args.disk.now c.head_at.new.disk one.time one.unchanged) (c.in_ok-add_bytes.ensures.added (one.told told)) in
    let either = subst (λ (x : Files). MatchBool c.in_ok-add_body.field-0
    (c.add_body.new.bytes.items ≡ c.add_bytes.new.bytes.items ++ bytes_from (x c.args.file).read (c.args.at + 48) c.in-Ok-Some.head.body)
    (HasNoBody (x c.args.file).read (c.args.at + 48) c.in-Ok-Some.head.body))
    (same_files g.D.Disk.clock g.D.Disk.past c.args.disk.now c.add_bytes.new.disk two.time two.unchanged) (c.in_ok-add_body.ensures.body (two.told told)) in
    let body = subst (λ b. MatchBool b
    (c.add_body.new.bytes.items ≡ c.add_bytes.new.bytes.items ++ bytes_from (fs c.args.file).read (c.args.at + 48) c.in-Ok-Some.head.body)
    (HasNoBody (fs c.args.file).read (c.args.at + 48) c.in-Ok-Some.head.body)) c.if-not-branch.false either in
    let last = subst (λ (x : Files). c.add_bytes-2.new.bytes.items ≡ c.add_body.new.bytes.items ++ bytes_from (x c.args.file).read (c.args.at + 48 + c.in-Ok-Some.head.body) 8)
    (same_files g.D.Disk.clock g.D.Disk.past c.args.disk.now c.add_body.new.disk three.time three.unchanged) (c.in_ok-add_bytes-2.ensures.added (three.told told)) in
    let all = three_parts (fs c.args.file).read c.args.at c.in-Ok-Some.head.body c.new-bytes.result.items c.add_bytes.new.bytes.items c.add_body.new.bytes.items c.add_bytes-2.new.bytes.items
    c.new-bytes.ensures.items header body last in
    let seen = ap (λ (b : Bor (List ℕ)). b.now) c.new.ensures.bytes ∙ (c.as_slice.ensures.value ∙ all) in
    elim c.match-matches.branch [
      | in-Whole w ↦
          let answer = subst (λ r. IsScan r c.new.result) w.in-Whole.is c.next.ensures.answer in
          let low = c.if-len-at.false in
          let start = c.requires in
          let whole = scanned_whole (fs c.args.file).read c.args.at c.in-Ok-Some.head answer.0 headed (omega (arith, low, start))
          (has_at c.new.result _ answer.0 seen c.new.ensures.place answer.1) in
          (answer.0, whole.0, c.from_vec.ensures ∙ all ∙ whole.1)
      | in_default w ↦ let a = w.matches-is in let b = c.if-matches.true in absurd cc
    ]

pub returns-else-matches-clause-whole : goal.returns-else-matches-clause-whole
returns-else-matches-clause-whole g c told r stands =
    let one = c.in-Ok-Some.ensures.only_reads in
    let two = reads_after g.D.Disk.tells g.D.Disk.clock g.D.Disk.past g.D.Disk.read_count c.args.disk.now c.head_at.new.disk c.add_bytes.new.disk one c.in_ok-add_bytes.ensures.only_reads in
    let three = reads_after g.D.Disk.tells g.D.Disk.clock g.D.Disk.past g.D.Disk.read_count c.args.disk.now c.add_bytes.new.disk c.add_body.new.disk two c.in_ok-add_body.ensures.only_reads in
    let fs = g.D.Disk.past c.args.disk.now (g.D.Disk.clock c.args.disk.now) in
    let headed = subst (Headed (fs c.args.file).read c.args.at) c.in-Ok-Some.field-0-is (c.in-Ok-Some.ensures.head told) in
    let header = subst (λ (x : Files). c.add_bytes.new.bytes.items ≡ c.new-bytes.result.items ++ bytes_from (x c.args.file).read c.args.at 48)
    (same_files g.D.Disk.clock g.D.Disk.past c.args.disk.now c.head_at.new.disk one.time one.unchanged) (c.in_ok-add_bytes.ensures.added (one.told told)) in
    let either = subst (λ (x : Files). MatchBool c.in_ok-add_body.field-0
    (c.add_body.new.bytes.items ≡ c.add_bytes.new.bytes.items ++ bytes_from (x c.args.file).read (c.args.at + 48) c.in-Ok-Some.head.body)
    (HasNoBody (x c.args.file).read (c.args.at + 48) c.in-Ok-Some.head.body))
    (same_files g.D.Disk.clock g.D.Disk.past c.args.disk.now c.add_bytes.new.disk two.time two.unchanged) (c.in_ok-add_body.ensures.body (two.told told)) in
    let body = subst (λ b. MatchBool b
    (c.add_body.new.bytes.items ≡ c.add_bytes.new.bytes.items ++ bytes_from (fs c.args.file).read (c.args.at + 48) c.in-Ok-Some.head.body)
    (HasNoBody (fs c.args.file).read (c.args.at + 48) c.in-Ok-Some.head.body)) c.if-not-branch.false either in
    let last = subst (λ (x : Files). c.add_bytes-2.new.bytes.items ≡ c.add_body.new.bytes.items ++ bytes_from (x c.args.file).read (c.args.at + 48 + c.in-Ok-Some.head.body) 8)
    (same_files g.D.Disk.clock g.D.Disk.past c.args.disk.now c.add_body.new.disk three.time three.unchanged) (c.in_ok-add_bytes-2.ensures.added (three.told told)) in
    let all = three_parts (fs c.args.file).read c.args.at c.in-Ok-Some.head.body c.new-bytes.result.items c.add_bytes.new.bytes.items c.add_body.new.bytes.items c.add_bytes-2.new.bytes.items
    c.new-bytes.ensures.items header body last in
    let seen = ap (λ (b : Bor (List ℕ)). b.now) c.new.ensures.bytes ∙ (c.as_slice.ensures.value ∙ all) in
    let here = has_front c.new.result _ r seen c.new.ensures.place (has_headed (fs c.args.file).read c.args.at c.in-Ok-Some.head r headed stands) in
    let found = is_whole c.next.result (λ f. Shows f r) (c.next.ensures.found r here).0 in
    elim c.match-matches.branch [
      | in-Whole w ↦ let a = w.matches-is in let b = c.if-matches.false in absurd cc
      | in_default w ↦ w.in_default.not-Whole found.0 found.1
    ]
