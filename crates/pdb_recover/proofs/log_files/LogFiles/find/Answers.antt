use Rattle.std.proofs.Common.{◌+◌, ◌∙◌, arith}
use Rattle.std.specs.Prelude.{IfOk}
use Rattle.pdb_disk.specs.Files.{reads_of}
use Rattle.pdb_recover.specs.Scanning.{HasScanned}
use Rattle.pdb_recover.proofs.LogFinds.{Sought, begun_scan, below_first, below_next, found_at, found_by_last}
use Rattle.pdb_recover.proofs.ReadBytes.{reads_after, reads_none}
use Rattle.pdb_recover.proofs.ScanSteps.{scanned_more}
use Rattle.pdb_recover.proofs.log_files.LogFiles.find.Goals as goal

pub returns-in-Some-clause-scanned : goal.returns-in-Some-clause-scanned
returns-in-Some-clause-scanned g c told h =
    let x = reads_of (g.D.Disk.past c.args.disk.now (g.D.Disk.clock c.args.disk.now)) in
    let n = c.args.number in
    record {
      files = (c.in_ok-bytes.ensures.file ∙ h.files.0, h.files.1, h.files.2, h.files.3);
      first = begun_scan g.D.Disk.tells g.D.Disk.clock g.D.Disk.past g.D.Disk.read_count c.args.disk.now c.args.disk.now (λ f. HasScanned f c.seek.new.self (n + 1)) c.args.self.now.first 1 n (reads_none g.D.Disk.tells g.D.Disk.clock g.D.Disk.past g.D.Disk.read_count c.args.disk.now) h.files.0 c.in_ok-bytes.ensures.scanned told h.first;
      second = scanned_more (x 2) c.args.self.now.second n (n + 1) (omega arith) h.second;
      third = scanned_more (x 3) c.args.self.now.third n (n + 1) (omega arith) h.third;
      fourth = scanned_more (x 4) c.args.self.now.fourth n (n + 1) (omega arith) h.fourth;
    }

pub returns-in-Some-2-clause-found : goal.returns-in-Some-2-clause-found
returns-in-Some-2-clause-found g c told h =
    let x = reads_of (g.D.Disk.past c.args.disk.now (g.D.Disk.clock c.args.disk.now)) in
    let n = c.args.number in
    let one = c.in_ok-bytes.ensures.only_reads in
    let first = begun_scan g.D.Disk.tells g.D.Disk.clock g.D.Disk.past g.D.Disk.read_count c.args.disk.now c.args.disk.now (λ f. Sought f n c.in_ok-bytes.field-0) c.args.self.now.first 1 n (reads_none g.D.Disk.tells g.D.Disk.clock g.D.Disk.past g.D.Disk.read_count c.args.disk.now) h.files.0 c.in_ok-bytes.ensures.found told h.first in
    let second = begun_scan g.D.Disk.tells g.D.Disk.clock g.D.Disk.past g.D.Disk.read_count c.args.disk.now c.seek.new.disk (λ f. Sought f n c.in_ok-bytes-2.field-0) c.args.self.now.second 2 n one h.files.1 c.in_ok-bytes-2.ensures.found told h.second in
    found_at x n 2 c.in_ok-bytes-2.field-0 c.in-Some-2.bytes (omega arith, omega arith) c.in-Some-2.is second (below_next x n 1 c.in_ok-bytes.field-0 c.in_default.not-Some first (below_first x n))

pub returns-in-Some-2-clause-scanned : goal.returns-in-Some-2-clause-scanned
returns-in-Some-2-clause-scanned g c told h =
    let x = reads_of (g.D.Disk.past c.args.disk.now (g.D.Disk.clock c.args.disk.now)) in
    let n = c.args.number in
    let one = c.in_ok-bytes.ensures.only_reads in
    record {
      files = (c.in_ok-bytes.ensures.file ∙ h.files.0, c.in_ok-bytes-2.ensures.file ∙ h.files.1, h.files.2, h.files.3);
      first = begun_scan g.D.Disk.tells g.D.Disk.clock g.D.Disk.past g.D.Disk.read_count c.args.disk.now c.args.disk.now (λ f. HasScanned f c.seek.new.self (n + 1)) c.args.self.now.first 1 n (reads_none g.D.Disk.tells g.D.Disk.clock g.D.Disk.past g.D.Disk.read_count c.args.disk.now) h.files.0 c.in_ok-bytes.ensures.scanned told h.first;
      second = begun_scan g.D.Disk.tells g.D.Disk.clock g.D.Disk.past g.D.Disk.read_count c.args.disk.now c.seek.new.disk (λ f. HasScanned f c.seek-2.new.self (n + 1)) c.args.self.now.second 2 n one h.files.1 c.in_ok-bytes-2.ensures.scanned told h.second;
      third = scanned_more (x 3) c.args.self.now.third n (n + 1) (omega arith) h.third;
      fourth = scanned_more (x 4) c.args.self.now.fourth n (n + 1) (omega arith) h.fourth;
    }

pub returns-in-Some-3-clause-found : goal.returns-in-Some-3-clause-found
returns-in-Some-3-clause-found g c told h =
    let x = reads_of (g.D.Disk.past c.args.disk.now (g.D.Disk.clock c.args.disk.now)) in
    let n = c.args.number in
    let one = c.in_ok-bytes.ensures.only_reads in
    let two = reads_after g.D.Disk.tells g.D.Disk.clock g.D.Disk.past g.D.Disk.read_count c.args.disk.now c.seek.new.disk c.seek-2.new.disk one c.in_ok-bytes-2.ensures.only_reads in
    let first = begun_scan g.D.Disk.tells g.D.Disk.clock g.D.Disk.past g.D.Disk.read_count c.args.disk.now c.args.disk.now (λ f. Sought f n c.in_ok-bytes.field-0) c.args.self.now.first 1 n (reads_none g.D.Disk.tells g.D.Disk.clock g.D.Disk.past g.D.Disk.read_count c.args.disk.now) h.files.0 c.in_ok-bytes.ensures.found told h.first in
    let second = begun_scan g.D.Disk.tells g.D.Disk.clock g.D.Disk.past g.D.Disk.read_count c.args.disk.now c.seek.new.disk (λ f. Sought f n c.in_ok-bytes-2.field-0) c.args.self.now.second 2 n one h.files.1 c.in_ok-bytes-2.ensures.found told h.second in
    let third = begun_scan g.D.Disk.tells g.D.Disk.clock g.D.Disk.past g.D.Disk.read_count c.args.disk.now c.seek-2.new.disk (λ f. Sought f n c.in_ok-bytes-3.field-0) c.args.self.now.third 3 n two h.files.2 c.in_ok-bytes-3.ensures.found told h.third in
    found_at x n 3 c.in_ok-bytes-3.field-0 c.in-Some-3.bytes (omega arith, omega arith) c.in-Some-3.is third (below_next x n 2 c.in_ok-bytes-2.field-0 c.in_default-2.not-Some second (below_next x n 1 c.in_ok-bytes.field-0 c.in_default.not-Some first (below_first x n)))

pub returns-in-Some-3-clause-scanned : goal.returns-in-Some-3-clause-scanned
returns-in-Some-3-clause-scanned g c told h =
    let x = reads_of (g.D.Disk.past c.args.disk.now (g.D.Disk.clock c.args.disk.now)) in
    let n = c.args.number in
    let one = c.in_ok-bytes.ensures.only_reads in
    let two = reads_after g.D.Disk.tells g.D.Disk.clock g.D.Disk.past g.D.Disk.read_count c.args.disk.now c.seek.new.disk c.seek-2.new.disk one c.in_ok-bytes-2.ensures.only_reads in
    record {
      files = (c.in_ok-bytes.ensures.file ∙ h.files.0, c.in_ok-bytes-2.ensures.file ∙ h.files.1, c.in_ok-bytes-3.ensures.file ∙ h.files.2, h.files.3);
      first = begun_scan g.D.Disk.tells g.D.Disk.clock g.D.Disk.past g.D.Disk.read_count c.args.disk.now c.args.disk.now (λ f. HasScanned f c.seek.new.self (n + 1)) c.args.self.now.first 1 n (reads_none g.D.Disk.tells g.D.Disk.clock g.D.Disk.past g.D.Disk.read_count c.args.disk.now) h.files.0 c.in_ok-bytes.ensures.scanned told h.first;
      second = begun_scan g.D.Disk.tells g.D.Disk.clock g.D.Disk.past g.D.Disk.read_count c.args.disk.now c.seek.new.disk (λ f. HasScanned f c.seek-2.new.self (n + 1)) c.args.self.now.second 2 n one h.files.1 c.in_ok-bytes-2.ensures.scanned told h.second;
      third = begun_scan g.D.Disk.tells g.D.Disk.clock g.D.Disk.past g.D.Disk.read_count c.args.disk.now c.seek-2.new.disk (λ f. HasScanned f c.seek-3.new.self (n + 1)) c.args.self.now.third 3 n two h.files.2 c.in_ok-bytes-3.ensures.scanned told h.third;
      fourth = scanned_more (x 4) c.args.self.now.fourth n (n + 1) (omega arith) h.fourth;
    }

pub returns-clause-found : goal.returns-clause-found
returns-clause-found g c told h =
    let x = reads_of (g.D.Disk.past c.args.disk.now (g.D.Disk.clock c.args.disk.now)) in
    let n = c.args.number in
    let one = c.in_ok-bytes.ensures.only_reads in
    let two = reads_after g.D.Disk.tells g.D.Disk.clock g.D.Disk.past g.D.Disk.read_count c.args.disk.now c.seek.new.disk c.seek-2.new.disk one c.in_ok-bytes-2.ensures.only_reads in
    let three = reads_after g.D.Disk.tells g.D.Disk.clock g.D.Disk.past g.D.Disk.read_count c.args.disk.now c.seek-2.new.disk c.seek-3.new.disk two c.in_ok-bytes-3.ensures.only_reads in
    let first = begun_scan g.D.Disk.tells g.D.Disk.clock g.D.Disk.past g.D.Disk.read_count c.args.disk.now c.args.disk.now (λ f. Sought f n c.in_ok-bytes.field-0) c.args.self.now.first 1 n (reads_none g.D.Disk.tells g.D.Disk.clock g.D.Disk.past g.D.Disk.read_count c.args.disk.now) h.files.0 c.in_ok-bytes.ensures.found told h.first in
    let second = begun_scan g.D.Disk.tells g.D.Disk.clock g.D.Disk.past g.D.Disk.read_count c.args.disk.now c.seek.new.disk (λ f. Sought f n c.in_ok-bytes-2.field-0) c.args.self.now.second 2 n one h.files.1 c.in_ok-bytes-2.ensures.found told h.second in
    let third = begun_scan g.D.Disk.tells g.D.Disk.clock g.D.Disk.past g.D.Disk.read_count c.args.disk.now c.seek-2.new.disk (λ f. Sought f n c.in_ok-bytes-3.field-0) c.args.self.now.third 3 n two h.files.2 c.in_ok-bytes-3.ensures.found told h.third in
    let fourth = begun_scan g.D.Disk.tells g.D.Disk.clock g.D.Disk.past g.D.Disk.read_count c.args.disk.now c.seek-3.new.disk (λ f. IfOk c.seek-4.result (Sought f n)) c.args.self.now.fourth 4 n three h.files.3 c.seek-4.ensures.found told h.fourth in
    found_by_last x n c.seek-4.result fourth (below_next x n 3 c.in_ok-bytes-3.field-0 c.in_default-3.not-Some third (below_next x n 2 c.in_ok-bytes-2.field-0 c.in_default-2.not-Some second (below_next x n 1 c.in_ok-bytes.field-0 c.in_default.not-Some first (below_first x n))))
