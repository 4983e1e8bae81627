-- Scans at the front of a log file.
use Rattle.std.proofs.Common.{◌≡◌, ℕ, ◌+◌, [], Option, Some, None, length, refl, sym, ap, subst, arith}
use Rattle.pdb_disk.specs.Files.{FileBytes}
use Rattle.pdb_model.specs.Logs.{StandsWhole}
use Rattle.pdb_model.specs.Records.{Record}
use Rattle.pdb_record.specs.declared.heads.Head.{Head}
use Rattle.pdb_log.proofs.Members.{in_none}
use Rattle.pdb_recover.specs.Scanning.{HeaderGoesOn, HasScanned, IsFront}
use Rattle.pdb_recover.specs.declared.cursor.Cursor.{Cursor}
use Rattle.pdb_recover.proofs.ReadRecords.{Headed, no_record, record_head}

pub front_scan : (c : FileBytes) (cursor : Cursor) (n : ℕ) → cursor.at ≡ 0 → Headed c 0 cursor.head → HasScanned c cursor n
front_scan c cursor n start is = by_head cursor.head refl is
  where
    by_head : (o : Option Head) → cursor.head ≡ o → Headed c 0 o → HasScanned c cursor n
    by_head None e h =
        let shut : (r : Record) → StandsWhole c cursor.at r → ⊥ = subst (λ a. (r : Record) → StandsWhole c a r → ⊥) (sym start) (no_record c 0 h) in
        record {
          first = 0;
          before = [];
          row = start;
          below = λ r k. absurd (in_none r k);
          next = subst (λ o. HeaderGoesOn c cursor.at (0 + length {A = Record} []) o) (sym e) (λ r w k. shut r w);
          front = subst (λ o. IsFront c [] o) (sym e) (no_record c 0 h);
        }
    by_head (Some head) e h =
        let numbered : (r : Record) → StandsWhole c 0 r → r.number ≡ head.number + 0 = λ r w. let k = ap (λ (x : Head). x.number) (record_head c 0 head h r w) in omega (arith, k) in
        record {
          first = head.number;
          before = [];
          row = start;
          below = λ r k. absurd (in_none r k);
          next = subst (λ o. HeaderGoesOn c cursor.at (head.number + length {A = Record} []) o) (sym e)
              (omega arith, subst (λ a. (r : Record) → StandsWhole c a r → r.number ≡ head.number + 0) (sym start) numbered);
          front = subst (λ o. IsFront c [] o) (sym e) tt;
        }
