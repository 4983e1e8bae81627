-- How far recovery's reading of the log files has come.
use Rattle.std.proofs.Common.{◌≡◌, ℕ, ◌+◌, Bool, List, [], Option, Some, None, refl, ◌∙◌, subst}
use Rattle.std.specs.Prelude.{IsTrue, MatchOption}
use Rattle.pdb_cells.specs.declared.Put.{Put}
use Rattle.pdb_disk.specs.Files.{FileBytes, Files, reads_of}
use Rattle.pdb_model.specs.Logs.{HasGate, IsGate}
use Rattle.pdb_model.specs.Records.{IsRecord, Record, record_bytes}
use Rattle.pdb_model.specs.declared.gate_slot.GateSlot.{GateSlot}
use Rattle.pdb_recover.specs.Scanning.{HaveScanned, OnlyReads, puts_all}
use Rattle.pdb_recover.specs.declared.log_files.LogFiles.{LogFiles}
use Rattle.pdb_recover.specs.inner.NextRecords.{FindsNext}
use Rattle.pdb_recover.proofs.ReadBytes.{reads_after, same_files}
use Rattle.pdb_recover.proofs.TakenRecords.{HaveTaken, taken_next, taken_none}

-- the gate that was read is in force
pub gate_there : (c : FileBytes) (o : Option GateSlot) (g : GateSlot) → o ≡ Some g → MatchOption o ((h : GateSlot) → HasGate c h → ⊥) (IsGate c) → IsGate c g
gate_there c o g e h = subst (λ p. MatchOption p ((h : GateSlot) → HasGate c h → ⊥) (IsGate c)) e h

-- since the start the disk was only read, and the records up to this number are taken
pub record Takes {D : Type 0} (tells : D → Bool) (clock : D → ℕ) (past : D → ℕ → Files) (read_count fault_count : D → ℕ) (start now : D) (gate : GateSlot) (logs : LogFiles) (last count : ℕ) (puts : List Put) : Type 0 where
  pub reads : OnlyReads tells clock past read_count start now
  pub faults : fault_count now ≡ fault_count start
  pub taken : IsTrue (tells start) → HaveTaken (reads_of (past start (clock start))) logs gate.number gate.commits last count puts

pub takes_none : {D : Type 0} (tells : D → Bool) (clock : D → ℕ) (past : D → ℕ → Files) (read_count fault_count : D → ℕ) (start gated now : D) (gate : GateSlot) (logs : LogFiles)
    → OnlyReads tells clock past read_count start gated → OnlyReads tells clock past read_count gated now → fault_count gated ≡ fault_count start → fault_count now ≡ fault_count gated
    → (IsTrue (tells gated) → (n : ℕ) → HaveScanned (reads_of (past gated (clock gated))) logs n)
    → Takes tells clock past read_count fault_count start now gate logs gate.number gate.commits []
takes_none tells clock past read_count fault_count start gated now gate logs one other f k begun = record {
  reads = reads_after tells clock past read_count start gated now one other;
  faults = k ∙ f;
  taken = λ told. taken_none (reads_of (past start (clock start))) logs gate.number gate.commits
      (subst (λ (fs : Files). HaveScanned (reads_of fs) logs (gate.number + 1)) (same_files clock past start gated one.time one.unchanged) (begun (one.told told) (gate.number + 1)));
}

-- what is found next, of the files as at the start
pub next_there : {D : Type 0} (tells : D → Bool) (clock : D → ℕ) (past : D → ℕ → Files) (read_count fault_count : D → ℕ) (start now : D) (gate : GateSlot) (logs next : LogFiles) (last count : ℕ) (puts : List Put)
    → Takes tells clock past read_count fault_count start now gate logs last count puts → (o : Option (List ℕ))
    → (IsTrue (tells now) → HaveScanned (reads_of (past now (clock now))) logs (last + 1) → FindsNext (reads_of (past now (clock now))) next last o)
    → IsTrue (tells start) → FindsNext (reads_of (past start (clock start))) next last o
next_there tells clock past read_count fault_count start now gate logs next last count puts t o finds told =
    let same : past now (clock now) ≡ past start (clock start) = same_files clock past start now t.reads.time t.reads.unchanged in
    subst (λ (fs : Files). HaveScanned (reads_of fs) logs (last + 1) → FindsNext (reads_of fs) next last o) same (finds (t.reads.told told)) (t.taken told).scanned

pub takes_next : {D : Type 0} (tells : D → Bool) (clock : D → ℕ) (past : D → ℕ → Files) (read_count fault_count : D → ℕ) (start now then : D) (gate : GateSlot) (logs next : LogFiles) (last count later : ℕ) (puts new : List Put)
    → Takes tells clock past read_count fault_count start now gate logs last count puts → (o : Option (List ℕ)) (b : List ℕ) → o ≡ Some b
    → (IsTrue (tells now) → HaveScanned (reads_of (past now (clock now))) logs (last + 1) → FindsNext (reads_of (past now (clock now))) next last o)
    → OnlyReads tells clock past read_count now then → fault_count then ≡ fault_count now
    → ((r : Record) → IsRecord r → b ≡ record_bytes r → later ≡ r.commits)
    → ((r : Record) → IsRecord r → b ≡ record_bytes r → new ≡ puts_all puts r.puts)
    → Takes tells clock past read_count fault_count start then gate next (last + 1) later new
takes_next tells clock past read_count fault_count start now then gate logs next last count later puts new t o b e finds only faults counted lays = record {
  reads = reads_after tells clock past read_count start now then t.reads only;
  faults = faults ∙ t.faults;
  taken = λ told. taken_next (reads_of (past start (clock start))) logs next gate.number gate.commits last count later puts new b (t.taken told)
      (subst (FindsNext (reads_of (past start (clock start))) next last) e (next_there tells clock past read_count fault_count start now gate logs next last count puts t o finds told)) counted lays;
}

no_next : (P : Option (List ℕ) → Type 0) (o : Option (List ℕ)) → ((b : List ℕ) → o ≡ Some b → ⊥) → P o → P None
no_next P None none h = h
no_next P (Some b) none h = absurd (none b refl)

-- no record is left
pub none_there : {D : Type 0} (tells : D → Bool) (clock : D → ℕ) (past : D → ℕ → Files) (read_count fault_count : D → ℕ) (start now : D) (gate : GateSlot) (logs next : LogFiles) (last count : ℕ) (puts : List Put)
    → Takes tells clock past read_count fault_count start now gate logs last count puts → (o : Option (List ℕ)) → ((b : List ℕ) → o ≡ Some b → ⊥)
    → (IsTrue (tells now) → HaveScanned (reads_of (past now (clock now))) logs (last + 1) → FindsNext (reads_of (past now (clock now))) next last o)
    → IsTrue (tells start) → FindsNext (reads_of (past start (clock start))) next last None
none_there tells clock past read_count fault_count start now gate logs next last count puts t o none finds told =
    no_next (FindsNext (reads_of (past start (clock start))) next last) o none
    (next_there tells clock past read_count fault_count start now gate logs next last count puts t o finds told)
