-- What a scanner answers, and what is borrowed of a record.
use Rattle.std.specs.Prelude.{◌≡◌, ℕ, ◌+◌, List, ◌++◌, length, All}
use Rattle.pdb_cells.specs.Puts.{IsWholeCell}
use Rattle.pdb_cells.specs.declared.Put.{Put}
use Rattle.pdb_model.specs.Records.{HasRecord, IsEndOfLog, Record, body_bytes, put_bytes, record_bytes}
use Rattle.pdb_record.specs.declared.put_refs.PutRef.{PutRef}
use Rattle.pdb_record.specs.declared.put_refs.PutRefs.{PutRefs}
use Rattle.pdb_record.specs.declared.record_ref.RecordRef.{RecordRef}
use Rattle.pdb_record.specs.declared.scanner.Scan.{Scan}
use Rattle.pdb_record.specs.declared.scanner.Scan.TheVariants.{End, Torn, Whole}
use Rattle.pdb_record.specs.declared.scanner.Scanner.{Scanner}

-- the put that is borrowed
abbrev pub put_of : PutRef → Put
put_of p = record { name = p.name; bytes = p.bytes.now }

-- what is borrowed of this record: its numbers, its length and its body, all of whole cells
pub record Shows (r : RecordRef) (x : Record) : Type 0 where
  pub number : r.number ≡ x.number
  pub commits : r.commits ≡ x.commits
  pub puts : r.puts ≡ length x.puts
  pub body : r.body.now ≡ body_bytes x.puts
  pub whole : All IsWholeCell x.puts

-- these puts are still to come, all of whole cells
pub record Leaves (it : PutRefs) (puts : List Put) : Type 0 where
  pub bytes : it.left.now ≡ body_bytes puts
  pub whole : All IsWholeCell puts

-- the bytes that are scanned, and the place that the scanner has come to
abbrev pub scanned : Scanner → List ℕ
scanned s = s.bytes.now

abbrev pub place : Scanner → ℕ
place s = s.at

-- there is this record, whole, at the scanner's place
abbrev pub HasHere : Scanner → Record → Type 0
HasHere s x = HasRecord (scanned s) (place s) x

-- a scanner has come to the byte after the record
abbrev pub IsPast : Record → Scanner → Scanner → Type 0
IsPast x before after = place after ≡ place before + length (record_bytes x)

-- the record's body is the part of the scanned bytes that begins so many bytes in
abbrev pub BodyIsAt : RecordRef → Scanner → ℕ → Type 0
BodyIsAt r s n = r.body.ref_ptr ≡ (s.bytes.ref_ptr.0, s.bytes.ref_ptr.1 + n)

-- the put is the first one before, of a whole cell, and the others are left after
abbrev pub IsTaken : PutRef → PutRefs → PutRefs → Type 0
IsTaken p before after = IsWholeCell (put_of p) × (before.left.now ≡ put_bytes (put_of p) ++ after.left.now)

-- the puts are read from the record's own body
abbrev pub ReadFrom : PutRefs → RecordRef → Type 0
ReadFrom it r = it.left.ref_ptr ≡ r.body.ref_ptr

-- the cell's bytes are those after the 10 that name it
abbrev pub IsNextOf : PutRef → PutRefs → Type 0
IsNextOf p it = p.bytes.ref_ptr ≡ (it.left.ref_ptr.0, it.left.ref_ptr.1 + 10)

-- so many bytes on in the same body
abbrev pub IsFurther : PutRefs → PutRefs → ℕ → Type 0
IsFurther before after n = after.left.ref_ptr ≡ (before.left.ref_ptr.0, before.left.ref_ptr.1 + n)

-- there is a whole record, and it has this
abbrev pub WholeAnd : Scan → (RecordRef → Type 0) → Type 0
WholeAnd (Whole r) P = P r
WholeAnd End P = ⊥
WholeAnd Torn P = ⊥

-- a record that is whole has this
abbrev pub IfWhole : Scan → (RecordRef → Type 0) → Type 0
IfWhole (Whole r) P = P r
IfWhole End P = Unit {0}
IfWhole Torn P = Unit {0}

-- What there is at the scanner's place: a record, the end of the log, or neither.
abbrev pub IsScan : Scan → Scanner → Type 0
IsScan (Whole r) s = (x : Record) × HasHere s x × Shows r x
IsScan End s = IsEndOfLog (scanned s) (place s)
IsScan Torn s = ((x : Record) → ¬ HasHere s x) × ¬ IsEndOfLog (scanned s) (place s)

-- The scanned bytes are the same after it, and after End and Torn so is the scanner.
abbrev pub ComesTo : Scan → Scanner → Scanner → Type 0
ComesTo (Whole r) s t = t.bytes ≡ s.bytes
ComesTo End s t = t ≡ s
ComesTo Torn s t = t ≡ s
