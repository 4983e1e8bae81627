-- Records that stand in a file, by their headers.
use Rattle.std.proofs.Common.{◌≡◌, ℕ, ◌+◌, ◌≤◌, ◌^◌, List, Option, Some, None, length, take, refl, sym, ◌∙◌, ap, subst, arith}
use Rattle.std.specs.Prelude.{MatchOption, IfSome, slice_range}
use Rattle.pdb_disk.specs.Files.{FileBytes, StandsAt}
use Rattle.pdb_model.specs.Logs.{StandsWhole}
use Rattle.pdb_model.specs.Records.{HasRecord, Record, body_bytes, header_bytes, record_bytes}
use Rattle.pdb_model.specs.Recovery.{bytes_from}
use Rattle.pdb_record.specs.Heads.{IsHeaderOf}
use Rattle.pdb_record.specs.declared.heads.Head.{Head}
use Rattle.pdb_record.proofs.Fields.{same_number}
use Rattle.pdb_record.proofs.Grammar.{Parts, head_of, parts}
use Rattle.pdb_record.proofs.Lengths.{record_len}
use Rattle.pdb_log.proofs.Bytes.{stands_first}
use Rattle.pdb_recover.proofs.ReadBytes.{from_take, read_is}

-- what the header at a place says
abbrev pub Headed : FileBytes → ℕ → Option Head → Type 0
Headed c at o = MatchOption o ((h : Head) → IsHeaderOf (bytes_from c at 48) h → ⊥) (λ h. IsHeaderOf (bytes_from c at 48) h)

none_some : (o : Option Head) (h : Head) → o ≡ None → o ≡ Some h → ⊥
none_some o h p q = cc

header_read : (xs ys : List ℕ) (o : Option Head) → xs ≡ ys → ((h : Head) → IsHeaderOf xs h → o ≡ Some h) → IfSome o (λ h. IsHeaderOf xs h)
    → MatchOption o ((h : Head) → IsHeaderOf ys h → ⊥) (λ h. IsHeaderOf ys h)
header_read xs ys None e whole only = λ h is. none_some None h refl (whole h (subst (λ bs. IsHeaderOf bs h) (sym e) is))
header_read xs ys (Some h) e whole only = subst (λ bs. IsHeaderOf bs h) e only

pub headed : (c : FileBytes) (at : ℕ) (xs : List ℕ) (o : Option Head) → length xs ≡ 48 → StandsAt c at xs
    → ((h : Head) → IsHeaderOf xs h → o ≡ Some h) → IfSome o (λ h. IsHeaderOf xs h) → Headed c at o
headed c at xs o len h whole only = header_read xs (bytes_from c at 48) o (read_is c at xs 48 len h) whole only

-- a body is not too long
pub short_body : (xs : List ℕ) (o : Option Head) → IfSome o (λ h. IsHeaderOf xs h) → IfSome o (λ h. h.body ≤ 2 ^ 62)
short_body xs None is = tt
short_body xs (Some h) is = is.is.short

-- one header at most is spelled by some bytes
pub header_same : (bytes : List ℕ) (g h : Head) → IsHeaderOf bytes g → IsHeaderOf bytes h → g ≡ h
unfolding header_bytes
header_same bytes g h is too =
    let e : header_bytes g.number g.commits g.body g.puts ≡ header_bytes h.number h.commits h.body h.puts = sym is.spelled ∙ too.spelled in
    let number : g.number ≡ h.number = same_number _ _ is.is.narrow_number too.is.narrow_number (ap (λ b. slice_range b 8 (8 + 8)) e) in
    let commits : g.commits ≡ h.commits = same_number _ _ is.is.narrow_commits too.is.narrow_commits (ap (λ b. slice_range b 16 (16 + 8)) e) in
    let body : g.body ≡ h.body = same_number _ _ (omega (arith, is.is.short)) (omega (arith, too.is.short)) (ap (λ b. slice_range b 24 (24 + 8)) e) in
    let puts : g.puts ≡ h.puts = same_number _ _ is.is.narrow_puts too.is.narrow_puts (ap (λ b. slice_range b 32 (32 + 8)) e) in
    λ i. record { number = number i; commits = commits i; body = body i; puts = puts i }

pub has_here : (c : FileBytes) (at : ℕ) (r : Record) → StandsWhole c at r → HasRecord (bytes_from c at (length (record_bytes r))) 0 r
has_here c at r w = record {
  is = w.is;
  rest = bytes_from c (at + length (record_bytes r)) 0;
  there = stands_first c at (record_bytes r) (length (record_bytes r)) 0 (omega arith) w.there;
}

-- where a record stands its header does
pub record_headed : (c : FileBytes) (at : ℕ) (r : Record) → StandsWhole c at r → IsHeaderOf (bytes_from c at 48) (head_of r)
record_headed c at r w =
    let n : ℕ = length (record_bytes r) in
    let whole : HasRecord (bytes_from c at n) 0 r = has_here c at r w in
    let p : Parts (bytes_from c at n) r = parts (bytes_from c at n) r whole in
    let long : n ≡ 48 + (8 + length (body_bytes r.puts)) = omega (arith, record_len r) in
    let front : take 48 (bytes_from c at n) ≡ bytes_from c at 48 = ap (λ m. take 48 (bytes_from c at m)) long ∙ from_take c at 48 (8 + length (body_bytes r.puts)) in
    subst (λ bs. IsHeaderOf bs (head_of r)) front p.head

pub no_record : (c : FileBytes) (at : ℕ) → Headed c at None → (r : Record) → StandsWhole c at r → ⊥
no_record c at none r w = none (head_of r) (record_headed c at r w)

pub record_head : (c : FileBytes) (at : ℕ) (h : Head) → Headed c at (Some h) → (r : Record) → StandsWhole c at r → head_of r ≡ h
record_head c at h is r w = header_same (bytes_from c at 48) (head_of r) h (record_headed c at r w) is
