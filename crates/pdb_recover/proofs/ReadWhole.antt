-- Whether a record stands whole at a place, from its header and the bytes after it.
use Rattle.std.proofs.Common.{◌≡◌, ℕ, ◌+◌, ◌-◌, ◌≤◌, ◌<◌, ◌^◌, List, [], ◌∷◌, ◌++◌, Some, length, take, refl, sym, ◌∙◌, ap, subst, arith, length-append, append-nil}
use Rattle.pdb_disk.specs.Files.{FileBytes, StandsAt}
use Rattle.pdb_model.specs.Gates.{checksum}
use Rattle.pdb_model.specs.Logs.{StandsWhole}
use Rattle.pdb_model.specs.Records.{HasRecord, Record, body_bytes, header_bytes, record_bytes}
use Rattle.pdb_model.specs.Recovery.{bytes_from}
use Rattle.pdb_record.specs.Heads.{IsHeaderOf}
use Rattle.pdb_record.specs.Scans.{HasHere, WholeAnd, place, scanned}
use Rattle.pdb_record.specs.declared.heads.Head.{Head}
use Rattle.pdb_record.specs.declared.record_ref.RecordRef.{RecordRef}
use Rattle.pdb_record.specs.declared.scanner.Scan.{Scan}
use Rattle.pdb_record.specs.declared.scanner.Scanner.{Scanner}
use Rattle.pdb_record.specs.declared.scanner.Scan.TheVariants.{End, Torn, Whole}
use Rattle.pdb_record.proofs.Grammar.{Parts, head_of, parts}
use Rattle.pdb_record.proofs.Lengths.{header_len, record_len}
use Rattle.pdb_recover.specs.inner.ReadPuts.{HasNoBody}
use Rattle.pdb_recover.proofs.ReadBytes.{from_len, from_stands, from_sum, from_take, stands_left, stands_right}
use Rattle.pdb_recover.proofs.ReadRecords.{Headed, has_here, header_same, record_head}

-- how long the record with a header is
pub headed_len : (c : FileBytes) (at : ℕ) (h : Head) → Headed c at (Some h) → (r : Record) → StandsWhole c at r → length (record_bytes r) ≡ 56 + h.body
headed_len c at h is r w = let e = ap (λ (x : Head). x.body) (record_head c at h is r w) in omega (arith, e, record_len r)

pub too_long : (c : FileBytes) (at : ℕ) (h : Head) → at ≤ 2 ^ 62 → 2 ^ 62 - at < 56 + h.body → Headed c at (Some h) → (r : Record) → StandsWhole c at r → ⊥
too_long c at h start over is r w =
    let len = headed_len c at h is r w in
    let low = w.within in
    omega (arith, len, low, over, start)

body_stands : (c : FileBytes) (at : ℕ) (r : Record) → StandsAt c at (record_bytes r) → StandsAt c (at + 48) (body_bytes r.puts)
unfolding record_bytes
body_stands c at r h =
    let head : List ℕ = header_bytes r.number r.commits (length (body_bytes r.puts)) (length r.puts) in
    let front : StandsAt c at (head ++ body_bytes r.puts) = stands_left c at (head ++ body_bytes r.puts) (checksum (head ++ body_bytes r.puts)) h in
    let e : at + length head ≡ at + 48 = ap (λ n. at + n) (header_len r.number r.commits (length (body_bytes r.puts)) (length r.puts)) in
    subst (λ a. StandsAt c a (body_bytes r.puts)) e (stands_right c at head (body_bytes r.puts) front)

pub no_body : (c : FileBytes) (at : ℕ) (h : Head) → HasNoBody c (at + 48) h.body → Headed c at (Some h) → (r : Record) → StandsWhole c at r → ⊥
no_body c at h none is r w = none r.puts w.is.whole (body_stands c at r w.there) (ap (λ (x : Head). x.body) (record_head c at h is r w))

empty : (xs : List ℕ) → length xs ≡ 0 → xs ≡ []
empty [] e = refl
empty (x ∷ xs) e = absurd (omega (arith, e))

-- the record in bytes of a header's length is all of them, and stands
pub scanned_whole : (c : FileBytes) (at : ℕ) (h : Head) (x : Record) → Headed c at (Some h) → at + (56 + h.body) ≤ 2 ^ 62 → HasRecord (bytes_from c at (56 + h.body)) 0 x
    → StandsWhole c at x × (bytes_from c at (56 + h.body) ≡ record_bytes x)
scanned_whole c at h x is low has =
    let bytes : List ℕ = bytes_from c at (56 + h.body) in
    let p : Parts bytes x = parts bytes x has in
    let n : 56 + h.body ≡ 48 + (8 + h.body) = omega arith in
    let front : take 48 bytes ≡ bytes_from c at 48 = ap (λ m. take 48 (bytes_from c at m)) n ∙ from_take c at 48 (8 + h.body) in
    let same : head_of x ≡ h = header_same (bytes_from c at 48) (head_of x) h (subst (λ bs. IsHeaderOf bs (head_of x)) front p.head) is in
    let body : length (body_bytes x.puts) ≡ h.body = ap (λ (k : Head). k.body) same in
    let none : length has.rest ≡ 0 = omega (arith, body, record_len x, from_len c at (56 + h.body), ap length has.there, length-append (record_bytes x) has.rest) in
    let all : bytes ≡ record_bytes x = has.there ∙ (ap (λ bs. record_bytes x ++ bs) (empty has.rest none) ∙ append-nil (record_bytes x)) in (
      record {
        is = has.is;
        there = subst (StandsAt c at) all (from_stands c at (56 + h.body));
        within = omega (arith, low, body, record_len x);
      },
      all,
    )

-- and a record that stands is in them
pub has_headed : (c : FileBytes) (at : ℕ) (h : Head) (r : Record) → Headed c at (Some h) → StandsWhole c at r → HasRecord (bytes_from c at (56 + h.body)) 0 r
has_headed c at h r is w = subst (λ n. HasRecord (bytes_from c at n) 0 r) (headed_len c at h is r w) (has_here c at r w)

pub three_parts : (c : FileBytes) (at body : ℕ) (first one two three : List ℕ) → first ≡ [] → one ≡ first ++ bytes_from c at 48 → two ≡ one ++ bytes_from c (at + 48) body
    → three ≡ two ++ bytes_from c (at + 48 + body) 8 → three ≡ bytes_from c at (56 + body)
three_parts c at body first one two three e f k l =
    let a : two ≡ bytes_from c at (48 + body) = k ∙ (ap (λ bs. bs ++ bytes_from c (at + 48) body) (f ∙ ap (λ bs. bs ++ bytes_from c at 48) e) ∙ sym (from_sum c at 48 body)) in
    let next : at + 48 + body ≡ at + (48 + body) = omega arith in
    let n : 48 + body + 8 ≡ 56 + body = omega arith in
    l ∙ (ap (λ bs. bs ++ bytes_from c (at + 48 + body) 8) a ∙ (ap (λ p. bytes_from c at (48 + body) ++ bytes_from c p 8) next
    ∙ (sym (from_sum c at (48 + body) 8) ∙ ap (bytes_from c at) n)))

pub is_whole : (s : Scan) (P : RecordRef → Type 0) → WholeAnd s P → (r : RecordRef) × (s ≡ Whole r)
is_whole (Whole r) P h = (r, refl)
is_whole End P h = absurd h
is_whole Torn P h = absurd h

-- at the front of bytes
pub has_at : (s : Scanner) (bytes : List ℕ) (x : Record) → scanned s ≡ bytes → place s ≡ 0 → HasHere s x → HasRecord bytes 0 x
has_at s bytes x e p has = subst (λ bs. HasRecord bs 0 x) e (subst (λ n. HasRecord (scanned s) n x) p has)

pub has_front : (s : Scanner) (bytes : List ℕ) (x : Record) → scanned s ≡ bytes → place s ≡ 0 → HasRecord bytes 0 x → HasHere s x
has_front s bytes x e p has = subst (λ n. HasRecord (scanned s) n x) (sym p) (subst (λ bs. HasRecord bs 0 x) (sym e) has)
