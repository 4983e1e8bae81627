-- Records by their parts: header, body, checksum.
use Rattle.std.proofs.Common.{◌≡◌, ◌+◌, ◌≤◌, ℕ, List, ◌++◌, get_or, length, take, drop, All, refl, sym, ap, ap₂, ◌∙◌, arith, append_assoc, length-append, length-take}
use Rattle.std.proofs.lemmas.List.{take_at, drop_at, take-append-drop, drop-drop, drop-take, length-take-le, take-take}
use Rattle.pdb_cells.specs.Puts.{IsWholeCell, NoCellTwice}
use Rattle.pdb_cells.specs.declared.Put.{Put}
use Rattle.pdb_model.specs.Gates.{checksum, sealed}
use Rattle.pdb_model.specs.Records.{HasRecord, IsEndOfLog, Record, body_bytes, header_bytes, record_bytes}
use Rattle.pdb_record.specs.Heads.{IsHeaderOf}
use Rattle.pdb_record.specs.declared.heads.Head.{Head}
use Rattle.pdb_record.proofs.Lengths.{checksum_len, header_len}

abbrev pub head_of : Record → Head
head_of x = record { number = x.number; commits = x.commits; body = length (body_bytes x.puts); puts = length x.puts }

-- the parts of a record with which these bytes begin
pub record Parts (bytes : List ℕ) (x : Record) : Type 0 where
  pub head : IsHeaderOf (take 48 bytes) (head_of x)
  pub long : 48 ≤ length bytes
  pub rest : List ℕ
  pub is : bytes ≡ sealed (take 48 bytes ++ body_bytes x.puts) ++ rest

front_of : (bytes h b c rest : List ℕ) → length h ≡ 48 → bytes ≡ ((h ++ b) ++ c) ++ rest → take 48 bytes ≡ h
front_of bytes h b c rest len is =
    ap (take 48) (is ∙ (append_assoc (h ++ b) c rest ∙ append_assoc h b (c ++ rest))) ∙ take_at h (b ++ (c ++ rest)) 48 len

pub parts : (bytes : List ℕ) (x : Record) → HasRecord bytes 0 x → Parts bytes x
unfolding record_bytes
parts bytes x has =
    let h : List ℕ = header_bytes x.number x.commits (length (body_bytes x.puts)) (length x.puts) in
    let len : length h ≡ 48 = header_len x.number x.commits (length (body_bytes x.puts)) (length x.puts) in
    let is : bytes ≡ sealed (h ++ body_bytes x.puts) ++ has.rest = has.there in
    let front : take 48 bytes ≡ h = front_of bytes h (body_bytes x.puts) (checksum (h ++ body_bytes x.puts)) has.rest len is in
    let long : 48 ≤ length bytes = omega (arith, length-take 48 bytes, ap length front, len) in
    record {
      head = record { spelled = front; is = has.is.header };
      long = long;
      rest = has.rest;
      is = is ∙ ap (λ t. sealed (t ++ body_bytes x.puts) ++ has.rest) (sym front);
    }

pub put_together : (bytes : List ℕ) (h : Head) (ps : List Put) (rest : List ℕ) → IsHeaderOf (take 48 bytes) h → All IsWholeCell ps → NoCellTwice ps
    → h.body ≡ length (body_bytes ps) → h.puts ≡ length ps → bytes ≡ sealed (take 48 bytes ++ body_bytes ps) ++ rest
    → HasRecord bytes 0 (record { number = h.number; commits = h.commits; puts = ps })
unfolding record_bytes
put_together bytes h ps rest head whole once body count is =
    let front : take 48 bytes ≡ header_bytes h.number h.commits (length (body_bytes ps)) (length ps)
    = head.spelled ∙ ap₂ (λ (b n : ℕ). header_bytes h.number h.commits b n) body count in
    record {
      is = record {
        header = record {
          first = head.is.first;
          narrow_number = head.is.narrow_number;
          narrow_commits = head.is.narrow_commits;
          short = omega (arith, head.is.short, body);
          narrow_puts = omega (arith, head.is.narrow_puts, count);
        };
        whole = whole;
        once = once;
      };
      rest = rest;
      there = is ∙ ap (λ t. sealed (t ++ body_bytes ps) ++ rest) front;
    }

-- how long bytes are that begin with a header, a body and their checksum
pub sealed_len : (bytes b rest : List ℕ) → 48 ≤ length bytes → bytes ≡ sealed (take 48 bytes ++ b) ++ rest → length bytes ≡ 56 + length b + length rest
sealed_len bytes b rest long is =
    let c : List ℕ = checksum (take 48 bytes ++ b) in
    omega (
      arith,
      ap length is,
      length-append ((take 48 bytes ++ b) ++ c) rest,
      length-append (take 48 bytes ++ b) c,
      length-append (take 48 bytes) b,
      length-take-le 48 bytes long,
      checksum_len (take 48 bytes ++ b),
    )

-- header and body are the bytes in front
pub covered : (bytes b rest : List ℕ) (n : ℕ) → 48 ≤ length bytes → length b ≡ n → bytes ≡ sealed (take 48 bytes ++ b) ++ rest → take (48 + n) bytes ≡ take 48 bytes ++ b
covered bytes b rest n long len is =
    let c : List ℕ = checksum (take 48 bytes ++ b) in
    let size : length (take 48 bytes ++ b) ≡ 48 + n = omega (arith, length-append (take 48 bytes) b, length-take-le 48 bytes long) in
    ap (take (48 + n)) (is ∙ append_assoc (take 48 bytes ++ b) c rest) ∙ take_at (take 48 bytes ++ b) (c ++ rest) (48 + n) size

-- and the checksum comes after them
pub checked : (bytes b rest : List ℕ) (n : ℕ) → 48 ≤ length bytes → length b ≡ n → bytes ≡ sealed (take 48 bytes ++ b) ++ rest
    → take 8 (drop (48 + n) bytes) ≡ checksum (take (48 + n) bytes)
checked bytes b rest n long len is =
    let c : List ℕ = checksum (take 48 bytes ++ b) in
    let size : length (take 48 bytes ++ b) ≡ 48 + n = omega (arith, length-append (take 48 bytes) b, length-take-le 48 bytes long) in
    ap (λ t. take 8 (drop (48 + n) t)) (is ∙ append_assoc (take 48 bytes ++ b) c rest)
    ∙ (ap (take 8) (drop_at (take 48 bytes ++ b) (c ++ rest) (48 + n) size)
    ∙ (take_at c rest 8 (checksum_len (take 48 bytes ++ b)) ∙ ap checksum (sym (covered bytes b rest n long len is))))

-- of one length there is one body
pub same_body : (bytes b c r s : List ℕ) → 48 ≤ length bytes → length b ≡ length c → bytes ≡ sealed (take 48 bytes ++ b) ++ r → bytes ≡ sealed (take 48 bytes ++ c) ++ s → b ≡ c
same_body bytes b c r s long len one other =
    let size : length (take 48 bytes) ≡ 48 = length-take-le 48 bytes long in
    sym (drop_at (take 48 bytes) b 48 size)
    ∙ (ap (drop 48) (sym (covered bytes b r (length b) long refl one) ∙ covered bytes c s (length b) long (sym len) other)
    ∙ drop_at (take 48 bytes) c 48 size)

take_sum : (m n : ℕ) (xs : List ℕ) → take (m + n) xs ≡ take m xs ++ take n (drop m xs)
take_sum m n xs = sym (take-append-drop m (take (m + n) xs)) ∙ ap₂ (λ (u v : List ℕ). u ++ v) (take-take m (m + n) xs (omega arith)) (drop-take m n xs)

-- a header, a body and their checksum in front of bytes
pub seal_found : (bytes : List ℕ) (n : ℕ) → 56 + n ≤ length bytes → take 8 (drop (48 + n) bytes) ≡ checksum (take (48 + n) bytes)
    → bytes ≡ sealed (take 48 bytes ++ take n (drop 48 bytes)) ++ drop (56 + n) bytes
seal_found bytes n within is =
    let front : take (48 + n) bytes ≡ take 48 bytes ++ take n (drop 48 bytes) = take_sum 48 n bytes in
    let tail : drop 8 (drop (48 + n) bytes) ≡ drop (56 + n) bytes = drop-drop 8 (48 + n) bytes ∙ (let k : 48 + n + 8 ≡ 56 + n = omega arith in ap (λ m. drop m bytes) k) in
    let back : drop (48 + n) bytes ≡ checksum (take (48 + n) bytes) ++ drop (56 + n) bytes
    = sym (take-append-drop 8 (drop (48 + n) bytes)) ∙ ap₂ (λ (u v : List ℕ). u ++ v) is tail in
    sym (take-append-drop (48 + n) bytes) ∙ (ap (λ t. take (48 + n) bytes ++ t) back
    ∙ (sym (append_assoc (take (48 + n) bytes) (checksum (take (48 + n) bytes)) (drop (56 + n) bytes)) ∙ ap (λ t. sealed t ++ drop (56 + n) bytes) front))

-- a record's first byte is no zero
pub not_end : (bytes : List ℕ) (x : Record) → HasRecord bytes 0 x → ¬ IsEndOfLog bytes 0
unfolding header_bytes
not_end bytes x has = λ zeros.
    let p : Parts bytes x = parts bytes x has in
    let first : get_or (take 48 bytes) 0 0 ≡ 83 = ap (λ t. get_or t 0 0) p.head.spelled in
    let zero : get_or (take 48 bytes) 0 0 ≡ 0 = zeros 0 0 (omega (arith, length-take-le 48 bytes p.long)) in
    absurd (omega arith)

-- a record at a place is one at the start of what is left there
pub has_left : (bytes left : List ℕ) (at : ℕ) (x : Record) → left ≡ drop at bytes → HasRecord bytes at x → HasRecord left 0 x
has_left bytes left at x e has = record { is = has.is; rest = has.rest; there = e ∙ has.there }

pub has_there : (bytes left : List ℕ) (at : ℕ) (x : Record) → left ≡ drop at bytes → HasRecord left 0 x → HasRecord bytes at x
has_there bytes left at x e has = record { is = has.is; rest = has.rest; there = sym e ∙ has.there }
