-- Bytes begin with one record at most.
use Rattle.std.proofs.Common.{◌≡◌, ◌+◌, ℕ, List, [], ◌++◌, take, sym, ap, ◌∙◌, arith, append-nil}
use Rattle.std.specs.Prelude.{All, slice_range}
use Rattle.pdb_cells.specs.Puts.{IsWholeCell}
use Rattle.pdb_cells.specs.declared.Put.{Put}
use Rattle.pdb_model.specs.Records.{HasRecord, Record, body_bytes, header_bytes}
use Rattle.pdb_record.specs.Heads.{IsHeaderOf}
use Rattle.pdb_record.specs.declared.heads.Head.{Head}
use Rattle.pdb_record.proofs.Fields.{ReadsHead, one_head}
use Rattle.pdb_record.proofs.Grammar.{Parts, head_of, parts, same_body}
use Rattle.pdb_record.proofs.Splits.{Later, later_of, none_left}

reads_of_header : (bytes : List ℕ) (h : Head) → IsHeaderOf bytes h → ReadsHead bytes h
unfolding header_bytes
reads_of_header bytes h is = record {
  number = ap (λ b. slice_range b 8 (8 + 8)) (sym is.spelled);
  commits = ap (λ b. slice_range b 16 (16 + 8)) (sym is.spelled);
  body = ap (λ b. slice_range b 24 (24 + 8)) (sym is.spelled);
  puts = ap (λ b. slice_range b 32 (32 + 8)) (sym is.spelled);
  small_number = is.is.narrow_number;
  small_commits = is.is.narrow_commits;
  small_body = omega (arith, is.is.short);
  small_puts = is.is.narrow_puts;
}

-- one body has one list of puts
pub same_puts : (ps qs : List Put) → All IsWholeCell ps → All IsWholeCell qs → body_bytes ps ≡ body_bytes qs → ps ≡ qs
same_puts ps qs one other is =
    let later : Later qs ps [] = later_of qs ps [] other one (is ∙ sym (append-nil (body_bytes qs))) in
    let none : later.later ≡ [] = none_left later.later (sym later.left) in
    later.is ∙ ap (λ t. qs ++ t) none ∙ append-nil qs

-- and with one head and one body there is one record
pub one_record : (bytes : List ℕ) (r s : Record) → HasRecord bytes 0 r → HasRecord bytes 0 s → r ≡ s
one_record bytes r s one other =
    let p : Parts bytes r = parts bytes r one in
    let q : Parts bytes s = parts bytes s other in
    let head : head_of r ≡ head_of s = one_head (take 48 bytes) (head_of s) (head_of r) q.head (reads_of_header (take 48 bytes) (head_of r) p.head) in
    let body : body_bytes r.puts ≡ body_bytes s.puts = same_body bytes (body_bytes r.puts) (body_bytes s.puts) p.rest q.rest p.long (ap (λ (h : Head). h.body) head) p.is q.is in
    let puts : r.puts ≡ s.puts = same_puts r.puts s.puts one.is.whole other.is.whole body in
    let number : r.number ≡ s.number = ap (λ (h : Head). h.number) head in
    let commits : r.commits ≡ s.commits = ap (λ (h : Head). h.commits) head in
    λ i. record { number = number i; commits = commits i; puts = puts i }
