-- How long checksums, headers and records are.
use Rattle.std.proofs.Common.{◌≡◌, ◌+◌, ℕ, List, ◌++◌, length, refl, arith, length-append}
use Rattle.sdb_blake2.specs.Blake2b.{H, digest, state_bytes}
use Rattle.pdb_model.specs.Gates.{checksum}
use Rattle.pdb_model.specs.Records.{Record, body_bytes, header_bytes, record_bytes}

pub checksum_len : (m : List ℕ) → length (checksum m) ≡ 8
unfolding H digest state_bytes
checksum_len m = refl

pub header_len : (number commits body puts : ℕ) → length (header_bytes number commits body puts) ≡ 48
unfolding header_bytes H digest state_bytes
header_len number commits body puts = refl

pub record_len : (x : Record) → length (record_bytes x) ≡ 56 + length (body_bytes x.puts)
unfolding record_bytes
record_len x =
    let head : List ℕ = header_bytes x.number x.commits (length (body_bytes x.puts)) (length x.puts) in
    let front : length (head ++ body_bytes x.puts) ≡ length head + length (body_bytes x.puts) = length-append head (body_bytes x.puts) in
    let whole : length (record_bytes x) ≡ length (head ++ body_bytes x.puts) + length (checksum (head ++ body_bytes x.puts)) = length-append (head ++ body_bytes x.puts) (checksum (head ++ body_bytes x.puts)) in
    omega (arith, whole, front, header_len x.number x.commits (length (body_bytes x.puts)) (length x.puts), checksum_len (head ++ body_bytes x.puts))
