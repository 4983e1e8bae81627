-- What a scan of a log file comes to.
use Rattle.std.proofs.Common.{◌≡◌, ◌<◌, ◌≤◌, ◌+◌, ℕ, zero, suc, List, [], ◌∷◌, ◌++◌, length, slice_index, refl, sym, ap, subst, ◌∙◌, arith}
use Rattle.pdb_disk.specs.Files.{FileBytes, Image}
use Rattle.pdb_model.specs.Logs.{AreInARow, AreRecovered, IsFound, IsLogFile, IsScanned, StandsWhole}
use Rattle.pdb_model.specs.Records.{Record, header_bytes, record_bytes}

-- a record begins with an S
first_byte : (r : Record) → slice_index (record_bytes r) 0 ≡ 83
unfolding record_bytes header_bytes
first_byte r = refl

not_empty : (r : Record) → 0 < length (record_bytes r)
unfolding record_bytes header_bytes
not_empty r = omega (arith)

pub no_record_at_zero : (c : FileBytes) (at : ℕ) (r : Record) → c at ≡ 0 → StandsWhole c at r → ⊥
no_record_at_zero c at r z whole =
    let byte : 83 ≡ c (at + 0) = sym (first_byte r) ∙ whole.there 0 (not_empty r) in
    let here : at + 0 ≡ at = omega (arith) in
    let same : c (at + 0) ≡ c at = ap c here in
    absurd (omega (arith, byte, same, z))

first_in_row : (c : FileBytes) (number : ℕ) (before : List Record) (end : ℕ) (r : Record)
    → AreInARow c 0 number before end → StandsWhole c end r → c 0 ≡ 0 → ⊥
first_in_row c number [] end r row whole z = no_record_at_zero c 0 r z (subst (λ e. StandsWhole c e r) row whole)
first_in_row c number (s ∷ ss) end r row whole z = no_record_at_zero c 0 s z row.1

pub nothing_at_zeros : (c : FileBytes) (r : Record) → c 0 ≡ 0 → IsScanned c r → ⊥
nothing_at_zeros c r z s = first_in_row c s.number s.before s.end r s.row s.whole z

pub at_the_front : (c : FileBytes) (r : Record) → StandsWhole c 0 r → IsScanned c r
at_the_front c r whole = record {
  number = r.number;
  before = [];
  end = 0;
  row = refl;
  next = omega (arith);
  whole = whole;
}

pub after_the_first : (c : FileBytes) (r s : Record) → StandsWhole c 0 r → StandsWhole c (length (record_bytes r)) s
    → s.number ≡ r.number + 1 → IsScanned c s
after_the_first c r s first second next = record {
  number = r.number;
  before = r ∷ [];
  end = length (record_bytes r);
  row = (refl, first, omega (arith));
  next = next;
  whole = second;
}

pub first_file_counts : (x : Image) (r : Record) → IsScanned (x 1) r → IsFound x r
first_file_counts x r s = record {
  file = 1;
  is_log = (omega (arith), omega (arith));
  scanned = s;
  lowest = λ j o is below found same. absurd (omega (arith, is.0, below));
}

pub only_first_file : (x : Image) (r s : Record) → IsScanned (x 1) r → s.number ≡ r.number → (found : IsFound x s) → found.file ≡ 1
only_first_file x r s scanned same found = pick found.file found.is_log.0 (found.lowest 1 r (omega (arith), omega (arith)))
  where
    pick : (file : ℕ) → 1 ≤ file → (1 < file → IsScanned (x 1) r → r.number ≡ s.number → ⊥) → file ≡ 1
    pick zero least lowest = absurd (omega (arith, least))
    pick (suc zero) least lowest = refl
    pick (suc (suc n)) least lowest = absurd (lowest (omega (arith)) scanned (sym same))

pub nothing_taken : (x : Image) (number : ℕ) → ((j : ℕ) → IsLogFile j → x j 0 ≡ 0) → AreRecovered x number []
nothing_taken x number zeros r found next = nothing_at_zeros (x found.file) r (zeros found.file found.is_log) found.scanned
