-- What a scan of a file with the records of a segment comes to, whatever a crash leaves of it.
use Rattle.std.proofs.Common.{◌≡◌, ℕ, zero, suc, ◌+◌, ◌≤◌, ◌<◌, List, [], ◌∷◌, ◌++◌, length, take, drop, refl, sym, ◌∙◌, ap, subst, arith, append_assoc, take-append-drop}
use Rattle.std.specs.Prelude.{Contains}
use Rattle.pdb_disk.specs.Files.{FileBytes, FileState, Step, StandsAt, AllSpare, IsFileImage}
use Rattle.pdb_disk.specs.Files.{Step as step}
use Rattle.pdb_model.specs.Logs.{AreInARow, IsScanned, StandsWhole, most_in_log}
use Rattle.pdb_model.specs.Records.{Record, record_bytes}
use Rattle.pdb_model.specs.Recovery.{after_steps}
use Rattle.pdb_log.specs.Ledger.{AreNumbered, IsSegment, ScanClear, Segment, file_of, records_of, spelled_records}
use Rattle.pdb_log.proofs.Bytes.{none_in_zeros}
use Rattle.pdb_log.proofs.Members.{In, to_in, numbered_front}
use Rattle.pdb_log.proofs.Scans.{Follows, Reaches, front, from_reaches, to_reaches, row_end, next_in, after_writes, writes_spare, standing}

-- the first record that a scan comes to has the number of the file's first record
from_first : (c : FileBytes) (first : ℕ) (all : List Record) → AreNumbered first all → ((n : ℕ) → Follows c 0 n all) → (r : Record) (n : ℕ) → Reaches c 0 n r → Reaches c 0 first r
from_first c first all numbers follows r n h = subst (λ m. Reaches c 0 m r) (its h.0 h.1 h.2 h.3 h.4) h
  where
    first_number : (q : Record) → q.number ≡ n → StandsWhole c 0 q → n ≡ first
    first_number q m k =
        let next = follows n [] all 0 q refl refl k in
        let num : AreNumbered first (q ∷ next.0) = subst (AreNumbered first) next.1 numbers in
        sym m ∙ num.1

    its : (rs : List Record) (p : ℕ) → AreInARow c 0 n rs p → r.number ≡ n + length rs → StandsWhole c p r → n ≡ first
    its [] p e m k = first_number r (omega (arith, m)) (subst (λ q. StandsWhole c q r) e k)
    its (q ∷ rs) p ch m k = first_number q ch.0 ch.1

-- what a scan of a file comes to
pub record ScanOf (c : FileBytes) (g : Segment) : Type 0 where
  pub found : List Record
  pub sound : (r : Record) → IsScanned c r → In found r
  pub each : (r : Record) → In found r → IsScanned c r
  pub listed : (r : Record) → In found r → In (records_of g) r
  pub kept : (r : Record) → Contains g.kept r → IsScanned c r

pub scan_of : (s : FileState) (g : Segment) (c : FileBytes) → IsSegment s g → length (spelled_records g.kept) ≤ most_in_log → IsFileImage s c → ScanClear s c → ScanOf c g
scan_of s g c is low image clear =
    let f = front c 0 g.first (records_of g) is.numbers (follows g.first) in
    record {
      found = f.found;
      sound = λ r h. f.sound r (from_first c g.first (records_of g) is.numbers follows r h.number (to_reaches c r h));
      each = λ r h. from_reaches c g.first r (f.each r h);
      listed = f.listed;
      kept = λ r h. from_reaches c g.first r (standing c [] g.first g.kept same (numbered_front g.first g.kept g.pending is.numbers) low r (to_in g.kept r h));
    }
  where
    same : (i : ℕ) → i < length (spelled_records g.kept) → c i ≡ file_of (spelled_records g.kept) i
    same i l =
        let spared : AllSpare s.since i = subst (λ ss. AllSpare ss i) (sym is.since) (writes_spare (length (spelled_records g.kept)) g.pending i l) in
        image i spared ∙ ap (λ (k : FileBytes). k i) is.kept_bytes

    follows : (n : ℕ) → Follows c 0 n (records_of g)
    follows n pre post p r e ch h =
        let k = clear n pre p r ch h in
        let content : after_steps s.kept (take k.0 s.since) ≡ file_of (spelled_records (g.kept ++ take k.0 g.pending)) =
        ap (λ (d : FileBytes). after_steps d (take k.0 s.since)) is.kept_bytes
        ∙ ap (λ (ss : List Step). after_steps (file_of (spelled_records g.kept)) (take k.0 ss)) is.since
        ∙ after_writes g.kept g.pending k.0 in
        let place : p ≡ length (spelled_records pre) = let q = row_end c 0 n pre p ch in omega (arith, q) in
        let parts : (g.kept ++ take k.0 g.pending) ++ drop k.0 g.pending ≡ g.kept ++ g.pending =
        append_assoc g.kept (take k.0 g.pending) (drop k.0 g.pending)
        ∙ ap (λ (l : List Record). g.kept ++ l) (take-append-drop k.0 g.pending) in
        let front_numbers : AreNumbered g.first (g.kept ++ take k.0 g.pending) =
        numbered_front g.first (g.kept ++ take k.0 g.pending) (drop k.0 g.pending) (subst (AreNumbered g.first) (sym parts) is.numbers) in
        next_in g.first (g.kept ++ take k.0 g.pending) (drop k.0 g.pending) pre post r (parts ∙ e) front_numbers h.is
        (subst (λ q. StandsAt (file_of (spelled_records (g.kept ++ take k.0 g.pending))) q (record_bytes r)) place
        (subst (λ (d : FileBytes). StandsAt d p (record_bytes r)) content k.1))

-- a file whose cut isn't synced shows no other records than it had
pub spent_of : (s : FileState) (g : Segment) (c : FileBytes) → s.kept ≡ file_of (spelled_records g.kept) → s.since ≡ step.Cut ∷ [] → g.pending ≡ [] → AreNumbered g.first (records_of g) → ScanClear s c → (r : Record) → IsScanned c r → In (records_of g) r
spent_of s g c kept since none numbers clear r h =
    let f = front c 0 g.first (records_of g) numbers (follows g.first) in
    f.listed r (f.sound r (from_first c g.first (records_of g) numbers follows r h.number (to_reaches c r h)))
  where
    whole : g.kept ++ [] ≡ records_of g
    whole = ap (λ (rs : List Record). g.kept ++ rs) (sym none)

    stood : (k p : ℕ) (r : Record) → StandsAt (after_steps (file_of (spelled_records g.kept)) (take k (step.Cut ∷ []))) p (record_bytes r) → StandsAt (file_of (spelled_records g.kept)) p (record_bytes r)
    stood zero p r h = h
    stood (suc zero) p r h = absurd (none_in_zeros p r h)
    stood (suc (suc k)) p r h = absurd (none_in_zeros p r h)

    follows : (n : ℕ) → Follows c 0 n (records_of g)
    follows n pre post p r e ch h =
        let k = clear n pre p r ch h in
        let content : after_steps s.kept (take k.0 s.since) ≡ after_steps (file_of (spelled_records g.kept)) (take k.0 (step.Cut ∷ [])) =
        ap (λ (d : FileBytes). after_steps d (take k.0 s.since)) kept ∙ ap (λ (ss : List Step). after_steps (file_of (spelled_records g.kept)) (take k.0 ss)) since in
        let place : p ≡ length (spelled_records pre) = let q = row_end c 0 n pre p ch in omega (arith, q) in
        next_in g.first g.kept [] pre post r (whole ∙ e) (numbered_front g.first g.kept g.pending numbers) h.is
        (subst (λ q. StandsAt (file_of (spelled_records g.kept)) q (record_bytes r)) place
        (stood k.0 p r (subst (λ (d : FileBytes). StandsAt d p (record_bytes r)) content k.1)))
