-- The cells while those of a flushed record are written.
use Rattle.std.proofs.Common.{◌≡◌, ◌≢◌, ◌⊎◌, inl, inr, ⊎_elim, ℕ, zero, suc, ◌+◌, ◌*◌, ◌≤◌, ◌<◌, ◌==◌, ◌&&◌, Bool, true, false, List, [], ◌∷◌, ◌++◌, length, take, nat_le, nat_lt, if◌then◌else◌, refl, sym, ◌∙◌, ap, ap₂, subst, arith}
use Rattle.std.specs.Prelude.{Contains, Some}
use Rattle.std.specs.Option.{unwrap_or}
use Rattle.std.proofs.lemmas.Bool.{cases_eq, cases_lt}
use Rattle.std.proofs.lemmas.Bool.Decides.{nat_tests}
use Rattle.std.proofs.lemmas.List.Elements.{Contains-append_left}
use Rattle.pdb_cells.specs.Sizes.{size_of}
use Rattle.pdb_cells.specs.declared.Put.{Put}
use Rattle.pdb_disk.specs.Files.{FileBytes, FileState, Files, Image, Step, Begins, Settles, AllSpare, IsFileImage, IsImage, Spares, reads_of}
use Rattle.pdb_disk.specs.Files.{Step as step}
use Rattle.pdb_model.specs.Records.{Record}
use Rattle.pdb_model.specs.Recovery.{Row, bytes_from, cells_of_files}
use Rattle.pdb_log.specs.Ledger.{AreRows, Ledger}
use Rattle.pdb_log.proofs.Members.{to_in}
use Rattle.pdb_log.proofs.Rows.{row_moved}
use Rattle.pdb_log.proofs.Beside.{Beside, laid_same}

pub bytes_same : (c d : FileBytes) (at n : ℕ) → ((k : ℕ) → at ≤ k → k < at + n → c k ≡ d k) → bytes_from c at n ≡ bytes_from d at n
bytes_same c d at zero same = refl
bytes_same c d at (suc n) same =
    ap₂ (λ (b : ℕ) (bs : List ℕ). b ∷ bs) (same at (omega arith) (omega arith)) (bytes_same c d (at + 1) n (λ k low high. same k (omega (arith, low)) (omega (arith, high))))

times_more : (a b n : ℕ) → a < b → a * n + n ≤ b * n
times_more a zero n l = absurd (omega (arith, l))
times_more a (suc b) n l = ⊎_elim
    (λ less. let m = times_more a b n less in omega (arith, m))
    (λ ge. let e : a ≡ b = omega (arith, l, ge) in let f : a * n ≡ b * n = ap (λ k. k * n) e in omega (arith, f))
    (cases_lt a b)

-- two cells of a file lie apart
pub apart : (i k n at : ℕ) → i ≢ k → i * n ≤ at → at < i * n + n → (at < k * n) ⊎ (k * n + n ≤ at)
apart i k n at ne low high = ⊎_elim
    (λ less. inl (let m = times_more i k n less in omega (arith, m, high)))
    (λ ge. let more : k < i = omega (arith, ge, ne) in inr (let m = times_more k i n more in omega (arith, m, low)))
    (cases_lt i k)

pub spare_both : (ss : List Step) (s : Step) (i : ℕ) → AllSpare ss i → Spares s i → AllSpare (ss ++ s ∷ []) i
spare_both [] s i all one = (one, tt)
spare_both (x ∷ ss) s i all one = (all.0, spare_both ss s i all.1 one)

in_or_out : (at : ℕ) (bs : List ℕ) (i : ℕ) → Spares (step.Write at bs) i ⊎ ((at ≤ i) × (i < at + length bs))
in_or_out at bs i = ⊎_elim (λ l. inl (inl l)) (λ l. ⊎_elim (λ m. inr (l, m)) (λ m. inl (inr m)) (cases_lt i (at + length bs))) (cases_lt i at)

module _ (old new : Files) (p : Put) (sized : size_of p.name.file ≡ Some (length p.bytes)) (x : Image) (image : IsImage new x)
    (begun : Begins p.name.file (step.Write (p.name.index * length p.bytes) p.bytes) old new) where
  abbrev file : ℕ
  file = p.name.file

  abbrev at : ℕ
  at = p.name.index * length p.bytes

  -- the written file, but with what is kept in the range of the write
  abbrev patched : FileBytes
  patched i = if nat_le at i && nat_lt i (at + length p.bytes) then (old file).kept i else x file i

  abbrev pub before : Image
  before j = if j == file then patched else x j

  patched_out : (i : ℕ) → Spares (step.Write at p.bytes) i → patched i ≡ x file i
  patched_out i (inl low) = let t : nat_le at i ≡ false = grind (arith, nat_tests) in rw t refl
  patched_out i (inr high) =
      let t : nat_lt i (at + length p.bytes) ≡ false = grind (arith, nat_tests) in
      out (nat_le at i) (nat_lt i (at + length p.bytes)) t
    where
      out : (a b : Bool) → b ≡ false → (if a && b then (old file).kept i else x file i) ≡ x file i
      out true b e = rw e refl
      out false b e = refl

  patched_in : (i : ℕ) → at ≤ i → i < at + length p.bytes → patched i ≡ (old file).kept i
  patched_in i low high =
      let t : nat_le at i ≡ true = grind (arith, nat_tests) in
      let u : nat_lt i (at + length p.bytes) ≡ true = grind (arith, nat_tests) in
      rw (t, u) refl

  before_here : before file ≡ patched
  before_here = let t : (file == file) ≡ true = grind (arith, nat_tests) in rw t refl

  before_else : (j : ℕ) → j ≢ file → before j ≡ x j
  before_else j ne = let t : (j == file) ≡ false = grind (arith, nat_tests) in rw t refl

  patched_image : IsFileImage (old file) patched
  patched_image i all = ⊎_elim
      (λ sp. patched_out i sp ∙ image file i (subst (λ (ss : List Step). AllSpare ss i) (sym begun.since) (spare_both (old file).since (step.Write at p.bytes) i all sp))
      ∙ ap (λ (c : FileBytes). c i) begun.kept)
      (λ k. patched_in i k.0 k.1)
      (in_or_out at p.bytes i)

  pub before_image : IsImage old before
  before_image j = ⊎_elim
      (λ e. subst (λ k. IsFileImage (old k) (before k)) (sym e) (subst (IsFileImage (old file)) (sym before_here) patched_image))
      (λ ne. subst (IsFileImage (old j)) (sym (before_else j ne)) (subst (λ (s : FileState). IsFileImage s (x j)) (begun.others j ne) (image j)))
      (cases_eq j file)

  size : ℕ
  size = length p.bytes

  is_size : unwrap_or (size_of file) 0 ≡ length p.bytes
  is_size = ap (λ o. unwrap_or o 0) sized

  other_cell : (i n : ℕ) → n ≡ length p.bytes → i ≢ p.name.index → bytes_from (before file) (i * n) n ≡ bytes_from (x file) (i * n) n
  other_cell i n e ne = bytes_same (before file) (x file) (i * n) n (λ k low high.
      ap (λ (c : FileBytes). c k) before_here
      ∙ patched_out k (let a = apart i p.name.index n k ne low high in
      subst (λ m. (k < p.name.index * m) ⊎ (p.name.index * m + m ≤ k)) e a))

  both : (i : ℕ) → i ≡ p.name.index → ((file == file) && (p.name.index == i)) ≡ true
  both i e = let t : (file == file) ≡ true = grind (arith, nat_tests) in let u : (p.name.index == i) ≡ true = grind (arith, nat_tests) in rw (t, u) refl

  no_true : (b : Bool) → b ≡ true → b ≡ false → ⊥
  no_true b e f = cc

  -- only that cell is another
  pub before_beside : Beside p.name.file p.name.index (cells_of_files before) (cells_of_files x)
  before_beside f i out = ⊎_elim
      (λ e. subst (λ g. ((file == g) && (p.name.index == i)) ≡ false → cells_of_files before g i ≡ cells_of_files x g i) (sym e)
      (λ here. ⊎_elim
      (λ same. absurd (no_true ((file == file) && (p.name.index == i)) (both i same) here))
      (λ ne. other_cell i (unwrap_or (size_of file) 0) is_size ne)
      (cases_eq i p.name.index)) out)
      (λ ne. let n : ℕ = unwrap_or (size_of f) 0 in ap (λ (c : FileBytes). bytes_from c (i * n) n) (before_else f ne))
      (cases_eq f file)

-- A write of a cell that a flushed record puts: whatever a crash makes of it, the record is laid over it.
pub cell_rows : (rows : List Row) (f : ℕ) (old new : Files) (l : Ledger) (r : Record) (p : Put) → size_of p.name.file ≡ Some (length p.bytes) → Contains l.flushed r → Contains r.puts p
    → Begins p.name.file (step.Write (p.name.index * length p.bytes) p.bytes) old new → AreRows rows f old l → AreRows rows f new l
cell_rows rows f old new l r p sized flushed has begun are k le x image =
    row_moved rows (f + k) (before old new p sized x image begun) x l.gate (l.flushed ++ take k l.rest)
    (laid_same (l.flushed ++ take k l.rest) r p (cells_of_files (before old new p sized x image begun)) (cells_of_files x)
    (to_in (l.flushed ++ take k l.rest) r (Contains-append_left l.flushed (take k l.rest) r flushed)) has (before_beside old new p sized x image begun))
    (are k le (before old new p sized x image begun) (before_image old new p sized x image begun))

-- What a crash leaves after a sync it might have left before.
pub synced_rows : (rows : List Row) (f : ℕ) (old new : Files) (l : Ledger) (file : ℕ) → IsImage old (reads_of old) → Settles file old new → AreRows rows f old l → AreRows rows f new l
synced_rows rows f old new l file reads settles are k le x image = are k le x old_image
  where
    old_image : IsImage old x
    old_image j = ⊎_elim
        (λ e. subst (λ g. IsFileImage (old g) (x g)) (sym e) (λ i all.
        image file i (subst (λ (ss : List Step). AllSpare ss i) (sym settles.since) tt) ∙ ap (λ (c : FileBytes). c i) settles.kept ∙ reads file i all))
        (λ ne. subst (λ (s : FileState). IsFileImage s (x j)) (settles.others j ne) (image j))
        (cases_eq j file)
