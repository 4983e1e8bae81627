-- Cells that were written, as they read.
use Rattle.std.proofs.Common.{◌≡◌, ⊎_elim, ℕ, suc, ◌+◌, ◌*◌, ◌≤◌, ◌<◌, ◌==◌, ◌&&◌, Bool, true, false, List, [], ◌∷◌, ◌++◌, length, get_or, take, if◌then◌else◌, refl, sym, ◌∙◌, ap, subst, arith, append-nil, length-append}
use Rattle.std.specs.Prelude.{Any, Some}
use Rattle.std.specs.Option.{unwrap_or}
use Rattle.std.proofs.lemmas.Bool.{cases_eq}
use Rattle.std.proofs.lemmas.Bool.Decides.{nat_tests}
use Rattle.std.proofs.lemmas.List.{get_or_append_left, get_or-append-add, take_all}
use Rattle.std.proofs.Math.Seq.{take-suc}
use Rattle.pdb_cells.specs.Content.{Content, put_cell}
use Rattle.pdb_cells.specs.Puts.{laid}
use Rattle.pdb_cells.specs.Sizes.{size_of}
use Rattle.pdb_cells.specs.declared.Put.{Put}
use Rattle.pdb_cells.proofs.Laying.{laid-append}
use Rattle.pdb_disk.specs.Files.{Begins, FileBytes, FileState, Files, Step, done, reads_of}
use Rattle.pdb_disk.specs.Files.{Step as step}
use Rattle.pdb_disk.proofs.Images.{done_spared}
use Rattle.pdb_model.specs.Recovery.{bytes_from, cells_of_files}
use Rattle.pdb_log.proofs.Bytes.{stands_first}
use Rattle.pdb_log.proofs.Cells.{apart, bytes_same}
use Rattle.pdb_log.proofs.Gates.{done_stands}
use Rattle.pdb_recover.specs.Recovering.{AreCellsWritten}
use Rattle.pdb_recover.proofs.Laying.{wrote}

pub none_written : (fs : Files) → AreCellsWritten [] fs fs
none_written fs = record { cells = λ file index. refl; others = λ j out. refl }

any_left : (ps qs : List Put) (P : Put → Type 0) → Any P ps → Any P (ps ++ qs)
any_left ps qs P h = let l = h.2 in (h.0, h.1, omega (arith, l, length-append ps qs), get_or_append_left ps qs h.1 h.0 l ∙ h.3, h.4)

any_right : (ps qs : List Put) (P : Put → Type 0) → Any P qs → Any P (ps ++ qs)
any_right ps qs P h = let l = h.2 in (length ps + h.0, h.1, omega (arith, l, length-append ps qs), get_or-append-add ps qs h.0 h.1 ∙ h.3, h.4)

-- more cells were written
pub more_written : (ps qs : List Put) (old mid new : Files) → AreCellsWritten ps old mid → AreCellsWritten qs mid new → AreCellsWritten (ps ++ qs) old new
more_written ps qs old mid new one two = record {
  cells = λ file index.
      two.cells file index
      ∙ ap (λ (c : Content). laid qs c file index) (λ i f k. one.cells f k i)
      ∙ ap (λ (c : Content). c file index) (sym (laid-append ps qs (cells_of_files (reads_of old))));
  others = λ j out. two.others j (λ h. out (any_right ps qs (λ p. p.name.file ≡ j) h)) ∙ one.others j (λ h. out (any_left ps qs (λ p. p.name.file ≡ j) h));
}

-- the next of these puts
pub next_written : (puts : List Put) (k : ℕ) (p : Put) (old mid new : Files) → k < length puts → p ≡ get_or puts k p
    → AreCellsWritten (take k puts) old mid → AreCellsWritten (p ∷ []) mid new → AreCellsWritten (take (k + 1) puts) old new
next_written puts k p old mid new l is front one =
    let e : k + 1 ≡ suc k = omega arith in
    let parts : take (k + 1) puts ≡ take k puts ++ p ∷ [] = ap (λ n. take n puts) e ∙ take-suc puts k p l ∙ ap (λ (q : Put). take k puts ++ q ∷ []) (sym is) in
    subst (λ (ps : List Put). AreCellsWritten ps old new) (sym parts) (more_written (take k puts) (p ∷ []) old mid new front one)

pub all_written : (puts : List Put) (k : ℕ) (old new : Files) → length puts ≤ k → AreCellsWritten (take k puts) old new → AreCellsWritten puts old new
all_written puts k old new l is = subst (λ (ps : List Put). AreCellsWritten ps old new) (take_all k puts l) is

module _ (old new : Files) (p : Put) (sized : size_of p.name.file ≡ Some (length p.bytes))
    (begun : Begins p.name.file (step.Write (p.name.index * length p.bytes) p.bytes) old new)
    (written : (new p.name.file).read ≡ done (old p.name.file).read (step.Write (p.name.index * length p.bytes) p.bytes)) where
  abbrev file : ℕ
  file = p.name.file

  abbrev at : ℕ
  at = p.name.index * length p.bytes

  abbrev c : FileBytes
  c = (old file).read

  is_size : unwrap_or (size_of file) 0 ≡ length p.bytes
  is_size = ap (λ o. unwrap_or o 0) sized

  here : bytes_from (done c (step.Write at p.bytes)) at (length p.bytes) ≡ p.bytes
  here = stands_first (done c (step.Write at p.bytes)) at p.bytes (length p.bytes) 0 (omega arith) (done_stands c at p.bytes) ∙ append-nil p.bytes

  beside : (i : ℕ) → (i ≡ p.name.index → ⊥) → bytes_from (done c (step.Write at p.bytes)) (i * length p.bytes) (length p.bytes) ≡ bytes_from c (i * length p.bytes) (length p.bytes)
  beside i ne = bytes_same (done c (step.Write at p.bytes)) c (i * length p.bytes) (length p.bytes)
      (λ k low high. done_spared c (step.Write at p.bytes) k (apart i p.name.index (length p.bytes) k ne low high))

  cell_in : (i : ℕ) → cells_of_files (reads_of new) file i ≡ put_cell file p.name.index p.bytes (cells_of_files (reads_of old)) file i
  cell_in i =
      ap (λ n. bytes_from (new file).read (i * n) n) is_size
      ∙ ap (λ (d : FileBytes). bytes_from d (i * length p.bytes) (length p.bytes)) written
      ∙ ⊎_elim
      (λ e.
      let t : ((file == file) && (p.name.index == i)) ≡ true = grind (arith, nat_tests) in
      ap (λ k. bytes_from (done c (step.Write at p.bytes)) (k * length p.bytes) (length p.bytes)) e ∙ here
      ∙ sym (ap (λ (b : Bool). if b then p.bytes else cells_of_files (reads_of old) file i) t))
      (λ ne.
      let t : ((file == file) && (p.name.index == i)) ≡ false = grind (arith, nat_tests) in
      beside i ne ∙ sym (ap (λ n. bytes_from c (i * n) n) is_size)
      ∙ sym (ap (λ (b : Bool). if b then p.bytes else cells_of_files (reads_of old) file i) t))
      (cases_eq i p.name.index)

  cell_out : (f i : ℕ) → (f ≡ file → ⊥) → cells_of_files (reads_of new) f i ≡ put_cell file p.name.index p.bytes (cells_of_files (reads_of old)) f i
  cell_out f i ne =
      let t : ((file == f) && (p.name.index == i)) ≡ false = grind (arith, nat_tests) in
      let n : ℕ = unwrap_or (size_of f) 0 in
      ap (λ (s : FileState). bytes_from s.read (i * n) n) (begun.others f ne)
      ∙ sym (ap (λ (b : Bool). if b then p.bytes else cells_of_files (reads_of old) f i) t)

  -- one cell was written
  one_written : AreCellsWritten (p ∷ []) old new
  one_written = record {
    cells = λ f i. ⊎_elim
        (λ e. subst (λ k. cells_of_files (reads_of new) k i ≡ put_cell file p.name.index p.bytes (cells_of_files (reads_of old)) k i) (sym e) (cell_in i))
        (λ ne. cell_out f i ne)
        (cases_eq f file);
    others = λ j out. begun.others j (λ e. out (0, p, omega arith, refl, sym e));
  }

-- the same of the bytes that the call was given
pub call_written : (old new : Files) (p : Put) (n : ℕ) (bytes : List ℕ) → n ≡ length p.bytes → bytes ≡ p.bytes → size_of p.name.file ≡ Some (length p.bytes)
    → Begins p.name.file (step.Write (p.name.index * n) bytes) old new → (new p.name.file).read ≡ done (old p.name.file).read (step.Write (p.name.index * n) bytes) → AreCellsWritten (p ∷ []) old new
call_written old new p n bytes len same sized begun written = one_written old new p sized
    (subst (λ (s : Step). Begins p.name.file s old new) (wrote p n bytes len same) begun)
    (written ∙ ap (done (old p.name.file).read) (wrote p n bytes len same))
