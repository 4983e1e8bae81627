-- A cell that was written, and the others, as they read.
use Rattle.std.proofs.Common.{◌≡◌, ⊎_elim, ℕ, ◌*◌, ◌==◌, ◌&&◌, Bool, true, false, List, length, if◌then◌else◌, refl, sym, ◌∙◌, ap, subst, arith, append-nil}
use Rattle.std.specs.Prelude.{Some}
use Rattle.std.specs.Option.{unwrap_or}
use Rattle.std.proofs.lemmas.Bool.{cases_eq}
use Rattle.std.proofs.lemmas.Bool.Decides.{nat_tests}
use Rattle.pdb_cells.specs.Content.{put_cell}
use Rattle.pdb_cells.specs.Sizes.{size_of}
use Rattle.pdb_cells.specs.declared.Put.{Put}
use Rattle.pdb_disk.specs.Files.{Begins, FileBytes, FileState, Files, done, reads_of}
use Rattle.pdb_disk.specs.Files.{Step as step}
use Rattle.pdb_model.specs.Recovery.{bytes_from, cells_of_files}
use Rattle.pdb_log.proofs.Bytes.{stands_first}
use Rattle.pdb_log.proofs.Cells.{apart, bytes_same}
use Rattle.pdb_log.proofs.Gates.{done_stands}

pub same_step : (p : Put) (n : ℕ) (bytes : List ℕ) → n ≡ length p.bytes → bytes ≡ p.bytes
    → step.Write (p.name.index * n) bytes ≡ step.Write (p.name.index * length p.bytes) p.bytes
same_step p n bytes len same = λ i. step.Write (p.name.index * len i) (same i)

is_eq : (a b : ℕ) → (a == b) ≡ true → a ≡ b
is_eq a b e = grind (arith, nat_tests, e)

not_here : (a b : Bool) → (a ≡ true → b ≡ true → ⊥) → (a && b) ≡ false
not_here true b diff = other b (diff refl)
  where
    other : (d : Bool) → (d ≡ true → ⊥) → d ≡ false
    other true out = absurd (out refl)
    other false out = refl
not_here false b diff = refl

module _ (old new : Files) (p : Put) (sized : size_of p.name.file ≡ Some (length p.bytes))
    (begun : Begins p.name.file (step.Write (p.name.index * length p.bytes) p.bytes) old new) where
  abbrev file : ℕ
  file = p.name.file

  abbrev at : ℕ
  at = p.name.index * length p.bytes

  abbrev c : FileBytes
  c = (old file).read

  is_size : unwrap_or (size_of file) 0 ≡ length p.bytes
  is_size = ap (λ o. unwrap_or o 0) sized

  spared_cell : (i : ℕ) → (i ≡ p.name.index → ⊥) → cells_of_files (reads_of new) file i ≡ cells_of_files (reads_of old) file i
  spared_cell i ne =
      ap (λ n. bytes_from (new file).read (i * n) n) is_size
      ∙ bytes_same (new file).read c (i * length p.bytes) (length p.bytes) (λ k low high. begun.spared k (apart i p.name.index (length p.bytes) k ne low high))
      ∙ sym (ap (λ n. bytes_from c (i * n) n) is_size)

  other_file : (f i : ℕ) → (f ≡ file → ⊥) → cells_of_files (reads_of new) f i ≡ cells_of_files (reads_of old) f i
  other_file f i ne = let n : ℕ = unwrap_or (size_of f) 0 in ap (λ (s : FileState). bytes_from s.read (i * n) n) (begun.others f ne)

  -- begun or done, another cell reads as before
  pub other_cell : (f i : ℕ) → (file ≡ f → p.name.index ≡ i → ⊥) → cells_of_files (reads_of new) f i ≡ cells_of_files (reads_of old) f i
  other_cell f i ne = ⊎_elim
      (λ e. subst (λ g. cells_of_files (reads_of new) g i ≡ cells_of_files (reads_of old) g i) (sym e) (spared_cell i (λ k. ne (sym e) (sym k))))
      (λ out. other_file f i out)
      (cases_eq f file)

  module _ (written : (new p.name.file).read ≡ done (old p.name.file).read (step.Write (p.name.index * length p.bytes) p.bytes)) where
    here : bytes_from (done c (step.Write at p.bytes)) at (length p.bytes) ≡ p.bytes
    here = stands_first (done c (step.Write at p.bytes)) at p.bytes (length p.bytes) 0 (omega arith) (done_stands c at p.bytes) ∙ append-nil p.bytes

    this_cell : cells_of_files (reads_of new) file p.name.index ≡ p.bytes
    this_cell =
        ap (λ n. bytes_from (new file).read (p.name.index * n) n) is_size
        ∙ ap (λ (d : FileBytes). bytes_from d (p.name.index * length p.bytes) (length p.bytes)) written
        ∙ here

    -- done, it reads as it was put
    pub put_done : (f i : ℕ) → cells_of_files (reads_of new) f i ≡ put_cell p.name.file p.name.index p.bytes (cells_of_files (reads_of old)) f i
    put_done f i = ⊎_elim
        (λ e. ⊎_elim
        (λ k.
        let t : ((file == f) && (p.name.index == i)) ≡ true = grind (arith, nat_tests) in
        subst (λ g. cells_of_files (reads_of new) g i ≡ p.bytes) e (subst (λ h. cells_of_files (reads_of new) file h ≡ p.bytes) k this_cell)
        ∙ sym (ap (λ (b : Bool). if b then p.bytes else cells_of_files (reads_of old) f i) t))
        (λ ne. beside f i (λ x. ne))
        (cases_eq p.name.index i))
        (λ ne. beside f i (λ x y. ne x))
        (cases_eq file f)
      where
        beside : (g h : ℕ) → (file ≡ g → p.name.index ≡ h → ⊥)
            → cells_of_files (reads_of new) g h ≡ put_cell p.name.file p.name.index p.bytes (cells_of_files (reads_of old)) g h
        beside g h ne = other_cell g h ne
            ∙ sym (ap (λ (b : Bool). if b then p.bytes else cells_of_files (reads_of old) g h) (not_here (file == g) (p.name.index == h) (λ a b. ne (is_eq file g a) (is_eq p.name.index h b))))
