-- A fault that was due before look-ups is due after them.
use Rattle.std.proofs.Common.{◌≡◌, ℕ, Bool, true, false, Option, Some, None, if◌then◌else◌, Result, Ok, Err, take}
use Rattle.std.proofs.Common.{refl, sym, ap, ap₂, subst, ◌∙◌, inl, inr}
use Rattle.std.specs.Prelude.{IfErr, IsTrue, slice_get}
use Rattle.sdb_base.specs.Keeping.{Commits, IsCause}
use Rattle.sdb_base.specs.declared.numbers.KeepFault.{KeepFault}
use Rattle.pdb_cells.specs.Content.{Content}
use Rattle.pdb_disk.specs.Files.{Files}
use Rattle.pdb_column.specs.Storing.{FillsTier}
use Rattle.pdb_redo.specs.Reaches.{Reach, reach_of}
use Rattle.pdb_redo.specs.Standing.{cells_under_records}
use Rattle.pdb_redo.proofs.Kept.{keeps_cells, keeps_stopped, stood_before}
use Rattle.pdb_pipe.specs.Commits.{contents_of}
use Rattle.pdb_pipe.specs.Faults.{CannotBePlanned, IsCrowdedNext, IsDamaged, IsFullNext, IsNoDamage, seen_cells}
use Rattle.pdb_pipe.specs.Keeping.{KeepsDatabase}
use Rattle.pdb_pipe.specs.Planning.{IsCrowdedAt, IsPlanFault}
use Rattle.pdb_pipe.specs.Reads.{NamesDamage}
use Rattle.pdb_pipe.specs.Standing.{StandsFor, bases_of}
use Rattle.pdb_pipe.specs.declared.database.Database.{Database}
use Rattle.pdb_pipe.proofs.LookKept.{bases_kept, cells_kept, reach_kept}
use Rattle.pdb_pipe.proofs.StageStands.{stands_still}

-- two that are true together
same_truth : (x y : Bool) → (IsTrue x → IsTrue y) → (IsTrue y → IsTrue x) → y ≡ x
same_truth true y there back = there refl
same_truth false true there back = sym (back refl)
same_truth false false there back = refl

-- what is observable of these cells
abbrev observable : Bool → Content → Option Content
observable told cells = if told then Some cells else None

module _ {D : Type 0} (tells : D → Bool) (clock : D → ℕ) (past : D → ℕ → Files) (fault_count : D → ℕ) (a b : Database D)
    (k : KeepsDatabase tells clock past fault_count a b) where
  seen_kept : seen_cells tells clock past b ≡ seen_cells tells clock past a
  seen_kept = ap₂ observable (same_truth (tells a.redo.log.disk) (tells b.redo.log.disk) k.redo.told k.redo.untold)
      (cells_kept tells clock past fault_count a b k)

  -- what the database stands for now it stood for before
  stood_for : (commits : Commits) → StandsFor tells clock past b commits → StandsFor tells clock past a commits
  stood_for commits s =
      stands_still tells clock past b a (sym k.queue) (sym k.bases)
      (ap (λ (r : Reach). r.logged) (sym (reach_kept tells clock past fault_count a b k))) k.redo.untold commits s
      (λ file index. sym (keeps_cells tells clock past fault_count a.redo b.redo k.redo file index))
      (λ running. let at = s.rows (keeps_stopped tells clock past fault_count a.redo b.redo k.redo ∙ running) in
      (at.0, at.1, stood_before tells clock past fault_count a.redo b.redo k.redo at.0 at.1 at.2))

  none_damaged : (fault : KeepFault) → IsNoDamage tells clock past a fault → IsNoDamage tells clock past b fault
  none_damaged fault none file cell commits is s = none file cell commits is (stood_for commits s)

  crowded_on : (fault : KeepFault) → IsCrowdedNext tells clock past a fault → IsCrowdedNext tells clock past b fault
  crowded_on fault crowded column bits chunk commits ops is s next =
      let many = ap (λ (r : Reach). r.logged) (reach_kept tells clock past fault_count a b k) in
      let logged = contents_of (take (reach_of b.redo).logged commits) in
      subst (λ (cells : Content). IsCrowdedAt cells (bases_of b) logged ops column bits chunk)
      (sym (cells_kept tells clock past fault_count a b k))
      (subst (λ (bs : ℕ → ℕ). IsCrowdedAt (cells_under_records clock past a.redo) bs logged ops column bits chunk)
      (sym (bases_kept tells clock past fault_count a b k))
      (subst
      (λ (n : ℕ). IsCrowdedAt (cells_under_records clock past a.redo) (bases_of a) (contents_of (take n commits)) ops column bits chunk)
      (sym many)
      (crowded column bits chunk commits ops is (stood_for commits s) (ap (λ (n : ℕ). slice_get commits n) (sym many) ∙ next))))

  full_on : (fault : KeepFault) → IsFullNext tells clock past a fault → IsFullNext tells clock past b fault
  full_on fault full column tier commits ops is s next =
      let many = ap (λ (r : Reach). r.logged) (reach_kept tells clock past fault_count a b k) in
      subst (λ (bs : ℕ → ℕ). FillsTier (bs column) (contents_of (take (reach_of b.redo).logged commits) column) ops column tier)
      (sym (bases_kept tells clock past fault_count a b k))
      (subst (λ (n : ℕ). FillsTier (bases_of a column) (contents_of (take n commits) column) ops column tier) (sym many)
      (full column tier commits ops is (stood_for commits s) (ap (λ (n : ℕ). slice_get commits n) (sym many) ∙ next)))

  pub damaged_since : (column : ℕ) (fault : KeepFault) → IsDamaged tells clock past a column fault
      → IsDamaged tells clock past b column fault
  damaged_since column fault is =
      (subst (λ (seen : Option Content). NamesDamage seen column fault) (sym seen_kept) is.0, none_damaged fault is.1)

  pub unplanned_since : (fault : KeepFault) → CannotBePlanned tells clock past a fault → CannotBePlanned tells clock past b fault
  unplanned_since fault is =
      let planned = subst (λ (seen : Option Content). IsPlanFault seen fault) (sym seen_kept) is.0 in
      (planned, crowded_on fault is.1, full_on fault is.2, none_damaged fault is.3)

-- what one cause entails another does
pub causes_since : (P Q : KeepFault → Type 0) (fault : KeepFault) → (P fault → Q fault) → IsCause P fault → IsCause Q fault
causes_since P Q fault entails (inl memory) = inl memory
causes_since P Q fault entails (inr (inl disk)) = inr (inl disk)
causes_since P Q fault entails (inr (inr due)) = inr (inr (entails due))

pub fault_since : {T : Type 0} (r : Result T KeepFault) (P Q : KeepFault → Type 0) → ((fault : KeepFault) → P fault → Q fault)
    → IfErr r (IsCause P) → IfErr r (IsCause Q)
fault_since (Ok t) P Q entails cause = tt
fault_since (Err e) P Q entails cause = causes_since P Q e (entails e) cause
