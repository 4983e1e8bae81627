-- Marked files while they are synced, one after the other.
use Rattle.std.proofs.Common.{◌≡◌, ◌≢◌, ◌⊎◌, inl, inr, ⊎_elim, ℕ, ◌+◌, ◌<◌, ◌≤◌, Bool, false, List, length, get_or, refl, sym, ◌∙◌, ap, subst, arith}
use Rattle.std.specs.Prelude.{IsSome, IsTrue, Some, set, slice_get}
use Rattle.std.proofs.lemmas.Bool.{cases_eq}
use Rattle.std.proofs.lemmas.List.{length-set}
use Rattle.std.proofs.lemmas.Option.{slice_get-get_or}
use Rattle.pdb_cells.specs.Sizes.{size_of}
use Rattle.pdb_disk.specs.Files.{Elapses, FileState, Files, IsSynced, Settles}
use Rattle.pdb_disk.proofs.Calls.{joined, no_call}
use Rattle.pdb_disk.specs.Moments.{Moments}
use Rattle.pdb_log.specs.Ledger.{Ledger}
use Rattle.pdb_log.specs.Standing.{IsLog}
use Rattle.pdb_log.specs.declared.log.Log.{Log}
use Rattle.pdb_log.proofs.Logs.{safe_now}
use Rattle.pdb_log.proofs.Times.{time_itself, time_of_call, time_then}
use Rattle.pdb_model.specs.Recovery.{Row, Safe}
use Rattle.pdb_redo.specs.inner.Writing.{Passes, SettlesMarked, files_now}
use Rattle.pdb_redo.proofs.CellSizes.{sized_file}
use Rattle.pdb_redo.proofs.Marks.{mark_else}

module _ {D : Type 0} (tells : D → Bool) (clock : D → ℕ) (past : D → ℕ → Files) where
  pub passes_none : (log : Log D) → Passes tells clock past log log
  passes_none log = record {
    rest = refl;
    stands = λ l rows f is. is;
    moments = λ l rows f is. no_call (clock log.disk) (past log.disk) (Safe rows f) (safe_now tells clock past log l rows f is);
    told = λ t. t;
    goes_on = time_itself clock past log.disk;
    read = λ t j. refl;
  }

  pub passes_on : (old mid new : Log D) → Passes tells clock past old mid → Passes tells clock past mid new → Passes tells clock past old new
  passes_on old mid new a b = record {
    rest = b.rest ∙ ap (λ (log : Log D). record log { disk = new.disk }) a.rest;
    stands = λ l rows f is. b.stands l rows f (a.stands l rows f is);
    moments = λ l rows f is. joined (clock old.disk) (clock mid.disk) (clock new.disk) (past old.disk) (past mid.disk) (past new.disk) (Safe rows f)
        (a.moments l rows f is) (b.moments l rows f (a.stands l rows f is));
    told = λ t. b.told (a.told t);
    goes_on = time_then clock past old.disk mid.disk new.disk a.goes_on b.goes_on;
    read = λ t j. b.read (a.told t) j ∙ a.read t j;
  }

  pub settles_read : (file : ℕ) (old new : Files) → Settles file old new → (j : ℕ) → (new j).read ≡ (old j).read
  settles_read file old new s j = ⊎_elim
      (λ e. subst (λ k. (new k).read ≡ (old k).read) (sym e) s.read)
      (λ ne. ap (λ (f : FileState). f.read) (s.others j ne))
      (cases_eq j file)

  -- where the files that weren't marked were settled, those below this number are, and those that aren't marked
  abbrev pub SettlesBelow : ℕ → List Bool → List Bool → Log D → Log D → Type 0
  SettlesBelow n before marks old new = ((j : ℕ) → IsSome (size_of j) → slice_get before j ≡ Some false → IsSynced (files_now clock past old j))
      → (j : ℕ) → IsSome (size_of j) → (j < n) ⊎ (slice_get marks j ≡ Some false) → IsSynced (files_now clock past new j)

  pub settles_none : (marks : List Bool) (log : Log D) → SettlesBelow 9 marks marks log log
  settles_none marks log were j sized (inl low) = let is = (sized_file j sized).0 in absurd (omega (arith, low, is))
  settles_none marks log were j sized (inr un) = were j sized un

  unmarked : (marks : List Bool) (n : ℕ) → n < length marks → get_or marks n false ≡ false → slice_get marks n ≡ Some false
  unmarked marks n l e = slice_get-get_or marks n false l ∙ ap Some e

  pub settles_skipped : (n : ℕ) (before marks : List Bool) (old new : Log D) → n < length marks → get_or marks n false ≡ false
      → SettlesBelow n before marks old new → SettlesBelow (n + 1) before marks old new
  settles_skipped n before marks old new l e h were j sized (inl low) = ⊎_elim
      (λ same. h were j sized (inr (subst (λ k. slice_get marks k ≡ Some false) (sym same) (unmarked marks n l e))))
      (λ ne. h were j sized (inl (omega (arith, low, ne))))
      (cases_eq j n)
  settles_skipped n before marks old new l e h were j sized (inr un) = h were j sized (inr un)

  pub settles_one : (n : ℕ) (before marks : List Bool) (old mid new : Log D) → Settles n (files_now clock past mid) (files_now clock past new)
      → ((j : ℕ) → j ≢ n → slice_get (set marks n false) j ≡ slice_get marks j)
      → SettlesBelow n before marks old mid → SettlesBelow (n + 1) before (set marks n false) old new
  settles_one n before marks old mid new s others h were j sized which = ⊎_elim
      (λ same. subst (λ k. IsSynced (files_now clock past new k)) (sym same) (record { kept = s.kept ∙ sym s.read; since = s.since }))
      (λ ne. subst IsSynced (sym (s.others j ne)) (h were j sized (⊎_elim (λ low. inl (omega (arith, low, ne))) (λ un. inr (sym (others j ne) ∙ un)) which)))
      (cases_eq j n)

  pub settles_all : (n : ℕ) (before marks : List Bool) (old new : Log D) → 66 ≤ n → SettlesBelow n before marks old new → SettlesMarked clock past before old new
  settles_all n before marks old new end h were j sized = h were j sized (inl (let is = (sized_file j sized).1 in omega (arith, is, end)))

  -- a sync, answered or failed
  pub sync_passes : (old new : Log D) → new ≡ record old { disk = new.disk }
      → ((l : Ledger) (rows : List Row) (f : ℕ) → IsLog tells clock past old l rows f → IsLog tells clock past new l rows f)
      → ((l : Ledger) (rows : List Row) (f : ℕ) → IsLog tells clock past old l rows f → Moments (clock old.disk) (clock new.disk) (past old.disk) (past new.disk) (Safe rows f))
      → (IsTrue (tells old.disk) → IsTrue (tells new.disk)) → Elapses (clock old.disk) (clock new.disk) (past old.disk) (past new.disk)
      → (IsTrue (tells old.disk) → (j : ℕ) → (files_now clock past new j).read ≡ (files_now clock past old j).read)
      → Passes tells clock past old new
  sync_passes old new rest stands moments told time read =
      record { rest = rest; stands = stands; moments = moments; told = told; goes_on = time_of_call clock past old.disk new.disk time; read = read }

  module _ (faults : D → ℕ) where
    -- the loop has come to this file
    pub record Syncs (n : ℕ) (before marks : List Bool) (old new : Log D) : Type 0 where
      pub marks_all : length marks ≡ 66
      pub passes : Passes tells clock past old new
      pub settled : IsTrue (tells old.disk) → SettlesBelow n before marks old new
      pub counted : faults new.disk ≡ faults old.disk

    pub syncs_begin : (marks : List Bool) (log : Log D) → length marks ≡ 66 → Syncs 9 marks marks log log
    syncs_begin marks log all = record { marks_all = all; passes = passes_none log; settled = λ t. settles_none marks log; counted = refl }

    pub syncs_skip : (n : ℕ) (before marks : List Bool) (old new : Log D) → n < 66 → get_or marks n false ≡ false → Syncs n before marks old new → Syncs (n + 1) before marks old new
    syncs_skip n before marks old new l e h = record {
      marks_all = h.marks_all;
      passes = h.passes;
      settled = λ t. settles_skipped n before marks old new (let all = h.marks_all in omega (arith, l, all)) e (h.settled t);
      counted = h.counted;
    }

    pub syncs_next : (n : ℕ) (before marks : List Bool) (old mid new : Log D) → Passes tells clock past mid new
        → (IsTrue (tells mid.disk) → Settles n (files_now clock past mid) (files_now clock past new)) → faults new.disk ≡ faults mid.disk
        → Syncs n before marks old mid → Syncs (n + 1) before (set marks n false) old new
    syncs_next n before marks old mid new passes settles counted h = record {
      marks_all = length-set marks n false ∙ h.marks_all;
      passes = passes_on old mid new h.passes passes;
      settled = λ t. settles_one n before marks old mid new (settles (h.passes.told t)) (λ j ne. mark_else marks n j false ne) (h.settled t);
      counted = counted ∙ h.counted;
    }
