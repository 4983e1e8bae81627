-- A loop that syncs files, call by call.
use Rattle.std.proofs.Common.{◌≡◌, ℕ, ◌+◌, refl, sym, ◌∙◌, subst}
use Rattle.std.specs.Prelude.{Bool, IsTrue}
use Rattle.pdb_disk.specs.Files.{Elapses, Files, Settles}
use Rattle.pdb_disk.specs.Moments.{Moments}
use Rattle.pdb_disk.proofs.Calls.{joined, no_call, one_call, unsynced}
use Rattle.pdb_recover.proofs.Syncing.{SyncedBelow, none_synced, one_skipped, one_synced}

-- some of the files were synced
abbrev pub SyncedSome : (ℕ → Type 0) → Files → Files → Type 0
SyncedSome P old new = (m : ℕ) × SyncedBelow P m old new

module _ {D : Type 0} (tells : D → Bool) (clock : D → ℕ) (past : D → ℕ → Files) (faults : D → ℕ) (P : ℕ → Type 0) where
  -- the loop has come to this number
  pub record Syncs (n : ℕ) (old new : D) : Type 0 where
    pub moments : IsTrue (tells old) → Moments (clock old) (clock new) (past old) (past new) (SyncedSome P (past old (clock old)))
    pub synced : IsTrue (tells old) → SyncedBelow P n (past old (clock old)) (past new (clock new))
    pub told : IsTrue (tells old) → IsTrue (tells new)
    pub counted : faults new ≡ faults old

  pub syncs_none : (d : D) → Syncs 0 d d
  syncs_none d = record {
    moments = λ told. no_call (clock d) (past d) (SyncedSome P (past d (clock d))) (0, none_synced P (past d (clock d)));
    synced = λ told. none_synced P (past d (clock d));
    told = λ told. told;
    counted = refl;
  }

  pub syncs_skipped : (n : ℕ) (old new : D) → (P n → ⊥) → Syncs n old new → Syncs (n + 1) old new
  syncs_skipped n old new out h = record {
    moments = h.moments;
    synced = λ told. one_skipped P n (past old (clock old)) (past new (clock new)) (h.synced told) out;
    told = h.told;
    counted = h.counted;
  }

  pub syncs_one : (n : ℕ) (old mid new : D) → Elapses (clock mid) (clock new) (past mid) (past new)
      → (IsTrue (tells mid) → Settles n (past mid (clock mid)) (past new (clock new))) → (IsTrue (tells mid) → IsTrue (tells new)) → faults new ≡ faults mid
      → Syncs n old mid → Syncs (n + 1) old new
  syncs_one n old mid new time settles told counted h = record {
    moments = λ t. joined (clock old) (clock mid) (clock new) (past old) (past mid) (past new) (SyncedSome P (past old (clock old))) (h.moments t)
        (one_call (clock mid) (clock new) (past mid) (past new) (SyncedSome P (past old (clock old))) time (n, h.synced t) (n + 1, after t));
    synced = after;
    told = λ t. told (h.told t);
    counted = counted ∙ h.counted;
  }
    where
      after : IsTrue (tells old) → SyncedBelow P (n + 1) (past old (clock old)) (past new (clock new))
      after t = one_synced P n (past old (clock old)) (past mid (clock mid)) (past new (clock new)) (h.synced t) (settles (h.told t))

  -- a sync failed
  pub syncs_failed : (n : ℕ) (old mid new : D) → Elapses (clock mid) (clock new) (past mid) (past new)
      → (IsTrue (tells mid) → past new (clock new) ≡ past mid (clock mid)) → Syncs n old mid
      → IsTrue (tells old) → Moments (clock old) (clock new) (past old) (past new) (SyncedSome P (past old (clock old)))
  syncs_failed n old mid new time same h t =
      joined (clock old) (clock mid) (clock new) (past old) (past mid) (past new) (SyncedSome P (past old (clock old))) (h.moments t)
      (unsynced (clock mid) (clock new) (past mid) (past new) (SyncedSome P (past old (clock old))) time (same (h.told t)) (n, h.synced t))

  pub failed_reads : (n : ℕ) (old mid new : D) → (IsTrue (tells mid) → past new (clock new) ≡ past mid (clock mid)) → Syncs n old mid
      → IsTrue (tells old) → SyncedBelow P n (past old (clock old)) (past new (clock new))
  failed_reads n old mid new same h t = subst (SyncedBelow P n (past old (clock old))) (sym (same (h.told t))) (h.synced t)
