-- Files while some of them are synced, one after the other.
use Rattle.std.proofs.Common.{◌≡◌, ◌⊎◌, inl, inr, ⊎_elim, ℕ, ◌+◌, ◌≤◌, ◌<◌, List, refl, sym, ◌∙◌, ap, subst, arith}
use Rattle.std.proofs.lemmas.Bool.{cases_eq, cases_lt}
use Rattle.pdb_disk.specs.Files.{FileBytes, FileState, Files, Image, Settles, IsFileImage, IsImage, reads_of}
use Rattle.pdb_model.specs.Gates.{gate_at, gate_bytes, gate_place}
use Rattle.pdb_model.specs.Logs.{AreInARow, HasGate, StandsWhole, gate_file}
use Rattle.pdb_model.specs.Records.{record_bytes}
use Rattle.pdb_model.specs.Recovery.{Row, Safe, StoodThere, TearClear}
use Rattle.pdb_recover.specs.Recovering.{AreSettled, IsSynced, IsStoreFile}
use Rattle.pdb_recover.proofs.Settled.{none_past, settled_image, settles_settled, settled_same}

-- each file below this number that has P was synced, and no file reads otherwise than before
pub record SyncedBelow (P : ℕ → Type 0) (n : ℕ) (old new : Files) : Type 0 where
  pub reads : (j : ℕ) → (new j).read ≡ (old j).read
  pub below : (j : ℕ) → j < n → IsSynced (new j) ⊎ ((P j → ⊥) × (new j ≡ old j))
  pub from : (j : ℕ) → n ≤ j → new j ≡ old j

pub none_synced : (P : ℕ → Type 0) (fs : Files) → SyncedBelow P 0 fs fs
none_synced P fs = record { reads = λ j. refl; below = λ j l. absurd (omega (arith, l)); from = λ j l. refl }

pub one_synced : (P : ℕ → Type 0) (n : ℕ) (old mid new : Files) → SyncedBelow P n old mid → Settles n mid new → SyncedBelow P (n + 1) old new
one_synced P n old mid new h b = record {
  reads = λ j. ⊎_elim
      (λ e. subst (λ k. (new k).read ≡ (old k).read) (sym e) (b.read ∙ h.reads n))
      (λ ne. ap (λ (s : FileState). s.read) (b.others j ne) ∙ h.reads j)
      (cases_eq j n);
  below = λ j l. ⊎_elim
      (λ e. inl (subst (λ k. IsSynced (new k)) (sym e) (settles_settled n mid new b)))
      (λ ne. ⊎_elim
      (λ is. inl (settled_same (mid j) (new j) (b.others j ne) is))
      (λ out. inr (out.0, b.others j ne ∙ out.1))
      (h.below j (omega (arith, l, ne))))
      (cases_eq j n);
  from = λ j l. b.others j (λ e. omega (arith, l, e)) ∙ h.from j (omega (arith, l));
}

pub one_skipped : (P : ℕ → Type 0) (n : ℕ) (old new : Files) → SyncedBelow P n old new → (P n → ⊥) → SyncedBelow P (n + 1) old new
one_skipped P n old new h out = record {
  reads = h.reads;
  below = λ j l. ⊎_elim
      (λ e. inr (subst (λ k. (P k → ⊥) × (new k ≡ old k)) (sym e) (out, h.from n (omega arith))))
      (λ ne. h.below j (omega (arith, l, ne)))
      (cases_eq j n);
  from = λ j l. h.from j (omega (arith, l));
}

module _ (P : ℕ → Type 0) (n : ℕ) (old new : Files) (h : SyncedBelow P n old new) where
  pub same_reads : reads_of new ≡ reads_of old
  same_reads = λ i j. h.reads j i

  pub synced_or_same : (j : ℕ) → IsSynced (new j) ⊎ (new j ≡ old j)
  synced_or_same j = ⊎_elim
      (λ l. ⊎_elim (λ is. inl is) (λ out. inr out.1) (h.below j l))
      (λ ge. inr (h.from j ge))
      (cases_lt j n)

  -- what a crash leaves now it might have left before
  pub image_before : (x : Image) → IsImage old (reads_of old) → IsImage new x → IsImage old x
  image_before x reads image j = ⊎_elim
      (λ is. subst (IsFileImage (old j)) (sym (settled_image (new j) (x j) is (image j) ∙ h.reads j)) (reads j))
      (λ e. subst (λ (s : FileState). IsFileImage s (x j)) e (image j))
      (synced_or_same j)

  clear_before : (x : Image) → TearClear old (reads_of old) → IsImage new x → TearClear new x → TearClear old x
  clear_before x reads image clear = record {
    records = λ file number before end r m row whole. ⊎_elim
        (λ is.
        let e : x file ≡ (old file).read = settled_image (new file) (x file) is (image file) ∙ h.reads file in
        reads.records file number before end r m (subst (λ (c : FileBytes). AreInARow c 0 number before end) e row) (subst (λ (c : FileBytes). StandsWhole c end r) e whole))
        (λ e. subst (λ (s : FileState). StoodThere s end (record_bytes r)) e (clear.records file number before end r m row whole))
        (synced_or_same file);
    gates = λ g has. ⊎_elim
        (λ is.
        let e : x gate_file ≡ (old gate_file).read = settled_image (new gate_file) (x gate_file) is (image gate_file) ∙ h.reads gate_file in
        reads.gates g (subst (λ (c : FileBytes). HasGate c g) e has))
        (λ e. subst (λ (s : FileState). StoodThere s (gate_at (gate_place g)) (gate_bytes g)) e (clear.gates g has))
        (synced_or_same gate_file);
  }

  pub still_safe : (rows : List Row) (f : ℕ) → IsImage old (reads_of old) → TearClear old (reads_of old) → Safe rows f old → Safe rows f new
  still_safe rows f reads clear safe x image now = safe x (image_before x reads image) (clear_before x clear image now)

-- once all files of the store are synced
pub all_settled : (n : ℕ) (old new : Files) → n ≡ 66 → SyncedBelow IsStoreFile n old new → AreSettled new
all_settled n old new e h j is = ⊎_elim
    (λ l. ⊎_elim (λ s. s) (λ out. absurd (out.0 is)) (h.below j l))
    (λ ge. absurd (none_past j (omega (arith, ge, e)) is))
    (cases_lt j n)

-- once those that were written are, where the others were
pub rest_settled : (P : ℕ → Type 0) (n : ℕ) (before old new : Files) → n ≡ 66 → AreSettled before → ((j : ℕ) → (P j → ⊥) → old j ≡ before j) → SyncedBelow P n old new → AreSettled new
rest_settled P n before old new e are same h j is = ⊎_elim
    (λ l. ⊎_elim (λ s. s) (λ out. settled_same (before j) (new j) (out.1 ∙ same j out.0) (are j is)) (h.below j l))
    (λ ge. absurd (none_past j (omega (arith, ge, e)) is))
    (cases_lt j n)
