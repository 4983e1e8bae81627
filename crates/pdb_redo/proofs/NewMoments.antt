-- The moments at which the first gate is written.
use Rattle.std.proofs.Common.{◌≡◌, ◌⊎◌, ◌<◌, inl, inr, ⊎_elim, ℕ, Option, Some, None, IsSome, sym, subst, arith, rules}
use Rattle.std.proofs.lemmas.Bool.{cases_lt}
use Rattle.pdb_cells.proofs.Sizes.{no_cells}
use Rattle.pdb_cells.specs.Sizes.{head_file, size_of}
use Rattle.pdb_disk.specs.Files.{Begins, Elapses, Files, MayBegin, Settles, done}
use Rattle.pdb_disk.specs.Moments.{Moments}
use Rattle.pdb_disk.proofs.Calls.{joined, no_time, one_call}
use Rattle.pdb_log.specs.Recovered.{IsStoreFile}
use Rattle.pdb_log.specs.Ledger.{IsEmptyFile}
use Rattle.pdb_model.specs.Logs.{gate_file}
use Rattle.pdb_redo.specs.Creating.{IsNoneOrNew, new_head}
use Rattle.pdb_redo.specs.inner.Creation.{AreEmpty, AreHeaded, AreUngated, HasNoGateYet, NeverHasGate}
use Rattle.pdb_redo.proofs.CreatGates.{empty_never, never_yet}
use Rattle.pdb_redo.proofs.CreatMoments.{none_yet}
use Rattle.pdb_redo.proofs.NewGate.{first_write, gate_pending, recovered_new}

ungated_none : (base : ℕ) (fs : Files) → AreUngated base fs → IsNoneOrNew base fs
ungated_none base fs ungated = none_yet base fs (never_yet fs (empty_never fs (ungated.empty gate_file (inl (omega arith)) (λ e. omega (arith, e)))))

module _ {D : Type 0} (clock : D → ℕ) (past : D → ℕ → Files) (base : ℕ) where
  abbrev now_of : D → Files
  now_of d = past d (clock d)

  abbrev NoneOrNew : D → D → Type 0
  NoneOrNew old new = Moments (clock old) (clock new) (past old) (past new) (IsNoneOrNew base)

  pub gate_write_moments : (old mid : D) → Elapses (clock old) (clock mid) (past old) (past mid) → AreUngated base (now_of old) → MayBegin gate_file first_write (now_of old) (now_of mid) → NoneOrNew old mid
  gate_write_moments old mid time ungated may = one_call (clock old) (clock mid) (past old) (past mid) (IsNoneOrNew base) time (ungated_none base (now_of old) ungated)
      (⊎_elim (gate_pending base (now_of old) (now_of mid) ungated) (λ same. subst (IsNoneOrNew base) (sym same) (ungated_none base (now_of old) ungated)) may)

  pub gate_moments : (old mid new : D) → Elapses (clock old) (clock mid) (past old) (past mid) → Elapses (clock mid) (clock new) (past mid) (past new) → AreUngated base (now_of old)
      → Begins gate_file first_write (now_of old) (now_of mid) → (now_of mid gate_file).read ≡ done (now_of old gate_file).read first_write → Settles gate_file (now_of mid) (now_of new) ⊎ (now_of new ≡ now_of mid) → NoneOrNew old new
  gate_moments old mid new first second ungated begun written synced =
      let pending = gate_pending base (now_of old) (now_of mid) ungated begun in
      joined (clock old) (clock mid) (clock new) (past old) (past mid) (past new) (IsNoneOrNew base)
      (gate_write_moments old mid first ungated (inl begun))
      (one_call (clock mid) (clock new) (past mid) (past new) (IsNoneOrNew base) second pending
      (⊎_elim
      (λ settles. recovered_new base (now_of old) (now_of mid) (now_of new) ungated begun written settles)
      (λ same. subst (IsNoneOrNew base) (sym same) pending)
      synced))

  -- calls after a read
  pub as_read : (a b : D) → clock b ≡ clock a → past b ≡ past a → now_of b ≡ now_of a
  as_read a b time same = λ i. same i (time i)

  pub from_read : (a b c : D) → clock b ≡ clock a → past b ≡ past a → NoneOrNew b c → NoneOrNew a c
  from_read a b c time same moments =
      subst (λ n. Moments n (clock c) (past a) (past c) (IsNoneOrNew base)) time
      (subst (λ (f : ℕ → Files). Moments (clock b) (clock c) f (past c) (IsNoneOrNew base)) same moments)

  pub joined_new : (a b c : D) → NoneOrNew a b → NoneOrNew b c → NoneOrNew a c
  joined_new a b c first second = joined (clock a) (clock b) (clock c) (past a) (past b) (past c) (IsNoneOrNew base) first second

  pub only_read : (a b : D) → clock b ≡ clock a → past b ≡ past a → NeverHasGate (now_of a) → NoneOrNew a b
  only_read a b time same never = no_time (clock a) (clock b) (past a) (past b) (IsNoneOrNew base) time same (none_yet base (now_of a) (never_yet (now_of a) never))

no_size : (o : Option ℕ) → o ≡ None → IsSome o → ⊥
no_size None e some = search (some, rules)
no_size (Some n) e some = cc

-- the files once all were emptied and the heads written
pub ungated_by : (base : ℕ) (old new : Files) → AreEmpty 66 old → AreHeaded (new_head base) old new → AreUngated base new
ungated_by base old new empty headed = record {
  empty = λ j stored other. subst IsEmptyFile (sym (headed.others j other)) (empty j stored (below stored));
  heads = headed.heads;
}
  where
    below : {j : ℕ} → IsStoreFile j → j < 66
    below {j} stored = ⊎_elim (λ low. omega (arith, low)) (λ some. ⊎_elim (λ high. absurd (no_size (size_of j) (no_cells j (inr (inr high))) some)) (λ low. omega (arith, low)) (cases_lt 65 j)) stored

-- an emptied store has no gate
pub emptied_yet : (fs : Files) → AreEmpty 66 fs → HasNoGateYet fs
emptied_yet fs empty = never_yet fs (empty_never fs (empty gate_file (inl (omega arith)) (omega arith)))

pub heads_emptied : (fs : Files) → AreEmpty 66 fs → IsEmptyFile (fs head_file)
heads_emptied fs empty = empty head_file (inr (search rules)) (omega arith)
