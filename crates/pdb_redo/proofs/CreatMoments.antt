-- The moments of creating.
use Rattle.std.proofs.Common.{◌≡◌, ◌≢◌, ◌⊎◌, ⊎_elim, ℕ, List, sym, subst, arith}
use Rattle.pdb_cells.specs.Sizes.{head_file}
use Rattle.pdb_disk.specs.Files.{Begins, Elapses, Files, MayBegin, Settles}
use Rattle.pdb_disk.specs.Files.{Step as step}
use Rattle.pdb_disk.specs.Moments.{Moments}
use Rattle.pdb_disk.proofs.Calls.{joined, one_call, weaker}
use Rattle.pdb_model.specs.Logs.{gate_file}
use Rattle.pdb_redo.specs.Creating.{IsNoneOrNew}
use Rattle.pdb_redo.specs.inner.Creation.{HasNoGateYet, NeverHasGate}
use Rattle.pdb_redo.proofs.CreatGates.{cut_yet, emptied_by, emptied_never, never_yet, same_yet}
use Rattle.std.proofs.Common.{inl}

-- where no gate is whole yet, nothing is there
pub none_yet : (base : ℕ) (fs : Files) → HasNoGateYet fs → IsNoneOrNew base fs
none_yet base fs none x image clear = inl (λ g has. none (x gate_file) (image gate_file) clear.gates g has)

module _ {D : Type 0} (clock : D → ℕ) (past : D → ℕ → Files) where
  abbrev now_of : D → Files
  now_of d = past d (clock d)

  abbrev Yet : D → D → Type 0
  Yet old new = Moments (clock old) (clock new) (past old) (past new) HasNoGateYet

  pub cut_moments : (old mid : D) (file : ℕ) → Elapses (clock old) (clock mid) (past old) (past mid) → NeverHasGate (now_of old) → MayBegin file step.Cut (now_of old) (now_of mid) → Yet old mid
  cut_moments old mid file time never may = one_call (clock old) (clock mid) (past old) (past mid) HasNoGateYet time (never_yet (now_of old) never)
      (⊎_elim (cut_yet file (now_of old) (now_of mid) never) (λ same. subst HasNoGateYet (sym same) (never_yet (now_of old) never)) may)

  pub emptying_moments : (old mid new : D) (file : ℕ) → Elapses (clock old) (clock mid) (past old) (past mid) → Elapses (clock mid) (clock new) (past mid) (past new) → NeverHasGate (now_of old)
      → Begins file step.Cut (now_of old) (now_of mid) → (now_of mid file).read ≡ (λ i. 0) → Settles file (now_of mid) (now_of new) ⊎ (now_of new ≡ now_of mid) → Yet old new
  emptying_moments old mid new file first second never begun written synced =
      let yet = cut_yet file (now_of old) (now_of mid) never begun in
      joined (clock old) (clock mid) (clock new) (past old) (past mid) (past new) HasNoGateYet
      (one_call (clock old) (clock mid) (past old) (past mid) HasNoGateYet first (never_yet (now_of old) never) yet)
      (one_call (clock mid) (clock new) (past mid) (past new) HasNoGateYet second yet
      (⊎_elim
      (λ settles. never_yet (now_of new) (emptied_never file (now_of old) (now_of new) never (emptied_by file (now_of old) (now_of mid) (now_of new) begun written settles)))
      (λ same. subst HasNoGateYet (sym same) yet)
      synced))

  pub joined_yet : (a b c : D) → Yet a b → Yet b c → Yet a c
  joined_yet a b c first second = joined (clock a) (clock b) (clock c) (past a) (past b) (past c) HasNoGateYet first second

  -- a call on the file of the head cells
  pub heads_kept : (old new : D) → now_of new gate_file ≡ now_of old gate_file → HasNoGateYet (now_of old) → HasNoGateYet (now_of new)
  heads_kept old new same yet = same_yet (now_of old) (now_of new) same yet

  not_heads : gate_file ≢ head_file
  not_heads e = omega (arith, e)

  gate_stays : (old new : D) (at : ℕ) (bytes : List ℕ) → MayBegin head_file (step.Write at bytes) (now_of old) (now_of new) → HasNoGateYet (now_of old) → HasNoGateYet (now_of new)
  gate_stays old new at bytes may yet = ⊎_elim (λ begun. same_yet (now_of old) (now_of new) (begun.others gate_file not_heads) yet) (λ same. subst HasNoGateYet (sym same) yet) may

  pub write_moments : (old new : D) (at : ℕ) (bytes : List ℕ) → Elapses (clock old) (clock new) (past old) (past new) → MayBegin head_file (step.Write at bytes) (now_of old) (now_of new)
      → HasNoGateYet (now_of old) → Yet old new × HasNoGateYet (now_of new)
  write_moments old new at bytes time may yet =
      let after = gate_stays old new at bytes may yet in
      (one_call (clock old) (clock new) (past old) (past new) HasNoGateYet time yet after, after)

  pub sync_moments : (old new : D) → Elapses (clock old) (clock new) (past old) (past new) → Settles head_file (now_of old) (now_of new) ⊎ (now_of new ≡ now_of old) → HasNoGateYet (now_of old) → Yet old new
  sync_moments old new time synced yet = one_call (clock old) (clock new) (past old) (past new) HasNoGateYet time yet
      (⊎_elim (λ settles. same_yet (now_of old) (now_of new) (settles.others gate_file not_heads) yet) (λ same. subst HasNoGateYet (sym same) yet) synced)

  pub none_or_new : (base : ℕ) (old new : D) → Yet old new → Moments (clock old) (clock new) (past old) (past new) (IsNoneOrNew base)
  none_or_new base old new moments = weaker (clock old) (clock new) (past old) (past new) HasNoGateYet (IsNoneOrNew base) moments (none_yet base)
