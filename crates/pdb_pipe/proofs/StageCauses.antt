-- That a redo which refused a call isn't running after it.
use Rattle.std.proofs.Common.{◌≡◌, ℕ, Option, None, Some, Err, refl}
use Rattle.pdb_redo.specs.Answers.{IsOfFlushing, StopsAt}
use Rattle.pdb_redo.specs.declared.fault.RedoFault.{RedoFault}
use Rattle.pdb_redo.specs.declared.fault.RedoFault.TheVariants.{Disk, NumbersEnd, OutOfMemory, Stopped}

-- What a call of a redo that was refused says of its stop before and after.
pub record Refuses (T : Type 0) (old new : Option ℕ) (now : ℕ) (e : RedoFault) : Type 0 where
  pub runs : old ≡ None → StopsAt {T = T} now new (Err e)
  pub was : (call : ℕ) → old ≡ Some call → (e ≡ Stopped call) × (new ≡ Some call)

-- it isn't running then, unless it says so
pub not_running : (T : Type 0) (old new : Option ℕ) (now : ℕ) (e : RedoFault) → Refuses T old new now e → IsOfFlushing e → new ≡ None → ⊥
not_running T None new now OutOfMemory r of none = of
not_running T None new now (Disk fault) r of none = let s = r.runs refl in cc
not_running T None new now (Stopped call) r of none = r.runs refl
not_running T None new now (NumbersEnd which) r of none = of
not_running T (Some call) new now e r of none = let s = (r.was call refl).1 in cc
