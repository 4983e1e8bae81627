-- How a disk's past goes on from call to call.
use Rattle.std.proofs.Common.{ℕ, refl, ◌∙◌, arith}
use Rattle.pdb_disk.specs.Files.{Elapses, Files}
use Rattle.pdb_log.specs.Elapsed.{TimeGoesOn}

module _ {D : Type 0} (clock : D → ℕ) (past : D → ℕ → Files) where
  -- no call
  pub time_itself : (d : D) → TimeGoesOn clock past d d
  time_itself d = record { later = omega arith; earlier = λ t le. refl }

  -- a write, a cut or a sync
  pub time_of_call : (old new : D) → Elapses (clock old) (clock new) (past old) (past new) → TimeGoesOn clock past old new
  time_of_call old new time = record { later = time.later; earlier = time.earlier }

  -- calls after calls
  pub time_then : (a b c : D) → TimeGoesOn clock past a b → TimeGoesOn clock past b c → TimeGoesOn clock past a c
  time_then a b c first second = record {
    later = let x = first.later in let y = second.later in omega (arith, x, y);
    earlier = λ t le. let x = first.later in second.earlier t (omega (arith, le, x)) ∙ first.earlier t le;
  }
