-- How what a log counts goes on.
use Rattle.std.proofs.Common.{◌≡◌, sym, subst, arith}
use Rattle.pdb_log.specs.Tallies.{IsTally, Tally, with_gate}
use Rattle.pdb_log.specs.declared.log.Log.{Log}

module _ {D : Type 0} (log : Log D) (t : Tally) (is : IsTally log t) where
  -- one more move of the gate may come
  pub tally_rises : IsTally log (with_gate t)
  tally_rises = record { records = is.records; gates = let most = is.gates in omega (arith, most); bytes = is.bytes }

  -- only the disk is another
  pub tally_beside : (new : Log D) → new ≡ record log { disk = new.disk } → IsTally new t
  tally_beside new rest = subst (λ (l : Log D). IsTally l t) (sym rest) (record { records = is.records; gates = is.gates; bytes = is.bytes })
