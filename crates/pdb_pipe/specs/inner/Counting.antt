-- That a database stands for as many commits as it has accepted.
use Rattle.std.specs.Prelude.{◌≡◌, ℕ, Bool, length}
use Rattle.std.proofs.Common.{ap, arith, length-append}
use Rattle.sdb_base.specs.Keeping.{Commits}
use Rattle.pdb_disk.specs.Files.{Files}
use Rattle.pdb_pipe.specs.Standing.{StandsFor}
use Rattle.pdb_pipe.specs.declared.database.Database.{Database}

module _ {D : Type 0} (tells : D → Bool) (clock : D → ℕ) (past : D → ℕ → Files) where
  pub as_many : (a : Database D) (g : Commits) → StandsFor tells clock past a g → a.accepted ≡ length g
  as_many a g s =
      let c = a.counted in let n = s.count in let l = length-append s.logged a.queue in let p = ap (λ (h : Commits). length h) s.parts in
      omega (arith, c, n, l, p)
