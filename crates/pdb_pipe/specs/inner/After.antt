-- Databases that calls made of others, and the laws of a keeper about them.
use Rattle.std.specs.Prelude.{◌≡◌, ◌≤◌, ◌++◌, ℕ, [], refl}
use Rattle.std.proofs.Common.{◌∙◌, ap, append_assoc, arith, sym}
use Rattle.std.proofs.lemmas.List.{append-nil}
use Rattle.sdb_base.specs.Keeping.{Commits}
use Rattle.pdb_disk.specs.Files.{Files}
use Rattle.pdb_redo.specs.Reaches.{Reach, RedoGoesOn}
use Rattle.pdb_redo.specs.declared.redo_log.Redo.{Redo}
use Rattle.pdb_pipe.specs.Going.{ComesAfter, ComesAfterWith, LeavesDisk}
use Rattle.pdb_pipe.specs.declared.database.Database.{Database}

-- commits begin with themselves, and with those with which earlier ones begin
ends_with_none : (g : Commits) → g ≡ g ++ []
ends_with_none g = sym (append-nil g)

begins_on : (g h i : Commits) → ((more : Commits) × (h ≡ g ++ more)) → ((more : Commits) × (i ≡ h ++ more)) → ((more : Commits) × (i ≡ g ++ more))
begins_on g h i p q = (p.0 ++ q.0, q.1 ∙ ap (λ (h : Commits). h ++ q.0) p.1 ∙ append_assoc g p.0 q.0)

module _ {D : Type 0} (clock : D → ℕ) (past : D → ℕ → Files) (fault_count : D → ℕ) where
  abbrev After : Database D → Database D → Type 0
  After a b = ComesAfter clock past fault_count a b

  pub going_itself : (r : Redo D) → RedoGoesOn clock past r r
  going_itself r = record { later = omega arith; earlier = λ t le. refl; reads = omega arith }

  pub going_on : (r s t : Redo D) → RedoGoesOn clock past r s → RedoGoesOn clock past s t → RedoGoesOn clock past r t
  going_on r s t p q = record {
    later = let a = p.later in let b = q.later in omega (arith, a, b);
    earlier = λ m le. q.earlier m (let a = p.later in omega (arith, a, le)) ∙ p.earlier m le;
    reads = let a = p.reads in let b = q.reads in omega (arith, a, b);
  }

  pub after_itself : (a : Database D) → After a a
  after_itself a = record { faults = omega arith; goes_on = going_itself a.redo; flushed = omega arith }

  pub after_on : (a b c : Database D) → After a b → After b c → After a c
  after_on a b c p q = record {
    faults = let f = p.faults in let g = q.faults in omega (arith, f, g);
    goes_on = going_on a.redo b.redo c.redo p.goes_on q.goes_on;
    flushed = let f = p.flushed in let g = q.flushed in omega (arith, f, g);
  }

  pub after_rises : (a b : Database D) → After a b → (fault_count a.redo.log.disk ≤ fault_count b.redo.log.disk) × (a.redo.reads ≤ b.redo.reads)
  after_rises a b p = (p.faults, p.goes_on.reads)

  pub with_itself : (a : Database D) (g : Commits) → ComesAfterWith clock past fault_count a g a g
  with_itself a g = (after_itself a, ([], ends_with_none g))

  pub with_on : (a b c : Database D) (g h i : Commits) → ComesAfterWith clock past fault_count a g b h
      → ComesAfterWith clock past fault_count b h c i → ComesAfterWith clock past fault_count a g c i
  with_on a b c g h i p q = (after_on a b c p.0 q.0, begins_on g h i p.1 q.1)

  pub leaves_after : (a b : Database D) → LeavesDisk clock past fault_count a b → After a b
  leaves_after a b p = record {
    faults = p.faults;
    goes_on = record {
      later = let e = p.time in omega (arith, e);
      earlier = λ t le. ap (λ (files : ℕ → Files). files t) p.unchanged;
      reads = p.reads;
    };
    flushed = let e = ap (λ (r : Reach). r.flushed) p.reach in omega (arith, e);
  }

  pub leaves_itself : (a : Database D) → LeavesDisk clock past fault_count a a
  leaves_itself a = record { time = refl; unchanged = refl; faults = omega arith; reads = omega arith; stopped = refl; reach = refl; tally = λ t is. is }

  pub leaves_on : (a b c : Database D) → LeavesDisk clock past fault_count a b → LeavesDisk clock past fault_count b c → LeavesDisk clock past fault_count a c
  leaves_on a b c p q = record {
    time = q.time ∙ p.time;
    unchanged = q.unchanged ∙ p.unchanged;
    faults = let f = p.faults in let g = q.faults in omega (arith, f, g);
    reads = let f = p.reads in let g = q.reads in omega (arith, f, g);
    stopped = q.stopped ∙ p.stopped;
    reach = q.reach ∙ p.reach;
    tally = λ t is. q.tally t (p.tally t is);
  }
