-- What a look-up answers of a database that stands for commits, and which damages it names.
use Rattle.std.proofs.Common.{◌≡◌, ◌≤◌, ℕ, Bool, List, Option, Some, None, if◌then◌else◌, Result, Ok, Err, sym, ap, subst, inl, inr}
use Rattle.std.specs.Prelude.{All, IfErr, IfOk}
use Rattle.std.proofs.lemmas.Result.{IfOk-weaker}
use Rattle.sdb_base.specs.Content.{meta_from, meta_under, node_under}
use Rattle.sdb_base.specs.Keeping.{Commits, IsCause, IsMetaAnswer, IsNodeAnswer, operations}
use Rattle.sdb_base.specs.declared.op.Op.{Op}
use Rattle.sdb_base.specs.declared.numbers.KeepFault.{KeepFault}
use Rattle.sdb_base.specs.declared.numbers.KeepFault.TheVariants.{Damaged}
use Rattle.sdb_blake2.specs.Blake2b.{H}
use Rattle.pdb_cells.specs.Content.{Content}
use Rattle.pdb_column.specs.Holding.{HoldsColumn}
use Rattle.pdb_column.specs.Maps.{ColumnMap, HasHashAlone, column_from}
use Rattle.pdb_disk.specs.Files.{Files}
use Rattle.pdb_overlay.specs.Lending.{Said, newest_said}
use Rattle.pdb_redo.specs.Standing.{cells_under_records}
use Rattle.pdb_pipe.specs.Commits.{NodesAgree, HashesApart, contents_of}
use Rattle.pdb_pipe.specs.Faults.{IsDamaged, seen_cells}
use Rattle.pdb_pipe.specs.Reads.{NamesDamage}
use Rattle.pdb_pipe.specs.Standing.{StandsFor, bases_of}
use Rattle.pdb_pipe.specs.declared.database.Database.{Database}
use Rattle.pdb_pipe.proofs.LookAnswers.{looked, meta_answered, node_answered}

-- which cells hold what is logged, and are seen
pub record AreSeen (seen : Option Content) (column : ℕ) (content : ColumnMap) : Type 0 where
  pub cells : Content
  pub base : ℕ
  pub seen_as : seen ≡ Some cells
  pub holds : HoldsColumn cells column base content

module _ {D : Type 0} (tells : D → Bool) (clock : D → ℕ) (past : D → ℕ → Files) (db : Database D) where
  pub are_seen : (column : ℕ) → column ≤ 1 → (commits : Commits) (s : StandsFor tells clock past db commits)
      → AreSeen (seen_cells tells clock past db) column (contents_of s.logged column)
  are_seen column low commits s = record {
    cells = cells_under_records clock past db.redo;
    base = bases_of db column;
    seen_as = ap (λ (t : Bool). if t then Some (cells_under_records clock past db.redo) else None) s.told;
    holds = s.columns.each column low;
  }

  -- the answer for a node is what the queue says, else what is logged
  pub node_of : (r : Result (Option (List ℕ)) KeepFault) (key : List ℕ) (said : Option Said) → said ≡ newest_said 0 key (operations db.queue)
      → (commits : Commits) (s : StandsFor tells clock past db commits) → IfOk r (λ o. o ≡ looked said (contents_of s.logged 0 key))
      → NodesAgree commits key → IfOk r (IsNodeAnswer commits key (node_under (operations commits) key))
  node_of r key said is commits s ok alike =
      IfOk-weaker r (λ o. o ≡ looked said (contents_of s.logged 0 key)) (IsNodeAnswer commits key (node_under (operations commits) key))
      (λ o e. subst (IsNodeAnswer commits key (node_under (operations commits) key)) (sym e) (node_answered commits s.logged db.queue key s.parts said is alike)) ok

  -- the same for a plain key
  pub meta_of : ((ops : List Op) (key : List ℕ) → All (HasHashAlone key) ops → column_from 1 (λ _. None) ops (H key) ≡ meta_from key None ops)
      → (r : Result (Option (List ℕ)) KeepFault) (key : List ℕ) (said : Option Said) → said ≡ newest_said 1 key (operations db.queue)
      → (commits : Commits) (s : StandsFor tells clock past db commits) → IfOk r (λ o. o ≡ looked said (contents_of s.logged 1 (H key)))
      → HashesApart commits key → IfOk r (IsMetaAnswer (meta_under (operations commits) key))
  meta_of law r key said is commits s ok apart =
      IfOk-weaker r (λ o. o ≡ looked said (contents_of s.logged 1 (H key))) (IsMetaAnswer (meta_under (operations commits) key))
      (λ o e. subst (IsMetaAnswer (meta_under (operations commits) key)) (sym e) (meta_answered commits s.logged db.queue key s.parts law said is apart)) ok

  -- a fault that no damage causes names none
  names_none : (e : KeepFault) (file cell : ℕ) → e ≡ Damaged file cell → IsCause (λ fault. ⊥) e → ⊥
  names_none e file cell is (inl memory) = cc
  names_none e file cell is (inr (inl disk)) = cc
  names_none e file cell is (inr (inr never)) = never

  pub damage_of : {T : Type 0} (r : Result T KeepFault) (column : ℕ) → column ≤ 1 → IfErr r (IsCause (NamesDamage (seen_cells tells clock past db) column))
      → ((content : ColumnMap) → AreSeen (seen_cells tells clock past db) column content → IfErr r (IsCause (λ fault. ⊥)))
      → IfErr r (IsCause (IsDamaged tells clock past db column))
  damage_of (Ok t) column low names sound = tt
  damage_of (Err e) column low (inl memory) sound = inl memory
  damage_of (Err e) column low (inr (inl disk)) sound = inr (inl disk)
  damage_of (Err e) column low (inr (inr names)) sound =
      inr (inr (names, λ file cell commits is s. names_none e file cell is (sound (contents_of s.logged column) (are_seen column low commits s))))
