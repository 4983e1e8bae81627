-- What a look-up in a column gives, and its faults as a keeper's.
use Rattle.std.proofs.Common.{◌≡◌, ℕ, Bool, true, false, List, Option, Some, None, refl, ap, inl, inr}
use Rattle.std.specs.Option.{option_map}
use Rattle.sdb_base.specs.Content.{Counted}
use Rattle.sdb_base.specs.Keeping.{IsCause}
use Rattle.pdb_cells.specs.Content.{Content}
use Rattle.pdb_column.specs.Answers.{IsGot, LookUpSays}
use Rattle.pdb_column.specs.Damages.{BreaksColumn}
use Rattle.pdb_column.specs.declared.fault.ColumnFault.{ColumnFault}
use Rattle.pdb_column.specs.declared.fault.ColumnFault.TheVariants.{Damaged, Disk, OutOfMemory}
use Rattle.pdb_pipe.specs.Reads.{NamesDamage}
use Rattle.pdb_pipe.specs.inner.Faults.{look_up_as}

pub got_bytes : (o : Option Counted) (before after : List ℕ) (b : Bool) → b ≡ true → IsGot o before after b → Some after ≡ option_map (λ (h : Counted). h.bytes) o
got_bytes None before after b found is = let differ = is.0 in absurd cc
got_bytes (Some h) before after b found is = ap Some is.1

pub got_nothing : (o : Option Counted) (before after : List ℕ) (b : Bool) → b ≡ false → IsGot o before after b → None ≡ option_map (λ (h : Counted). h.bytes) o
got_nothing None before after b missing is = refl
got_nothing (Some h) before after b missing is = let differ = is.0 in absurd cc

pub no_damage : (e : ColumnFault) → LookUpSays (λ file cell. ⊥) e → IsCause (λ fault. ⊥) (look_up_as e)
no_damage OutOfMemory says = inl refl
no_damage Disk says = inr (inl refl)
no_damage (Damaged file cell) says = absurd says

pub names_damage : (seen : Option Content) (column : ℕ) (e : ColumnFault) → ((cells : Content) → seen ≡ Some cells → LookUpSays (BreaksColumn cells column) e)
    → IsCause (NamesDamage seen column) (look_up_as e)
names_damage seen column OutOfMemory says = inl refl
names_damage seen column Disk says = inr (inl refl)
names_damage seen column (Damaged file cell) says = inr (inr (file, cell, refl, says))
