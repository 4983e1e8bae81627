-- Where a chunk is found full, the value that was to go there has its slots.
use Rattle.std.proofs.Common.{◌≡◌, ◌++◌, ◌∷◌, List, ℕ, length, sym, subst, ◌∙◌}
use Rattle.sdb_base.specs.declared.op.Op.{Op}
use Rattle.sdb_base.specs.declared.op.Op.TheVariants.{AddRef, DropRef, Erase, Put}
use Rattle.pdb_cells.specs.Content.{Content}
use Rattle.pdb_model.specs.Tables.{placed}
use Rattle.pdb_model.specs.Tiers.{tier_of}
use Rattle.pdb_value.specs.Faults.{FaultSays, HasTable, NoCell}
use Rattle.pdb_value.specs.declared.fault.ValueFault.{ValueFault}
use Rattle.pdb_value.specs.declared.fault.ValueFault.TheVariants.{Damaged, Disk, OutOfMemory, TierFull}
use Rattle.pdb_column.specs.Answers.{PlanSays}
use Rattle.pdb_column.specs.Maps.{ColumnMap, Inserts, column_from}
use Rattle.pdb_column.specs.Storing.{HasPlaced, Stores}
use Rattle.pdb_column.specs.declared.fault.StepFault.{StepFault}
use Rattle.pdb_column.specs.declared.fault.StepFault.TheVariants.{ChunkFull, Value}
use Rattle.pdb_column.specs.inner.Faults.{AnyCell, AnyTier, StepSays, as_planned}
use Rattle.pdb_column.specs.inner.Operations.{Crowds, HasItsSlots}

pub any_says : (e : ValueFault) → FaultSays AnyCell AnyTier e
any_says OutOfMemory = tt
any_says Disk = tt
any_says (Damaged file cell) = tt
any_says (TierFull tier) = tt

-- an operation stores under the key that it inserts
stored_key : (column : ℕ) (content : ColumnMap) (op : Op) (key other bytes : List ℕ) → Inserts column content op key → Stores column op other bytes → other ≡ key
stored_key column content (AddRef k b) key other bytes inserts stores = sym stores.1 ∙ inserts.1
stored_key column content (DropRef k) key other bytes inserts stores = absurd stores
stored_key column content (Put k b) key other bytes inserts stores = sym stores.1 ∙ inserts.1
stored_key column content (Erase k) key other bytes inserts stores = absurd stores

pub plan_slots : (P : Content → Type 0) (bases : ℕ → ℕ) (contents : ℕ → ColumnMap) (ops before left : List Op) (op : Op) (column : ℕ) (e : StepFault) → ops ≡ before ++ op ∷ left
    → StepSays NoCell AnyTier (Crowds bases (λ u. column_from u (contents u) before) op column) e
    → StepSays AnyCell AnyTier (λ bits n. (x : Content) × P x × HasItsSlots x column op) e
    → PlanSays (λ file cell. Unit {0}) (λ u bits chunk. (x : Content) × P x × HasPlaced x (bases u) (contents u) ops u bits chunk) (λ u tier. Unit {0}) (as_planned column e)
plan_slots P bases contents ops before left op column (Value OutOfMemory) is crowds h = tt
plan_slots P bases contents ops before left op column (Value Disk) is crowds h = tt
plan_slots P bases contents ops before left op column (Value (Damaged file cell)) is crowds h = tt
plan_slots P bases contents ops before left op column (Value (TierFull tier)) is crowds h = tt
plan_slots P bases contents ops before left op column (ChunkFull bits chunk) is crowds (x, p, (key, bytes, stores, slots)) =
    let e : key ≡ crowds.key = stored_key column (column_from column (contents column) before) op crowds.key key bytes crowds.inserts stores in (
      x,
      p,
      record {
        fills = record {
          before = before;
          op = op;
          left = left;
          in_order = is;
          key = crowds.key;
          inserts = crowds.inserts;
          bits_are = crowds.bits_are;
          chunk_is = crowds.chunk_is;
          crowded = crowds.crowded;
        };
        bytes = bytes;
        stores = subst (λ k. Stores column op k bytes) e stores;
        table = slots.table;
        room = slots.room;
        placed = subst (λ k. HasTable x column (tier_of (length bytes)) (placed slots.table k 1 bytes)) e slots.there;
      },
    )
