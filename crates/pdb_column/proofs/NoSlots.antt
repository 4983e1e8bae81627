-- Where a tier is found full, it has fewer slots left than the bytes need.
use Rattle.std.proofs.Common.{◌≡◌, ◌<◌, ◌++◌, ◌∷◌, List, ℕ, if◌then◌else◌, length, refl, sym, subst, ◌∙◌}
use Rattle.sdb_base.specs.Content.{without_reference}
use Rattle.sdb_base.specs.declared.op.Op.{Op}
use Rattle.pdb_cells.specs.Content.{Content}
use Rattle.pdb_model.specs.Tables.{room_of, slots_of}
use Rattle.pdb_model.specs.Tiers.{tier_of}
use Rattle.pdb_value.specs.Faults.{FaultSays, HasTable, NoCell, NoTier}
use Rattle.pdb_value.specs.declared.fault.ValueFault.{ValueFault}
use Rattle.pdb_value.specs.declared.fault.ValueFault.TheVariants.{Damaged, Disk, OutOfMemory, TierFull}
use Rattle.pdb_value.proofs.Broken.{says_more}
use Rattle.pdb_column.specs.Answers.{PlanSays}
use Rattle.pdb_column.specs.Holding.{HoldsColumn}
use Rattle.pdb_column.specs.Maps.{ColumnMap, column_from}
use Rattle.pdb_column.specs.Storing.{FillsTier, LacksSlots}
use Rattle.pdb_column.specs.declared.fault.StepFault.{StepFault}
use Rattle.pdb_column.specs.declared.fault.StepFault.TheVariants.{ChunkFull, Value}
use Rattle.pdb_column.specs.inner.Changes.{dropped}
use Rattle.pdb_column.specs.inner.Faults.{AnyCell, AnyChunk, StepSays, as_planned}
use Rattle.pdb_column.specs.inner.Operations.{NeedsSlots}
use Rattle.pdb_column.proofs.Cases.{same_key_or}
use Rattle.pdb_column.proofs.Inserting.{tier_low}

-- a call that takes no slot finds no tier full
pub takes_none : (Q : ℕ → Type 0) (e : ValueFault) → FaultSays NoCell NoTier e → FaultSays AnyCell Q e
takes_none Q e h = says_more NoCell AnyCell NoTier Q e (λ file cell d. tt) (λ u none. absurd none) h

-- bytes are placed where the column's cells hold the content
pub place_lacks : (cells : Content) (column base : ℕ) (content : ColumnMap) (key bytes : List ℕ) (e : ValueFault) → (holds : HoldsColumn cells column base content)
    → FaultSays NoCell (λ u. (u ≡ tier_of (length bytes)) × (room_of (holds.picture.tables (tier_of (length bytes))) < slots_of (length bytes))) e
    → FaultSays AnyCell (LacksSlots base content key bytes column) e
place_lacks cells column base content key bytes e holds h =
    let to : ℕ = tier_of (length bytes) in
    says_more NoCell AnyCell (λ u. (u ≡ to) × (room_of (holds.picture.tables to) < slots_of (length bytes))) (LacksSlots base content key bytes column) e (λ file cell d. tt)
    (λ u few. record {
      cells = cells;
      held = content;
      holds = holds;
      others = λ k other. refl;
      tier_is = few.0;
      table = holds.picture.tables to;
      spelled = subst (λ t. HasTable cells column t (holds.picture.tables to)) (sym few.0) (holds.spelled.tables to (tier_low (length bytes)));
      room = few.1;
    }) h

-- a step's fault says more of the same tiers
pub step_lacks : (T U : ℕ → Type 0) (e : StepFault) → ((u : ℕ) → T u → U u) → StepSays AnyCell T AnyChunk e → StepSays AnyCell U AnyChunk e
step_lacks T U (Value e) f h = says_more AnyCell AnyCell T U e (λ file cell d. tt) f h
step_lacks T U (ChunkFull bits chunk) f h = tt

-- a column without a key holds the content but for what it has under the key
pub lacks_undropped : (base : ℕ) (content : ColumnMap) (key bytes : List ℕ) (column tier : ℕ) → LacksSlots base (dropped content key) key bytes column tier → LacksSlots base content key bytes column tier
lacks_undropped base content key bytes column tier l = record {
  cells = l.cells;
  held = l.held;
  holds = l.holds;
  others = λ k other. l.others k other
      ∙ same_key_or key k (λ b. (if b then without_reference (content key) else content k) ≡ content k) (λ e. absurd (other (sym e))) (λ _. refl);
  tier_is = l.tier_is;
  table = l.table;
  spelled = l.spelled;
  room = l.room;
}

-- an operation of a plan comes to a tier with too few slots
pub plan_lacks : (bases : ℕ → ℕ) (contents : ℕ → ColumnMap) (ops before left : List Op) (op : Op) (column : ℕ) (e : StepFault) → ops ≡ before ++ op ∷ left
    → StepSays AnyCell (NeedsSlots bases (λ u. column_from u (contents u) before) op column) AnyChunk e
    → PlanSays (λ file cell. Unit {0}) (λ u bits chunk. Unit {0}) (λ u tier. FillsTier (bases u) (contents u) ops u tier) (as_planned column e)
plan_lacks bases contents ops before left op column (Value OutOfMemory) is h = tt
plan_lacks bases contents ops before left op column (Value Disk) is h = tt
plan_lacks bases contents ops before left op column (Value (Damaged file cell)) is h = tt
plan_lacks bases contents ops before left op column (Value (TierFull tier)) is (key, bytes, stores, lacks) = record {
  before = before;
  op = op;
  left = left;
  in_order = is;
  key = key;
  bytes = bytes;
  stores = stores;
  lacks = lacks;
}
plan_lacks bases contents ops before left op column (ChunkFull bits chunk) is h = tt
