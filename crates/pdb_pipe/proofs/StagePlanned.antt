-- What planning a commit's operations comes to, by the puts of its draft.
use Rattle.std.proofs.Common.{◌≡◌, ◌≤◌, ℕ, List, [], Option, Some, Err, refl, sym, ◌∙◌, ap, subst, inl, inr}
use Rattle.std.proofs.lemmas.Option.{same_Some}
use Rattle.sdb_io.specs.Faults.{CountsFault}
use Rattle.sdb_base.specs.Keeping.{IsCause, is_disk}
use Rattle.sdb_base.specs.declared.op.Op.{Op}
use Rattle.pdb_cells.specs.Content.{Content}
use Rattle.pdb_cells.specs.Puts.{drafted, laid}
use Rattle.pdb_cells.specs.declared.puts.Put.{Put}
use Rattle.pdb_value.specs.Faults.{Drafts, IsFullTier}
use Rattle.pdb_column.specs.Answers.{PlanSays, plan_disk_fails}
use Rattle.pdb_column.specs.Damages.{BreaksColumn, IsFullChunk}
use Rattle.pdb_column.specs.Maps.{ColumnMap, FillsChunk}
use Rattle.pdb_column.specs.Storing.{FillsTier, HasPlaced}
use Rattle.pdb_column.specs.declared.fault.PlanFault.{PlanFault}
use Rattle.pdb_column.specs.declared.fault.PlanFault.TheVariants.{ChunkFull, Damaged, Disk, OutOfMemory, TierFull}
use Rattle.pdb_pipe.specs.Planning.{IsPlanFault, PlanEnds}
use Rattle.pdb_pipe.specs.inner.Faults.{plan_as}

-- a draft without puts is the cells
pub drafts_nothing : (seen : Option Content) (cells : Content) (puts : List Put) → puts ≡ [] → seen ≡ Some cells → Drafts puts seen cells
drafts_nothing seen cells puts none e = ap (λ (ps : List Put). drafted ps seen) none ∙ ap (drafted []) e

-- what a draft over these cells holds is told by its puts
pub laid_there : (puts : List Put) (seen : Option Content) (cells after : Content) → seen ≡ Some cells → Drafts puts seen after → after ≡ laid puts cells
laid_there puts seen cells after e drafts = same_Some after (laid puts cells) (sym drafts ∙ ap (drafted puts) e)

pub plan_counts : (e : PlanFault) (before after : ℕ) → CountsFault (plan_disk_fails {T = Unit {0}} (Err e)) before after → CountsFault (is_disk (plan_as e)) before after
plan_counts OutOfMemory before after h = h
plan_counts Disk before after h = h
plan_counts (Damaged file cell) before after h = h
plan_counts (ChunkFull column bits chunk) before after h = h
plan_counts (TierFull column tier) before after h = h

-- a fault of a plan over cells that hold columns
pub plan_ends : (puts : List Put) (seen : Option Content) (cells : Content) (bases : ℕ → ℕ) (contents : ℕ → ColumnMap) (ops : List Op) (e : PlanFault) → seen ≡ Some cells
    → PlanSays (λ file cell. ⊥) (λ column bits chunk. FillsChunk (bases column) (contents column) ops column bits chunk) (λ column tier. Unit {0}) e
    → PlanSays (λ file cell. Unit {0}) (λ column bits chunk. (after : Content) × Drafts puts seen after × HasPlaced after (bases column) (contents column) ops column bits chunk) (λ column tier. Unit {0}) e
    → PlanSays (λ file cell. Unit {0}) (λ column bits chunk. Unit {0}) (λ column tier. FillsTier (bases column) (contents column) ops column tier) e
    → PlanEnds cells bases contents ops (plan_as e)
plan_ends puts seen cells bases contents ops OutOfMemory at sound placed few = tt
plan_ends puts seen cells bases contents ops Disk at sound placed few = tt
plan_ends puts seen cells bases contents ops (Damaged file cell) at sound placed few = sound
plan_ends puts seen cells bases contents ops (ChunkFull column bits chunk) at sound placed few =
    (puts, subst (λ (x : Content). HasPlaced x (bases column) (contents column) ops column bits chunk) (laid_there puts seen cells placed.0 at placed.1) placed.2)
plan_ends puts seen cells bases contents ops (TierFull column tier) at sound placed few = few

-- what a fault of a plan says of the cells, in whichever way they are observable
abbrev pub SaysOf : List Put → Option Content → PlanFault → Type 0
SaysOf puts seen e = PlanSays
    (λ file cell. (after : Content) × Drafts puts seen after × ((column : ℕ) × (column ≤ 1) × BreaksColumn after column file cell))
    (λ column bits chunk. (after : Content) × Drafts puts seen after × IsFullChunk after column bits chunk)
    (λ column tier. (after : Content) × Drafts puts seen after × IsFullTier after column tier) e

-- the fault of any plan
pub plan_cause : (puts : List Put) (old new : Option Content) (e : PlanFault) → ((cells : Content) → old ≡ Some cells → new ≡ Some cells)
    → ((cells : Content) → old ≡ Some cells → SaysOf puts new e) → IsCause (IsPlanFault old) (plan_as e)
plan_cause puts old new OutOfMemory stays says = inl refl
plan_cause puts old new Disk stays says = inr (inl refl)
plan_cause puts old new (Damaged file cell) stays says = inr (inr (λ cells e.
    let s = says cells e in
    (puts, s.2.0, s.2.1, subst (λ (x : Content). BreaksColumn x s.2.0 file cell) (laid_there puts new cells s.0 (stays cells e) s.1) s.2.2)))
plan_cause puts old new (ChunkFull column bits chunk) stays says = inr (inr (λ cells e.
    let s = says cells e in
    (puts, subst (λ (x : Content). IsFullChunk x column bits chunk) (laid_there puts new cells s.0 (stays cells e) s.1) s.2)))
plan_cause puts old new (TierFull column tier) stays says = inr (inr (λ cells e.
    let s = says cells e in
    (puts, subst (λ (x : Content). IsFullTier x column tier) (laid_there puts new cells s.0 (stays cells e) s.1) s.2)))
