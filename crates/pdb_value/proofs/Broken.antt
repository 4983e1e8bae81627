-- The cells that a fault names break the rules.
use Rattle.std.proofs.Common.{◌≡◌, ◌<◌, ◌^◌, ℕ, List, sym, ap, subst, ◌∙◌, arith, inr}
use Rattle.pdb_cells.specs.Content.{Content}
use Rattle.pdb_model.specs.Breaks.{HasEnd, IsNotFree}
use Rattle.pdb_model.specs.Files.{head_cell, table_cells, table_file}
use Rattle.pdb_model.specs.Heads.{Ends, IsHeadCell, ends_at, ends_bytes}
use Rattle.pdb_value.specs.declared.fault.ValueFault.{ValueFault}
use Rattle.pdb_value.specs.declared.fault.ValueFault.TheVariants.{Damaged, Disk, OutOfMemory, TierFull}
use Rattle.pdb_value.specs.Faults.{BreaksFreeList, FaultSays, NoTier}
use Rattle.pdb_value.proofs.HeadCells.{said_is}

-- a fault says more of the same cells
pub says_more : (P P' : ℕ → ℕ → Type 0) (Q Q' : ℕ → Type 0) (e : ValueFault) → ((f c : ℕ) → P f c → P' f c) → ((u : ℕ) → Q u → Q' u) → FaultSays P Q e → FaultSays P' Q' e
says_more P P' Q Q' OutOfMemory p q h = tt
says_more P P' Q Q' Disk p q h = tt
says_more P P' Q Q' (Damaged file cell) p q h = p file cell h
says_more P P' Q Q' (TierFull tier) p q h = q tier h

-- the end that is read of a head cell is the column's
pub has_end : (cells : Content) (column tier : ℕ) (head : List ℕ) (free end : ℕ) → tier < 16 → head ≡ head_cell cells column → IsHeadCell head → free < 2 ^ 32 → end < 2 ^ 32
    → ends_at tier head ≡ ends_bytes (record { free = free; end = end }) → HasEnd cells column tier end
has_end cells column tier head free end small is (h, spells, keeps) f n said =
    let one : Ends = record { free = free; end = end } in
    let le = keeps.free tier small in
    let narrow = keeps.narrow tier small in
    let same : h.ends tier ≡ one = sym (said_is head tier (h.ends tier) (omega arith) narrow (spells.tiers tier small)) ∙ said_is head tier one f n said in
    (h, subst (λ (c : List ℕ). Rattle.pdb_model.specs.Heads.SpellsHead c h) is spells, keeps, ap (λ (e : Ends). e.end) same)

pub free_list_broken : (cells : Content) (column tier : ℕ) (head : List ℕ) (free end : ℕ) (Q : ℕ → Type 0) (e : ValueFault) → tier < 16 → head ≡ head_cell cells column → IsHeadCell head → free < 2 ^ 32 → end < 2 ^ 32
    → ends_at tier head ≡ ends_bytes (record { free = free; end = end })
    → FaultSays (λ file cell. (file ≡ table_file column tier) × (cell ≡ free) × IsNotFree tier end (table_cells cells column tier free)) NoTier e
    → FaultSays (BreaksFreeList column tier cells) Q e
free_list_broken cells column tier head free end Q e small is keeps f n said h =
    says_more _ _ _ _ e (λ file cell (d : (file ≡ table_file column tier) × (cell ≡ free) × IsNotFree tier end (table_cells cells column tier free)).
    inr (d.0, (end, has_end cells column tier head free end small is keeps f n said, subst (λ (b : List ℕ). IsNotFree tier end b) (ap (λ k. table_cells cells column tier k) (sym d.1) ∙ ap (λ k. cells k cell) (sym d.0)) d.2)))
    (λ u none. absurd none) h

-- a head cell says one end of a tier
pub one_end : (cells : Content) (column tier e f : ℕ) → tier < 16 → HasEnd cells column tier e → HasEnd cells column tier f → e ≡ f
one_end cells column tier e f small (h, said, keeps, is) (k, says, keep, at) =
    let a = keeps.free tier small in let b = keeps.narrow tier small in let c = keep.free tier small in let d = keep.narrow tier small in
    let same : h.ends tier ≡ k.ends tier = sym (said_is (head_cell cells column) tier (h.ends tier) (omega arith) b (said.tiers tier small)) ∙ said_is (head_cell cells column) tier (k.ends tier) (omega arith) d (says.tiers tier small) in
    sym is ∙ (ap (λ (e : Ends). e.end) same ∙ at)

pub end_keeps : (cells : Content) (column tier e : ℕ) → HasEnd cells column tier e → IsHeadCell (head_cell cells column)
end_keeps cells column tier e (h, said, keeps, is) = (h, said, keeps)
