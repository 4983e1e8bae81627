-- Blocks of names, in which the names of later puts are looked up.
use Rattle.std.specs.Prelude.{◌≡◌, ◌==◌, ◌&&◌, ℕ, List, ◌++◌, All, Bool, false}
use Rattle.std.specs.List.Sorted.{IsNonDecreasingBy}
use Rattle.std.specs.Ordering.{nat_cmp, ordering_index, ordering_then}
use Rattle.std.specs.declared.cmp.Ordering.{Ordering}
use Rattle.pdb_cells.specs.Puts.{NoCellTwice, same_cell}
use Rattle.pdb_cells.specs.declared.CellName.{CellName}
use Rattle.pdb_cells.specs.declared.Put.{Put}
use Rattle.pdb_record.specs.Scans.{Leaves}
use Rattle.pdb_record.specs.declared.put_refs.PutRefs.{PutRefs}

-- a cell's file and index, and their order
abbrev pub key_of : CellName → ℕ × ℕ
key_of n = (n.file, n.index)

abbrev pub key_cmp : ℕ × ℕ → ℕ × ℕ → Ordering
key_cmp a b = ordering_then (nat_cmp a.0 b.0) (nat_cmp a.1 b.1)

-- whether these are a cell's file and index
abbrev pub is_key : ℕ × ℕ → CellName → Bool
is_key k n = (k.0 == n.file) && (k.1 == n.index)

-- the keys rise: of any key first come lower ones, then itself, then higher ones
abbrev pub Ascends : List (ℕ × ℕ) → Type 0
Ascends keys = (k : ℕ × ℕ) → IsNonDecreasingBy (λ m. ordering_index (key_cmp m k)) keys

-- no key of these is that cell's
abbrev pub IsApart : CellName → List (ℕ × ℕ) → Type 0
IsApart n keys = All (λ k. is_key k n ≡ false) keys

-- no key of these is the cell's of one of these puts
abbrev pub AreApart : List (ℕ × ℕ) → List Put → Type 0
AreApart keys puts = All (λ p. IsApart p.name keys) puts

-- no put of these is of that cell
abbrev pub IsNew : CellName → List Put → Type 0
IsNew n puts = All (λ p. same_cell p.name n ≡ false) puts

-- the keys are those of the puts
abbrev pub Covers : List (ℕ × ℕ) → List Put → Type 0
Covers keys puts = (n : CellName) → (IsApart n keys → IsNew n puts) × (IsNew n puts → IsApart n keys)

-- of the puts those in front are taken, their keys are these, and the others are left
pub record Taken (puts : List Put) (keys : List (ℕ × ℕ)) (it : PutRefs) : Type 0 where
  pub front : List Put
  pub back : List Put
  pub is : puts ≡ front ++ back
  pub left : Leaves it back
  pub once : NoCellTwice front
  pub covers : Covers keys front
