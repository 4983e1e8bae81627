-- The bases of columns: where a head cell has them, and columns of equal ones.
use Rattle.std.proofs.Common.{◌≡◌, ℕ, ◌≤◌, List, get_or, sym, ◌∙◌, ap, subst, arith}
use Rattle.std.specs.Prelude.{slice_index}
use Rattle.std.proofs.lemmas.List.{get_or-take}
use Rattle.pdb_cells.specs.Content.{Content}
use Rattle.pdb_column.specs.Holding.{HoldsColumn, HoldsColumns}
use Rattle.pdb_column.specs.Maps.{ColumnMap}

module _ (cells : Content) (bases : ℕ → ℕ) (contents : ℕ → ColumnMap) (holds : HoldsColumns cells bases contents) where
  -- the byte at place 1 of a head cell is the column's base
  pub bases_read : (column : ℕ) → column ≤ 1 → slice_index (cells 9 column) 1 ≡ bases column
  bases_read column low =
      let h : HoldsColumn cells column (bases column) (contents column) = holds.each column low in
      sym (get_or-take 4 (cells 9 column) 1 0 (omega arith)) ∙ ap (λ (bytes : List ℕ). get_or bytes 1 0) h.spelled.head_spelled.front ∙ sym h.spelled.base ∙ h.base_is

  pub other_bases : (others : ℕ → ℕ) → ((column : ℕ) → column ≤ 1 → others column ≡ bases column) → HoldsColumns cells others contents
  other_bases others same = record {
    each = λ column low. subst (λ b. HoldsColumn cells column b (contents column)) (sym (same column low)) (holds.each column low);
    single = holds.single;
  }

  pub other_cells : (others : Content) → ((file index : ℕ) → others file index ≡ cells file index) → HoldsColumns others bases contents
  other_cells others same = let e : cells ≡ others = λ k file index. sym (same file index) k in subst (λ (c : Content). HoldsColumns c bases contents) e holds
