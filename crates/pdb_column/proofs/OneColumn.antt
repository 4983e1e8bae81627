-- Which cells a step in a column changes, and that the other column stays.
use Rattle.std.proofs.Common.{◌≡◌, ◌⊎◌, ◌+◌, ◌*◌, ◌-◌, ◌<◌, ℕ, List, refl, sym, ap, subst, ◌∙◌, arith, inl, inr}
use Rattle.std.proofs.lemmas.Bool.{cases_lt}
use Rattle.pdb_cells.specs.Content.{Content, put_cell}
use Rattle.pdb_cells.specs.Sizes.{head_file}
use Rattle.pdb_model.specs.Columns.{Column, SpellsColumn, SpellsIndex}
use Rattle.pdb_model.specs.Files.{OnlyTable, head_cell, index_file, table_cells, table_file}
use Rattle.pdb_model.specs.Heads.{SpellsHead, ends_at}
use Rattle.pdb_value.proofs.Spelled.{spelled_again}
use Rattle.pdb_value.proofs.Written.{put_file}
use Rattle.pdb_column.specs.Holding.{HoldsColumn}
use Rattle.pdb_column.specs.Maps.{ColumnMap}
use Rattle.pdb_column.specs.inner.Changes.{OnlyColumn}

-- ---- files

pub not_index : (column bits : ℕ) → head_file ≡ index_file column bits → ⊥
not_index column bits e = omega arith

pub index_not_table : (column bits tier : ℕ) → index_file column bits ≡ table_file column tier → ⊥
index_not_table column bits tier e = omega arith

pub next_index : (column bits : ℕ) → index_file column (bits + 1) ≡ index_file column bits → ⊥
next_index column bits e = omega arith

not_table : (column tier file : ℕ) → tier < 16 → (file < 16 + 32 * column) ⊎ (33 + 32 * column < file) → file ≡ table_file column tier → ⊥
not_table column tier file low (inl before) e = omega arith
not_table column tier file low (inr after) e = omega arith

not_chunk : (column bits file : ℕ) → (file < 16 + 32 * column) ⊎ (33 + 32 * column < file) → file ≡ index_file column bits → ⊥
not_chunk column bits file (inl before) e = omega arith
not_chunk column bits file (inr after) e = omega arith

away_table : (column other tier : ℕ) → tier < 16 → (other ≡ column → ⊥) → (table_file other tier < 16 + 32 * column) ⊎ (33 + 32 * column < table_file other tier)
away_table column other tier low ne = elim (cases_lt other column) [ inl lt ↦ inl (omega arith) | inr ge ↦ inr (let lt : column < other = omega (arith, ne) in omega arith) ]

away_index : (column other bits : ℕ) → (other ≡ column → ⊥) → (index_file other bits < 16 + 32 * column) ⊎ (33 + 32 * column < index_file other bits)
away_index column other bits ne = elim (cases_lt other column) [ inl lt ↦ inl (omega arith) | inr ge ↦ inr (let lt : column < other = omega (arith, ne) in omega arith) ]

-- ---- the cells that change

pub column_from_table : (column tier : ℕ) (before after : Content) → tier < 16 → OnlyTable column tier before after → OnlyColumn column before after
column_from_table column tier before after low only = record {
  heads = only.heads;
  files = λ file i other away. only.others file i (not_table column tier file low away) other;
}

pub column_from_chunk : (column bits n : ℕ) (bytes : List ℕ) (cells : Content) → OnlyColumn column cells (put_cell (index_file column bits) n bytes cells)
column_from_chunk column bits n bytes cells = record {
  heads = λ i _. put_file (index_file column bits) n head_file i bytes cells (not_index column bits);
  files = λ file i other away. put_file (index_file column bits) n file i bytes cells (not_chunk column bits file away);
}

pub column_on : (column : ℕ) (a b c : Content) → OnlyColumn column a b → OnlyColumn column b c → OnlyColumn column a c
column_on column a b c p q = record {
  heads = λ i ne. q.heads i ne ∙ p.heads i ne;
  files = λ file i other away. q.files file i other away ∙ p.files file i other away;
}

pub column_itself : (column : ℕ) (a : Content) → OnlyColumn column a a
column_itself column a = record { heads = λ i _. refl; files = λ file i _ _. refl }

-- ---- the other column

pub index_kept : (a b : ℕ → List ℕ) (bits : ℕ) (entries : ℕ → List ℕ) → ((n : ℕ) → b n ≡ a n) → SpellsIndex a bits entries → SpellsIndex b bits entries
index_kept a b bits entries same s = record {
  chunks = λ n low. let at = s.chunks n low in (at.0, same n ∙ at.1);
  unused = λ n far. same n ∙ s.unused n far;
}

other_spelled : (cells after : Content) (column other : ℕ) (c : Column) → OnlyColumn column cells after → (other ≡ column → ⊥) → SpellsColumn cells other c → SpellsColumn after other c
other_spelled cells after column other c only ne s =
    let head : head_cell after other ≡ head_cell cells other = only.heads other ne in
    let index : (bits n : ℕ) → after (index_file other bits) n ≡ cells (index_file other bits) n = λ bits n. only.files (index_file other bits) n (λ e. not_index other bits (sym e)) (away_index column other bits ne) in
    record {
      head = s.head;
      head_spelled = subst (λ x. SpellsHead x s.head) (sym head) s.head_spelled;
      head_is = s.head_is;
      base = s.base;
      bits = s.bits;
      growing = s.growing;
      tables = λ u low. spelled_again u (head_cell cells other) (head_cell after other) (table_cells cells other u) (table_cells after other u) (c.tables u) (s.tables u low) (ap (ends_at u) head)
          (λ i. only.files (table_file other u) i (λ e. omega arith) (away_table column other u low ne));
      newest = index_kept (cells (index_file other c.bits)) (after (index_file other c.bits)) c.bits c.newest (index c.bits) s.newest;
      older = λ grows. index_kept (cells (index_file other (c.bits - 1))) (after (index_file other (c.bits - 1))) (c.bits - 1) c.older (index (c.bits - 1)) (s.older grows);
      not_growing = λ still n. index (c.bits + 1) n ∙ s.not_growing still n;
    }

pub other_holds : (cells after : Content) (column other base : ℕ) (content : ColumnMap) → OnlyColumn column cells after → (other ≡ column → ⊥) → HoldsColumn cells other base content → HoldsColumn after other base content
other_holds cells after column other base content only ne holds = record {
  picture = holds.picture;
  spelled = other_spelled cells after column other holds.picture only ne holds.spelled;
  is = holds.is;
  fixed = holds.fixed;
  base_is = holds.base_is;
  holds = holds.holds;
}

-- contents that agree on each key are held alike
pub same_content : (cells : Content) (column base : ℕ) (f g : ColumnMap) → ((key : List ℕ) → f key ≡ g key) → HoldsColumn cells column base f → HoldsColumn cells column base g
same_content cells column base f g same holds = record {
  picture = holds.picture;
  spelled = holds.spelled;
  is = holds.is;
  fixed = holds.fixed;
  base_is = holds.base_is;
  holds = record { there = λ key h len e. holds.holds.there key h len (same key ∙ e); no_other = λ key h under. sym (same key) ∙ holds.holds.no_other key h under };
}
