-- The cells of a column after a step spell its picture after it.
use Rattle.std.proofs.Common.{◌≡◌, ◌∷◌, [], ◌+◌, ◌^◌, ◌<◌, if◌then◌else◌, ℕ, List, take, sym, ap, subst, ◌∙◌, arith}
use Rattle.std.proofs.Math.ListN.{length-set}
use Rattle.std.proofs.lemmas.List.Elements.{All-set}
use Rattle.std.specs.Prelude.{slice_set}
use Rattle.pdb_cells.specs.Content.{Content, put_cell}
use Rattle.pdb_cells.specs.Sizes.{head_file}
use Rattle.pdb_model.specs.Chunks.{IsChunk, chunk_bytes, chunk_number}
use Rattle.pdb_model.specs.Columns.{Column, SpellsColumn}
use Rattle.pdb_model.specs.Files.{OnlyTable, head_cell, index_file, table_cells, table_file}
use Rattle.pdb_model.specs.Heads.{Head, IsHeadCell, SpellsHead, ends_at}
use Rattle.pdb_model.specs.Tables.{SpellsTable, Table}
use Rattle.pdb_value.specs.Faults.{HasTable}
use Rattle.pdb_value.proofs.Spelled.{spelled_again}
use Rattle.pdb_value.proofs.Written.{not_head, put_file, put_here, put_index}
use Rattle.pdb_column.specs.Holding.{HoldsColumn, IsFixed}
use Rattle.pdb_column.specs.Maps.{ColumnMap}
use Rattle.pdb_column.specs.inner.KeyChunks.{HasKeyChunk}
use Rattle.pdb_column.specs.inner.Steps.{with_chunk, with_table}
use Rattle.pdb_column.proofs.Cases.{same_or}
use Rattle.pdb_column.proofs.OneColumn.{index_kept, index_not_table, next_index, not_index}
use Rattle.pdb_column.proofs.Stepped.{Keeps}

front_heads : (one other : List ℕ) (g h : Head) → take 4 other ≡ take 4 one → SpellsHead one g → SpellsHead other h → (h.base ≡ g.base) × (h.bits ≡ g.bits) × (h.growing ≡ g.growing)
front_heads one other g h e a b =
    let all : 1 ∷ (h.base ∷ (h.bits ∷ (h.growing ∷ []))) ≡ 1 ∷ (g.base ∷ (g.bits ∷ (g.growing ∷ []))) = sym b.front ∙ (e ∙ a.front) in
    (cc, cc, cc)

-- ---- a key's chunk, in any cells

-- a table's step leaves it
pub chunk_kept : (cells after : Content) (column tier base : ℕ) (key entries : List ℕ) → HasKeyChunk cells column key base entries → OnlyTable column tier cells after → IsHeadCell (head_cell after column)
    → HasKeyChunk after column key base entries
chunk_kept cells after column tier base key entries chunk only (h, spells, keeps) =
    let same = front_heads (head_cell cells column) (head_cell after column) chunk.head h only.front chunk.spelled spells in
    record {
      head = h;
      spelled = spells;
      keeps = keeps;
      fixed = record { base_is = same.0 ∙ chunk.fixed.base_is; bits_are = same.1 ∙ chunk.fixed.bits_are; not_growing = same.2 ∙ chunk.fixed.not_growing };
      is_chunk = chunk.is_chunk;
      bytes = only.others (index_file column base) (chunk_number base key) (index_not_table column base tier) (λ e. not_index column base (sym e)) ∙ chunk.bytes;
    }

-- a put of it gives it other entries
pub chunk_put : (cells : Content) (column base number : ℕ) (key entries new : List ℕ) → HasKeyChunk cells column key base entries → IsChunk new → number ≡ chunk_number base key
    → HasKeyChunk (put_cell (index_file column base) number (chunk_bytes new) cells) column key base new
chunk_put cells column base number key entries new chunk is at =
    let after : Content = put_cell (index_file column base) number (chunk_bytes new) cells in
    let head : head_cell after column ≡ head_cell cells column = put_file (index_file column base) number head_file column (chunk_bytes new) cells (not_index column base) in
    record {
      head = chunk.head;
      spelled = subst (λ x. SpellsHead x chunk.head) (sym head) chunk.spelled;
      keeps = chunk.keeps;
      fixed = chunk.fixed;
      is_chunk = is;
      bytes = ap (λ k. after (index_file column base) k) (sym at) ∙ put_here (index_file column base) number (chunk_bytes new) cells;
    }

-- a chunk with another entry at a place is one
pub chunk_set : (entries new : List ℕ) (place entry : ℕ) → IsChunk entries → entry < 2 ^ 64 → new ≡ slice_set entries place entry → IsChunk new
chunk_set entries new place entry is small e =
    subst IsChunk (sym e) (record { places = length-set entries place entry ∙ is.places; narrow = All-set (λ (e : ℕ). e < 2 ^ 64) entries place entry small is.narrow })

-- ---- the picture

pub table_spelled : (cells after : Content) (column tier : ℕ) (c : Column) (now : Table) → SpellsColumn cells column c → IsFixed c → tier < 16 → OnlyTable column tier cells after
    → IsHeadCell (head_cell after column) → HasTable after column tier now → SpellsColumn after column (with_table c tier now)
table_spelled cells after column tier c now s fixed low only (h, spells, keeps) there =
    let same = front_heads (head_cell cells column) (head_cell after column) s.head h only.front s.head_spelled spells in
    let index : (bits n : ℕ) → after (index_file column bits) n ≡ cells (index_file column bits) n = λ bits n. only.others (index_file column bits) n (index_not_table column bits tier) (λ e. not_index column bits (sym e)) in
    record {
      head = h;
      head_spelled = spells;
      head_is = keeps;
      base = s.base ∙ sym same.0;
      bits = s.bits ∙ sym same.1;
      growing = s.growing ∙ sym same.2;
      tables = λ u small. same_or u tier (λ b. SpellsTable u (head_cell after column) (table_cells after column u) (if b then now else c.tables u))
          (λ e. subst (λ k. SpellsTable k (head_cell after column) (table_cells after column k) now) (sym e) there)
          (λ ne. spelled_again u (head_cell cells column) (head_cell after column) (table_cells cells column u) (table_cells after column u) (c.tables u) (s.tables u small) (only.ends u small ne)
          (λ i. only.others (table_file column u) i (λ e. ne (omega arith)) (not_head column u)));
      newest = index_kept (cells (index_file column c.bits)) (after (index_file column c.bits)) c.bits c.newest (index c.bits) s.newest;
      older = λ grows. let z = fixed.not_growing in absurd (omega arith);
      not_growing = λ still n. index (c.bits + 1) n ∙ s.not_growing still n;
    }

pub chunk_spelled : (cells : Content) (column n : ℕ) (c : Column) (entries : List ℕ) → SpellsColumn cells column c → IsFixed c → n < 2 ^ c.bits → IsChunk entries
    → SpellsColumn (put_cell (index_file column c.bits) n (chunk_bytes entries) cells) column (with_chunk c n entries)
chunk_spelled cells column n c entries s fixed within is =
    let f : ℕ = index_file column c.bits in
    let bytes : List ℕ = chunk_bytes entries in
    let after : Content = put_cell f n bytes cells in
    let head : head_cell after column ≡ head_cell cells column = put_file f n head_file column bytes cells (not_index column c.bits) in
    record {
      head = s.head;
      head_spelled = subst (λ x. SpellsHead x s.head) (sym head) s.head_spelled;
      head_is = s.head_is;
      base = s.base;
      bits = s.bits;
      growing = s.growing;
      tables = λ u small. spelled_again u (head_cell cells column) (head_cell after column) (table_cells cells column u) (table_cells after column u) (c.tables u) (s.tables u small) (ap (ends_at u) head)
          (λ i. put_file f n (table_file column u) i bytes cells (λ e. index_not_table column c.bits u (sym e)));
      newest = record {
        chunks = λ m low. same_or m n (λ b. IsChunk (if b then entries else c.newest m) × (after f m ≡ chunk_bytes (if b then entries else c.newest m)))
            (λ e. (is, ap (λ k. after f k) e ∙ put_here f n bytes cells)) (λ ne. let at = s.newest.chunks m low in (at.0, put_index f n f m bytes cells ne ∙ at.1));
        unused = λ m far. put_index f n f m bytes cells (λ e. omega arith) ∙ s.newest.unused m far;
      };
      older = λ grows. let z = fixed.not_growing in absurd (omega arith);
      not_growing = λ still m. put_file f n (index_file column (c.bits + 1)) m bytes cells (next_index column c.bits) ∙ s.not_growing still m;
    }

-- ---- what the column holds

pub table_held : (cells after : Content) (column tier base : ℕ) (content next : ColumnMap) (now : Table) → (holds : HoldsColumn cells column base content) → tier < 16 → OnlyTable column tier cells after
    → IsHeadCell (head_cell after column) → HasTable after column tier now → Keeps (with_table holds.picture tier now) next → HoldsColumn after column base next
table_held cells after column tier base content next now holds low only head there keeps = record {
  picture = with_table holds.picture tier now;
  spelled = table_spelled cells after column tier holds.picture now holds.spelled holds.fixed low only head there;
  is = keeps.is;
  fixed = keeps.fixed;
  base_is = holds.base_is;
  holds = keeps.holds;
}

pub both_held : (cells mid : Content) (column tier base b number : ℕ) (content next : ColumnMap) (now : Table) (n : ℕ) (entries new : List ℕ) → (holds : HoldsColumn cells column base content) → tier < 16
    → OnlyTable column tier cells mid → IsHeadCell (head_cell mid column) → HasTable mid column tier now → Keeps (with_chunk (with_table holds.picture tier now) n entries) next
    → n < 2 ^ holds.picture.bits → IsChunk entries → holds.picture.bits ≡ b → n ≡ number → entries ≡ new
    → HoldsColumn (put_cell (index_file column b) number (chunk_bytes new) mid) column base next
both_held cells mid column tier base b number content next now n entries new holds low only head there keeps within is bits at same =
    let one : Column = with_table holds.picture tier now in
    let still : IsFixed one = record { not_growing = holds.fixed.not_growing; bits_are = holds.fixed.bits_are } in
    let spelled = chunk_spelled mid column n one entries (table_spelled cells mid column tier holds.picture now holds.spelled holds.fixed low only head there) still within is in
    let all : put_cell (index_file column one.bits) n (chunk_bytes entries) mid ≡ put_cell (index_file column b) number (chunk_bytes new) mid =
    ap (λ k. put_cell (index_file column k) n (chunk_bytes entries) mid) bits ∙ (ap (λ k. put_cell (index_file column b) k (chunk_bytes entries) mid) at ∙ ap (λ x. put_cell (index_file column b) number (chunk_bytes x) mid) same) in
    record {
      picture = with_chunk one n entries;
      spelled = subst (λ (cells : Content). SpellsColumn cells column (with_chunk one n entries)) all spelled;
      is = keeps.is;
      fixed = keeps.fixed;
      base_is = holds.base_is;
      holds = keeps.holds;
    }
