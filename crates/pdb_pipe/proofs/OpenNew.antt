-- The cells of a database without keys hold nothing.
use Rattle.std.proofs.Common.{◌≡◌, ℕ, zero, suc, ◌+◌, ◌-◌, ◌*◌, ◌^◌, ◌%◌, ◌≤◌, ◌<◌, ⊎_elim, List, [], take, drop, Some, None, refl, sym, ◌∙◌, ap, ap₂, subst, arith}
use Rattle.std.specs.Prelude.{replicate, slice_get}
use Rattle.std.proofs.lemmas.Bool.{cases_eq}
use Rattle.std.proofs.lemmas.List.{drop-replicate, take-replicate}
use Rattle.std.proofs.lemmas.List.Elements.{All-replicate}
use Rattle.pdb_model.specs.Chunks.{IsChunk}
use Rattle.pdb_model.specs.Columns.{Column, HasEntry, HoldsContent, IsColumn, Place, SpellsColumn, SpellsIndex}
use Rattle.pdb_model.specs.Files.{index_file}
use Rattle.pdb_model.specs.Heads.{Head, IsHead, SpellsHead, ends_at, ends_bytes}
use Rattle.pdb_model.specs.Tables.{IsTable, Outside, Table}
use Rattle.pdb_column.specs.Holding.{HoldsColumn, HoldsColumns}
use Rattle.pdb_redo.specs.Creating.{new_cells, new_head}
use Rattle.pdb_pipe.specs.Commits.{contents_of}

-- ---- the picture: no table has a slot, and no chunk an entry

abbrev no_table : Table
no_table = record { slot = λ i. Outside; free = []; end = 0 }

is_no_table : IsTable no_table
is_no_table = record {
  once = λ i. refl;
  above = λ i h. refl;
  from_one = refl;
  narrow = omega arith;
  within = λ i out some. some;
  parts = λ h key count value parts e. absurd (cc);
  all_parts = λ h key count value parts e. absurd (cc);
  owned = λ i h j bytes next e. absurd (cc);
}

abbrev new_column : ℕ → Column
new_column base = record { base = base; bits = base; growing = 0; tables = λ tier. no_table; newest = λ n. replicate 64 0; older = λ n. [] }

zero_there : (n p e : ℕ) → slice_get (replicate n 0) p ≡ Some e → e ≡ 0
zero_there zero p e h = absurd (cc)
zero_there (suc n) zero e h = cc
zero_there (suc n) (suc p) e h = zero_there n p e h

no_entry : (base : ℕ) (p : Place) (e : ℕ) → HasEntry (new_column base) p e → ⊥
no_entry base p e has = ⊎_elim (λ newest. has.not_empty (zero_there 64 p.place e newest.1)) (λ older. let one = older.0 in omega (arith, one)) has.there

is_new_column : (base : ℕ) → IsColumn (new_column base)
is_new_column base = record {
  tables = λ tier low. is_no_table;
  settled = λ tier low i e. cc;
  named = λ p e has. absurd (no_entry base p e has);
  once = λ p q e f has. absurd (no_entry base p e has);
  found = λ tier slot h low e. absurd (cc);
  keys = λ t i u j g h low high e. absurd (cc);
  unmoved = λ p q e f has. absurd (no_entry base p e has);
}

holds_none : (base : ℕ) → HoldsContent (new_column base) (λ key. None)
holds_none base = record {
  there = λ key h len e. absurd (cc);
  no_other = λ key h under. let e = under.3 in absurd (cc);
}

-- ---- its cells

abbrev new_column_head : ℕ → Head
new_column_head base = record { base = base; bits = base; growing = 0; ends = λ tier. record { free = 0; end = 0 } }

zeros_within : (n at : ℕ) → at + 8 ≤ n → take {A = ℕ} 8 (drop at (replicate {A = ℕ} n 0)) ≡ replicate {A = ℕ} 8 0
zeros_within n at fits = ap (λ (bytes : List ℕ). take 8 bytes) (drop-replicate at n 0) ∙ take-replicate 8 (n - at) 0 (omega (arith, fits))

new_ends : (base tier : ℕ) → tier < 16 → ends_at tier (new_head base) ≡ ends_bytes (record { free = 0; end = 0 })
new_ends base tier low =
    let width : (4 + 8 * tier + 8) - (4 + 8 * tier) ≡ 8 = omega arith in
    let at : 4 + 8 * tier ≡ suc (suc (suc (1 + 8 * tier))) = omega arith in
    ap₂ (λ (m i : ℕ). take m (drop i (new_head base))) width at ∙ zeros_within 253 (1 + 8 * tier) (omega (arith, low))

spells_new_head : (base : ℕ) → SpellsHead (new_head base) (new_column_head base)
spells_new_head base = record { len = refl; front = refl; tiers = new_ends base; zeros = refl }

is_new_head : (base : ℕ) → base ≤ 16 → IsHead (new_column_head base)
is_new_head base low = record {
  base = low;
  from_base = omega arith;
  bits = omega arith;
  growing = omega arith;
  doubled = λ e. omega (arith, e);
  free = λ tier h. omega arith;
  narrow = λ tier h. omega arith;
}

zero_chunk : IsChunk (replicate 64 0)
zero_chunk = record { places = refl; narrow = All-replicate (λ e. e < 2 ^ 64) 64 0 (omega arith) }

index_zeros : (base column bits n : ℕ) → column ≤ 1 → new_cells base (index_file column bits) n ≡ replicate 512 0
index_zeros base zero bits n low = ⊎_elim
    (λ even. subst (λ r. new_cells base (16 + r) n ≡ replicate 512 0) (sym even) refl)
    (λ odd. let one : bits % 2 ≡ 1 = omega arith in subst (λ r. new_cells base (16 + r) n ≡ replicate 512 0) (sym one) refl)
    (cases_eq (bits % 2) 0)
index_zeros base (suc zero) bits n low = ⊎_elim
    (λ even. subst (λ r. new_cells base (48 + r) n ≡ replicate 512 0) (sym even) refl)
    (λ odd. let one : bits % 2 ≡ 1 = omega arith in subst (λ r. new_cells base (48 + r) n ≡ replicate 512 0) (sym one) refl)
    (cases_eq (bits % 2) 0)
index_zeros base (suc (suc column)) bits n low = absurd (omega (arith, low))

new_index : (base column bits : ℕ) → column ≤ 1 → SpellsIndex (new_cells base (index_file column bits)) bits (λ n. replicate 64 0)
new_index base column bits low = record {
  chunks = λ n h. (zero_chunk, index_zeros base column bits n low);
  unused = λ n h. index_zeros base column bits n low;
}

spells_new : (base column : ℕ) → base ≤ 16 → column ≤ 1 → new_cells base 9 column ≡ new_head base → SpellsColumn (new_cells base) column (new_column base)
spells_new base column small low head = record {
  head = new_column_head base;
  head_spelled = subst (λ (cell : List ℕ). SpellsHead cell (new_column_head base)) (sym head) (spells_new_head base);
  head_is = is_new_head base small;
  base = refl;
  bits = refl;
  growing = refl;
  tables = λ tier t. record {
    is = is_no_table;
    ends = subst (λ (cell : List ℕ). ends_at tier cell ≡ ends_bytes (record { free = 0; end = 0 })) (sym head) (new_ends base tier t);
    slots = λ i. tt;
  };
  newest = new_index base column base low;
  older = λ e. absurd (omega (arith, e));
  not_growing = λ e n. index_zeros base column (base + 1) n low;
}

new_column_holds : (base column : ℕ) → base ≤ 16 → column ≤ 1 → new_cells base 9 column ≡ new_head base → HoldsColumn (new_cells base) column base (λ key. None)
new_column_holds base column small low head = record {
  picture = new_column base;
  spelled = spells_new base column small low head;
  is = is_new_column base;
  fixed = record { not_growing = refl; bits_are = refl };
  base_is = refl;
  holds = holds_none base;
}

new_heads : (base column : ℕ) → column ≤ 1 → new_cells base 9 column ≡ new_head base
new_heads base zero low = refl
new_heads base (suc zero) low = refl
new_heads base (suc (suc column)) low = absurd (omega (arith, low))

pub new_cells_hold_nothing : (base : ℕ) → base ≤ 16 → HoldsColumns (new_cells base) (λ column. base) (contents_of [])
new_cells_hold_nothing base small = record {
  each = λ column low. new_column_holds base column small low (new_heads base column low);
  single = λ key h e. absurd (cc);
}
