-- The value of a key's entry, and what a lost reference leaves.
use Rattle.std.proofs.Common.{◌≡◌, ◌≢◌, ◌⊎◌, ◌+◌, ◌-◌, ◌==◌, ◌^◌, ◌<◌, ◌≤◌, Bool, true, false, if◌then◌else◌, All, ℕ, List, Option, Some, None, Result, Ok, Err, OnOk, length, take, set, refl, sym, ap, subst, ◌∙◌, arith, inl, inr}
use Rattle.std.proofs.lemmas.List.Elements.{All-get_or}
use Rattle.std.proofs.lemmas.Option.{get_or_from_slice_get, slice_get-get_or, slice_get_within}
use Rattle.std.specs.Prelude.{slice_get, slice_set}
use Rattle.sdb_base.specs.Content.{Counted, count_down, without_reference}
use Rattle.pdb_cells.specs.Content.{Content, put_cell}
use Rattle.pdb_model.specs.Chunks.{IsChunk, IsIndexEntry, chunk_bytes, chunk_number, entry_slot, entry_tier}
use Rattle.pdb_model.specs.Columns.{Column, held_by}
use Rattle.pdb_model.specs.Files.{OnlyTable, head_cell, index_file, table_cells}
use Rattle.pdb_model.specs.Heads.{IsHeadCell}
use Rattle.pdb_model.specs.Slots.{IsHeadOfParts, IsWhole}
use Rattle.pdb_model.specs.Tables.{Held, IsSlot, Slot, Table, after, first, held, recounted, removed}
use Rattle.pdb_model.specs.Tiers.{in_head, parts_tier}
use Rattle.pdb_value.specs.Faults.{HasTable}
use Rattle.pdb_value.specs.Values.{IsUpToEnd, with_fewer}
use Rattle.pdb_column.specs.Holding.{HoldsColumn}
use Rattle.pdb_column.specs.Maps.{ColumnMap}
use Rattle.pdb_column.specs.inner.Changes.{IsDropped, IsHeldAt, IsHit}
use Rattle.pdb_column.specs.inner.KeyChunks.{HasKeyChunk, IsEntryOf}
use Rattle.pdb_column.specs.inner.Steps.{with_under}
use Rattle.pdb_column.proofs.Cases.{same_or, set_there}
use Rattle.pdb_column.proofs.Cells.{both_held, chunk_kept, chunk_put, chunk_set, table_held}
use Rattle.pdb_column.proofs.Counting.{counting}
use Rattle.pdb_column.proofs.Erasing.{erasing}
use Rattle.pdb_column.proofs.Held.{held_is}
use Rattle.pdb_column.proofs.KeyChunks.{IsIn, entry_in, entry_keeps, held_under, in_picture, place_of}
use Rattle.pdb_column.proofs.OneColumn.{column_from_chunk, column_from_table, column_on}

pub one_draft : (a b : Content) → Some a ≡ Some b → a ≡ b
one_draft a b e = cc

pub one_counted : (a b : Counted) → Some a ≡ Some b → a ≡ b
one_counted a b e = cc

-- ---- ends

within_end : (f : ℕ → ℕ) (e : ℕ) → e ≢ 0 → IsIndexEntry f e → entry_slot e ≤ f (entry_tier e)
within_end f e some (inl zero) = absurd (some zero)
within_end f e some (inr (tier, one, le)) = le

pub up_to_end : (cells : Content) (column : ℕ) (entries : List ℕ) (place tier slot : ℕ) → All (IsEntryOf (head_cell cells column)) entries → IsHit entries place tier slot → IsUpToEnd cells column tier slot
up_to_end cells column entries place tier slot all hit end (h, spells, keeps, is) =
    let low = slice_get_within entries place hit.entry hit.there in
    let at : IsEntryOf (head_cell cells column) hit.entry = subst (IsEntryOf (head_cell cells column)) (get_or_from_slice_get entries place hit.entry 0 hit.there) (All-get_or (IsEntryOf (head_cell cells column)) entries place 0 low all) in
    let le = within_end (λ tier. (h.ends tier).end) hit.entry hit.not_empty (at h spells keeps) in
    let to : (h.ends (entry_tier hit.entry)).end ≡ end = ap (λ t. (h.ends t).end) (sym hit.tier_is) ∙ is in
    let slot_is = hit.slot_is in omega arith

pub all_entries : (cells : Content) (column base b : ℕ) (content : ColumnMap) (key entries : List ℕ) → (holds : HoldsColumn cells column base content) → IsIn holds.picture key b entries
    → All (IsEntryOf (head_cell cells column)) entries
all_entries cells column base b content key entries holds is k d low =
    entry_keeps cells column base b k (Rattle.std.proofs.Common.get_or entries k d) content key entries holds is (slice_get-get_or entries k d low)

-- ---- counts

slot_count : (tier n : ℕ) (x : Slot) (cell : List ℕ) (h : Held) → held x ≡ Some h → IsSlot tier x n cell → 1 ≤ h.count
slot_count tier n x cell h e is = elim (held_is x h e) [
  | inl w ↦ let whole : IsWhole tier cell h.key h.count h.value = subst (λ x. IsSlot tier x n cell) w is in whole.counted.some
  | inr p ↦
      let head : (tier ≡ parts_tier) × IsHeadOfParts cell h.key h.count (length h.value) (first p.0) (take in_head h.value) = subst (λ x. IsSlot tier x n cell) p.1 is in
      head.1.counted.some
]

pub some_count : (cells : Content) (column tier slot : ℕ) (t : Table) (h : Held) → HasTable cells column tier t → held (t.slot slot) ≡ Some h → 1 ≤ h.count
some_count cells column tier slot t h spells e = slot_count tier (after slot t.free) (t.slot slot) (table_cells cells column tier slot) h e (spells.slots slot)

down_to_none : (n : ℕ) → 1 ≤ n → count_down n ≡ 0 → n ≡ 1
down_to_none n some =
    same_or n (2 ^ 64 - 1) (λ b. (if b then n else n - 1) ≡ 0 → n ≡ 1) (λ e z. absurd (omega arith)) (λ ne z. omega arith)

abbrev one_count : ℕ → List ℕ → Option Counted
one_count n bytes = Some (record { count = n; bytes = bytes })

fewer_left : (x : Option Counted) (c : Counted) (left : ℕ) → x ≡ Some c → left ≡ count_down c.count → 0 < left → Some (record { count = left; bytes = c.bytes }) ≡ without_reference x
fewer_left x c left e is some =
    let now : Some (record { count = left; bytes = c.bytes }) ≡ without_reference (Some c) =
    same_or c.count 1 (λ b. ◌≡◌ {A = Option Counted} (Some (record { count = left; bytes = c.bytes })) (if b then None else Some (record { count = count_down c.count; bytes = c.bytes })))
    (λ one. let z : left ≡ 0 = is ∙ ap count_down one in absurd (omega arith)) (λ _. ap (λ (n : ℕ). one_count n c.bytes) is) in
    now ∙ ap without_reference (sym e)

none_left : (x : Option Counted) (c : Counted) (left : ℕ) → x ≡ Some c → left ≡ count_down c.count → left ≡ 0 → 1 ≤ c.count → None ≡ without_reference x
none_left x c left e is zero some =
    let one : c.count ≡ 1 = down_to_none c.count some (sym is ∙ zero) in
    let now : None ≡ without_reference (Some c) =
    same_or c.count 1 (λ b. ◌≡◌ {A = Option Counted} None (if b then None else Some (record { count = count_down c.count; bytes = c.bytes }))) (λ _. refl) (λ ne. absurd (ne one)) in
    now ∙ ap without_reference (sym e)

-- ---- a lost reference

pub fewer_there : (after : Content) (column tier slot left : ℕ) (t : Table) → 0 < left → HasTable after column tier (with_fewer t slot left) → HasTable after column tier (recounted t slot left)
fewer_there after column tier slot left t some =
    same_or left 0 (λ b. HasTable after column tier (if b then removed t slot else recounted t slot left) → HasTable after column tier (recounted t slot left)) (λ e. absurd (omega arith)) (λ _ h. h)

pub none_there : (after : Content) (column tier slot left : ℕ) (t : Table) → left ≡ 0 → HasTable after column tier (with_fewer t slot left) → HasTable after column tier (removed t slot)
none_there after column tier slot left t zero =
    same_or left 0 (λ b. HasTable after column tier (if b then removed t slot else recounted t slot left) → HasTable after column tier (removed t slot)) (λ _ h. h) (λ ne. absurd (ne zero))

pub held_entry : (c : Column) (content : ColumnMap) (key entries : List ℕ) (place tier slot : ℕ) → (hit : IsHit entries place tier slot) → (at : IsHeldAt c content key tier slot)
    → held_by c hit.entry ≡ Some (record { key = key; count = at.counted.count; value = at.counted.bytes })
held_entry c content key entries place tier slot hit at =
    ap (λ t. held ((c.tables t).slot (entry_slot hit.entry))) (sym hit.tier_is) ∙ (ap (λ s. held ((c.tables tier).slot s)) (sym hit.slot_is) ∙ at.holds)

-- the entry's value has another count
pub recounted_held : (cells after : Content) (column base b : ℕ) (content : ColumnMap) (key entries : List ℕ) (place tier slot n : ℕ) → (holds : HoldsColumn cells column base content)
    → IsIn holds.picture key b entries → IsHit entries place tier slot → (at : IsHeldAt holds.picture content key tier slot) → tier < 16 → OnlyTable column tier cells after → IsHeadCell (head_cell after column)
    → HasTable after column tier (recounted (holds.picture.tables tier) slot n) → HoldsColumn after column base (with_under content key (Some (record { count = n; bytes = at.counted.bytes })))
recounted_held cells after column base b content key entries place tier slot n holds is hit at low only head there =
    let c : Column = holds.picture in
    let e : ℕ = hit.entry in
    let value : Held = record { key = key; count = at.counted.count; value = at.counted.bytes } in
    let only_e = subst (λ t. OnlyTable column t cells after) hit.tier_is only in
    let there_t : HasTable after column (entry_tier e) (recounted (c.tables (entry_tier e)) slot n) = subst (λ t. HasTable after column t (recounted (c.tables t) slot n)) hit.tier_is there in
    let there_e : HasTable after column (entry_tier e) (recounted (c.tables (entry_tier e)) (entry_slot e) n) = subst (λ s. HasTable after column (entry_tier e) (recounted (c.tables (entry_tier e)) s n)) hit.slot_is there_t in
    let low_e : entry_tier e < 16 = subst (λ t. t < 16) hit.tier_is low in
    table_held cells after column (entry_tier e) base content (with_under content key (Some (record { count = n; bytes = at.counted.bytes }))) (recounted (c.tables (entry_tier e)) (entry_slot e) n) holds low_e only_e head there_e
    (counting c content (place_of b key place) e value n holds.is holds.fixed holds.holds (entry_in c key b place e entries is hit.not_empty hit.there) (held_entry c content key entries place tier slot hit at) there_e.is)

pub fewer_dropped : (cells after : Content) (column base b : ℕ) (content : ColumnMap) (key entries : List ℕ) (place tier slot left : ℕ) → (holds : HoldsColumn cells column base content)
    → HasKeyChunk cells column key b entries → IsHit entries place tier slot → (at : IsHeldAt holds.picture content key tier slot) → tier < 16 → OnlyTable column tier cells after → IsHeadCell (head_cell after column)
    → left ≡ count_down at.counted.count → 0 < left → HasTable after column tier (with_fewer (holds.picture.tables tier) slot left) → b ≡ base
    → IsDropped column base content key entries place cells after
fewer_dropped cells after column base b content key entries place tier slot left holds chunk hit at low only head is some there same =
    let in_it = in_picture cells column base b content key entries holds chunk in
    let now = recounted_held cells after column base b content key entries place tier slot left holds in_it hit at low only head (fewer_there after column tier slot left (holds.picture.tables tier) some there) in
    record {
      only = column_from_table column tier cells after low only;
      holds = subst (λ x. HoldsColumn after column base (with_under content key x)) (fewer_left (content key) at.counted left at.is is some) now;
      chunk = subst (λ n. HasKeyChunk after column key n entries) same (chunk_kept cells after column tier b key entries chunk only head);
      room = λ h e one.
          let eq : at.counted.count ≡ 1 = ap (λ (c : Counted). c.count) (one_counted at.counted h (sym at.is ∙ e)) ∙ one in
          let z : left ≡ 0 = is ∙ ap count_down eq in absurd (omega arith);
    }

pub last_dropped : (cells mid : Content) (column base b number : ℕ) (content : ColumnMap) (key entries new : List ℕ) (place tier slot left : ℕ) → (holds : HoldsColumn cells column base content)
    → HasKeyChunk cells column key b entries → IsHit entries place tier slot → (at : IsHeldAt holds.picture content key tier slot) → tier < 16 → OnlyTable column tier cells mid → IsHeadCell (head_cell mid column)
    → left ≡ count_down at.counted.count → left ≡ 0 → HasTable mid column tier (with_fewer (holds.picture.tables tier) slot left) → b ≡ base → number ≡ chunk_number b key → new ≡ slice_set entries place 0
    → IsDropped column base content key new place cells (put_cell (index_file column b) number (chunk_bytes new) mid)
last_dropped cells mid column base b number content key entries new place tier slot left holds chunk hit at low only head is zero there same number_is new_is =
    let c : Column = holds.picture in
    let e : ℕ = hit.entry in
    let value : Held = record { key = key; count = at.counted.count; value = at.counted.bytes } in
    let in_it = in_picture cells column base b content key entries holds chunk in
    let some = some_count cells column tier slot (c.tables tier) value (holds.spelled.tables tier low) at.holds in
    let only_e = subst (λ t. OnlyTable column t cells mid) hit.tier_is only in
    let there_t : HasTable mid column (entry_tier e) (removed (c.tables (entry_tier e)) slot) = subst (λ t. HasTable mid column t (removed (c.tables t) slot)) hit.tier_is (none_there mid column tier slot left (c.tables tier) zero there) in
    let there_e : HasTable mid column (entry_tier e) (removed (c.tables (entry_tier e)) (entry_slot e)) = subst (λ s. HasTable mid column (entry_tier e) (removed (c.tables (entry_tier e)) s)) hit.slot_is there_t in
    let low_e : entry_tier e < 16 = subst (λ t. t < 16) hit.tier_is low in
    let new_chunk = chunk_set entries new place 0 chunk.is_chunk (omega arith) new_is in
    let entries_is : slice_set (c.newest (chunk_number b key)) place 0 ≡ new = ap (λ xs. slice_set xs place 0) in_it.newest ∙ sym new_is in
    let now = both_held cells mid column (entry_tier e) base b number content (with_under content key None) (removed (c.tables (entry_tier e)) (entry_slot e)) (chunk_number b key) (slice_set (c.newest (chunk_number b key)) place 0) new holds low_e
    only_e head there_e
    (erasing c content (place_of b key place) e value holds.is holds.fixed holds.holds (entry_in c key b place e entries in_it hit.not_empty hit.there) (held_entry c content key entries place tier slot hit at) there_e.is)
    in_it.within (subst IsChunk (sym entries_is) new_chunk) in_it.bits_are (sym number_is) entries_is in
    record {
      only = column_on column cells mid _ (column_from_table column tier cells mid low only) (column_from_chunk column b number (chunk_bytes new) mid);
      holds = subst (λ x. HoldsColumn (put_cell (index_file column b) number (chunk_bytes new) mid) column base (with_under content key x)) (none_left (content key) at.counted left at.is is zero some) now;
      chunk = subst (λ n. HasKeyChunk (put_cell (index_file column b) number (chunk_bytes new) mid) column key n new) same
          (chunk_put mid column b number key entries new (chunk_kept cells mid column tier b key entries chunk only head) new_chunk number_is);
      room = λ h f one. ap (λ xs. slice_get xs place) new_is ∙ set_there entries place 0 e hit.there;
    }

-- ---- a key's value is found

abbrev one_value : List ℕ → ℕ → List ℕ → Option Held
one_value key count value = Some (record { key = key; count = count; value = value })

pub found_here : (cells : Content) (column base b i e : ℕ) (content : ColumnMap) (key entries : List ℕ) (tier slot : ℕ) (h : Held) → (holds : HoldsColumn cells column base content) → IsIn holds.picture key b entries
    → slice_get entries i ≡ Some e → e ≢ 0 → held_by holds.picture e ≡ Some h → h.key ≡ key → tier ≡ entry_tier e → slot ≡ entry_slot e → IsHeldAt holds.picture content key tier slot
found_here cells column base b i e content key entries tier slot h holds is at some named key_is tier_is slot_is = record {
  counted = record { count = h.count; bytes = h.value };
  is = held_under cells column base b i e content key entries h holds is at some named key_is;
  holds = ap (λ t. held ((holds.picture.tables t).slot slot)) tier_is
      ∙ (ap (λ s. held ((holds.picture.tables (entry_tier e)).slot s)) slot_is ∙ (named ∙ ap (λ (k : List ℕ). one_value k h.count h.value) key_is));
}

pub none_from : (o : Option Counted) → ((h : Counted) → o ≡ Some h → ⊥) → o ≡ None
none_from None none = refl
none_from (Some h) none = absurd (none h refl)
