-- Cells after a step spell the table after it.
use Rattle.std.proofs.Common.{◌≡◌, ◌+◌, ◌^◌, ◌<◌, ◌≤◌, ◌==◌, Bool, true, false, if◌then◌else◌, ℕ, List, [], ◌∷◌, length, take, drop, refl, sym, ap, subst, ◌∙◌, arith}
use Rattle.pdb_cells.specs.Content.{Content, put_cell}
use Rattle.pdb_cells.specs.Sizes.{head_file}
use Rattle.pdb_model.specs.Files.{OnlyTable, head_cell, table_cells, table_file}
use Rattle.pdb_model.specs.Heads.{Ends, IsHeadCell, ends_at, ends_bytes}
use Rattle.pdb_model.specs.Slots.{IsFree, IsWhole, free_bytes, padded}
use Rattle.pdb_model.specs.Tables.{Slot, Whole, Parted, Part, Free, Loose, Outside, Table, IsSlot, SpellsTable, times_free, first, after, with_slot, next_slot, free_after, end_after, taken, holding}
use Rattle.pdb_model.specs.Tiers.{slot_size}
use Rattle.pdb_value.specs.Faults.{HasTable}
use Rattle.pdb_value.specs.inner.HeadCells.{with_ends}
use Rattle.pdb_value.specs.inner.Steps.{IsFreed, IsSlotTaken}
use Rattle.pdb_value.proofs.HeadCells.{said_is}
use Rattle.pdb_value.proofs.Broken.{has_end}
use Rattle.pdb_value.proofs.Layouts.{one_next}
use Rattle.pdb_value.proofs.Sound.{IsUsed, first_within, free_sound, here, hold_sound, listed, same_or, table, take_sound}
use Rattle.pdb_value.proofs.Written.{ends_written, first_kept, head_kept, last_kept, not_head, others_kept, put_file, put_here, put_index, written_len}

-- ---- what changes in the cells

pub only_head : (column tier : ℕ) (cells : Content) (head : List ℕ) (e : Ends) → tier < 16 → length head ≡ 256 → head ≡ head_cell cells column
    → OnlyTable column tier cells (put_cell head_file column (with_ends tier head e) cells)
only_head column tier cells head e small len is =
    let now : head_cell (put_cell head_file column (with_ends tier head e) cells) column ≡ with_ends tier head e = put_here head_file column (with_ends tier head e) cells in
    record {
      others = λ file i _ ne. put_file head_file column file i (with_ends tier head e) cells ne;
      heads = λ i ne. put_index head_file column head_file i (with_ends tier head e) cells ne;
      front = ap (take 4) now ∙ (first_kept head tier e len small ∙ ap (take 4) is);
      ends = λ u low ne. ap (ends_at u) now ∙ (others_kept head tier u e len small low ne ∙ ap (ends_at u) is);
      rest = ap (drop 132) now ∙ (last_kept head tier e len small ∙ ap (drop 132) is);
      len = ap length now ∙ (written_len tier head e len small ∙ (sym len ∙ ap length is));
    }

pub same_head : (column tier slot : ℕ) (bytes : List ℕ) (cells : Content) → head_cell (put_cell (table_file column tier) slot bytes cells) column ≡ head_cell cells column
same_head column tier slot bytes cells = put_file (table_file column tier) slot head_file column bytes cells (λ e. not_head column tier (sym e))

pub only_slot : (column tier slot : ℕ) (bytes : List ℕ) (cells : Content) → OnlyTable column tier cells (put_cell (table_file column tier) slot bytes cells)
only_slot column tier slot bytes cells =
    let same = same_head column tier slot bytes cells in
    record {
      others = λ file i ne _. put_file (table_file column tier) slot file i bytes cells ne;
      heads = λ i _. put_file (table_file column tier) slot head_file i bytes cells (λ e. not_head column tier (sym e));
      front = ap (take 4) same;
      ends = λ u _ _. ap (ends_at u) same;
      rest = ap (drop 132) same;
      len = ap length same;
    }

pub only_on : (column tier : ℕ) (a b c : Content) → OnlyTable column tier a b → OnlyTable column tier b c → OnlyTable column tier a c
only_on column tier a b c p q = record {
  others = λ file i ne nh. q.others file i ne nh ∙ p.others file i ne nh;
  heads = λ i ne. q.heads i ne ∙ p.heads i ne;
  front = q.front ∙ p.front;
  ends = λ u low ne. q.ends u low ne ∙ p.ends u low ne;
  rest = q.rest ∙ p.rest;
  len = q.len ∙ p.len;
}

pub only_itself : (column tier : ℕ) (a : Content) → OnlyTable column tier a a
only_itself column tier a = record {
  others = λ file i _ _. refl;
  heads = λ i _. refl;
  front = refl;
  ends = λ u _ _. refl;
  rest = refl;
  len = refl;
}

-- ---- the ends

pub ends_are_read : (tier : ℕ) (head : List ℕ) (cells : ℕ → List ℕ) (t : Table) (free end : ℕ) → SpellsTable tier head cells t → free < 2 ^ 32 → end < 2 ^ 32
    → ends_at tier head ≡ ends_bytes (record { free = free; end = end }) → (free ≡ first t.free) × (end ≡ t.end)
ends_are_read tier head cells t free end spells f e said =
    let within = first_within t.slot t.free t.end spells.is in
    let narrow = spells.is.narrow in
    let one : Ends = record { free = free; end = end } in
    let two : Ends = record { free = first t.free; end = t.end } in
    let same : one ≡ two = sym (said_is head tier one f e said) ∙ said_is head tier two (omega arith) narrow spells.ends in
    (ap (λ (e : Ends). e.free) same, ap (λ (e : Ends). e.end) same)

-- ---- a slot is taken

pub spelled_again : (tier : ℕ) (head head' : List ℕ) (cells cells' : ℕ → List ℕ) (t : Table) → SpellsTable tier head cells t → ends_at tier head' ≡ ends_at tier head
    → ((i : ℕ) → cells' i ≡ cells i) → SpellsTable tier head' cells' t
spelled_again tier head head' cells cells' t spells ends same = record {
  is = spells.is;
  ends = ends ∙ spells.ends;
  slots = λ i. subst (IsSlot tier (t.slot i) (after i t.free)) (sym (same i)) (spells.slots i);
}

slot_popped : (tier : ℕ) (b : Bool) (x : Slot) (n m : ℕ) (cell : List ℕ) → IsSlot tier x (if b then n else m) cell → IsSlot tier (if b then Loose else x) m cell
slot_popped tier true x n m cell h = tt
slot_popped tier false x n m cell h = h

slot_added : (tier : ℕ) (b : Bool) (x : Slot) (m : ℕ) (cell : List ℕ) → IsSlot tier x m cell → IsSlot tier (if b then Loose else x) m cell
slot_added tier true x m cell h = tt
slot_added tier false x m cell h = h

pub take_spelled : (tier : ℕ) (head head' : List ℕ) (cells cells' : ℕ → List ℕ) (slot : ℕ → Slot) (free : List ℕ) (end : ℕ) → SpellsTable tier head cells (table slot free end)
    → (free ≡ [] → end + 1 < 2 ^ 32) → ends_at tier head' ≡ ends_bytes (record { free = first (free_after free); end = end_after free end })
    → ((i : ℕ) → cells' i ≡ cells i) → SpellsTable tier head' cells' (taken (table slot free end))
take_spelled tier head head' cells cells' slot [] end spells room ends same = record {
  is = take_sound slot [] end spells.is room;
  ends = ends;
  slots = λ i. subst (IsSlot tier (with_slot slot (end + 1) Loose i) 0) (sym (same i)) (slot_added tier (i == end + 1) (slot i) 0 (cells i) (spells.slots i));
}
take_spelled tier head head' cells cells' slot (s ∷ rest) end spells room ends same = record {
  is = take_sound slot (s ∷ rest) end spells.is room;
  ends = ends;
  slots = λ i. subst (IsSlot tier (with_slot slot s Loose i) (after i rest)) (sym (same i)) (slot_popped tier (i == s) (slot i) (first rest) (after i rest) (cells i) (spells.slots i));
}

is_free : (tier : ℕ) (x : Slot) (n : ℕ) (cell : List ℕ) → 1 ≤ times_free x → IsSlot tier x n cell → IsFree tier cell n
is_free tier (Whole key count value) n cell on h = absurd (omega arith)
is_free tier (Parted key count value parts) n cell on h = absurd (omega arith)
is_free tier (Part head place bytes next) n cell on h = absurd (omega arith)
is_free tier Free n cell on h = h
is_free tier Loose n cell on h = absurd (omega arith)
is_free tier Outside n cell on h = absurd (omega arith)

after_first : (s : ℕ) (rest : List ℕ) → after s (s ∷ rest) ≡ first rest
after_first s rest = same_or s s (λ b. (if b then first rest else after s rest) ≡ first rest) (λ _. refl) (λ ne. absurd (ne refl))

-- the first slot of a free list is a free one, which names the next
pub first_is_free : (tier : ℕ) (head : List ℕ) (cells : ℕ → List ℕ) (slot : ℕ → Slot) (s : ℕ) (rest : List ℕ) (end : ℕ) → SpellsTable tier head cells (table slot (s ∷ rest) end)
    → IsFree tier (cells s) (first rest)
first_is_free tier head cells slot s rest end spells =
    let once : 0 < times_free (slot s) = subst (λ n. 0 < n) (spells.is.once s) (here s rest) in
    is_free tier (slot s) (first rest) (cells s) once (subst (λ n. IsSlot tier (slot s) n (cells s)) (after_first s rest) (spells.slots s))

end_taken : (tier : ℕ) (head head' : List ℕ) (cells cells' : ℕ → List ℕ) (slot : ℕ → Slot) (free : List ℕ) (end : ℕ) → SpellsTable tier head cells (table slot free end)
    → 0 ≡ first free → end + 1 < 2 ^ 32 → ends_at tier head' ≡ ends_bytes (record { free = 0; end = end + 1 })
    → ((i : ℕ) → cells' i ≡ cells i) → (end + 1 ≡ next_slot free end) × SpellsTable tier head' cells' (taken (table slot free end))
end_taken tier head head' cells cells' slot [] end spells none room ends same = (refl, take_spelled tier head head' cells cells' slot [] end spells (λ _. room) ends same)
end_taken tier head head' cells cells' slot (s ∷ rest) end spells none room ends same =
    let on = listed (table slot (s ∷ rest) end) s spells.is (here s rest) in absurd (omega arith)

first_taken : (tier : ℕ) (head head' : List ℕ) (cells cells' : ℕ → List ℕ) (slot : ℕ → Slot) (free : List ℕ) (end next : ℕ) → SpellsTable tier head cells (table slot free end)
    → 0 < first free → IsFree tier (cells (first free)) next → ends_at tier head' ≡ ends_bytes (record { free = next; end = end })
    → ((i : ℕ) → cells' i ≡ cells i) → (first free ≡ next_slot free end) × SpellsTable tier head' cells' (taken (table slot free end))
first_taken tier head head' cells cells' slot [] end next spells some read ends same = absurd (omega arith)
first_taken tier head head' cells cells' slot (s ∷ rest) end next spells some read ends same =
    let is : next ≡ first rest = one_next tier (cells s) next (first rest) read (first_is_free tier head cells slot s rest end spells) in
    (refl, take_spelled tier head head' cells cells' slot (s ∷ rest) end spells (λ h. cc) (ends ∙ ap (λ n. ends_bytes (record { free = n; end = end })) is) same)

pub took_end : (cells : Content) (column tier : ℕ) (head written : List ℕ) (free end : ℕ) → tier < 16 → length head ≡ 256 → head ≡ head_cell cells column → IsHeadCell head
    → free < 2 ^ 32 → ends_at tier head ≡ ends_bytes (record { free = free; end = end }) → free ≡ 0 → end + 1 < 2 ^ 32
    → written ≡ with_ends tier head (record { free = 0; end = end + 1 }) → IsSlotTaken column tier cells (put_cell head_file column written cells) (end + 1)
took_end cells column tier head written free end small len is keeps f said zero room wrote =
    let e : Ends = record { free = 0; end = end + 1 } in
    let to : put_cell head_file column (with_ends tier head e) cells ≡ put_cell head_file column written cells = ap (λ w. put_cell head_file column w cells) (sym wrote) in
    let now : head_cell (put_cell head_file column written cells) column ≡ with_ends tier head e = put_here head_file column written cells ∙ wrote in
    record {
      only = subst (OnlyTable column tier cells) to (only_head column tier cells head e small len is);
      head = subst IsHeadCell (sym now) (head_kept head tier e small len keeps (omega arith) room);
      from_one = omega arith;
      table = λ t spells.
          let read = ends_are_read tier head (table_cells cells column tier) t free end (subst (λ h. SpellsTable tier h (table_cells cells column tier) t) (sym is) spells) f (omega arith) said in
          let low : t.end + 1 < 2 ^ 32 = omega (arith, read.1) in
          let step = end_taken tier (head_cell cells column) (head_cell (put_cell head_file column written cells) column) (table_cells cells column tier)
          (table_cells (put_cell head_file column written cells) column tier) t.slot t.free t.end spells (sym zero ∙ read.0) low
          (ap (ends_at tier) now ∙ (ends_written tier head e len small ∙ ap (λ n. ends_bytes (record { free = 0; end = n + 1 })) read.1))
          (λ i. put_file head_file column (table_file column tier) i written cells (not_head column tier)) in
          (ap (λ n. n + 1) read.1 ∙ step.0, step.1);
    }

pub took_first : (cells : Content) (column tier : ℕ) (head written : List ℕ) (free end next : ℕ) → tier < 16 → length head ≡ 256 → head ≡ head_cell cells column → IsHeadCell head
    → free < 2 ^ 32 → end < 2 ^ 32 → ends_at tier head ≡ ends_bytes (record { free = free; end = end }) → 0 < free → next ≤ end → IsFree tier (table_cells cells column tier free) next
    → written ≡ with_ends tier head (record { free = next; end = end }) → IsSlotTaken column tier cells (put_cell head_file column written cells) free
took_first cells column tier head written free end next small len is keeps f n said some within read wrote =
    let e : Ends = record { free = next; end = end } in
    let to : put_cell head_file column (with_ends tier head e) cells ≡ put_cell head_file column written cells = ap (λ w. put_cell head_file column w cells) (sym wrote) in
    let now : head_cell (put_cell head_file column written cells) column ≡ with_ends tier head e = put_here head_file column written cells ∙ wrote in
    record {
      only = subst (OnlyTable column tier cells) to (only_head column tier cells head e small len is);
      head = subst IsHeadCell (sym now) (head_kept head tier e small len keeps within n);
      from_one = some;
      table = λ t spells.
          let at = ends_are_read tier head (table_cells cells column tier) t free end (subst (λ h. SpellsTable tier h (table_cells cells column tier) t) (sym is) spells) f n said in
          let step = first_taken tier (head_cell cells column) (head_cell (put_cell head_file column written cells) column) (table_cells cells column tier)
          (table_cells (put_cell head_file column written cells) column tier) t.slot t.free t.end next spells (subst (λ n. 0 < n) at.0 some)
          (subst (λ n. IsFree tier (table_cells cells column tier n) next) at.0 read)
          (ap (ends_at tier) now ∙ (ends_written tier head e len small ∙ ap (λ n. ends_bytes (record { free = next; end = n })) at.1))
          (λ i. put_file head_file column (table_file column tier) i written cells (not_head column tier)) in
          (at.0 ∙ step.0, step.1);
    }

-- ---- a slot's cell is put

slot_put : (tier s i : ℕ) (slot : ℕ → Slot) (y : Slot) (n : ℕ) (cell new : List ℕ) → (i ≡ s → new ≡ cell) → ((i ≡ s → ⊥) → IsSlot tier (slot i) n new) → IsSlot tier y n cell → IsSlot tier (with_slot slot s y i) n new
slot_put tier s i slot y n cell new hit miss is =
    same_or i s (λ b. IsSlot tier (if b then y else slot i) n new) (λ e. subst (IsSlot tier y n) (sym (hit e)) is) miss

-- the cells of a tier after a put of one of them
pub put_there : (column tier s i : ℕ) (bytes : List ℕ) (cells : Content) → i ≡ s → table_cells (put_cell (table_file column tier) s bytes cells) column tier i ≡ bytes
put_there column tier s i bytes cells e = ap (λ k. put_cell (table_file column tier) s bytes cells (table_file column tier) k) e ∙ put_here (table_file column tier) s bytes cells

pub put_elsewhere : (column tier s i : ℕ) (bytes : List ℕ) (cells : Content) → (i ≡ s → ⊥) → table_cells (put_cell (table_file column tier) s bytes cells) column tier i ≡ table_cells cells column tier i
put_elsewhere column tier s i bytes cells ne = put_index (table_file column tier) s (table_file column tier) i bytes cells ne

-- a slot of the table gets a whole value
pub hold_spelled : (cells : Content) (column tier s : ℕ) (t : Table) (key : List ℕ) (count : ℕ) (value cell : List ℕ) → HasTable cells column tier t → IsUsed t s
    → IsWhole tier cell key count value → HasTable (put_cell (table_file column tier) s cell cells) column tier (holding t s key count value)
hold_spelled cells column tier s t key count value cell spells has whole = record {
  is = hold_sound t s key count value spells.is has;
  ends = ap (ends_at tier) (same_head column tier s cell cells) ∙ spells.ends;
  slots = λ i. slot_put tier s i t.slot (Whole key count value) (after i t.free) cell _ (put_there column tier s i cell cells)
      (λ ne. subst (IsSlot tier (t.slot i) (after i t.free)) (sym (put_elsewhere column tier s i cell cells ne)) (spells.slots i)) whole;
}

-- ---- a slot is freed

slot_freed : (tier s i : ℕ) (slot : ℕ → Slot) (rest : List ℕ) (cell new : List ℕ) → (i ≡ s → new ≡ cell) → ((i ≡ s → ⊥) → IsSlot tier (slot i) (after i rest) new) → IsFree tier cell (first rest)
    → IsSlot tier (with_slot slot s Free i) (after i (s ∷ rest)) new
slot_freed tier s i slot rest cell new hit miss is =
    same_or i s (λ b. IsSlot tier (if b then Free else slot i) (if b then first rest else after i rest) new) (λ e. subst (λ (c : List ℕ). IsFree tier c (first rest)) (sym (hit e)) is) miss

pub freed_step : (cells : Content) (column tier s : ℕ) (head written cell : List ℕ) (free end : ℕ) → tier < 16 → length head ≡ 256 → head ≡ head_cell cells column → IsHeadCell head
    → free < 2 ^ 32 → end < 2 ^ 32 → ends_at tier head ≡ ends_bytes (record { free = free; end = end }) → s ≤ end → cell ≡ padded (slot_size tier) (free_bytes free)
    → written ≡ with_ends tier head (record { free = s; end = end }) → IsFreed column tier cells (put_cell head_file column written (put_cell (table_file column tier) s cell cells)) s
freed_step cells column tier s head written cell free end small len is keeps f n said within spelled wrote =
    let e : Ends = record { free = s; end = end } in
    let mid : Content = put_cell (table_file column tier) s cell cells in
    let to : put_cell head_file column (with_ends tier head e) mid ≡ put_cell head_file column written mid = ap (λ w. put_cell head_file column w mid) (sym wrote) in
    let now : head_cell (put_cell head_file column written mid) column ≡ with_ends tier head e = put_here head_file column written mid ∙ wrote in
    let slots : (i : ℕ) → table_cells (put_cell head_file column written mid) column tier i ≡ table_cells mid column tier i = λ i. put_file head_file column (table_file column tier) i written mid (not_head column tier) in
    record {
      only = only_on column tier cells mid _ (only_slot column tier s cell cells) (subst (OnlyTable column tier mid) to (only_head column tier mid head e small len (is ∙ sym (same_head column tier s cell cells))));
      head = subst IsHeadCell (sym now) (head_kept head tier e small len keeps within n);
      ends = (
        end,
        has_end cells column tier head free end small is keeps f n said,
        has_end (put_cell head_file column written mid) column tier (head_cell (put_cell head_file column written mid) column) s end small refl
            (subst IsHeadCell (sym now) (head_kept head tier e small len keeps within n)) (omega arith) n (ap (ends_at tier) now ∙ ends_written tier head e len small),
      );
      others = λ i ne. slots i ∙ put_elsewhere column tier s i cell cells ne;
      table = λ t spells loose.
          let at = ends_are_read tier head (table_cells cells column tier) t free end (subst (λ h. SpellsTable tier h (table_cells cells column tier) t) (sym is) spells) f n said in
          record {
            is = free_sound t s spells.is loose;
            ends = ap (ends_at tier) now ∙ (ends_written tier head e len small ∙ ap (λ n. ends_bytes (record { free = s; end = n })) at.1);
            slots = λ i. slot_freed tier s i t.slot t.free cell _ (λ h. slots i ∙ put_there column tier s i cell cells h)
                (λ ne. subst (IsSlot tier (t.slot i) (after i t.free)) (sym (slots i ∙ put_elsewhere column tier s i cell cells ne)) (spells.slots i))
                (subst (IsFree tier cell) at.0 (record { spelled = spelled; narrow = f }));
          };
    }
