-- A key's chunk, as it is read and in the picture that the cells spell.
use Rattle.std.proofs.Common.{◌≡◌, ◌≢◌, ◌⊎◌, ◌∷◌, [], ◌<◌, ◌≤◌, ◌^◌, ℕ, List, Any, Some, length, refl, sym, ap, subst, ◌∙◌, arith, inl, inr}
use Rattle.std.proofs.Math.Pow.{pow_mono}
use Rattle.std.proofs.lemmas.Option.{slice_get-get_or}
use Rattle.std.specs.Prelude.{slice_get}
use Rattle.sdb_base.specs.Content.{Counted}
use Rattle.pdb_cells.specs.Content.{Content}
use Rattle.pdb_cells.specs.Sizes.{head_file}
use Rattle.pdb_index.proofs.Spellings.{same_chunk}
use Rattle.pdb_model.specs.Breaks.{IsBrokenHead}
use Rattle.pdb_model.specs.Chunks.{CarriesKey, IsChunk, IsIndexEntry, chunk_bytes, chunk_number, entry_slot, entry_tier}
use Rattle.pdb_model.specs.Columns.{Column, HasEntry, Place, end_of, held_by}
use Rattle.pdb_model.specs.Files.{head_cell, index_file}
use Rattle.pdb_model.specs.Heads.{Ends, Head, IsHead, IsHeadCell, SpellsHead}
use Rattle.pdb_model.specs.Tables.{Held, first}
use Rattle.pdb_value.specs.Faults.{FaultSays, NoCell, NoTier}
use Rattle.pdb_value.specs.declared.fault.ValueFault.{ValueFault}
use Rattle.pdb_value.specs.declared.fault.ValueFault.TheVariants.{Damaged, Disk, OutOfMemory, TierFull}
use Rattle.pdb_value.proofs.HeadCells.{said_is}
use Rattle.pdb_value.proofs.Sound.{first_within, same_or}
use Rattle.pdb_column.specs.Damages.{BreaksColumn, HasOtherIndex}
use Rattle.pdb_column.specs.Holding.{HoldsColumn}
use Rattle.pdb_column.specs.Maps.{ColumnMap}
use Rattle.pdb_column.specs.inner.KeyChunks.{HasKeyChunk, IsEntryOf, IsFixedHead, IsNoEntryOf, NamesHeld}
use Rattle.pdb_column.proofs.Finding.{chunk_within, key_counted, key_found}
use Rattle.pdb_column.proofs.Held.{one_held}

-- ---- numbers of chunks

pub number_narrow : (bits : ℕ) (key : List ℕ) → bits ≤ 16 → chunk_number bits key < 2 ^ 32
number_narrow bits key low = let most : 2 ^ bits ≤ 2 ^ 16 = pow_mono low in let in_it = chunk_within bits key in omega arith

-- ---- heads

pub same_heads : (cell : List ℕ) (g h : Head) → SpellsHead cell g → SpellsHead cell h → (g.base ≡ h.base) × (g.bits ≡ h.bits) × (g.growing ≡ h.growing)
same_heads cell g h one other =
    let all : 1 ∷ (g.base ∷ (g.bits ∷ (g.growing ∷ []))) ≡ 1 ∷ (h.base ∷ (h.bits ∷ (h.growing ∷ []))) = sym one.front ∙ other.front in
    (cc, cc, cc)

pub keeps_head : (cells : Content) (column base : ℕ) (content : ColumnMap) → HoldsColumn cells column base content → IsHeadCell (head_cell cells column)
keeps_head cells column base content holds = (holds.spelled.head, holds.spelled.head_spelled, holds.spelled.head_is)

pub unbroken : (cells : Content) (column : ℕ) (e : ValueFault) → IsHeadCell (head_cell cells column) → FaultSays (IsBrokenHead cells column) NoTier e → FaultSays NoCell NoTier e
unbroken cells column OutOfMemory keeps h = tt
unbroken cells column Disk keeps h = tt
unbroken cells column (Damaged file cell) keeps h = h.broken keeps
unbroken cells column (TierFull tier) keeps h = h

pub other_index : (cells : Content) (column : ℕ) (head : List ℕ) → head ≡ head_cell cells column → IsHeadCell head
    → ((h : Head) → SpellsHead head h → (h.bits ≢ h.base) ⊎ (h.growing ≢ 0)) → HasOtherIndex cells column head_file column
other_index cells column head is (h, spells, keeps) other = record {
  is_file = refl;
  is_cell = refl;
  head = h;
  spelled = subst (λ c. SpellsHead c h) is spells;
  keeps = keeps;
  other = other h spells;
}

pub not_other : (cells : Content) (column base : ℕ) (content : ColumnMap) (head : List ℕ) → head ≡ head_cell cells column → HoldsColumn cells column base content
    → ((h : Head) → SpellsHead head h → (h.bits ≢ h.base) ⊎ (h.growing ≢ 0)) → ⊥
not_other cells column base content head is holds other =
    let s = holds.spelled in
    elim (other s.head (subst (λ c. SpellsHead c s.head) (sym is) s.head_spelled)) [
      | inl bits ↦ bits (sym s.bits ∙ (holds.fixed.bits_are ∙ s.base))
      | inr grows ↦ grows (sym s.growing ∙ holds.fixed.not_growing)
    ]

-- ---- the chunk in the picture

-- these are the entries of the key's chunk in a column's picture
pub record IsIn (c : Column) (key : List ℕ) (base : ℕ) (entries : List ℕ) : Type 0 where
  pub base_is : c.base ≡ base
  pub bits_are : c.bits ≡ base
  pub newest : c.newest (chunk_number base key) ≡ entries
  pub within : chunk_number base key < 2 ^ c.bits

pub in_picture : (cells : Content) (column base b : ℕ) (content : ColumnMap) (key entries : List ℕ) → (holds : HoldsColumn cells column base content) → HasKeyChunk cells column key b entries
    → IsIn holds.picture key b entries
in_picture cells column base b content key entries holds chunk =
    let s = holds.spelled in
    let same = same_heads (head_cell cells column) s.head chunk.head s.head_spelled chunk.spelled in
    let bits : holds.picture.bits ≡ b = s.bits ∙ (same.1 ∙ chunk.fixed.bits_are) in
    let low : chunk_number b key < 2 ^ holds.picture.bits = subst (λ n. chunk_number b key < 2 ^ n) (sym bits) (chunk_within b key) in
    let at = s.newest.chunks (chunk_number b key) low in
    record {
      base_is = s.base ∙ (same.0 ∙ chunk.fixed.base_is);
      bits_are = bits;
      newest = same_chunk _ _ at.0 chunk.is_chunk (sym at.1 ∙ (ap (λ n. cells (index_file column n) (chunk_number b key)) bits ∙ chunk.bytes));
      within = low;
    }

pub newest_is : (c : Column) (key : List ℕ) (b : ℕ) (entries : List ℕ) → IsIn c key b entries → c.newest (chunk_number c.bits key) ≡ entries
newest_is c key b entries is = ap (λ n. c.newest (chunk_number n key)) is.bits_are ∙ is.newest

-- the place of an entry of the key's chunk
abbrev pub place_of : ℕ → List ℕ → ℕ → Place
place_of base key i = record { bits = base; chunk = chunk_number base key; place = i }

pub entry_in : (c : Column) (key : List ℕ) (base i e : ℕ) (entries : List ℕ) → IsIn c key base entries → e ≢ 0 → slice_get entries i ≡ Some e → HasEntry c (place_of base key i) e
entry_in c key base i e entries is some at = record {
  not_empty = some;
  within = chunk_within base key;
  there = inl (sym is.bits_are, ap (λ xs. slice_get xs i) is.newest ∙ at);
}

ends_agree : (cells : Content) (column base tier : ℕ) (content : ColumnMap) (h : Head) → (holds : HoldsColumn cells column base content) → tier < 16 → SpellsHead (head_cell cells column) h → IsHead h
    → (holds.picture.tables tier).end ≡ (h.ends tier).end
ends_agree cells column base tier content h holds low spells keeps =
    let t = holds.picture.tables tier in
    let table = holds.spelled.tables tier low in
    let le = first_within t.slot t.free t.end table.is in
    let narrow = table.is.narrow in
    let free = keeps.free tier low in
    let end = keeps.narrow tier low in
    let two : Ends = record { free = first t.free; end = t.end } in
    let same : two ≡ h.ends tier = sym (said_is (head_cell cells column) tier two (omega arith) narrow table.ends) ∙ said_is (head_cell cells column) tier (h.ends tier) (omega arith) end (spells.tiers tier low) in
    ap (λ (e : Ends). e.end) same

named_ends : (f g : ℕ → ℕ) (e : ℕ) → ((tier : ℕ) → tier < 16 → f tier ≡ g tier) → IsIndexEntry f e → IsIndexEntry g e
named_ends f g e same (inl zero) = inl zero
named_ends f g e same (inr (tier, one, le)) = inr (tier, one, subst (λ n. entry_slot e ≤ n) (same (entry_tier e) (omega arith)) le)

-- each entry of a chunk of the picture keeps the rules
pub entry_keeps : (cells : Content) (column base b i e : ℕ) (content : ColumnMap) (key entries : List ℕ) → (holds : HoldsColumn cells column base content) → IsIn holds.picture key b entries
    → slice_get entries i ≡ Some e → IsEntryOf (head_cell cells column) e
entry_keeps cells column base b i e content key entries holds is at h spells keeps =
    same_or e 0 (λ _. IsIndexEntry (λ tier. (h.ends tier).end) e) (λ zero. inl zero)
    (λ some. named_ends (λ tier. (holds.picture.tables tier).end) (λ tier. (h.ends tier).end) e
    (λ tier low. ends_agree cells column base tier content h holds low spells keeps)
    (holds.is.named (place_of b key i) e (entry_in holds.picture key b i e entries is some at)).0)

pub all_keep : (cells : Content) (column base b : ℕ) (content : ColumnMap) (key entries : List ℕ) → (holds : HoldsColumn cells column base content) → IsIn holds.picture key b entries
    → Any (IsNoEntryOf (head_cell cells column)) entries → ⊥
all_keep cells column base b content key entries holds is (k, x, low, at, breaks) =
    let s = holds.spelled in
    breaks s.head s.head_spelled s.head_is
    (entry_keeps cells column base b k x content key entries holds is (slice_get-get_or entries k x low ∙ ap Some at) s.head s.head_spelled s.head_is)

-- what an entry of the key's chunk names
pub record IsNamed (c : Column) (column : ℕ) (cells : Content) (base entry : ℕ) : Type 0 where
  pub h : Held
  pub holds : held_by c entry ≡ Some h
  pub named : NamesHeld cells column entry h

tier_low : (f : ℕ → ℕ) (e : ℕ) → e ≢ 0 → IsIndexEntry f e → entry_tier e < 16
tier_low f e some (inl zero) = absurd (some zero)
tier_low f e some (inr (tier, one, le)) = omega arith

pub names : (cells : Content) (column base b i e : ℕ) (content : ColumnMap) (key entries : List ℕ) → (holds : HoldsColumn cells column base content) → IsIn holds.picture key b entries
    → slice_get entries i ≡ Some e → e ≢ 0 → IsNamed holds.picture column cells b e
names cells column base b i e content key entries holds is at some =
    let n = holds.is.named (place_of b key i) e (entry_in holds.picture key b i e entries is some at) in
    record {
      h = n.1.0;
      holds = n.1.1;
      named = record {
        table = holds.picture.tables (entry_tier e);
        keeps = keeps_head cells column base content holds;
        spelled = holds.spelled.tables (entry_tier e) (tier_low (end_of holds.picture) e some n.0);
        holds = n.1.1;
      };
    }

-- ---- what a column holds under a key

-- what the slot of a key's entry holds is the column's value of the key
pub held_under : (cells : Content) (column base b i e : ℕ) (content : ColumnMap) (key entries : List ℕ) (h : Held) → (holds : HoldsColumn cells column base content) → IsIn holds.picture key b entries
    → slice_get entries i ≡ Some e → e ≢ 0 → held_by holds.picture e ≡ Some h → h.key ≡ key → content key ≡ Some (record { count = h.count; bytes = h.value })
held_under cells column base b i e content key entries h holds is at some named key_is =
    key_counted holds.picture content (place_of b key i) e h key holds.is holds.holds (entry_in holds.picture key b i e entries is some at) named key_is

-- where no entry's slot holds the key, the column has nothing under it
pub no_value : (cells : Content) (column base b : ℕ) (content : ColumnMap) (key entries : List ℕ) (h : Counted) → (holds : HoldsColumn cells column base content) → IsIn holds.picture key b entries
    → length key ≡ 32 → ((i e : ℕ) (h : Held) → slice_get entries i ≡ Some e → e ≢ 0 → NamesHeld cells column e h → CarriesKey b key e → h.key ≢ key) → content key ≡ Some h → ⊥
no_value cells column base b content key entries h holds is len none there =
    let c : Column = holds.picture in
    let f = key_found c content key h holds.is holds.fixed holds.holds len there in
    let at : slice_get entries f.place.place ≡ Some f.entry = ap (λ xs. slice_get xs f.place.place) (sym (newest_is c key b entries is)) ∙ f.stands in
    let carries : CarriesKey b key f.entry = subst (λ n. CarriesKey n key f.entry) is.base_is f.carries in
    let n = names cells column base b f.place.place f.entry content key entries holds is at f.has.not_empty in
    none f.place.place f.entry n.h at f.has.not_empty n.named carries (ap (λ (h : Held). h.key) (one_held n.h (record { key = key; count = h.count; value = h.bytes }) (sym n.holds ∙ f.held_is)))

-- ---- faults of reading a chunk

pub key_chunk : (cells : Content) (column base number file index : ℕ) (key head entries cell : List ℕ) → head ≡ head_cell cells column → IsHeadCell head → ((h : Head) → SpellsHead head h → IsFixedHead base h)
    → IsChunk entries → chunk_bytes entries ≡ cell → cell ≡ cells file index → file ≡ index_file column base → index ≡ number → number ≡ chunk_number base key
    → HasKeyChunk cells column key base entries
key_chunk cells column base number file index key head entries cell is (h, spells, keeps) fixed chunk spelled read file_is index_is number_is = record {
  head = h;
  spelled = subst (λ c. SpellsHead c h) is spells;
  keeps = keeps;
  fixed = fixed h spells;
  is_chunk = chunk;
  bytes = sym (spelled ∙ (read ∙ (ap (λ f. cells f index) file_is ∙ ap (λ i. cells (index_file column base) i) (index_is ∙ number_is))));
}

pub broken_entry : (cells : Content) (column base : ℕ) (key head entries : List ℕ) → head ≡ head_cell cells column → HasKeyChunk cells column key base entries
    → Any (IsNoEntryOf head) entries → BreaksColumn cells column (index_file column base) (chunk_number base key)
broken_entry cells column base key head entries is chunk (k, x, low, at, breaks) =
    inr (inr (inl (
      chunk.head,
      entries,
      record {
        spelled = chunk.spelled;
        keeps = chunk.keeps;
        is_file = ap (index_file column) (sym chunk.fixed.bits_are);
        within = subst (λ n. chunk_number base key < 2 ^ n) (sym chunk.fixed.bits_are) (chunk_within base key);
        is_chunk = chunk.is_chunk;
        bytes = chunk.bytes;
      },
      (k, x, low, at, breaks chunk.head (subst (λ c. SpellsHead c chunk.head) (sym is) chunk.spelled) chunk.keeps),
    )))
