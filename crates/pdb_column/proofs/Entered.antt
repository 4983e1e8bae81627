-- A value is placed, and its entry put into its key's chunk.
use Rattle.std.proofs.Common.{◌≡◌, ◌≢◌, ◌^◌, ◌<◌, All, ℕ, List, Some, None, Result, Ok, Err, OnOk, false, length, sym, ap, subst, ◌∙◌, inl, inr}
use Rattle.std.specs.Option.{option_map}
use Rattle.std.specs.Prelude.{is_err, slice_get, slice_set}
use Rattle.pdb_cells.specs.Content.{Content, put_cell}
use Rattle.pdb_model.specs.Chunks.{IsChunk, chunk_bytes, chunk_number, entry_of, with_entry}
use Rattle.pdb_model.specs.Columns.{Column}
use Rattle.pdb_model.specs.Files.{OnlyTable, head_cell, index_file}
use Rattle.pdb_model.specs.Heads.{IsHeadCell}
use Rattle.pdb_model.specs.Tables.{Table, next_slot, placed}
use Rattle.pdb_model.specs.Tiers.{tier_of}
use Rattle.pdb_value.specs.Faults.{BreaksFreeList, FaultSays, HasTable, IsFullTier, NoCell}
use Rattle.pdb_value.specs.declared.fault.ValueFault.{ValueFault}
use Rattle.pdb_value.proofs.Broken.{says_more}
use Rattle.pdb_column.specs.Damages.{BreaksColumn, IsFullChunk}
use Rattle.pdb_column.specs.Holding.{HoldsColumn}
use Rattle.pdb_column.specs.Maps.{ColumnMap, IsCrowded}
use Rattle.pdb_column.specs.inner.Changes.{IsChanged}
use Rattle.pdb_column.specs.inner.Faults.{AnyTier}
use Rattle.pdb_column.specs.inner.KeyChunks.{HasKeyChunk}
use Rattle.pdb_column.specs.inner.Steps.{with_under}
use Rattle.pdb_column.proofs.Cells.{both_held, chunk_set}
use Rattle.pdb_column.proofs.Crowding.{crowded, not_crowded, spelled_keys}
use Rattle.pdb_column.proofs.Inserting.{inserting, tier_low}
use Rattle.pdb_column.proofs.Finding.{chunk_within}
use Rattle.pdb_column.proofs.KeyChunks.{in_picture, newest_is}
use Rattle.pdb_column.proofs.OneColumn.{column_from_chunk, column_from_table, column_on}
use Rattle.pdb_value.proofs.Places.{At, Nowhere, stands}

-- ---- the first empty place

same_list : (xs ys : List ℕ) → Some xs ≡ Some ys → xs ≡ ys
same_list xs ys e = cc

no_list : (xs : List ℕ) → None ≡ Some xs → ⊥
no_list xs e = cc

-- where an entry was put
pub record IsPutAt (entries : List ℕ) (entry : ℕ) (new : List ℕ) : Type 0 where
  pub place : ℕ
  pub empty : slice_get entries place ≡ Some 0
  pub is : new ≡ slice_set entries place entry

pub put_at : (entries : List ℕ) (entry : ℕ) (new : List ℕ) → with_entry entries entry ≡ Some new → IsPutAt entries entry new
put_at entries entry new e = elim (stands entries 0) [
  | At j pos there ↦ record { place = j; empty = there; is = same_list new (slice_set entries j entry) (sym e ∙ ap (option_map (λ place. slice_set entries place entry)) pos) }
  | Nowhere pos none ↦ absurd (no_list new (sym (ap (option_map (λ place. slice_set entries place entry)) pos) ∙ e))
]

pub at_ok : {T E P : Type 0} (r : Result T E) → is_err r ≡ false → OnOk r P → P
at_ok (Ok x) e h = h
at_ok (Err y) e h = absurd (cc)

-- ---- room

pub crowded_in : (cells : Content) (column base b : ℕ) (content : ColumnMap) (key entries : List ℕ) → (holds : HoldsColumn cells column base content) → HasKeyChunk cells column key b entries
    → All (λ e. e ≢ 0) entries → IsCrowded content b key
crowded_in cells column base b content key entries holds chunk full =
    let c : Column = holds.picture in
    let is = in_picture cells column base b content key entries holds chunk in
    let same = newest_is c key b entries is in
    subst (λ n. IsCrowded content n key) is.bits_are
    (crowded c content key holds.is holds.holds (spelled_keys cells column c holds.spelled) (ap length same ∙ chunk.is_chunk.places) (subst (All (λ (e : ℕ). e ≢ 0)) (sym same) full))

pub not_crowded_in : (cells : Content) (column base b : ℕ) (content : ColumnMap) (key entries : List ℕ) (place : ℕ) → (holds : HoldsColumn cells column base content) → HasKeyChunk cells column key b entries
    → slice_get entries place ≡ Some 0 → IsCrowded content b key → ⊥
not_crowded_in cells column base b content key entries place holds chunk empty many =
    let c : Column = holds.picture in
    let is = in_picture cells column base b content key entries holds chunk in
    let same = newest_is c key b entries is in
    not_crowded c content key place holds.is holds.fixed holds.holds (ap length same ∙ chunk.is_chunk.places) (ap (λ xs. slice_get xs place) same ∙ empty) (subst (λ n. IsCrowded content n key) (sym is.bits_are) many)

-- ---- the step

pub inserted_held : (cells mid : Content) (column b number tier slot entry : ℕ) (content : ColumnMap) (key entries new bytes : List ℕ) → (holds : HoldsColumn cells column b content) → HasKeyChunk cells column key b entries
    → tier ≡ tier_of (length bytes) → slot ≡ next_slot (holds.picture.tables (tier_of (length bytes))).free (holds.picture.tables (tier_of (length bytes))).end
    → OnlyTable column tier cells mid → IsHeadCell (head_cell mid column) → HasTable mid column tier (placed (holds.picture.tables (tier_of (length bytes))) key 1 bytes)
    → content key ≡ None → entry ≡ entry_of b key tier slot → entry < 2 ^ 64 → IsPutAt entries entry new → number ≡ chunk_number b key
    → IsChanged column b content key (Some (record { count = 1; bytes = bytes })) cells (put_cell (index_file column b) number (chunk_bytes new) mid)
inserted_held cells mid column b number tier slot entry content key entries new bytes holds chunk tier_is slot_is only head there none entry_is small at number_is =
    let c : Column = holds.picture in
    let to : ℕ = tier_of (length bytes) in
    let t : Table = c.tables to in
    let low : to < 16 = tier_low (length bytes) in
    let in_it = in_picture cells column b b content key entries holds chunk in
    let same = newest_is c key b entries in_it in
    let is : entry ≡ entry_of c.base key to (next_slot t.free t.end) =
    entry_is ∙ (ap (λ k. entry_of b key k slot) tier_is ∙ (ap (λ s. entry_of b key to s) slot_is ∙ ap (λ n. entry_of n key to (next_slot t.free t.end)) (sym in_it.base_is))) in
    let set_is : slice_set (c.newest (chunk_number c.bits key)) at.place (entry_of c.base key to (next_slot t.free t.end)) ≡ new =
    ap (λ xs. slice_set xs at.place (entry_of c.base key to (next_slot t.free t.end))) same ∙ (ap (λ e. slice_set entries at.place e) (sym is) ∙ sym at.is) in
    let only_to = subst (λ k. OnlyTable column k cells mid) tier_is only in
    let there_to : HasTable mid column to (placed t key 1 bytes) = subst (λ k. HasTable mid column k (placed t key 1 bytes)) tier_is there in
    record {
      only = column_on column cells mid _ (column_from_table column to cells mid low only_to) (column_from_chunk column b number (chunk_bytes new) mid);
      holds = both_held cells mid column to b b number content (with_under content key (Some (record { count = 1; bytes = bytes }))) (placed t key 1 bytes) (chunk_number c.bits key)
          (slice_set (c.newest (chunk_number c.bits key)) at.place (entry_of c.base key to (next_slot t.free t.end))) new holds low only_to head there_to
          (inserting c content key 1 bytes at.place holds.is holds.fixed holds.holds none there_to.is (ap (λ xs. slice_get xs at.place) same ∙ at.empty))
          (chunk_within c.bits key) (subst IsChunk (sym set_is) (chunk_set entries new at.place entry chunk.is_chunk small at.is)) in_it.bits_are (ap (λ n. chunk_number n key) in_it.bits_are ∙ sym number_is) set_is;
    }

-- ---- faults

pub full_chunk : (cells : Content) (column b number : ℕ) (key entries : List ℕ) → HasKeyChunk cells column key b entries → All (λ e. e ≢ 0) entries → number ≡ chunk_number b key → IsFullChunk cells column b number
full_chunk cells column b number key entries chunk full number_is = (
  chunk.head,
  entries,
  chunk.fixed.bits_are,
  record {
    spelled = chunk.spelled;
    keeps = chunk.keeps;
    is_file = ap (index_file column) (sym chunk.fixed.bits_are);
    within = subst (λ n. number < 2 ^ n) (sym chunk.fixed.bits_are) (subst (λ n. n < 2 ^ b) (sym number_is) (chunk_within b key));
    is_chunk = chunk.is_chunk;
    bytes = ap (λ n. cells (index_file column b) n) number_is ∙ chunk.bytes;
  },
  full,
)

free_list_breaks : (P : Content → Type 0) (column tier file cell : ℕ) → tier < 16 → (x : Content) × P x × BreaksFreeList column tier x file cell → (x : Content) × P x × BreaksColumn x column file cell
free_list_breaks P column tier file cell low (x, p, inl head) = (x, p, inl head)
free_list_breaks P column tier file cell low (x, p, inr (is_file, (end, has, breaks))) = (x, p, inr (inr (inr (tier, low, (is_file, (end, has, inl breaks))))))

full_tier : (P : Content → Type 0) (column tier u : ℕ) → (x : Content) × P x × (u ≡ tier) × IsFullTier x column tier → (x : Content) × P x × IsFullTier x column u
full_tier P column tier u (x, p, is, full) = (x, p, subst (IsFullTier x column) (sym is) full)

pub place_breaks : (P : Content → Type 0) (column tier : ℕ) (e : ValueFault) → tier < 16
    → FaultSays (λ file cell. (x : Content) × P x × BreaksFreeList column tier x file cell) (λ u. (x : Content) × P x × (u ≡ tier) × IsFullTier x column tier) e
    → FaultSays (λ file cell. (x : Content) × P x × BreaksColumn x column file cell) (λ u. (x : Content) × P x × IsFullTier x column u) e
place_breaks P column tier e low h =
    says_more (λ file cell. (x : Content) × P x × BreaksFreeList column tier x file cell) (λ file cell. (x : Content) × P x × BreaksColumn x column file cell)
    (λ u. (x : Content) × P x × (u ≡ tier) × IsFullTier x column tier) (λ u. (x : Content) × P x × IsFullTier x column u) e
    (λ file cell d. free_list_breaks P column tier file cell low d) (λ u d. full_tier P column tier u d) h

pub place_sound : (Q : ℕ → Type 0) (e : ValueFault) → FaultSays NoCell Q e → FaultSays NoCell AnyTier e
place_sound Q e h = says_more NoCell NoCell Q AnyTier e (λ f c d. d) (λ u d. tt) h
