-- A key is located, and its value counted up, written over, or left.
use Rattle.std.proofs.Common.{◌≡◌, ◌≢◌, ◌<◌, ◌≤◌, if◌then◌else◌, All, MatchOption, IfSome, ℕ, List, OnOk, Option, Result, Ok, Err, Some, None, refl, sym, ap, subst, ◌∙◌, arith}
use Rattle.std.proofs.lemmas.List.Elements.{All-get_or}
use Rattle.std.proofs.lemmas.Option.{get_or_from_slice_get, slice_get_within}
use Rattle.std.specs.Prelude.{slice_get}
use Rattle.sdb_base.specs.Content.{Counted, count_up, with_reference, without_reference}
use Rattle.pdb_cells.specs.Content.{Content}
use Rattle.pdb_cells.specs.Puts.{drafted}
use Rattle.pdb_cells.specs.declared.puts.Put.{Put}
use Rattle.pdb_model.specs.Chunks.{IsChunk, entry_slot, entry_tier}
use Rattle.pdb_model.specs.Columns.{Column}
use Rattle.pdb_model.specs.Files.{OnlyTable, head_cell}
use Rattle.pdb_model.specs.Heads.{IsHeadCell}
use Rattle.pdb_model.specs.Tables.{Held, holding, recounted}
use Rattle.pdb_value.specs.Faults.{FaultSays, HasTable, NoTier}
use Rattle.pdb_value.specs.Values.{BreaksValue}
use Rattle.pdb_value.specs.declared.fault.ValueFault.{ValueFault}
use Rattle.pdb_value.proofs.Broken.{says_more}
use Rattle.pdb_column.specs.Damages.{BreaksColumn}
use Rattle.pdb_column.specs.Holding.{HoldsColumn}
use Rattle.pdb_column.specs.Maps.{ColumnMap}
use Rattle.pdb_column.specs.declared.fault.StepFault.{StepFault}
use Rattle.pdb_column.specs.declared.fault.StepFault.TheVariants.{ChunkFull, Value}
use Rattle.pdb_column.specs.inner.Changes.{IsChanged, IsDropped, IsHeldAt, IsHit, dropped}
use Rattle.pdb_column.specs.inner.Faults.{StepSays}
use Rattle.pdb_column.specs.inner.KeyChunks.{HasKeyChunk, HaveTiers}
use Rattle.pdb_column.specs.inner.Steps.{with_under}
use Rattle.pdb_column.proofs.Cases.{same_key_or}
use Rattle.pdb_column.proofs.Cells.{table_held}
use Rattle.pdb_column.proofs.Hits.{held_entry, recounted_held}
use Rattle.pdb_column.proofs.KeyChunks.{entry_in, in_picture, place_of}
use Rattle.pdb_column.proofs.OneColumn.{column_from_table, column_itself, column_on, same_content}
use Rattle.pdb_column.proofs.Overwriting.{overwriting}
use Rattle.pdb_column.proofs.Read.{value_breaks}

pub some_at : {X : Type 0} (o : Option X) (x : X) (N : Type 0) (P : X → Type 0) → o ≡ Some x → MatchOption o N P → P x
some_at o x N P e h = subst (λ o. MatchOption o N P) e h

pub none_at : {X : Type 0} (o : Option X) (N : Type 0) (P : X → Type 0) → o ≡ None → MatchOption o N P → N
none_at o N P e h = subst (λ o. MatchOption o N P) e h

pub if_some_at : {X : Type 0} (o : Option X) (x : X) (P : X → Type 0) → o ≡ Some x → IfSome o P → P x
if_some_at o x P e h = subst (λ o. IfSome o P) e h

pub hit_range : (entries : List ℕ) (place tier slot : ℕ) → IsChunk entries → HaveTiers entries → IsHit entries place tier slot → (place < 64) × (tier ≤ 15)
hit_range entries place tier slot is tiers hit =
    let low = slice_get_within entries place hit.entry hit.there in
    let long = is.places in
    let at : entry_tier hit.entry ≤ 15 = subst (λ (e : ℕ). entry_tier e ≤ 15) (get_or_from_slice_get entries place hit.entry 0 hit.there) (All-get_or (λ (e : ℕ). entry_tier e ≤ 15) entries place 0 low tiers) in
    (omega arith, subst (λ t. t ≤ 15) (sym hit.tier_is) at)

-- ---- drafts

pub drafts_stay : (ps qs : List Put) (a b : Option Content) (cells : Content) → qs ≡ ps → ((below : Content) → a ≡ Some below → b ≡ Some below) → drafted ps a ≡ Some cells → drafted qs b ≡ Some cells
drafts_stay ps qs None b cells e f h = absurd (cc)
drafts_stay ps qs (Some x) b cells e f h = ap (λ q. drafted q b) e ∙ (ap (drafted ps) (f x refl) ∙ h)

pub breaks_now : (P : Content → Type 0) (cells : Content) (column tier : ℕ) (Q : ℕ → Type 0) (e : ValueFault) → tier ≤ 15 → P cells → FaultSays (BreaksValue cells column tier) NoTier e
    → FaultSays (λ file cell. (x : Content) × P x × BreaksColumn x column file cell) Q e
breaks_now P cells column tier Q e low p h =
    says_more (BreaksColumn cells column) (λ file cell. (x : Content) × P x × BreaksColumn x column file cell) NoTier Q e (λ file cell d. (cells, p, d)) (λ u none. absurd none) (value_breaks cells column tier e low h)

pub any_tier : (D : ℕ → ℕ → Type 0) (Q : ℕ → Type 0) (e : ValueFault) → FaultSays D NoTier e → FaultSays D Q e
any_tier D Q e h = says_more D D NoTier Q e (λ file cell d. d) (λ u none. absurd none) h

pub step_more : (D : ℕ → ℕ → Type 0) (T : ℕ → Type 0) (F G : ℕ → ℕ → Type 0) (e : StepFault) → ((b n : ℕ) → F b n → G b n) → StepSays D T F e → StepSays D T G e
step_more D T F G (Value e) f h = h
step_more D T F G (ChunkFull b n) f h = f b n h

-- ---- contents

pub none_some : (o : Option Counted) (c : Counted) → o ≡ Some c → o ≡ None → ⊥
none_some o c e none = cc

-- another base and another way to say what stands under the key
pub changed_as : (before after : Content) (column b base : ℕ) (content : ColumnMap) (key : List ℕ) (now next : Option Counted) → b ≡ base → now ≡ next → IsChanged column b content key now before after
    → IsChanged column base content key next before after
changed_as before after column b base content key now next same is changed = record {
  only = changed.only;
  holds = subst (λ n. HoldsColumn after column n (with_under content key next)) same (subst (λ x. HoldsColumn after column b (with_under content key x)) is changed.holds);
}

pub unchanged : (cells : Content) (column base : ℕ) (content : ColumnMap) (key : List ℕ) → HoldsColumn cells column base content → content key ≡ None → IsChanged column base content key (without_reference (content key)) cells cells
unchanged cells column base content key holds none = record {
  only = column_itself column cells;
  holds = same_content cells column base content (with_under content key (without_reference (content key)))
      (λ k. same_key_or key k (λ b. content k ≡ (if b then without_reference (content key) else content k)) (λ e. ap content (sym e) ∙ (none ∙ ap without_reference (sym none))) (λ _. refl)) holds;
}

-- a key that was removed before
pub over_dropped : (before mid after : Content) (column base : ℕ) (content : ColumnMap) (key entries : List ℕ) (place : ℕ) (now : Option Counted) → IsDropped column base content key entries place before mid
    → IsChanged column base (dropped content key) key now mid after → IsChanged column base content key now before after
over_dropped before mid after column base content key entries place now gone changed = record {
  only = column_on column before mid after gone.only changed.only;
  holds = same_content after column base (with_under (dropped content key) key now) (with_under content key now)
      (λ k. same_key_or key k (λ b. (if b then now else (if b then without_reference (content key) else content k)) ≡ (if b then now else content k)) (λ _. refl) (λ _. refl)) changed.holds;
}

pub dropped_none : (content : ColumnMap) (key : List ℕ) (c : Counted) → content key ≡ Some c → c.count ≡ 1 → dropped content key key ≡ None
dropped_none content key c is one =
    let gone : without_reference (content key) ≡ None = ap without_reference is ∙ Rattle.pdb_column.proofs.Cases.same_or c.count 1 (λ b. ◌≡◌ {A = Option Counted} (if b then None else Some (record { count = Rattle.sdb_base.specs.Content.count_down c.count; bytes = c.bytes })) None) (λ _. refl) (λ ne. absurd (ne one)) in
    same_key_or key key (λ b. (if b then without_reference (content key) else content key) ≡ None) (λ _. gone) (λ ne. absurd (ne refl))

-- ---- a reference more

abbrev one : ℕ → List ℕ → Option Counted
one n bytes = Some (record { count = n; bytes = bytes })

more_there : (bytes : List ℕ) (o : Option Counted) (c : Counted) (n : ℕ) → o ≡ Some c → n ≡ count_up c.count → one n c.bytes ≡ with_reference bytes o
more_there bytes o c n is up = ap (λ (k : ℕ). one k c.bytes) up ∙ ap (with_reference bytes) (sym is)

pub referenced : (cells after : Content) (column b : ℕ) (content : ColumnMap) (key entries bytes : List ℕ) (place tier slot n : ℕ) → (holds : HoldsColumn cells column b content)
    → HasKeyChunk cells column key b entries → IsHit entries place tier slot → (at : IsHeldAt holds.picture content key tier slot) → tier < 16 → OnlyTable column tier cells after → head_cell after column ≡ head_cell cells column
    → n ≡ count_up at.counted.count → HasTable after column tier (recounted (holds.picture.tables tier) slot n)
    → IsChanged column b content key (with_reference bytes (content key)) cells after
referenced cells after column b content key entries bytes place tier slot n holds chunk hit at low only head up there =
    let keeps : IsHeadCell (head_cell after column) = subst IsHeadCell (sym head) (holds.spelled.head, holds.spelled.head_spelled, holds.spelled.head_is) in
    let now = recounted_held cells after column b b content key entries place tier slot n holds (in_picture cells column b b content key entries holds chunk) hit at low only keeps there in
    record {
      only = column_from_table column tier cells after low only;
      holds = subst (λ x. HoldsColumn after column b (with_under content key x)) (more_there bytes (content key) at.counted n at.is up) now;
    }

-- ---- other bytes in place

pub written_over : (cells after : Content) (column b : ℕ) (content : ColumnMap) (key entries bytes : List ℕ) (place tier slot : ℕ) → (holds : HoldsColumn cells column b content)
    → HasKeyChunk cells column key b entries → IsHit entries place tier slot → (at : IsHeldAt holds.picture content key tier slot) → tier < 16 → OnlyTable column tier cells after → head_cell after column ≡ head_cell cells column
    → at.counted.count ≡ 1 → HasTable after column tier (holding (holds.picture.tables tier) slot key at.counted.count bytes)
    → IsChanged column b content key (Some (record { count = 1; bytes = bytes })) cells after
written_over cells after column b content key entries bytes place tier slot holds chunk hit at low only head single there =
    let c : Column = holds.picture in
    let e : ℕ = hit.entry in
    let count : ℕ = at.counted.count in
    let value : Held = record { key = key; count = count; value = at.counted.bytes } in
    let in_it = in_picture cells column b b content key entries holds chunk in
    let keeps : IsHeadCell (head_cell after column) = subst IsHeadCell (sym head) (holds.spelled.head, holds.spelled.head_spelled, holds.spelled.head_is) in
    let only_e = subst (λ t. OnlyTable column t cells after) hit.tier_is only in
    let there_t : HasTable after column (entry_tier e) (holding (c.tables (entry_tier e)) slot key count bytes) = subst (λ t. HasTable after column t (holding (c.tables t) slot key count bytes)) hit.tier_is there in
    let there_e : HasTable after column (entry_tier e) (holding (c.tables (entry_tier e)) (entry_slot e) key count bytes) =
    subst (λ s. HasTable after column (entry_tier e) (holding (c.tables (entry_tier e)) s key count bytes)) hit.slot_is there_t in
    let low_e : entry_tier e < 16 = subst (λ t. t < 16) hit.tier_is low in
    let now = table_held cells after column (entry_tier e) b content (with_under content key (one count bytes)) (holding (c.tables (entry_tier e)) (entry_slot e) key count bytes) holds low_e only_e keeps there_e
    (overwriting c content (place_of b key place) e value bytes holds.is holds.fixed holds.holds (entry_in c key b place e entries in_it hit.not_empty hit.there) (held_entry c content key entries place tier slot hit at) there_e.is) in
    record {
      only = column_from_table column tier cells after low only;
      holds = subst (λ n. HoldsColumn after column b (with_under content key (one n bytes))) single now;
    }

-- ---- room after a key was removed

pub has_room : (entries : List ℕ) (place : ℕ) → slice_get entries place ≡ Some 0 → All (λ e. e ≢ 0) entries → ⊥
has_room entries place at full =
    full place 0 (slice_get_within entries place 0 at) (get_or_from_slice_get entries place 0 0 at)

pub ok_any : {T E P : Type 0} (r : Result T E) → P → OnOk r P
ok_any (Ok x) h = h
ok_any (Err y) h = tt
