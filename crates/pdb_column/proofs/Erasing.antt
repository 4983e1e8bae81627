-- The value that an entry names is removed, and its entry with it.
use Rattle.std.proofs.Common.{◌≡◌, ℕ, Some, None, ap}
use Rattle.pdb_model.specs.Chunks.{entry_slot, entry_tier}
use Rattle.pdb_model.specs.Columns.{Column, HasEntry, HoldsContent, IsColumn, Place, held_by}
use Rattle.pdb_model.specs.Tables.{Held, IsTable, Table, removed}
use Rattle.pdb_column.specs.Holding.{IsFixed}
use Rattle.pdb_column.specs.Maps.{ColumnMap}
use Rattle.pdb_column.specs.inner.Steps.{erased, with_under}
use Rattle.pdb_column.proofs.Chunks.{Put, Stays, entry_kept, entry_or, one_entry, put_entry}
use Rattle.pdb_column.proofs.Finding.{entry_stands}
use Rattle.pdb_column.proofs.Freed.{removed_changes}
use Rattle.pdb_column.proofs.Stepped.{Keeps, entry_low, entry_of_key, stepped_keeps}
use Rattle.pdb_column.proofs.Valued.{stepped}

-- no entry names the slot then
none_names : (c : Column) (p : Place) (entry : ℕ) (now : Table) → IsColumn c → IsFixed c → HasEntry c p entry
    → (q : Place) (f : ℕ)
    → HasEntry (stepped c (entry_tier entry) now (put_entry c p.chunk p.place 0)) q f → entry_tier f ≡ entry_tier entry
    → entry_slot f ≡ entry_slot entry → ⊥
none_names c p entry now is fixed has q f there a b =
    elim (entry_or c (entry_tier entry) p.chunk p.place entry 0 now q f fixed (entry_stands c p entry fixed has) there) [
      | Put x y empty ↦ there.not_empty empty
      | Stays ne old ↦ let same = is.once q p f entry old has a b in ne (ap (λ (p : Place). p.chunk) same) (ap (λ (p : Place). p.place) same)
    ]

pub erasing : (c : Column) (content : ColumnMap) (p : Place) (entry : ℕ) (h : Held) → IsColumn c → IsFixed c
    → HoldsContent c content → HasEntry c p entry → held_by c entry ≡ Some h
    → IsTable (removed (c.tables (entry_tier entry)) (entry_slot entry))
    → Keeps (erased c p entry) (with_under content h.key None)
erasing c content p entry h is fixed is_held has holds table =
    let tier : ℕ = entry_tier entry in
    let low = entry_low c p entry is has in
    let now : Table = removed (c.tables tier) (entry_slot entry) in
    let stands = entry_stands c p entry fixed has in
    stepped_keeps c content tier (entry_slot entry) now None h.key (put_entry c p.chunk p.place 0) (record { is = is; fixed = fixed; holds = is_held })
    (entry_of_key c p entry h now None is has holds (removed_changes (c.tables tier) (entry_slot entry) (is.tables tier low) table (is.settled tier low)) (λ g e. absurd (cc))) (record {
      kept = λ q f there ne. entry_kept c tier p.chunk p.place 0 now q f fixed there
          (λ a b. let same = one_entry c q p f entry fixed there has a b in ne (ap entry_tier same) (ap entry_slot same));
      old = λ q f there ne. elim (entry_or c tier p.chunk p.place entry 0 now q f fixed stands there) [
        | Put x y empty ↦ absurd (there.not_empty empty)
        | Stays other old ↦ old
      ];
      new = λ q f there a b. absurd (none_names c p entry now is fixed has q f there a b);
      one = λ q r e f one other a b x y. absurd (none_names c p entry now is fixed has q e one a b);
      found = λ x e. absurd (cc);
    })
