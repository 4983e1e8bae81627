-- The entries of a column of fixed index where one place of a chunk gets another one.
use Rattle.std.proofs.Common.{◌≡◌, ◌≢◌, ◌<◌, ◌^◌, ◌==◌, if◌then◌else◌, ℕ, List, Some, refl, sym, ap, ◌∙◌, inl, inr}
use Rattle.std.proofs.lemmas.Bool.Decides.{eqb_tells}
use Rattle.std.specs.Prelude.{slice_get, slice_set}
use Rattle.pdb_model.specs.Columns.{Column, HasEntry, Place}
use Rattle.pdb_model.specs.Tables.{Table}
use Rattle.pdb_column.specs.Holding.{IsFixed}
use Rattle.pdb_column.proofs.Cases.{same_or, some_is, set_elsewhere, set_there}
use Rattle.pdb_column.proofs.Finding.{entry_stands}
use Rattle.pdb_column.proofs.Stepped.{entry_bits_are, stepped_fixed}
use Rattle.pdb_column.proofs.Valued.{stepped}

-- the newest index with this entry at a place of a chunk
abbrev pub put_entry : Column → ℕ → ℕ → ℕ → ℕ → List ℕ
put_entry c n place y = λ m. if m == n then slice_set (c.newest n) place y else c.newest m

-- an entry then: it is the new one, or was there before
pub data Entry (c : Column) (n place y : ℕ) (p : Place) (e : ℕ) : Type 0 where
  Put : p.chunk ≡ n → p.place ≡ place → e ≡ y → Entry c n place y p e
  Stays : (p.chunk ≡ n → p.place ≡ place → ⊥) → HasEntry c p e → Entry c n place y p e

kept_entry : (c : Column) (tier : ℕ) (now : Table) (newest : ℕ → List ℕ) (p : Place) (e : ℕ) → IsFixed c
    → HasEntry (stepped c tier now newest) p e → slice_get (c.newest p.chunk) p.place ≡ Some e → HasEntry c p e
kept_entry c tier now newest p e fixed has at = record {
  not_empty = has.not_empty;
  within = has.within;
  there = inl (entry_bits_are (stepped c tier now newest) p e (stepped_fixed c tier now newest fixed) has, at);
}

pub entry_or : (c : Column) (tier n place x y : ℕ) (now : Table) (p : Place) (e : ℕ) → IsFixed c
    → slice_get (c.newest n) place ≡ Some x → HasEntry (stepped c tier now (put_entry c n place y)) p e
    → Entry c n place y p e
entry_or c tier n place x y now p e fixed old has =
    let last : Column = stepped c tier now (put_entry c n place y) in
    let stands : slice_get (put_entry c n place y p.chunk) p.place ≡ Some e = entry_stands last p e (stepped_fixed c tier now (put_entry c n place y) fixed) has in
    elim (eqb_tells p.chunk n) [
      | inl a ↦
          let at : slice_get (slice_set (c.newest n) place y) p.place ≡ Some e = sym (ap (λ b. slice_get (if b then slice_set (c.newest n) place y else c.newest p.chunk) p.place) a.0) ∙ stands in
          elim (eqb_tells p.place place) [
            | inl b ↦ Put a.1 b.1 (sym (some_is y e (sym (set_there (c.newest n) place y x old) ∙ (ap (slice_get (slice_set (c.newest n) place y)) (sym b.1) ∙ at))))
            | inr b ↦ Stays (λ _ q. b.1 q)
                (kept_entry c tier now (put_entry c n place y) p e fixed has (ap (λ m. slice_get (c.newest m) p.place) a.1 ∙ (sym (set_elsewhere (c.newest n) place y p.place b.1) ∙ at)))
          ]
      | inr a ↦ Stays (λ q _. a.1 q)
          (kept_entry c tier now (put_entry c n place y) p e fixed has (sym (ap (λ b. slice_get (if b then slice_set (c.newest n) place y else c.newest p.chunk) p.place) a.0) ∙ stands))
    ]

pub entry_kept : (c : Column) (tier n place y : ℕ) (now : Table) (p : Place) (e : ℕ) → IsFixed c → HasEntry c p e
    → (p.chunk ≡ n → p.place ≡ place → ⊥)
    → HasEntry (stepped c tier now (put_entry c n place y)) p e
entry_kept c tier n place y now p e fixed has ne =
    let stands = entry_stands c p e fixed has in record {
      not_empty = has.not_empty;
      within = has.within;
      there = inl (
        entry_bits_are c p e fixed has,
        same_or p.chunk n (λ b. slice_get (if b then slice_set (c.newest n) place y else c.newest p.chunk) p.place ≡ Some e)
            (λ a. set_elsewhere (c.newest n) place y p.place (ne a) ∙ (ap (λ m. slice_get (c.newest m) p.place) (sym a) ∙ stands))
            (λ _. stands),
      );
    }

pub entry_put : (c : Column) (tier n place x y : ℕ) (now : Table) → n < 2 ^ c.bits → y ≢ 0 → slice_get (c.newest n) place ≡ Some x
    → HasEntry (stepped c tier now (put_entry c n place y)) (record { bits = c.bits; chunk = n; place = place }) y
entry_put c tier n place x y now within full old = record {
  not_empty = full;
  within = within;
  there = inl (refl, same_or n n (λ b. slice_get (if b then slice_set (c.newest n) place y else c.newest n) place ≡ Some y) (λ _. set_there (c.newest n) place y x old) (λ ne. absurd (ne refl)));
}

-- two entries at one place are one
pub one_entry : (c : Column) (p q : Place) (e f : ℕ) → IsFixed c → HasEntry c p e → HasEntry c q f → p.chunk ≡ q.chunk
    → p.place ≡ q.place → e ≡ f
one_entry c p q e f fixed one other a b =
    sym (some_is f e (sym (entry_stands c q f fixed other) ∙ (ap (λ m. slice_get (c.newest m) q.place) (sym a) ∙ (ap (slice_get (c.newest p.chunk)) (sym b) ∙ entry_stands c p e fixed one))))
