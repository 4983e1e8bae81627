-- The value that an entry names gets another count.
use Rattle.std.proofs.Common.{◌≡◌, ℕ, List, Some, refl, sym, ap, subst, ◌∙◌}
use Rattle.pdb_model.specs.Chunks.{CarriesKey, chunk_number, entry_slot, entry_tier}
use Rattle.pdb_model.specs.Columns.{Column, HasEntry, HoldsContent, IsColumn, Place, held_by}
use Rattle.pdb_model.specs.Tables.{Held, IsTable, Table, held, recounted}
use Rattle.pdb_column.specs.Holding.{IsFixed}
use Rattle.pdb_column.specs.Maps.{ColumnMap}
use Rattle.pdb_column.specs.inner.Steps.{counted_as, with_under}
use Rattle.pdb_column.proofs.Held.{Changes, one_held, recounted_changes}
use Rattle.pdb_column.proofs.Stepped.{Keeps, entry_low, entry_of_key, stepped_keeps}
use Rattle.pdb_column.proofs.Valued.{counted_of, stepped}

-- where the index stays, its entries do
pub same_entry : (c : Column) (tier : ℕ) (now : Table) (p : Place) (e : ℕ) → HasEntry c p e
    → HasEntry (stepped c tier now c.newest) p e
same_entry c tier now p e has = record { not_empty = has.not_empty; within = has.within; there = has.there }

pub same_entry_before : (c : Column) (tier : ℕ) (now : Table) (p : Place) (e : ℕ)
    → HasEntry (stepped c tier now c.newest) p e → HasEntry c p e
same_entry_before c tier now p e has = record { not_empty = has.not_empty; within = has.within; there = has.there }

-- two entries that name one slot name one value
pub same_held : (c : Column) (e f : ℕ) (g h : Held) → entry_tier e ≡ entry_tier f → entry_slot e ≡ entry_slot f
    → held_by c e ≡ Some g → held_by c f ≡ Some h → g ≡ h
same_held c e f g h a b one other = one_held g h (sym one ∙ (ap (λ u. held ((c.tables u).slot (entry_slot e))) a ∙ (ap (λ i. held ((c.tables (entry_tier f)).slot i)) b ∙ other)))

-- the slot of an entry gets another value of its key
pub revalued : (c : Column) (content : ColumnMap) (p : Place) (entry : ℕ) (h : Held) (now : Table) (g : Held)
    → Keeps c content → HasEntry c p entry → held_by c entry ≡ Some h
    → Changes (c.tables (entry_tier entry)) now (entry_slot entry) (Some g) → g.key ≡ h.key
    → Keeps (stepped c (entry_tier entry) now c.newest) (with_under content h.key (counted_of (Some g)))
revalued c content p entry h now g keeps has holds ch same =
    stepped_keeps c content (entry_tier entry) (entry_slot entry) now (Some g) h.key c.newest keeps
    (entry_of_key c p entry h now (Some g) keeps.is has holds ch (λ x e. ap (λ (h : Held). h.key) (one_held x g (sym e)) ∙ same)) (record {
      kept = λ q f there ne. same_entry c (entry_tier entry) now q f there;
      old = λ q f there ne. same_entry_before c (entry_tier entry) now q f there;
      new = λ q f there a b.
          let n = (keeps.is.named q f (same_entry_before c (entry_tier entry) now q f there)).1 in
          let key : n.0.key ≡ g.key = ap (λ (h : Held). h.key) (same_held c f entry n.0 h a b n.1 holds) ∙ sym same in
          (g, refl, subst (λ (k : List ℕ). chunk_number q.bits k ≡ q.chunk) key n.2, subst (λ (k : List ℕ). CarriesKey c.base k f) key n.3);
      one = λ q r e f one other a b x y.
          keeps.is.once q r e f (same_entry_before c (entry_tier entry) now q e one) (same_entry_before c (entry_tier entry) now r f other) (a ∙ sym x) (b ∙ sym y);
      found = λ x e. (p, entry, same_entry c (entry_tier entry) now p entry has, refl, refl);
    })

-- another count
pub counting : (c : Column) (content : ColumnMap) (p : Place) (entry : ℕ) (h : Held) (n : ℕ) → IsColumn c → IsFixed c
    → HoldsContent c content → HasEntry c p entry → held_by c entry ≡ Some h
    → IsTable (recounted (c.tables (entry_tier entry)) (entry_slot entry) n)
    → Keeps (counted_as c entry n) (with_under content h.key (Some (record { count = n; bytes = h.value })))
counting c content p entry h n is fixed is_held has holds table =
    revalued c content p entry h (recounted (c.tables (entry_tier entry)) (entry_slot entry) n) (record { key = h.key; count = n; value = h.value })
    (record { is = is; fixed = fixed; holds = is_held }) has holds
    (recounted_changes (c.tables (entry_tier entry)) (entry_slot entry) h n table (is.settled (entry_tier entry) (entry_low c p entry is has)) holds) refl
