-- The newest bytes of a cell among records.
use Rattle.std.proofs.Common.{◌≡◌, ℕ, zero, suc, Bool, true, false, if◌then◌else◌, List, [], ◌∷◌, ◌++◌, map, Option, Some, None, refl, sym, ap, subst, ◌∙◌}
use Rattle.std.specs.Prelude.{slice_get}
use Rattle.std.specs.Option.{option_or}
use Rattle.std.proofs.lemmas.List.{map-append}
use Rattle.pdb_cells.proofs.Names.{same_cell-refl, same_cell-true}
use Rattle.pdb_cells.specs.Puts.{NoCellTwice, last_put, same_cell}
use Rattle.pdb_cells.specs.declared.CellName.{CellName}
use Rattle.pdb_cells.specs.declared.Put.{Put}
use Rattle.pdb_model.specs.Records.{Record}
use Rattle.pdb_redo.specs.Places.{newest, record_of}
use Rattle.pdb_redo.specs.declared.waiting.Waiting.{Waiting}
use Rattle.pdb_redo.specs.inner.Placing.{NonePuts}

or_none : (o : Option (List ℕ)) → option_or o None ≡ o
or_none None = refl
or_none (Some x) = refl

or_assoc : (a b c : Option (List ℕ)) → option_or (option_or a b) c ≡ option_or a (option_or b c)
or_assoc None b c = refl
or_assoc (Some x) b c = refl

pub none_both : (a b : Option (List ℕ)) → option_or a b ≡ None → (a ≡ None) × (b ≡ None)
none_both None b e = (refl, e)
none_both (Some x) b e = cc

pub newest-append : (rs qs : List Record) (name : CellName) → newest (rs ++ qs) name ≡ option_or (newest qs name) (newest rs name)
newest-append [] qs name = sym (or_none (newest qs name))
newest-append (r ∷ rs) qs name =
    ap (λ o. option_or o (last_put r.puts name)) (newest-append rs qs name) ∙ or_assoc (newest qs name) (newest rs name) (last_put r.puts name)

-- the same of records that wait
pub waiting-append : (ws vs : List Waiting) (name : CellName)
    → newest (map record_of (ws ++ vs)) name ≡ option_or (newest (map record_of vs) name) (newest (map record_of ws) name)
waiting-append ws vs name = ap (λ rs. newest rs name) (map-append record_of ws vs) ∙ newest-append (map record_of ws) (map record_of vs) name

-- ---- puts

by_test : (a b : CellName) (t : Bool) → same_cell a b ≡ t → (a ≡ b → ⊥) → same_cell a b ≡ false
by_test a b true e apart = absurd (apart (same_cell-true a b e))
by_test a b false e apart = e

pub not_same : (a b : CellName) → (a ≡ b → ⊥) → same_cell a b ≡ false
not_same a b apart = by_test a b (same_cell a b) refl apart

not_put : (t : Bool) (o : Option (List ℕ)) (b : List ℕ) → t ≡ false → o ≡ None → option_or o (if t then Some b else None) ≡ None
not_put t o b e none = rw (e, none) refl

-- where no put is of a cell, none has its bytes
pub none_puts : (ps : List Put) (name : CellName) → NonePuts ps name → last_put ps name ≡ None
none_puts [] name others = refl
none_puts (p ∷ ps) name others =
    not_put (same_cell p.name name) (last_put ps name) p.bytes (not_same p.name name (others 0 p refl)) (none_puts ps name (λ i r e. others (suc i) r e))

is_put : (t : Bool) (b : List ℕ) → t ≡ true → (if t then Some b else None) ≡ None → ⊥
is_put true b e none = cc
is_put false b e none = cc

-- and where one is, some have
pub put_there : (ps : List Put) (i : ℕ) (p : Put) → slice_get ps i ≡ Some p → last_put ps p.name ≡ None → ⊥
put_there [] i p e none = cc
put_there (r ∷ ps) zero p e none =
    let same : r.name ≡ p.name = let q : r ≡ p = cc in ap (λ (s : Put). s.name) q in
    is_put (same_cell r.name p.name) r.bytes
    (ap (λ (n : CellName). same_cell n p.name) same ∙ same_cell-refl p.name)
    (none_both (last_put ps p.name) (if same_cell r.name p.name then Some r.bytes else None) none).1
put_there (r ∷ ps) (suc i) p e none =
    put_there ps i p e (none_both (last_put ps p.name) (if same_cell r.name p.name then Some r.bytes else None) none).0

only_put : (t : Bool) (o : Option (List ℕ)) (b : List ℕ) → t ≡ true → o ≡ None → option_or o (if t then Some b else None) ≡ Some b
only_put t o b e none = rw (e, none) refl

-- the bytes of a cell that is put once are those of its put
pub put_once : (ps : List Put) (i : ℕ) (p : Put) → NoCellTwice ps → slice_get ps i ≡ Some p → last_put ps p.name ≡ Some p.bytes
put_once [] i p once e = cc
put_once (r ∷ ps) zero p once e =
    let same : r ≡ p = cc in
    subst (λ (s : Put). last_put (r ∷ ps) s.name ≡ Some s.bytes) same
    (only_put (same_cell r.name r.name) (last_put ps r.name) r.bytes (same_cell-refl r.name) once.0)
put_once (r ∷ ps) (suc i) p once e =
    ap (λ o. option_or o (if same_cell r.name p.name then Some r.bytes else None)) (put_once ps i p once.1 e)
