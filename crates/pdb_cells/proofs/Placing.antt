-- Where puts are found, and what one more put changes.
use Rattle.std.proofs.Common.{◌≡◌, ℕ, ◌<◌, ◌⊎◌, inl, inr, ⊎_elim, suc, Bool, true, false, cond, List, [], ◌∷◌, ◌++◌, length, get_or, Option, Some, None, IsSome, map, refl, sym, ap, subst, ◌∙◌, arith}
use Rattle.std.proofs.Math.ListN.{set}
use Rattle.std.specs.Option.{option_map, option_or}
use Rattle.pdb_cells.specs.Puts.{NoCellTwice, last_put, puts_after, same_cell}
use Rattle.pdb_cells.specs.inner.Places.{place_of}
use Rattle.pdb_cells.specs.declared.cell_name.CellName.{CellName}
use Rattle.pdb_cells.specs.declared.puts.Put.{Put}
use Rattle.pdb_cells.proofs.Names.{same_cell-true, same_cell-flip}

true_or_false : (t : Bool) → (t ≡ true) ⊎ (t ≡ false)
true_or_false true = inl refl
true_or_false false = inr refl

suc_none : (o : Option ℕ) → option_map suc o ≡ None → o ≡ None
suc_none None e = refl
suc_none (Some x) e = cc

suc_some : (o : Option ℕ) (i : ℕ) → option_map suc o ≡ Some i → (j : ℕ) × (o ≡ Some j) × (i ≡ suc j)
suc_some None i e = cc
suc_some (Some j) i e = (j, refl, cc)

or_none : {A : Type 0} (o : Option A) → option_or o None ≡ o
or_none None = refl
or_none (Some x) = refl

never_none : {A : Type 0} (o : Option A) (x : A) → option_or o (Some x) ≡ None → ⊥
never_none None x e = cc
never_none (Some y) x e = cc

-- the first put of a list, of the cell or of another one
place_here : (p : Put) (ps : List Put) (name : CellName) → same_cell p.name name ≡ true → place_of (p ∷ ps) name ≡ Some 0
place_here p ps name e = ap (λ (t : Bool). cond t (Some 0) (option_map suc (place_of ps name))) e

place_other : (p : Put) (ps : List Put) (name : CellName) → same_cell p.name name ≡ false → place_of (p ∷ ps) name ≡ option_map suc (place_of ps name)
place_other p ps name e = ap (λ (t : Bool). cond t (Some 0) (option_map suc (place_of ps name))) e

last_here : (p : Put) (ps : List Put) (name : CellName) → same_cell p.name name ≡ true → last_put (p ∷ ps) name ≡ option_or (last_put ps name) (Some p.bytes)
last_here p ps name e = ap (λ (t : Bool). option_or (last_put ps name) (cond t (Some p.bytes) None)) e

last_other : (p : Put) (ps : List Put) (name : CellName) → same_cell p.name name ≡ false → last_put (p ∷ ps) name ≡ last_put ps name
last_other p ps name e =
    ap (λ (t : Bool). option_or (last_put ps name) (cond t (Some p.bytes) None)) e ∙ or_none (last_put ps name)

after_here : (q : Put) (qs : List Put) (p : Put) → same_cell q.name p.name ≡ true → puts_after (q ∷ qs) p ≡ p ∷ qs
after_here q qs p e = ap (λ (t : Bool). cond t (p ∷ qs) (q ∷ puts_after qs p)) e

after_other : (q : Put) (qs : List Put) (p : Put) → same_cell q.name p.name ≡ false → puts_after (q ∷ qs) p ≡ q ∷ puts_after qs p
after_other q qs p e = ap (λ (t : Bool). cond t (p ∷ qs) (q ∷ puts_after qs p)) e

-- a cell without a place was not put
pub unplaced : (puts : List Put) (name : CellName) → place_of puts name ≡ None → last_put puts name ≡ None
unplaced [] name e = refl
unplaced (p ∷ ps) name e = ⊎_elim
    (λ here. let first = sym (place_here p ps name here) ∙ e in cc)
    (λ other. last_other p ps name other ∙ unplaced ps name (suc_none (place_of ps name) (sym (place_other p ps name other) ∙ e)))
    (true_or_false (same_cell p.name name))

-- a cell's place holds its last put
pub record IsAt (puts : List Put) (name : CellName) (i : ℕ) : Type 0 where
  pub within : i < length puts
  pub last : (d : Put) → last_put puts name ≡ Some (get_or puts i d).bytes
  pub cell : (d : Put) → (get_or puts i d).name ≡ name

at_first : (p : Put) (ps : List Put) (name : CellName) → last_put ps p.name ≡ None → same_cell p.name name ≡ true → IsAt (p ∷ ps) name 0
at_first p ps name none here =
    let cell = same_cell-true p.name name here in
    record {
      within = omega arith;
      last = λ d. last_here p ps name here ∙ ap (λ o. option_or o (Some p.bytes)) (ap (last_put ps) (sym cell) ∙ none);
      cell = λ d. cell;
    }

at_next : (p : Put) (ps : List Put) (name : CellName) (j : ℕ) → same_cell p.name name ≡ false → IsAt ps name j → IsAt (p ∷ ps) name (suc j)
at_next p ps name j other rest =
    record {
      within = let within = rest.within in omega arith;
      last = λ d. last_other p ps name other ∙ rest.last d;
      cell = rest.cell;
    }

pub placed : (puts : List Put) (name : CellName) (i : ℕ) → NoCellTwice puts → place_of puts name ≡ Some i → IsAt puts name i
placed [] name i once e = cc
placed (p ∷ ps) name i once e = ⊎_elim
    (λ here. let first : 0 ≡ i = cc (place_here p ps name here, e) in subst (IsAt (p ∷ ps) name) first (at_first p ps name once.0 here))
    (λ other. let next = suc_some (place_of ps name) i (sym (place_other p ps name other) ∙ e) in
    subst (IsAt (p ∷ ps) name) (sym next.2) (at_next p ps name next.0 other (placed ps name next.0 once.1 next.1)))
    (true_or_false (same_cell p.name name))

-- one more put of a cell that has a place is put there
pub after_placed : (puts : List Put) (p : Put) (i : ℕ) → place_of puts p.name ≡ Some i → puts_after puts p ≡ set puts i p
after_placed [] p i e = cc
after_placed (q ∷ qs) p i e = ⊎_elim
    (λ here. let first : 0 ≡ i = cc (place_here q qs p.name here, e) in
    after_here q qs p here ∙ ap (λ i. set (q ∷ qs) i p) first)
    (λ other. let next = suc_some (place_of qs p.name) i (sym (place_other q qs p.name other) ∙ e) in
    after_other q qs p other ∙ ap (λ rest. q ∷ rest) (after_placed qs p next.0 next.1) ∙ ap (λ i. set (q ∷ qs) i p) (sym next.2))
    (true_or_false (same_cell q.name p.name))

-- and one of another cell comes last
pub after_new : (puts : List Put) (p : Put) → last_put puts p.name ≡ None → puts_after puts p ≡ puts ++ p ∷ []
after_new [] p e = refl
after_new (q ∷ qs) p e = ⊎_elim
    (λ here. absurd (never_none (last_put qs p.name) q.bytes (sym (last_here q qs p.name here) ∙ e)))
    (λ other. after_other q qs p other ∙ ap (λ rest. q ∷ rest) (after_new qs p (sym (last_other q qs p.name other) ∙ e)))
    (true_or_false (same_cell q.name p.name))

-- the places after one more put
pub places_kept : (puts : List Put) (p : Put) (i : ℕ) (name : CellName) → place_of puts p.name ≡ Some i → place_of (puts_after puts p) name ≡ place_of puts name
places_kept [] p i name e = cc
places_kept (q ∷ qs) p i name e = ⊎_elim
    (λ here. ap (λ puts. place_of puts name) (after_here q qs p here)
    ∙ ap (λ (n : CellName). cond (same_cell n name) (Some 0) (option_map suc (place_of qs name))) (sym (same_cell-true q.name p.name here)))
    (λ other. let next = suc_some (place_of qs p.name) i (sym (place_other q qs p.name other) ∙ e) in
    ap (λ puts. place_of puts name) (after_other q qs p other)
    ∙ ap (λ o. cond (same_cell q.name name) (Some 0) (option_map suc o)) (places_kept qs p next.0 name next.1))
    (true_or_false (same_cell q.name p.name))

place_next : (s t : Bool) (n : ℕ) (o : Option ℕ) → (s ≡ true → t ≡ false)
    → cond s (Some 0) (option_map suc (cond t (Some n) o)) ≡ cond t (Some (suc n)) (cond s (Some 0) (option_map suc o))
place_next true true n o apart = let no = apart refl in cc
place_next true false n o apart = refl
place_next false true n o apart = refl
place_next false false n o apart = refl

apart_from : (a b name : CellName) → same_cell a b ≡ false → same_cell a name ≡ true → same_cell b name ≡ false
apart_from a b name apart here = ⊎_elim
    (λ same. let e = ap (same_cell a) (same_cell-true b name same) in cc)
    (λ other. other)
    (true_or_false (same_cell b name))

pub places_new : (puts : List Put) (p : Put) (name : CellName) → last_put puts p.name ≡ None
    → place_of (puts ++ p ∷ []) name ≡ cond (same_cell p.name name) (Some (length puts)) (place_of puts name)
places_new [] p name e = refl
places_new (q ∷ qs) p name e = ⊎_elim
    (λ here. absurd (never_none (last_put qs p.name) q.bytes (sym (last_here q qs p.name here) ∙ e)))
    (λ other. ap (λ o. cond (same_cell q.name name) (Some 0) (option_map suc o)) (places_new qs p name (sym (last_other q qs p.name other) ∙ e))
    ∙ place_next (same_cell q.name name) (same_cell p.name name) (length qs) (place_of qs name) (apart_from q.name p.name name other))
    (true_or_false (same_cell q.name p.name))

-- The last puts after one more.
last_replaced : (t : Bool) (o : Option (List ℕ)) (b c : List ℕ) → (t ≡ true → o ≡ None)
    → option_or o (cond t (Some b) None) ≡ cond t (Some b) (option_or o (cond t (Some c) None))
last_replaced true o b c none = ap (λ o. option_or o (Some b)) (none refl)
last_replaced false o b c none = refl

last_later : (t : Bool) (o r : Option (List ℕ)) (b : List ℕ) → option_or (cond t (Some b) o) r ≡ cond t (Some b) (option_or o r)
last_later true o r b = refl
last_later false o r b = refl

pub last_after : (puts : List Put) (p : Put) (name : CellName) → NoCellTwice puts
    → last_put (puts_after puts p) name ≡ cond (same_cell p.name name) (Some p.bytes) (last_put puts name)
last_after [] p name once = refl
last_after (q ∷ qs) p name once = ⊎_elim
    (λ here. let cell = same_cell-true q.name p.name here in
    ap (λ puts. last_put puts name) (after_here q qs p here)
    ∙ last_replaced (same_cell p.name name) (last_put qs name) p.bytes q.bytes
    (λ same. ap (last_put qs) (sym (same_cell-true p.name name same) ∙ sym cell) ∙ once.0)
    ∙ ap (λ (n : CellName). cond (same_cell p.name name) (Some p.bytes) (option_or (last_put qs name) (cond (same_cell n name) (Some q.bytes) None))) (sym cell))
    (λ other. ap (λ puts. last_put puts name) (after_other q qs p other)
    ∙ ap (λ o. option_or o (cond (same_cell q.name name) (Some q.bytes) None)) (last_after qs p name once.1)
    ∙ last_later (same_cell p.name name) (last_put qs name) (cond (same_cell q.name name) (Some q.bytes) None) p.bytes)
    (true_or_false (same_cell q.name p.name))

-- no cell is put twice
pub once_after : (puts : List Put) (p : Put) → NoCellTwice puts → NoCellTwice (puts_after puts p)
once_after [] p once = (refl, tt)
once_after (q ∷ qs) p once = ⊎_elim
    (λ here. subst NoCellTwice (sym (after_here q qs p here)) (ap (last_put qs) (sym (same_cell-true q.name p.name here)) ∙ once.0, once.1))
    (λ other. subst NoCellTwice (sym (after_other q qs p other))
    ((last_after qs p q.name once.1 ∙ ap (λ t. cond t (Some p.bytes) (last_put qs q.name)) (same_cell-flip q.name p.name other) ∙ once.0), once_after qs p once.1))
    (true_or_false (same_cell q.name p.name))

-- the cells stay in their order where the cell was put before
pub names_kept : (puts : List Put) (p : Put) → IsSome (last_put puts p.name) → map (λ (q : Put). q.name) (puts_after puts p) ≡ map (λ (q : Put). q.name) puts
names_kept [] p e = cc
names_kept (q ∷ qs) p e = ⊎_elim
    (λ here. ap (map (λ (q : Put). q.name)) (after_here q qs p here)
    ∙ ap (λ (n : CellName). n ∷ map (λ (q : Put). q.name) qs) (sym (same_cell-true q.name p.name here)))
    (λ other. ap (map (λ (q : Put). q.name)) (after_other q qs p other)
    ∙ ap (λ names. q.name ∷ names) (names_kept qs p (subst IsSome (last_other q qs p.name other) e)))
    (true_or_false (same_cell q.name p.name))
