-- What operations say of a key, and where the newest that says something is.
use Rattle.std.proofs.Common.{◌≡◌, ℕ, suc, ◌+◌, ◌-◌, ◌≤◌, ◌==◌, ◌&&◌, Bool, true, false, if◌then◌else◌, List, [], ◌∷◌, ◌++◌, Option, Some, None, is_some, refl, sym, ap, ap₂, ◌∙◌, arith}
use Rattle.std.specs.Prelude.{slice_get}
use Rattle.std.specs.Option.{option_map, option_or}
use Rattle.std.specs.Str.{bytes_eq}
use Rattle.sdb_base.specs.Keeping.{operations}
use Rattle.sdb_base.specs.declared.op.Op.{Op}
use Rattle.sdb_base.specs.declared.op.Op.TheVariants.{AddRef, DropRef, Put, Erase}
use Rattle.pdb_overlay.specs.Lending.{Bytes, Erased, Said, newest_said, says}
use Rattle.pdb_overlay.specs.inner.Placing.{newest_at, newest_place, said_by, speaks}
use Rattle.pdb_overlay.specs.declared.place.Place.{Place}

pub or_none : {A : Type 0} (o : Option A) → option_or o None ≡ o
or_none None = refl
or_none (Some x) = refl

pub or_assoc : {A : Type 0} (a b c : Option A) → option_or (option_or a b) c ≡ option_or a (option_or b c)
or_assoc None b c = refl
or_assoc (Some x) b c = refl

or_left : {A : Type 0} (a b : Option A) → is_some a ≡ true → option_or a b ≡ a
or_left None b e = cc
or_left (Some x) b e = refl

pub newest_said-append : (column : ℕ) (key : List ℕ) (xs ys : List Op)
    → newest_said column key (xs ++ ys) ≡ option_or (newest_said column key ys) (newest_said column key xs)
newest_said-append column key [] ys = sym (or_none (newest_said column key ys))
newest_said-append column key (x ∷ xs) ys =
    ap (λ o. option_or o (says column key x)) (newest_said-append column key xs ys)
    ∙ or_assoc (newest_said column key ys) (newest_said column key xs) (says column key x)

said_if : (t : Bool) (s : Said) → is_some (if t then Some s else None) ≡ true → (if t then Some s else None) ≡ Some s
said_if true s e = refl
said_if false s e = cc

-- where an operation says something of a key, the key is its own
pub says_of_own : (column : ℕ) (key : List ℕ) (op : Op) → speaks column key op ≡ true → says column key op ≡ said_by op
says_of_own column key (AddRef k bytes) e = said_if ((column == 0) && bytes_eq k.0 key) (Bytes bytes) e
says_of_own column key (DropRef k) e = refl
says_of_own column key (Put k bytes) e = said_if ((column == 1) && bytes_eq k key) (Bytes bytes) e
says_of_own column key (Erase k) e = said_if ((column == 1) && bytes_eq k key) Erased e

-- ---- in one commit

-- the newest operation that says something of a key is at this place
pub record IsNewestIn (column : ℕ) (key : List ℕ) (ops : List Op) (at : ℕ) : Type 0 where
  pub op : Op
  pub there : slice_get ops at ≡ Some op
  pub spoken : speaks column key op ≡ true
  pub newest : newest_said column key ops ≡ says column key op

abbrev pub FoundIn : ℕ → List ℕ → List Op → Option ℕ → Type 0
FoundIn column key ops None = newest_said column key ops ≡ None
FoundIn column key ops (Some at) = IsNewestIn column key ops at

found_first : (column : ℕ) (key : List ℕ) (op : Op) (ops : List Op) (o : Option ℕ) (s : Option Said) → says column key op ≡ s → FoundIn column key ops o
    → FoundIn column key (op ∷ ops) (option_or (option_map suc o) (if is_some s then Some 0 else None))
found_first column key op ops None None e h = ap₂ option_or h e
found_first column key op ops None (Some s) e h =
    record { op = op; there = refl; spoken = ap is_some e; newest = ap (λ o. option_or o (says column key op)) h }
found_first column key op ops (Some at) s e h = record {
  op = h.op;
  there = h.there;
  spoken = h.spoken;
  newest = ap (λ o. option_or o (says column key op)) h.newest ∙ or_left (says column key h.op) (says column key op) h.spoken;
}

pub found_in : (column : ℕ) (key : List ℕ) (ops : List Op) → FoundIn column key ops (newest_at column key ops)
found_in column key [] = refl
found_in column key (op ∷ ops) = found_first column key op ops (newest_at column key ops) (says column key op) refl (found_in column key ops)

-- ---- in all commits

-- the newest operation that says something of a key is at this place of commits that are numbered from n on
pub record IsNewestAt (n column : ℕ) (key : List ℕ) (commits : List (List Op)) (p : Place) : Type 0 where
  pub from : n ≤ p.number
  pub ops : List Op
  pub commit : slice_get commits (p.number - n) ≡ Some ops
  pub op : Op
  pub there : slice_get ops p.at ≡ Some op
  pub spoken : speaks column key op ≡ true
  pub newest : newest_said column key (operations commits) ≡ says column key op

abbrev pub FoundAt : ℕ → ℕ → List ℕ → List (List Op) → Option Place → Type 0
FoundAt n column key commits None = newest_said column key (operations commits) ≡ None
FoundAt n column key commits (Some p) = IsNewestAt n column key commits p

found_next : (n column : ℕ) (key : List ℕ) (ops : List Op) (rest : List (List Op)) (o : Option Place) (i : Option ℕ)
    → FoundAt (n + 1) column key rest o → FoundIn column key ops i
    → FoundAt n column key (ops ∷ rest) (option_or o (option_map (λ at. record { number = n; at = at }) i))
found_next n column key ops rest None None h g = newest_said-append column key ops (operations rest) ∙ ap₂ option_or h g
found_next n column key ops rest None (Some at) h g = record {
  from = omega arith;
  ops = ops;
  commit = ap (slice_get (ops ∷ rest)) (let e : n - n ≡ 0 = omega arith in e);
  op = g.op;
  there = g.there;
  spoken = g.spoken;
  newest = newest_said-append column key ops (operations rest) ∙ ap (λ o. option_or o (newest_said column key ops)) h ∙ g.newest;
}
found_next n column key ops rest (Some p) i h g =
    let low = h.from in
    let e : p.number - n ≡ suc (p.number - (n + 1)) = omega (arith, low) in record {
      from = omega (arith, low);
      ops = h.ops;
      commit = ap (slice_get (ops ∷ rest)) e ∙ h.commit;
      op = h.op;
      there = h.there;
      spoken = h.spoken;
      newest = newest_said-append column key ops (operations rest)
          ∙ ap (λ o. option_or o (newest_said column key ops)) h.newest
          ∙ or_left (says column key h.op) (newest_said column key ops) h.spoken;
    }

pub found_at : (n column : ℕ) (key : List ℕ) (commits : List (List Op)) → FoundAt n column key commits (newest_place n column key commits)
found_at n column key [] = refl
found_at n column key (ops ∷ rest) =
    found_next n column key ops rest (newest_place (n + 1) column key rest) (newest_at column key ops) (found_at (n + 1) column key rest)
    (found_in column key ops)
