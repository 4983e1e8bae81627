-- What the loops over puts keep.
use Rattle.std.proofs.Common.{◌≡◌, false, ℕ, List, [], ◌∷◌, ◌++◌, get_or, All, refl, sym, ap, subst, ◌∙◌, append_assoc, append-nil}
use Rattle.std.specs.List.{insert}
use Rattle.std.proofs.lemmas.List.Elements.{All-head, All-nil, All-push}
use Rattle.std.specs.Ordering.{is_eq}
use Rattle.std.specs.declared.cmp.Ordering.TheVariants.{Less}
use Rattle.pdb_cells.specs.Names.{name_cmp}
use Rattle.pdb_cells.specs.Puts.{IsWholeCell, NoCellTwice, same_cell}
use Rattle.pdb_cells.specs.declared.CellName.{CellName}
use Rattle.pdb_cells.specs.declared.Put.{Put}
use Rattle.pdb_model.specs.Records.{body_bytes, put_bytes}
use Rattle.pdb_record.specs.Scans.{Leaves}
use Rattle.pdb_record.specs.declared.put_refs.PutRefs.{PutRefs}
use Rattle.pdb_record.specs.inner.Blocks.{IsApart, IsNew, Taken, key_of}
use Rattle.pdb_record.proofs.Once.{all_right, covers_insert, covers_none, is_eq-key_cmp, key_total, once_apart, once_back, once_join, once_push}
use Rattle.pdb_record.proofs.Splits.{Begins, Stops, begins_with, none_left, stopped}

one_more : {X : Type 0} (xs ys zs ws : List X) (x : X) → xs ≡ ys ++ zs → zs ≡ x ∷ ws → xs ≡ (ys ++ x ∷ []) ++ ws
one_more xs ys zs ws x e f = e ∙ (ap (λ t. ys ++ t) f ∙ sym (append_assoc ys (x ∷ []) ws))

-- ---- blocks

pub taken_none : (ps : List Put) (it : PutRefs) → Leaves it ps → Taken ps [] it
taken_none ps it leaves = record { front = []; back = ps; is = refl; left = leaves; once = tt; covers = covers_none }

next_of : (back : List Put) (it : PutRefs) (p : Put) (rest : List ℕ) → Leaves it back → IsWholeCell p → it.left.now ≡ put_bytes p ++ rest → Begins back p rest
next_of back it p rest leaves whole is = begins_with back p rest leaves.whole whole (sym leaves.bytes ∙ is)

pub taken_more : (ps : List Put) (keys : List (ℕ × ℕ)) (it next : PutRefs) (p : Put) (i : ℕ) → Taken ps keys it → IsWholeCell p → it.left.now ≡ put_bytes p ++ next.left.now
    → IsApart p.name keys → Taken ps (insert keys i (key_of p.name)) next
taken_more ps keys it next p i taken whole is apart =
    let begins : Begins taken.back p next.left.now = next_of taken.back it p next.left.now taken.left whole is in
    record {
      front = taken.front ++ p ∷ [];
      back = begins.others;
      is = one_more ps taken.front taken.back begins.others p taken.is begins.is;
      left = record { bytes = begins.left; whole = begins.whole };
      once = once_push taken.front p taken.once ((taken.covers p.name).0 apart);
      covers = covers_insert keys taken.front p i taken.covers;
    }

pub taken_twice : (ps : List Put) (keys : List (ℕ × ℕ)) (it : PutRefs) (p : Put) (rest : List ℕ) → Taken ps keys it → IsWholeCell p → it.left.now ≡ put_bytes p ++ rest
    → ¬ IsApart p.name keys → ¬ NoCellTwice ps
taken_twice ps keys it p rest taken whole is there = λ once.
    let begins : Begins taken.back p rest = next_of taken.back it p rest taken.left whole is in
    let split : NoCellTwice (taken.front ++ p ∷ begins.others) = subst NoCellTwice (taken.is ∙ ap (λ t. taken.front ++ t) begins.is) once in
    there ((taken.covers p.name).1 (All-head (λ (q : Put). IsNew q.name taken.front) p begins.others (once_apart taken.front (p ∷ begins.others) split)))

-- while bytes are left, a put comes next
pub taken_stops : (ps : List Put) (keys : List (ℕ × ℕ)) (it : PutRefs) → Taken ps keys it → Stops it.left.now → it.left.now ≡ []
taken_stops ps keys it taken stops =
    taken.left.bytes ∙ ap body_bytes (stopped taken.back it.left.now stops taken.left.bytes taken.left.whole)

-- ---- later puts

-- these puts are looked up, and none of them has one of the keys
pub record LookedUp (ps : List Put) (keys : List (ℕ × ℕ)) (it : PutRefs) : Type 0 where
  pub front : List Put
  pub back : List Put
  pub is : ps ≡ front ++ back
  pub left : Leaves it back
  pub apart : All (λ p. IsApart p.name keys) front

pub looked_none : (ps : List Put) (keys : List (ℕ × ℕ)) (it : PutRefs) → Leaves it ps → LookedUp ps keys it
looked_none ps keys it leaves = record { front = []; back = ps; is = refl; left = leaves; apart = All-nil (λ (p : Put). IsApart p.name keys) }

pub looked_more : (ps : List Put) (keys : List (ℕ × ℕ)) (it next : PutRefs) (p : Put) → LookedUp ps keys it → IsWholeCell p → it.left.now ≡ put_bytes p ++ next.left.now
    → IsApart p.name keys → LookedUp ps keys next
looked_more ps keys it next p looked whole is apart =
    let begins : Begins looked.back p next.left.now = next_of looked.back it p next.left.now looked.left whole is in
    record {
      front = looked.front ++ p ∷ [];
      back = begins.others;
      is = one_more ps looked.front looked.back begins.others p looked.is begins.is;
      left = record { bytes = begins.left; whole = begins.whole };
      apart = All-push (λ (q : Put). IsApart q.name keys) looked.front p looked.apart apart;
    }

pub looked_found : (ps : List Put) (keys : List (ℕ × ℕ)) (it : PutRefs) (p : Put) (rest : List ℕ) → LookedUp ps keys it → IsWholeCell p → it.left.now ≡ put_bytes p ++ rest
    → ¬ IsApart p.name keys → ¬ All (λ q. IsApart q.name keys) ps
looked_found ps keys it p rest looked whole is there = λ all.
    let begins : Begins looked.back p rest = next_of looked.back it p rest looked.left whole is in
    let P : Put → Type 0 = λ q. IsApart q.name keys in
    there (All-head P p begins.others (all_right P looked.front (p ∷ begins.others) (subst (All P) (looked.is ∙ ap (λ t. looked.front ++ t) begins.is) all)))

pub looked_all : (ps : List Put) (keys : List (ℕ × ℕ)) (it : PutRefs) → LookedUp ps keys it → Stops it.left.now → All (λ q. IsApart q.name keys) ps
looked_all ps keys it looked stops =
    let none : looked.back ≡ [] = stopped looked.back it.left.now stops looked.left.bytes looked.left.whole in
    subst (All (λ (q : Put). IsApart q.name keys)) (sym (append-nil looked.front) ∙ (ap (λ t. looked.front ++ t) (sym none) ∙ sym looked.is)) looked.apart

-- ---- block by block

-- the puts that are left decide whether a cell is put twice
pub record Decided (ps : List Put) (it : PutRefs) : Type 0 where
  pub front : List Put
  pub back : List Put
  pub is : ps ≡ front ++ back
  pub left : Leaves it back
  pub once : NoCellTwice back → NoCellTwice ps

pub decided_none : (ps : List Put) (it : PutRefs) → Leaves it ps → Decided ps it
decided_none ps it leaves = record { front = []; back = ps; is = refl; left = leaves; once = λ once. once }

pub decided_more : (ps : List Put) (it : PutRefs) (keys : List (ℕ × ℕ)) (next : PutRefs) (before : Decided ps it) (taken : Taken before.back keys next)
    → All (λ p. IsApart p.name keys) taken.back → Decided ps next
decided_more ps it keys next before taken apart = record {
  front = before.front ++ taken.front;
  back = taken.back;
  is = before.is ∙ (ap (λ t. before.front ++ t) taken.is ∙ sym (append_assoc before.front taken.front taken.back));
  left = taken.left;
  once = λ once. before.once (subst NoCellTwice (sym taken.is) (once_join taken.front taken.back taken.once once (λ k d within. (taken.covers (get_or taken.back k d).name).0 (apart k d within))));
}

pub decided_twice : (ps : List Put) (it : PutRefs) (before : Decided ps it) → ¬ NoCellTwice before.back → ¬ NoCellTwice ps
decided_twice ps it before twice = λ once. twice (once_back before.front before.back (subst NoCellTwice before.is once))

pub taken_seen : (ps : List Put) (keys : List (ℕ × ℕ)) (it : PutRefs) (taken : Taken ps keys it) → ¬ All (λ p. IsApart p.name keys) taken.back → ¬ NoCellTwice ps
taken_seen ps keys it taken there = λ once. there (λ k d within.
    (taken.covers (get_or taken.back k d).name).1 (once_apart taken.front taken.back (subst NoCellTwice taken.is once) k d within))

pub decided_all : (ps : List Put) (it : PutRefs) → Decided ps it → it.left.now ≡ [] → NoCellTwice ps
decided_all ps it before empty =
    before.once (subst NoCellTwice (sym (none_left before.back (sym before.left.bytes ∙ empty))) tt)

-- ---- rising names

-- the last put that was read has this name, and those before it have lower ones, each another
pub record Rising (ps : List Put) (last : CellName) (it : PutRefs) : Type 0 where
  pub front : List Put
  pub top : Put
  pub back : List Put
  pub is : ps ≡ (front ++ top ∷ []) ++ back
  pub left : Leaves it back
  pub name : top.name ≡ last
  pub once : NoCellTwice (front ++ top ∷ [])
  pub below : All (λ p. name_cmp p.name last ≡ Less) front

lower : (a b : CellName) → name_cmp a b ≡ Less → same_cell a b ≡ false
lower a b e = sym (is_eq-key_cmp (key_of a) b) ∙ ap is_eq e

pub rising_first : (ps : List Put) (it next : PutRefs) (p : Put) → Leaves it ps → IsWholeCell p → it.left.now ≡ put_bytes p ++ next.left.now → Rising ps p.name next
rising_first ps it next p leaves whole is =
    let begins : Begins ps p next.left.now = next_of ps it p next.left.now leaves whole is in
    record {
      front = [];
      top = p;
      back = begins.others;
      is = begins.is;
      left = record { bytes = begins.left; whole = begins.whole };
      name = refl;
      once = (refl, tt);
      below = All-nil (λ (q : Put). name_cmp q.name p.name ≡ Less);
    }

pub rising_more : (ps : List Put) (last : CellName) (it next : PutRefs) (p : Put) → Rising ps last it → IsWholeCell p → it.left.now ≡ put_bytes p ++ next.left.now
    → name_cmp last p.name ≡ Less → Rising ps p.name next
rising_more ps last it next p rising whole is above =
    let begins : Begins rising.back p next.left.now = next_of rising.back it p next.left.now rising.left whole is in
    let top : name_cmp rising.top.name p.name ≡ Less = ap (λ (n : CellName). name_cmp n p.name) rising.name ∙ above in
    let under : All (λ q. name_cmp q.name p.name ≡ Less) rising.front
    = λ k d within. key_total.trans (key_of (get_or rising.front k d).name) (key_of last) (key_of p.name) (rising.below k d within) above in
    let below : All (λ q. name_cmp q.name p.name ≡ Less) (rising.front ++ rising.top ∷ [])
    = All-push (λ (q : Put). name_cmp q.name p.name ≡ Less) rising.front rising.top under top in
    record {
      front = rising.front ++ rising.top ∷ [];
      top = p;
      back = begins.others;
      is = one_more ps (rising.front ++ rising.top ∷ []) rising.back begins.others p rising.is begins.is;
      left = record { bytes = begins.left; whole = begins.whole };
      name = refl;
      once = once_push (rising.front ++ rising.top ∷ []) p rising.once (λ k d within. lower (get_or (rising.front ++ rising.top ∷ []) k d).name p.name (below k d within));
      below = below;
    }

pub rising_all : (ps : List Put) (last : CellName) (it : PutRefs) → Rising ps last it → Stops it.left.now → NoCellTwice ps
rising_all ps last it rising stops =
    let none : rising.back ≡ [] = stopped rising.back it.left.now stops rising.left.bytes rising.left.whole in
    subst NoCellTwice (sym (append-nil (rising.front ++ rising.top ∷ [])) ∙ (ap (λ t. (rising.front ++ rising.top ∷ []) ++ t) (sym none) ∙ sym rising.is)) rising.once
