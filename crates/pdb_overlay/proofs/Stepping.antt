-- What steps on places make of them.
use Rattle.std.proofs.Common.{◌≡◌, ℕ, ◌+◌, ◌<◌, ◌≤◌, ◌==◌, ◌&&◌, Bool, true, false, if◌then◌else◌, cond, List, [], length, take, get_or, Option, Some, None, is_some, refl, sym, ap, ap₂, ◌∙◌, arith}
use Rattle.std.specs.Prelude.{All}
use Rattle.std.specs.Str.{bytes_eq}
use Rattle.std.specs.Option.{option_map, option_or}
use Rattle.std.proofs.lemmas.List.{length-take-le, take_more}
use Rattle.std.proofs.lemmas.List.Elements.{All-more, All-weaker}
use Rattle.sdb_base.specs.declared.node.NodeHash.{NodeHash}
use Rattle.sdb_base.specs.declared.op.Op.{Op}
use Rattle.sdb_base.specs.declared.op.Op.TheVariants.{AddRef, DropRef, Put, Erase}
use Rattle.pdb_overlay.specs.Lending.{Said, Bytes, Erased}
use Rattle.pdb_overlay.specs.inner.Placing.{AreReleased, AreSet, Changes, HasSlotFor, KeepsRoom, SamePlaces, newest_at, place_at, place_in_commit, speaks}
use Rattle.pdb_overlay.specs.inner.Slots.{ChangesKey, HoldsSame, KeepsSlots, place_under, without}
use Rattle.pdb_overlay.specs.declared.place.Place.{Place}
use Rattle.pdb_overlay.specs.declared.places.Places.{Places}
use Rattle.pdb_overlay.proofs.Finding.{newest_at-more}

-- ---- by column

first_chosen : (t e : Bool) (s : Said) (f : Option Place → Option Place) (o r : Option Place)
    → cond t (cond e (f o) o) r ≡ cond (is_some (if t && e then Some s else None)) (f (cond t o r)) (cond t o r)
first_chosen true true s f o r = refl
first_chosen true false s f o r = refl
first_chosen false e s f o r = refl

second_chosen : (t u e : Bool) (s : Said) (f : Option Place → Option Place) (o r : Option Place) → (t ≡ true → u ≡ false)
    → cond t r (cond u (cond e (f o) o) None) ≡ cond (is_some (if u && e then Some s else None)) (f (cond t r (cond u o None))) (cond t r (cond u o None))
second_chosen true u e s f o r not = other u (not refl)
  where
    other : (u : Bool) → u ≡ false → r ≡ cond (is_some (if u && e then Some s else None)) (f r) r
    other true e = cc
    other false e = refl
second_chosen false true true s f o r not = refl
second_chosen false true false s f o r not = refl
second_chosen false false e s f o r not = refl

one_column : (column : ℕ) → (column == 0) ≡ true → (column == 1) ≡ false
one_column column e = grind (arith, e)

pub node_changed : (a b : Places) (k : NodeHash) (bytes : List ℕ) (f : Option Place → Option Place) → ChangesKey f a.nodes.slots k.0 b.nodes.slots → b.plain ≡ a.plain
    → Changes f a (AddRef k bytes) b
node_changed a b k bytes f after same column key =
    ap₂ (λ o r. if column == 0 then o else if column == 1 then r else None) (after key) (ap (λ m. place_under m.slots key) same)
    ∙ first_chosen (column == 0) (bytes_eq k.0 key) (Bytes bytes) f (place_under a.nodes.slots key) (if column == 1 then place_under a.plain.slots key else None)

pub put_changed : (a b : Places) (k bytes : List ℕ) (f : Option Place → Option Place) → ChangesKey f a.plain.slots k b.plain.slots → b.nodes ≡ a.nodes
    → Changes f a (Put k bytes) b
put_changed a b k bytes f after same column key =
    ap₂ (λ r o. if column == 0 then r else if column == 1 then o else None) (ap (λ m. place_under m.slots key) same) (after key)
    ∙ second_chosen (column == 0) (column == 1) (bytes_eq k key) (Bytes bytes) f (place_under a.plain.slots key) (place_under a.nodes.slots key) (one_column column)

pub erase_changed : (a b : Places) (k : List ℕ) (f : Option Place → Option Place) → ChangesKey f a.plain.slots k b.plain.slots → b.nodes ≡ a.nodes
    → Changes f a (Erase k) b
erase_changed a b k f after same column key =
    ap₂ (λ r o. if column == 0 then r else if column == 1 then o else None) (ap (λ m. place_under m.slots key) same) (after key)
    ∙ second_chosen (column == 0) (column == 1) (bytes_eq k key) Erased f (place_under a.plain.slots key) (place_under a.nodes.slots key) (one_column column)

pub columns_same : (a b : Places) → HoldsSame a.nodes.slots b.nodes.slots → HoldsSame a.plain.slots b.plain.slots → SamePlaces a b
columns_same a b nodes plain column key =
    ap₂ (λ o r. if column == 0 then o else if column == 1 then r else None) (nodes key) (plain key)

pub room_kept : (a b : Places) → KeepsSlots a.nodes.slots b.nodes.slots → KeepsSlots a.plain.slots b.plain.slots → KeepsRoom a b
room_kept a b nodes plain (AddRef k bytes) has = nodes k.0 has
room_kept a b nodes plain (DropRef k) has = tt
room_kept a b nodes plain (Put k bytes) has = plain k has
room_kept a b nodes plain (Erase k) has = plain k has

-- ---- one after the other

pub same_on : (a b c : Places) → SamePlaces a b → SamePlaces b c → SamePlaces a c
same_on a b c h g column key = g column key ∙ h column key

pub room_more : (a b : Places) (ops : List Op) (i : ℕ) (d : Op) → i < length ops → KeepsRoom a b → All (HasSlotFor a) (take i ops)
    → HasSlotFor b (get_or ops i d) → All (HasSlotFor b) (take (i + 1) ops)
room_more a b ops i d lt keep before here =
    All-more (HasSlotFor b) ops i d lt (All-weaker (HasSlotFor a) (HasSlotFor b) keep (take i ops) before) here

abbrev Mk : ℕ → ℕ → Place
Mk number at = record { number = number; at = at }

set_by : (t : Bool) (number n : ℕ) (o : Option ℕ) (first : Option Place)
    → cond t (Some (Mk number n)) (option_or (option_map (Mk number) o) first) ≡ option_or (option_map (Mk number) (cond t (Some n) o)) first
set_by true number n o first = refl
set_by false number n o first = refl

pub set_none : (number : ℕ) (a : Places) → AreSet number [] a a
set_none number a column key = refl

pub set_more : (number : ℕ) (ops : List Op) (i : ℕ) (d : Op) (a b c : Places) → i < length ops → AreSet number (take i ops) a b
    → Changes (λ _. Some (record { number = number; at = i })) b (get_or ops i d) c → AreSet number (take (i + 1) ops) a c
set_more number ops i d a b c lt before step column key =
    let op = get_or ops i d in
    let within : i ≤ length ops = omega arith in
    let long = length-take-le i ops within in
    step column key
    ∙ ap (λ o. cond (speaks column key op) (Some (Mk number i)) o) (before column key)
    ∙ set_by (speaks column key op) number i (newest_at column key (take i ops)) (place_at a column key)
    ∙ ap (λ n. option_or (option_map (Mk number) (cond (speaks column key op) (Some n) (newest_at column key (take i ops)))) (place_at a column key)) (sym long)
    ∙ ap (λ o. option_or (option_map (Mk number) o) (place_at a column key)) (sym (newest_at-more column key (take i ops) op))
    ∙ ap (λ os. option_or (place_in_commit number column key os) (place_at a column key)) (sym (take_more ops i d lt))

twice_by : (t : Bool) (n : ℕ) (p : Place) → (p.number == n) ≡ t → without n (if t then None else Some p) ≡ (if t then None else Some p)
twice_by true n p e = refl
twice_by false n p e = ap (λ t. if t then None else Some p) e

without_twice : (n : ℕ) (o : Option Place) → without n (without n o) ≡ without n o
without_twice n None = refl
without_twice n (Some p) = twice_by (p.number == n) n p refl

release_by : (t : Bool) (number n : ℕ) (o : Option ℕ) (first : Option Place)
    → cond t (without number (cond (is_some o) (without number first) first)) (cond (is_some o) (without number first) first)
    ≡ cond (is_some (cond t (Some n) o)) (without number first) first
release_by true number n None first = refl
release_by true number n (Some i) first = without_twice number first
release_by false number n o first = refl

pub release_none : (number : ℕ) (a : Places) → AreReleased number [] a a
release_none number a column key = refl

pub release_more : (number : ℕ) (ops : List Op) (i : ℕ) (d : Op) (a b c : Places) → i < length ops → AreReleased number (take i ops) a b
    → Changes (without number) b (get_or ops i d) c → AreReleased number (take (i + 1) ops) a c
release_more number ops i d a b c lt before step column key =
    let op = get_or ops i d in
    step column key
    ∙ ap (λ o. cond (speaks column key op) (without number o) o) (before column key)
    ∙ release_by (speaks column key op) number (length (take i ops)) (newest_at column key (take i ops)) (place_at a column key)
    ∙ ap (λ o. cond (is_some o) (without number (place_at a column key)) (place_at a column key)) (sym (newest_at-more column key (take i ops) op))
    ∙ ap (λ os. cond (is_some (newest_at column key os)) (without number (place_at a column key)) (place_at a column key)) (sym (take_more ops i d lt))
