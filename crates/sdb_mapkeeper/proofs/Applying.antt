-- How operations change columns in memory.
use Rattle.std.proofs.Common.{◌≡◌, ◌∷◌, [], ℕ, suc, ◌+◌, ◌<◌, Bool, true, false, cond, List, Option, length, get_or, take, drop, refl, sym, ap, ◌∙◌, arith, add-one}
use Rattle.std.specs.Prelude.{All}
use Rattle.std.specs.BTreeMap.{BTreeMap, get}
use Rattle.std.specs.Cmp.Lexicographic.{slice_cmp}
use Rattle.std.specs.Ordering.{nat_cmp}
use Rattle.std.specs.Str.{bytes_eq}
use Rattle.std.proofs.lemmas.List.{drop-set-lt, take_more}
use Rattle.std.proofs.Math.ListN.{set}
use Rattle.std.proofs.Math.Seq.{drop-cons}
use Rattle.std.proofs.lemmas.List.Elements.{All-more, All-weaker}
use Rattle.std.proofs.lemmas.Map.Text.{is_eq-slice_cmp}
use Rattle.std.proofs.lemmas.Slice.Eq.{bytes_eq-Decides}
use Rattle.sdb_base.specs.Content.{Counted, meta_after, meta_from, node_after, node_from}
use Rattle.sdb_mapkeeper.specs.Holding.{hash_cmp, held_at}
use Rattle.sdb_mapkeeper.specs.inner.Applying.{AreApplied, AreSame, HasPlace, PlacesStay, meta_in, node_in}
use Rattle.sdb_mapkeeper.specs.inner.Places.{HoldsAt, HoldsSame, KeepsPlaces}
use Rattle.sdb_mapkeeper.specs.declared.column.Stored.{Stored}
use Rattle.sdb_mapkeeper.specs.declared.columns.Columns.{Columns}
use Rattle.sdb_base.specs.declared.node.NodeHash.{NodeHash}
use Rattle.sdb_base.specs.declared.op.Op.{Op}
use Rattle.sdb_base.specs.declared.op.Op.TheVariants.{AddRef, DropRef, Put, Erase}
use Rattle.sdb_base.proofs.Orders.{meta_from-append, node_from-append}

-- where a test says that two are the same, a function of the one is that of the other
chosen : (t : Bool) (f : Option Counted → Option Counted) (x y : Option Counted) → (t ≡ true → x ≡ y) → cond t (f x) y ≡ cond t (f y) y
chosen true f x y same = ap f (same refl)
chosen false f x y same = refl

-- what column 0 holds after a change at one key
pub node_changed : (m n : BTreeMap NodeHash (Option Stored)) (k : NodeHash) (f : Option Counted → Option Counted)
    → HoldsAt hash_cmp m k (f (held_at (get hash_cmp m k))) n → (key : List ℕ)
    → held_at (get hash_cmp n (record { 0 = key }))
    ≡ cond (bytes_eq k.0 key) (f (held_at (get hash_cmp m (record { 0 = key })))) (held_at (get hash_cmp m (record { 0 = key })))
node_changed m n k f after key =
    let there = held_at (get hash_cmp m (record { 0 = key })) in
    let here = held_at (get hash_cmp m k) in
    after (record { 0 = key })
    ∙ ap (λ t. cond t (f here) there) (is_eq-slice_cmp k.0 key)
    ∙ chosen (bytes_eq k.0 key) f here there
    (λ e. ap (λ (q : List ℕ). held_at (get hash_cmp m (record { 0 = q }))) ((bytes_eq-Decides k.0 key).0 e))

-- what column 1 holds after a change at one key
pub meta_changed : (m n : BTreeMap (List ℕ) (Option Stored)) (k : List ℕ) (w : Option Counted)
    → HoldsAt (slice_cmp nat_cmp) m k w n → (key : List ℕ)
    → held_at (get (slice_cmp nat_cmp) n key) ≡ cond (bytes_eq k key) w (held_at (get (slice_cmp nat_cmp) m key))
meta_changed m n k w after key =
    after key ∙ ap (λ t. cond t w (held_at (get (slice_cmp nat_cmp) m key))) (is_eq-slice_cmp k key)

-- places that stay in each column stay for operations
pub places_stay : (a b : Columns) → KeepsPlaces hash_cmp a.nodes.places b.nodes.places
    → KeepsPlaces (slice_cmp nat_cmp) a.metas.places b.metas.places → PlacesStay a b
places_stay a b nodes metas (AddRef k bytes) has = nodes k has
places_stay a b nodes metas (DropRef k) has = tt
places_stay a b nodes metas (Put k bytes) has = metas k has
places_stay a b nodes metas (Erase k) has = tt

pub nothing_stays : (a : Columns) → PlacesStay a a
nothing_stays a op has = has

pub columns_same : (a b : Columns) → HoldsSame hash_cmp a.nodes.places b.nodes.places
    → HoldsSame (slice_cmp nat_cmp) a.metas.places b.metas.places → AreSame a b
columns_same a b nodes metas = record { nodes = λ key. nodes (record { 0 = key }); metas = metas }

pub same_itself : (a : Columns) → AreSame a a
same_itself a = record { nodes = λ key. refl; metas = λ key. refl }

pub same_on : (a b c : Columns) → AreSame a b → AreSame b c → AreSame a c
same_on a b c h g = record { nodes = λ key. g.nodes key ∙ h.nodes key; metas = λ key. g.metas key ∙ h.metas key }

pub applied_none : (a : Columns) → AreApplied a [] a
applied_none a = record { nodes = λ key. refl; metas = λ key. refl }

-- the same before and after
pub applied_between : (a b c d : Columns) (ops : List Op) → AreSame a b → AreApplied b ops c → AreSame c d → AreApplied a ops d
applied_between a b c d ops before h after = record {
  nodes = λ key. after.nodes key ∙ h.nodes key ∙ ap (λ now. node_from key now ops) (before.nodes key);
  metas = λ key. after.metas key ∙ h.metas key ∙ ap (λ now. meta_from key now ops) (before.metas key);
}

-- one operation more
pub applied_more : (a b c : Columns) (ops : List Op) (i : ℕ) (d : Op) → i < length ops → AreApplied a (take i ops) b
    → ((key : List ℕ) → node_in c key ≡ node_after key (node_in b key) (get_or ops i d))
    → ((key : List ℕ) → meta_in c key ≡ meta_after key (meta_in b key) (get_or ops i d))
    → AreApplied a (take (i + 1) ops) c
applied_more a b c ops i d lt h nodes metas =
    let more = take_more ops i d lt in record {
      nodes = λ key. nodes key ∙ ap (λ now. node_after key now (get_or ops i d)) (h.nodes key)
          ∙ sym (node_from-append key (node_in a key) (take i ops) (get_or ops i d ∷ []))
          ∙ ap (node_from key (node_in a key)) (sym more);
      metas = λ key. metas key ∙ ap (λ now. meta_after key now (get_or ops i d)) (h.metas key)
          ∙ sym (meta_from-append key (meta_in a key) (take i ops) (get_or ops i d ∷ []))
          ∙ ap (meta_from key (meta_in a key)) (sym more);
    }

-- one place more
pub places_more : (a b : Columns) (ops : List Op) (i : ℕ) (d : Op) → i < length ops → PlacesStay a b → All (HasPlace a) (take i ops)
    → HasPlace b (get_or ops i d) → All (HasPlace b) (take (i + 1) ops)
places_more a b ops i d lt stay before here =
    All-more (HasPlace b) ops i d lt (All-weaker (HasPlace a) (HasPlace b) stay (take i ops) before) here

-- lists that agree from a place on have the same item there
pub item_same : (xs ys : List Op) (i : ℕ) (d : Op) → i < length xs → length xs ≡ length ys → drop i xs ≡ drop i ys
    → get_or xs i d ≡ get_or ys i d
item_same xs ys i d lt same rest =
    let m : i < length ys = omega arith in
    let a = drop-cons xs i d lt in
    let b = drop-cons ys i d m in
    cc

-- and agree from the next place on, where the item there is set
pub rest_same : (xs ys : List Op) (i : ℕ) (x : Op) → i < length xs → length xs ≡ length ys → drop i xs ≡ drop i ys
    → drop (i + 1) (set xs i x) ≡ drop (i + 1) ys
rest_same xs ys i x lt same rest =
    let m : i < length ys = omega arith in
    let a = drop-cons xs i x lt in
    let b = drop-cons ys i x m in
    let tails : drop (suc i) xs ≡ drop (suc i) ys = cc in
    drop-set-lt (i + 1) xs i x (omega arith) ∙ rw add-one tails
