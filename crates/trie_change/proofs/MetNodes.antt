-- One more new node in a comparison: an old one at its path stays or is dropped.
use Rattle.std.proofs.Common.{◌≡◌, ℕ, Bool, true, false, cond, List, [], ◌∷◌, ◌++◌, reverse, refl, ap, ap₂, subst, sym, ◌∙◌}
use Rattle.std.specs.Prelude.{◌&&◌, ◌||◌, not}
use Rattle.std.specs.Str.{bytes_eq}
use Rattle.std.proofs.lemmas.Slice.Eq.{bytes_eq-Decides}
use Rattle.trie_model.specs.Nodes.{PathNode, has_node, nodes_without}
use Rattle.trie_read.proofs.Rising.{LowerThan, all_weaker}
use Rattle.trie_change.specs.inner.Diffs.{Comparison, met}
use Rattle.trie_change.proofs.LowerNodes.{AllLower, Falls, IsLower, all_reversed, differs_back, has_joined, lower_through, lower_trans, none_above, none_below, other_lower, reversed, without_lower}
use Rattle.trie_change.proofs.OldAbove.{Above, Below, Compares, Passes}

-- where no old node is the new one, it is put
put_one : (old new : List PathNode) (n : PathNode) (ps : List PathNode) → has_node old n ≡ false → ps ≡ nodes_without new old → n ∷ ps ≡ nodes_without (n ∷ new) old
put_one old new n ps none e = rw none (ap (λ (ns : List PathNode). n ∷ ns) e)

next_below : (n : PathNode) (os new : List PathNode) → AllLower os n.path → Below os new → Below os (n ∷ new)
next_below n [] new a b = tt
next_below n (o ∷ os) new a b = ((a.0, b.0), next_below n os new a.1 b.1)

next_above : (n : PathNode) (gone new : List PathNode) → LowerThan n.path gone → Above gone (n ∷ new)
next_above n gone new h p l = lower_through p n.path gone l.0 h

-- all of the old are below the node or above it
none_old : (old left gone : List PathNode) (n : PathNode) → old ≡ reverse left ++ gone → AllLower left n.path → LowerThan n.path gone → has_node old n ≡ false
none_old old left gone n e a h =
    let low : has_node (reverse left) n ≡ false = none_below n (reverse left) (all_reversed (λ (o : PathNode). IsLower o.path n.path) left a) in
    let up : has_node gone n ≡ false = none_above n gone h in
    ap (λ (os : List PathNode). has_node os n) e ∙ has_joined n (reverse left) gone ∙ ap₂ (λ (a b : Bool). a || b) low up

-- a new node beside which no old one hangs
alone : (old new : List PathNode) (n : PathNode) (ps : List PathNode) (c : Comparison) → Passes old new n ps c → ps ≡ nodes_without new old → AllLower c.left n.path
    → Compares old (n ∷ new) (record { left = c.left; puts = n ∷ c.puts; drops = c.drops })
alone old new n ps c p e a = record {
  gone = p.gone;
  parts = p.parts;
  falls = p.falls;
  lower = next_below n c.left new a p.lower;
  high = next_above n p.gone new p.high;
  puts = put_one old new n c.puts (none_old old c.left p.gone n p.parts a p.high) (p.puts ∙ e);
  drops = p.drops ∙ sym (without_lower n p.gone new p.high);
}

all_below : (n o : PathNode) (os : List PathNode) → IsLower o.path n.path → AllLower os o.path → AllLower os n.path
all_below n o os h a = all_weaker (λ (x : PathNode). IsLower x.path o.path) (λ (x : PathNode). IsLower x.path n.path) (λ x k. lower_trans x.path o.path n.path k h) os a

-- an old node at the path of the new one
module _ (old new : List PathNode) (n o : PathNode) (os gone : List PathNode) (parts : old ≡ reverse (o ∷ os) ++ gone) (falls : Falls (o ∷ os)) (lower : Below (o ∷ os) new)
    (high : LowerThan n.path gone) (same : o.path ≡ n.path) where
  rest_lower : AllLower os n.path
  rest_lower = subst (λ (p : List ℕ). AllLower os p) same falls.0

  parts_next : old ≡ reverse os ++ (o ∷ gone)
  parts_next = parts ∙ reversed o os gone

  high_next : Above (o ∷ gone) (n ∷ new)
  high_next p l = (subst (λ (q : List ℕ). IsLower p q) (sym same) l.0, lower_through p n.path gone l.0 high)

  old_has : (b : Bool) → bytes_eq o.bytes n.bytes ≡ b → has_node old n ≡ b
  old_has b e =
      let low : has_node (reverse os) n ≡ false = none_below n (reverse os) (all_reversed (λ (x : PathNode). IsLower x.path n.path) os rest_lower) in
      let up : has_node gone n ≡ false = none_above n gone high in
      let path : bytes_eq o.path n.path ≡ true = (bytes_eq-Decides o.path n.path).1 same in
      ap (λ (xs : List PathNode). has_node xs n) parts_next ∙ has_joined n (reverse os) (o ∷ gone)
      ∙ ap (λ (a : Bool). a || has_node (o ∷ gone) n) low
      ∙ ap (λ (a : Bool). (a && bytes_eq o.bytes n.bytes) || has_node gone n) path
      ∙ ap₂ (λ (a c : Bool). a || c) e up ∙ or_false b
    where
      or_false : (b : Bool) → (b || false) ≡ b
      or_false true = refl
      or_false false = refl

  new_has : (b : Bool) → bytes_eq o.bytes n.bytes ≡ b → has_node (n ∷ new) o ≡ b
  new_has b e =
      let path : bytes_eq n.path o.path ≡ true = (bytes_eq-Decides n.path o.path).1 (sym same) in
      let none : has_node new o ≡ false = none_above o new lower.0 in
      ap (λ (a : Bool). (a && bytes_eq n.bytes o.bytes) || has_node new o) path
      ∙ ap₂ (λ (a c : Bool). a || c) (turned b e) none ∙ or_false b
    where
      or_false : (b : Bool) → (b || false) ≡ b
      or_false true = refl
      or_false false = refl

      turned : (b : Bool) → bytes_eq o.bytes n.bytes ≡ b → bytes_eq n.bytes o.bytes ≡ b
      turned true e = (bytes_eq-Decides n.bytes o.bytes).1 (sym ((bytes_eq-Decides o.bytes n.bytes).0 e))
      turned false e = differs_back o.bytes n.bytes e

  replaced : (ps ds : List PathNode) → ps ≡ nodes_without new old → ds ≡ nodes_without gone new → (b : Bool) → bytes_eq o.bytes n.bytes ≡ b
      → Compares old (n ∷ new) (cond b (record { left = os; puts = ps; drops = ds }) (record { left = os; puts = n ∷ ps; drops = o ∷ ds }))
  replaced ps ds p d true e = record {
    gone = o ∷ gone;
    parts = parts_next;
    falls = falls.1;
    lower = next_below n os new rest_lower lower.1;
    high = high_next;
    puts = p ∙ sym (ap (λ b. cond (not b) (n ∷ nodes_without new old) (nodes_without new old)) (old_has true e));
    drops = d ∙ sym (without_lower n gone new high) ∙ sym (ap (λ b. cond (not b) (o ∷ nodes_without gone (n ∷ new)) (nodes_without gone (n ∷ new))) (new_has true e));
  }
  replaced ps ds p d false e = record {
    gone = o ∷ gone;
    parts = parts_next;
    falls = falls.1;
    lower = next_below n os new rest_lower lower.1;
    high = high_next;
    puts = put_one old new n ps (old_has false e) p;
    drops =
        ap (λ (xs : List PathNode). o ∷ xs) (d ∙ sym (without_lower n gone new high))
        ∙ sym (ap (λ b. cond (not b) (o ∷ nodes_without gone (n ∷ new)) (nodes_without gone (n ∷ new))) (new_has false e));
  }

pub meets : (old new : List PathNode) (n : PathNode) (ps : List PathNode) (left puts drops : List PathNode) → Passes old new n ps (record { left = left; puts = puts; drops = drops })
    → ps ≡ nodes_without new old → Compares old (n ∷ new) (met n left puts drops)
meets old new n ps [] puts drops p e = alone old new n ps (record { left = []; puts = puts; drops = drops }) p e tt
meets old new n ps (o ∷ os) puts drops p e = by_path (bytes_eq o.path n.path) refl
  where
    by_path : (b : Bool) → bytes_eq o.path n.path ≡ b → Compares old (n ∷ new) (cond b
        (cond (bytes_eq o.bytes n.bytes) (record { left = os; puts = puts; drops = drops }) (record { left = os; puts = n ∷ puts; drops = o ∷ drops }))
        (record { left = o ∷ os; puts = n ∷ puts; drops = drops }))
    by_path true t =
        replaced old new n o os p.gone p.parts p.falls p.lower p.high ((bytes_eq-Decides o.path n.path).0 t) puts drops (p.puts ∙ e) p.drops (bytes_eq o.bytes n.bytes) refl
    by_path false t =
        let low : IsLower o.path n.path = other_lower n.path o.path (p.not_above o os refl) t in
        alone old new n ps (record { left = o ∷ os; puts = puts; drops = drops }) p e (low, all_below n o os low p.falls.0)
