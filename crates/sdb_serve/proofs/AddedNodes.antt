-- Which references to nodes are among operations.
use Rattle.std.proofs.Common.{◌≡◌, ◌⊎◌, ℕ, zero, suc, ◌<◌, ◌≤◌, ◌==◌, Bool, true, false, cond, get_or, List, [], ◌∷◌, ◌++◌, length, Option, Some, None, refl, sym, ap, subst, ◌∙◌, inl, inr, arith}
use Rattle.std.specs.Prelude.{Any}
use Rattle.std.specs.List.{AllByRecursion}
use Rattle.std.specs.Str.{bytes_eq}
use Rattle.std.proofs.lemmas.Grind.{flat_map-append}
use Rattle.std.proofs.lemmas.List.{append-nil}
use Rattle.std.proofs.lemmas.Option.{none-some, same_Some}
use Rattle.std.proofs.lemmas.Slice.Eq.{bytes_eq-Decides}
use Rattle.sdb_base.specs.Content.{Counted, node_after, node_from, with_reference, without_reference}
use Rattle.sdb_base.specs.Keeping.{AddsNode, Commits, HasValueOf, operations}
use Rattle.sdb_base.specs.declared.node.Node.{Node}
use Rattle.sdb_base.specs.declared.op.Op.{Op}
use Rattle.sdb_base.specs.declared.op.Op.TheVariants.{AddRef, DropRef, Put, Erase}
use Rattle.trie_read.proofs.Among.{Among}
use Rattle.sdb_serve.specs.BlockCommits.{references_to}

-- some element has a property
abbrev pub AnyOf : {X : Type 0} → (X → Type 0) → List X → Type 0
AnyOf P [] = ⊥
AnyOf P (x ∷ xs) = P x ⊎ AnyOf P xs

any_at : {X : Type 0} (P : X → Type 0) (xs : List X) (k : ℕ) (x : X) → k < length xs → get_or xs k x ≡ x → P x → AnyOf P xs
any_at P [] k x lt e p = let h : k < 0 = lt in absurd (omega arith)
any_at P (y ∷ ys) zero x lt e p = inl (subst P (sym e) p)
any_at P (y ∷ ys) (suc k) x lt e p = inr (any_at P ys k x (omega arith) e p)

pub any_from : {X : Type 0} (P : X → Type 0) (xs : List X) → Any P xs → AnyOf P xs
any_from P xs a = any_at P xs a.0 a.1 a.2 a.3 a.4

pub any_to : {X : Type 0} (P : X → Type 0) (xs : List X) → AnyOf P xs → Any P xs
any_to P [] a = absurd a
any_to P (x ∷ xs) (inl p) = (zero, x, omega arith, refl, p)
any_to P (x ∷ xs) (inr a) = let h = any_to P xs a in (suc h.0, h.1, omega arith, h.3, h.4)

any_either : {X : Type 0} (P : X → Type 0) (xs ys : List X) → AnyOf P (xs ++ ys) → AnyOf P xs ⊎ AnyOf P ys
any_either P [] ys a = inr a
any_either P (x ∷ xs) ys (inl p) = inl (inl p)
any_either P (x ∷ xs) ys (inr a) = elim (any_either P xs ys a) [ inl l ↦ inl (inr l) | inr r ↦ inr r ]

operations_more : (commits : Commits) (ops : List Op) → operations (commits ++ ops ∷ []) ≡ operations commits ++ ops
operations_more commits ops =
    flat_map-append (λ (ops : List Op). ops) commits (ops ∷ []) ∙ ap (λ (more : List Op). operations commits ++ more) (append-nil ops)

referenced : (key bytes : List ℕ) (ns : List Node) → AnyOf (AddsNode key bytes) (references_to ns) → (n : Node) × Among n ns × (n.hash.0 ≡ key) × (n.bytes ≡ bytes)
referenced key bytes [] a = absurd a
referenced key bytes (n ∷ ns) (inl p) = (n, inl refl, p.0, p.1)
referenced key bytes (n ∷ ns) (inr a) = let more = referenced key bytes ns a in (more.0, inr more.1, more.2, more.3)

-- a reference after a commit was there, or is a node's
pub added_by : (commits : Commits) (ns : List Node) (key bytes : List ℕ) → Any (AddsNode key bytes) (operations (commits ++ references_to ns ∷ []))
    → Any (AddsNode key bytes) (operations commits) ⊎ ((n : Node) × Among n ns × (n.hash.0 ≡ key) × (n.bytes ≡ bytes))
added_by commits ns key bytes a =
    let all : AnyOf (AddsNode key bytes) (operations commits ++ references_to ns) =
    subst (AnyOf (AddsNode key bytes)) (operations_more commits (references_to ns)) (any_from (AddsNode key bytes) (operations (commits ++ references_to ns ∷ [])) a) in
    elim (any_either (AddsNode key bytes) (operations commits) (references_to ns) all) [
      | inl old ↦ inl (any_to (AddsNode key bytes) (operations commits) old)
      | inr new ↦ inr (referenced key bytes ns new)
    ]

-- ---- what is under a key was added under it

-- these bytes were there, or are added by the operation
abbrev IsFrom : Option Counted → Type 0 → Counted → Type 0
IsFrom now Added c = ((b : Counted) × (now ≡ Some b) × (c.bytes ≡ b.bytes)) ⊎ Added

by_reference : (k key bytes : List ℕ) (now : Option Counted) (c : Counted) (t : Bool) → bytes_eq k key ≡ t → cond t (with_reference bytes now) now ≡ Some c
    → IsFrom now ((k ≡ key) × (bytes ≡ c.bytes)) c
by_reference k key bytes None c true test e = inr ((bytes_eq-Decides k key).0 test, ap (λ (x : Counted). x.bytes) (same_Some _ c e))
by_reference k key bytes (Some b) c true test e = inl (b, refl, sym (ap (λ (x : Counted). x.bytes) (same_Some _ c e)))
by_reference k key bytes now c false test e = inl (c, e, refl)

one_fewer : (b c : Counted) (t : Bool) (n : ℕ) → cond t None (Some (record { count = n; bytes = b.bytes })) ≡ Some c → c.bytes ≡ b.bytes
one_fewer b c true n e = absurd (none-some c e)
one_fewer b c false n e = sym (ap (λ (x : Counted). x.bytes) (same_Some _ c e))

by_drop : (now : Option Counted) (c : Counted) (t : Bool) → cond t (without_reference now) now ≡ Some c → IsFrom now ⊥ c
by_drop None c true e = absurd (none-some c e)
by_drop (Some b) c true e = inl (b, refl, one_fewer b c (b.count == 1) _ e)
by_drop now c false e = inl (c, e, refl)

after_one : (key : List ℕ) (now : Option Counted) (op : Op) (c : Counted) → node_after key now op ≡ Some c → IsFrom now (AddsNode key c.bytes op) c
after_one key now (AddRef k bytes) c e = by_reference k.0 key bytes now c (bytes_eq k.0 key) refl e
after_one key now (DropRef k) c e = by_drop now c (bytes_eq k.0 key) e
after_one key now (Put k bytes) c e = inl (c, e, refl)
after_one key now (Erase k) c e = inl (c, e, refl)

after_all : (key : List ℕ) (now : Option Counted) (ops : List Op) (c : Counted) → node_from key now ops ≡ Some c → IsFrom now (AnyOf (AddsNode key c.bytes) ops) c
after_all key now [] c e = inl (c, e, refl)
after_all key now (op ∷ ops) c e = elim (after_all key (node_after key now op) ops c e) [
  | inl before ↦ elim (after_one key now op before.0 before.1) [
    | inl first ↦ inl (first.0, first.1, before.2 ∙ first.2)
    | inr adds ↦ inr (inl (subst (λ (bytes : List ℕ). AddsNode key bytes op) (sym before.2) adds))
  ]
  | inr later ↦ inr (inr later)
]

pub was_added : (key : List ℕ) (ops : List Op) (c : Counted) → node_from key None ops ≡ Some c → Any (AddsNode key c.bytes) ops
was_added key ops c e = elim (after_all key None ops c e) [
  | inl before ↦ absurd (none-some before.0 before.1)
  | inr adds ↦ any_to (AddsNode key c.bytes) ops adds
]

-- ---- values

at_most : (len most : ℕ) (ns : List Node) → AllByRecursion (λ (n : Node). length n.bytes ≤ most) ns → AnyOf (HasValueOf len) (references_to ns) → len ≤ most
at_most len most [] all a = absurd a
at_most len most (n ∷ ns) all (inl e) = subst (λ (k : ℕ). k ≤ most) e all.0
at_most len most (n ∷ ns) all (inr a) = at_most len most ns all.1 a

-- no value of a reference is longer than the nodes are
pub no_longer : (len most : ℕ) (ns : List Node) → AllByRecursion (λ (n : Node). length n.bytes ≤ most) ns → Any (HasValueOf len) (references_to ns) → len ≤ most
no_longer len most ns all a = at_most len most ns all (any_from (HasValueOf len) (references_to ns) a)
