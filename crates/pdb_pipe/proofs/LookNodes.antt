-- What a queue says of a node after the operations that are logged.
use Rattle.std.proofs.Common.{◌≡◌, ◌==◌, ◌⊎◌, ℕ, zero, Bool, true, false, if◌then◌else◌, List, [], ◌∷◌, Option, Some, None, refl, sym, ap, subst, ◌∙◌, arith, inl, inr}
use Rattle.std.specs.Prelude.{Any}
use Rattle.std.specs.Option.{option_or}
use Rattle.sdb_base.specs.Content.{Counted, count_down, node_after, node_from, node_under, with_reference, without_reference}
use Rattle.sdb_base.specs.Keeping.{AddsNode}
use Rattle.sdb_base.specs.declared.op.Op.{Op}
use Rattle.sdb_base.specs.declared.op.Op.TheVariants.{AddRef, DropRef, Put, Erase}
use Rattle.pdb_column.specs.Maps.{ColumnMap, column_after, column_from}
use Rattle.pdb_column.proofs.Cases.{same_key_or}
use Rattle.pdb_overlay.specs.Lending.{Bytes, Erased, Said, newest_said, says}
use Rattle.pdb_pipe.proofs.LookAppend.{any_later}

-- column 0 holds nodes by their hashes
pub column_zero : (content : ColumnMap) (ops : List Op) (key : List ℕ) → column_from 0 content ops key ≡ node_from key (content key) ops
column_zero content [] key = refl
column_zero content (op ∷ ops) key = column_zero (column_after 0 content op) ops key

-- these bytes were there before
abbrev pub WasThere : Option Counted → List ℕ → Type 0
WasThere now bytes = (d : Counted) × (now ≡ Some d) × (d.bytes ≡ bytes)

-- ---- one operation

dropped : (d : Counted) (b : Bool) (c : Counted) → (if b then None else Some (record { count = count_down d.count; bytes = d.bytes })) ≡ Some c → d.bytes ≡ c.bytes
dropped d true c e = cc
dropped d false c e = cc

-- a node that is there after an operation was there with its bytes, or was added with them
referred : (key k bytes : List ℕ) (now : Option Counted) (c : Counted) → k ≡ key → with_reference bytes now ≡ Some c
    → WasThere now c.bytes ⊎ ((k ≡ key) × (bytes ≡ c.bytes))
referred key k bytes None c same e = inr (same, cc)
referred key k bytes (Some d) c same e = inl (d, refl, cc)

released : (now : Option Counted) (c : Counted) → without_reference now ≡ Some c → WasThere now c.bytes
released None c e = absurd cc
released (Some d) c e = (d, refl, dropped d (d.count == 1) c e)

came_by : (key : List ℕ) (now : Option Counted) (op : Op) (c : Counted) → node_after key now op ≡ Some c → WasThere now c.bytes ⊎ AddsNode key c.bytes op
came_by key now (AddRef k bytes) c e =
    same_key_or k.0 key (λ b. (if b then with_reference bytes now else now) ≡ Some c → WasThere now c.bytes ⊎ AddsNode key c.bytes (AddRef k bytes))
    (λ same h. referred key k.0 bytes now c same h) (λ _ h. inl (c, h, refl)) e
came_by key now (DropRef k) c e =
    same_key_or k.0 key (λ b. (if b then without_reference now else now) ≡ Some c → WasThere now c.bytes ⊎ AddsNode key c.bytes (DropRef k))
    (λ _ h. inl (released now c h)) (λ _ h. inl (c, h, refl)) e
came_by key now (Put k bytes) c e = inl (c, e, refl)
came_by key now (Erase k) c e = inl (c, e, refl)

-- ---- operations

here : (key bytes : List ℕ) (op : Op) (ops : List Op) → AddsNode key bytes op → Any (AddsNode key bytes) (op ∷ ops)
here key bytes op ops h = (zero, op, omega arith, refl, h)

-- so it is after operations
pub added_or_was : (key : List ℕ) (ops : List Op) (now : Option Counted) (c : Counted) → node_from key now ops ≡ Some c → WasThere now c.bytes ⊎ Any (AddsNode key c.bytes) ops
added_or_was key [] now c e = inl (c, e, refl)
added_or_was key (op ∷ ops) now c e =
    elim (added_or_was key ops (node_after key now op) c e) [
      | inl was ↦
          elim (came_by key now op was.0 was.1) [
            | inl before ↦ inl (before.0, before.1, before.2 ∙ was.2)
            | inr adds ↦ inr (subst (λ bytes. Any (AddsNode key bytes) (op ∷ ops)) was.2 (here key was.0.bytes op ops adds))
          ]
      | inr later ↦ inr (any_later (AddsNode key c.bytes) op ops later)
    ]

pub was_added : (key : List ℕ) (ops : List Op) (c : Counted) → node_under ops key ≡ Some c → Any (AddsNode key c.bytes) ops
was_added key ops c e = elim (added_or_was key ops None c e) [ inl was ↦ (let differ = was.1 in absurd cc) | inr adds ↦ adds ]

-- ---- what is said of a node

-- What is said of a node by operations: bytes that were added by one of them, or nothing, and then its bytes stay.
abbrev pub IsSaidOf : List ℕ → List Op → Option Said → Type 0
IsSaidOf key ops None = (now : Option Counted) (c : Counted) → node_from key now ops ≡ Some c → WasThere now c.bytes
IsSaidOf key ops (Some (Bytes bytes)) = Any (AddsNode key bytes) ops
IsSaidOf key ops (Some Erased) = ⊥

said_first : (key : List ℕ) (op : Op) (ops : List Op) → IsSaidOf key ops None → IsSaidOf key (op ∷ ops) (says 0 key op)
said_first key (AddRef k bytes) ops rest =
    same_key_or k.0 key
    (λ b. ((now : Option Counted) → node_after key now (AddRef k bytes) ≡ (if b then with_reference bytes now else now)) → IsSaidOf key (AddRef k bytes ∷ ops) (if b then Some (Bytes bytes) else None))
    (λ same _. here key bytes (AddRef k bytes) ops (same, refl))
    (λ _ is now c e. rest now c (ap (λ o. node_from key o ops) (sym (is now)) ∙ e))
    (λ now. refl)
said_first key (DropRef k) ops rest = λ now c e.
    let was = rest (node_after key now (DropRef k)) c e in
    elim (came_by key now (DropRef k) was.0 was.1) [ inl before ↦ (before.0, before.1, before.2 ∙ was.2) | inr adds ↦ absurd adds ]
said_first key (Put k bytes) ops rest = rest
said_first key (Erase k) ops rest = rest

said_next : (key : List ℕ) (op : Op) (ops : List Op) (s : Option Said) → IsSaidOf key ops s → IsSaidOf key (op ∷ ops) (option_or s (says 0 key op))
said_next key op ops None h = said_first key op ops h
said_next key op ops (Some (Bytes bytes)) h = any_later (AddsNode key bytes) op ops h
said_next key op ops (Some Erased) h = absurd h

pub said_of_node : (key : List ℕ) (ops : List Op) → IsSaidOf key ops (newest_said 0 key ops)
said_of_node key [] = λ now c e. (c, e, refl)
said_of_node key (op ∷ ops) = said_next key op ops (newest_said 0 key ops) (said_of_node key ops)
