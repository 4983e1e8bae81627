-- The operations of one commit more.
use Rattle.std.proofs.Common.{◌≡◌, ◌∷◌, ◌++◌, [], List, ℕ, ◌+◌, None, length, ap, sym, ◌∙◌, length-append}
use Rattle.std.proofs.lemmas.Grind.{flat_map-append}
use Rattle.std.proofs.lemmas.List.{append-nil}
use Rattle.sdb_base.specs.Content.{meta_from, meta_under, node_from, node_under}
use Rattle.sdb_base.specs.Keeping.{Commits, operations}
use Rattle.sdb_base.specs.declared.op.Op.{Op}
use Rattle.sdb_base.proofs.Orders.{meta_from-append, node_from-append}

operations_more : (commits : Commits) (ops : List Op) → operations (commits ++ ops ∷ []) ≡ operations commits ++ ops
operations_more commits ops =
    flat_map-append (λ (ops : List Op). ops) commits (ops ∷ []) ∙ ap (λ (more : List Op). operations commits ++ more) (append-nil ops)

pub node_more : (commits : Commits) (ops : List Op) (key : List ℕ)
    → node_from key (node_under (operations commits) key) ops ≡ node_under (operations (commits ++ ops ∷ [])) key
node_more commits ops key =
    sym (node_from-append key None (operations commits) ops)
    ∙ ap (λ (all : List Op). node_under all key) (sym (operations_more commits ops))

pub meta_more : (commits : Commits) (ops : List Op) (key : List ℕ)
    → meta_from key (meta_under (operations commits) key) ops ≡ meta_under (operations (commits ++ ops ∷ [])) key
meta_more commits ops key =
    sym (meta_from-append key None (operations commits) ops)
    ∙ ap (λ (all : List Op). meta_under all key) (sym (operations_more commits ops))

pub count_more : (commits : Commits) (ops : List Op) → length (commits ++ ops ∷ []) ≡ length commits + 1
count_more commits ops = length-append commits (ops ∷ [])
