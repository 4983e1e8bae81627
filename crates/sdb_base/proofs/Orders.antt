-- Operations after others change what the others left.
use Rattle.std.proofs.Common.{◌≡◌, ◌∷◌, ◌++◌, [], List, Option, ℕ, refl}
use Rattle.sdb_base.specs.Content.{Counted, meta_after, meta_from, node_after, node_from}
use Rattle.sdb_base.specs.declared.op.Op.{Op}

pub node_from-append : (key : List ℕ) (now : Option Counted) (xs ys : List Op)
    → node_from key now (xs ++ ys) ≡ node_from key (node_from key now xs) ys
node_from-append key now [] ys = refl
node_from-append key now (x ∷ xs) ys = node_from-append key (node_after key now x) xs ys

pub meta_from-append : (key : List ℕ) (now : Option Counted) (xs ys : List Op)
    → meta_from key now (xs ++ ys) ≡ meta_from key (meta_from key now xs) ys
meta_from-append key now [] ys = refl
meta_from-append key now (x ∷ xs) ys = meta_from-append key (meta_after key now x) xs ys
