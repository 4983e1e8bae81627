-- What columns hold after one commit more, and which commits are logged and which one is next.
use Rattle.std.proofs.Common.{◌≡◌, ℕ, ◌-◌, ◌<◌, List, [], ◌∷◌, ◌++◌, length, None, Some, refl, ◌∙◌, ap, arith, append-nil, length-append}
use Rattle.std.specs.Prelude.{slice_get}
use Rattle.std.proofs.Math.Seq.{get_or-append_seam}
use Rattle.std.proofs.lemmas.Grind.{flat_map-append}
use Rattle.std.proofs.lemmas.Option.{slice_get-get_or}
use Rattle.sdb_base.specs.Keeping.{Commits, operations}
use Rattle.sdb_base.specs.declared.op.Op.{Op}
use Rattle.pdb_cells.specs.Content.{Content}
use Rattle.pdb_column.specs.Maps.{ColumnMap, column_after, column_from}
use Rattle.pdb_pipe.specs.Commits.{contents_of}

-- contents that have the same cells are the same
pub same_content : (a b : Content) → ((file index : ℕ) → a file index ≡ b file index) → a ≡ b
same_content a b e = λ i. λ file index. e file index i

from_both : (column : ℕ) (content : ColumnMap) (xs ys : List Op) → column_from column content (xs ++ ys) ≡ column_from column (column_from column content xs) ys
from_both column content [] ys = refl
from_both column content (op ∷ xs) ys = from_both column (column_after column content op) xs ys

operations_more : (commits : Commits) (ops : List Op) → operations (commits ++ ops ∷ []) ≡ operations commits ++ ops
operations_more commits ops = flat_map-append (λ (xs : List Op). xs) commits (ops ∷ []) ∙ ap (λ (xs : List Op). operations commits ++ xs) (append-nil ops)

more_in : (commits : Commits) (ops : List Op) (column : ℕ) → contents_of (commits ++ ops ∷ []) column ≡ column_from column (contents_of commits column) ops
more_in commits ops column =
    ap (λ (xs : List Op). column_from column (λ (key : List ℕ). None) xs) (operations_more commits ops) ∙ from_both column (λ (key : List ℕ). None) (operations commits) ops

pub contents_more : (commits : Commits) (ops : List Op) → ◌≡◌ {A = ℕ → ColumnMap} (contents_of (commits ++ ops ∷ [])) (λ column. column_from column (contents_of commits column) ops)
contents_more commits ops = λ i. λ column. more_in commits ops column i

-- what stands after some items, and at the end
pub at_seam : {X : Type 0} (xs ys : List X) (x : X) → slice_get (xs ++ x ∷ ys) (length xs) ≡ Some x
at_seam xs ys x =
    let long = length-append xs (x ∷ ys) in
    let within : length xs < length (xs ++ x ∷ ys) = omega (arith, long) in
    slice_get-get_or (xs ++ x ∷ ys) (length xs) x within ∙ ap Some (get_or-append_seam xs x ys x)

pub at_end : {X : Type 0} (xs : List X) (x : X) → slice_get (xs ++ x ∷ []) (length (xs ++ x ∷ []) - 1) ≡ Some x
at_end xs x = let long = length-append xs (x ∷ []) in ap (slice_get (xs ++ x ∷ [])) (omega (arith, long)) ∙ at_seam xs [] x
