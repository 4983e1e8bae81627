-- Operations of commits after others, and where something holds of one of some items.
use Rattle.std.proofs.Common.{◌≡◌, suc, List, [], ◌∷◌, ◌++◌, subst, ◌∙◌, arith, length-append}
use Rattle.std.specs.Prelude.{All, Any}
use Rattle.std.proofs.lemmas.Grind.{flat_map-append}
use Rattle.std.proofs.lemmas.List.{get_or_append_left}
use Rattle.sdb_base.specs.Keeping.{Commits, operations}
use Rattle.sdb_base.specs.declared.op.Op.{Op}

-- the operations of more commits
pub operations-append : (g h : Commits) → operations (g ++ h) ≡ operations g ++ operations h
operations-append g h = flat_map-append (λ (ops : List Op). ops) g h

pub any_later : {X : Type 0} (P : X → Type 0) (x : X) (xs : List X) → Any P xs → Any P (x ∷ xs)
any_later P x xs h = (suc h.0, h.1, omega arith, h.3, h.4)

pub any_append_right : {X : Type 0} (P : X → Type 0) (xs ys : List X) → Any P ys → Any P (xs ++ ys)
any_append_right P [] ys h = h
any_append_right P (x ∷ xs) ys h = any_later P x (xs ++ ys) (any_append_right P xs ys h)

pub any_append_left : {X : Type 0} (P : X → Type 0) (xs ys : List X) → Any P xs → Any P (xs ++ ys)
any_append_left P xs ys h = (h.0, h.1, (let l = length-append xs ys in let lt = h.2 in omega (arith, l, lt)), get_or_append_left xs ys h.1 h.0 h.2 ∙ h.3, h.4)

pub all_front : {X : Type 0} (P : X → Type 0) (xs ys : List X) → All P (xs ++ ys) → All P xs
all_front P xs ys all = λ k d lt. subst P (get_or_append_left xs ys d k lt) (all k d (let l = length-append xs ys in omega (arith, l, lt)))
