-- What a sink gets, one thing after another.
use Rattle.std.proofs.Common.{ℕ, List, [], ◌∷◌, ◌++◌, take, ap, ◌∙◌, inl, inr, Option, Some, append_assoc, append-nil}
use Rattle.std.specs.List.{concat}
use Rattle.std.proofs.lemmas.List.Folds.{concat-append}
use Rattle.sdb_io.specs.Output.{Gets, GetsPrefix, Grows, Output}

grows_then : {X : Type 0} (a b c : Option (List X)) (xs ys : List X) → Grows a b xs → Grows b c ys → Grows a c (xs ++ ys)
grows_then {X} a b c xs ys g h = λ before told. h (before ++ xs) (g before told) ∙ ap (λ (t : List X). Some t) (append_assoc before xs ys)

pub gets_then : (a b c : Output) (xs ys : List (List ℕ)) → Gets a b xs → Gets b c ys → Gets a c (xs ++ ys)
gets_then a b c xs ys g h = record {
  bytes = rw (concat-append xs ys) (grows_then a.bytes b.bytes c.bytes (concat xs) (concat ys) g.bytes h.bytes);
  pieces = grows_then a.pieces b.pieces c.pieces xs ys g.pieces h.pieces;
}

pub prefix_then : (a b c : Output) (xs ys : List (List ℕ)) (last : List ℕ) → Gets a b xs → GetsPrefix b c ys last → GetsPrefix a c (xs ++ ys) last
prefix_then a b c xs ys last g h = elim h [
  | inl whole ↦ inl (gets_then a b c xs ys g whole)
  | inr cut ↦ inr (cut.0, rw (append_assoc xs ys (take cut.0 last ∷ [])) (gets_then a b c xs (ys ++ take cut.0 last ∷ []) g cut.1))
]

pub gets_nothing : (a : Output) → Gets a a []
gets_nothing a = record {
  bytes = λ before told. rw (append-nil before) told;
  pieces = λ before told. rw (append-nil before) told;
}
