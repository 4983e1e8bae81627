-- What a sink has got.
use Rattle.std.specs.Prelude.{◌≡◌, ◌⊎◌, ℕ, List, [], ◌∷◌, ◌++◌, take, Option, Some}
use Rattle.std.specs.List.{concat}

-- what can be observed of it
pub record Output : Type 0 where
  -- the bytes, one after another
  pub bytes : Option (List ℕ)
  -- the same in pieces, one for each call that gave some
  pub pieces : Option (List (List ℕ))

-- what was observable is observable, and has grown by these items
abbrev pub Grows : {X : Type 0} → Option (List X) → Option (List X) → List X → Type 0
Grows {X} old new more = (before : List X) → old ≡ Some before → new ≡ Some (before ++ more)

-- the sink got these pieces, each by one call
pub record Gets (old new : Output) (more : List (List ℕ)) : Type 0 where
  pub bytes : Grows old.bytes new.bytes (concat more)
  pub pieces : Grows old.pieces new.pieces more

-- the sink got these pieces whole, and of one more nothing or a prefix
abbrev pub GetsPrefix : Output → Output → List (List ℕ) → List ℕ → Type 0
GetsPrefix old new pieces last = Gets old new pieces ⊎ ((n : ℕ) × Gets old new (pieces ++ take n last ∷ []))
