-- Room that is made before anything moves.
use Rattle.std.specs.Prelude.{◌≤◌, ℕ, Option, Some, None, Vec, vec_capacity}

-- a vector has room for so many items, or a larger one has it
abbrev pub HasRoom : {X Z : Type 0} → Vec X Z → ℕ → Option (Vec X Z) → Type 0
HasRoom items most None = most ≤ vec_capacity items
HasRoom items most (Some larger) = most ≤ vec_capacity larger
