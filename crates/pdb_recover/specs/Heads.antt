-- Head cells of columns whose index doesn't grow.
use Rattle.std.specs.Prelude.{◌≡◌, ◌<◌, ℕ, List}
use Rattle.pdb_cells.specs.Content.{Content}
use Rattle.pdb_model.specs.Files.{head_cell}
use Rattle.pdb_model.specs.Heads.{Head, IsHead, SpellsHead}

-- a head cell that keeps the rules, with the bits of its base, so that its index doesn't grow
abbrev pub IsSteadyHead : List ℕ → Type 0
IsSteadyHead cell = (h : Head) × SpellsHead cell h × IsHead h × (h.bits ≡ h.base)

-- the head cells of the columns below this one are such
abbrev pub AreSteadyHeads : Content → ℕ → Type 0
AreSteadyHeads cells n = (column : ℕ) → column < n → IsSteadyHead (head_cell cells column)
