-- What is read of a head cell, and what is written to it.
use Rattle.std.specs.Prelude.{◌≡◌, ℕ, ◌+◌, ◌^◌, ◌<◌, ◌≤◌, List, ◌++◌, take, drop}
use Rattle.std.specs.Int.{w32, from_le_bytes}
use Rattle.pdb_model.specs.Heads.{Ends, ends_at, ends_bytes, ends_place}

-- the ends of a tier that a head cell says
abbrev pub ends_said : ℕ → List ℕ → Ends
ends_said tier head = record {
  free = from_le_bytes w32 (take 4 (ends_at tier head));
  end = from_le_bytes w32 (take 4 (drop 4 (ends_at tier head)));
}

-- a tier's ends in a head cell that keep their rule
pub record KeepsEnds (head : List ℕ) (tier : ℕ) : Type 0 where
  pub spelled : ends_at tier head ≡ ends_bytes (ends_said tier head)
  pub free : (ends_said tier head).free ≤ (ends_said tier head).end
  pub narrow : (ends_said tier head).end < 2 ^ 32

-- the bits that keep the rules of a head
pub record AreBits (base bits growing : ℕ) : Type 0 where
  pub base_low : base ≤ 16
  pub from_base : base ≤ bits
  pub to_most : bits ≤ base + 14
  pub growing_low : growing ≤ 1
  pub doubled : growing ≡ 1 → base < bits

-- the head cell with other ends of a tier
abbrev pub with_ends : ℕ → List ℕ → Ends → List ℕ
with_ends tier head e = take (ends_place tier) head ++ (ends_bytes e ++ drop (ends_place tier + 8) head)
