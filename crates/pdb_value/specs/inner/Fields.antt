-- The first fields of slots, and what follows them.
use Rattle.std.specs.Prelude.{ℕ, List, ◌∷◌, ◌++◌}
use Rattle.std.specs.Int.{w16, w32, w64, to_le_bytes}

-- of a value's first slot: its kind, how many bytes of the value stand there, the count
unfoldable pub counted_bytes : ℕ → ℕ → ℕ → List ℕ → List ℕ
counted_bytes kind len count rest = kind ∷ (0 ∷ (to_le_bytes w16 len ++ (to_le_bytes w64 count ++ rest)))

-- of a further part and of a free slot: its kind, how many bytes stand there, the next slot
unfoldable pub linked_bytes : ℕ → ℕ → ℕ → List ℕ → List ℕ
linked_bytes kind len next rest = kind ∷ (0 ∷ (to_le_bytes w16 len ++ (to_le_bytes w32 next ++ rest)))
