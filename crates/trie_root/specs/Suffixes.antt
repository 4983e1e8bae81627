-- Suffixes and entries within their limits, and by their first nibbles.
use Rattle.std.specs.Prelude.{◌≡◌, ℕ, ◌<◌, ◌≤◌, List, ◌∷◌, length, All}
use Rattle.trie_model.specs.Limits.{AreWithin, most_in_value}
use Rattle.trie_model.specs.Trie.{Suffix}

-- a suffix of a key that is not too long, and a value that is not too long
pub record IsSuffix (s : Suffix) : Type 0 where
  pub nibbles : All (λ n. n < 16) s.0
  pub few : length s.0 ≤ 2048
  pub bytes : All (λ b. b < 256) s.1
  pub short : length s.1 ≤ most_in_value

-- a key and its value within their limits
pub record IsEntry (e : List ℕ × List ℕ) : Type 0 where
  pub within : AreWithin e.0 e.1
  pub key : All (λ b. b < 256) e.0
  pub value : All (λ b. b < 256) e.1

-- a suffix that begins with the nibble
abbrev pub HasFirst : ℕ → Suffix → Type 0
HasFirst nibble s = (rest : List ℕ) × (s.0 ≡ nibble ∷ rest)

-- a suffix that doesn't
abbrev pub IsWithout : ℕ → Suffix → Type 0
IsWithout nibble s = HasFirst nibble s → ⊥
