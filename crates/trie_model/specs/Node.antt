-- Trie nodes and their spelling (Polkadot Host specification, node values and node headers of the state trie,
-- state version 0).
use Rattle.std.specs.Prelude.{◌≡◌, ◌⊎◌, ℕ, zero, suc, ◌+◌, ◌-◌, ◌*◌, ◌/◌, ◌%◌, ◌^◌, ◌<◌, ◌≤◌, nat_lt, Bool, true, false, List, [], ◌∷◌, ◌++◌, length, replicate, count_by, if◌then◌else◌, Option, Some, None, is_some, IfSome, All}
use Rattle.std.specs.Int.{w16, to_le_bytes}
use Rattle.std.specs.List.{flat_map, list_any}
use Rattle.sdb_blake2.specs.Blake2b.{H}
use Rattle.sdb_scale.specs.Compact.{string}
use Rattle.trie_model.specs.Nibbles.{packed}

-- a node's parts: its partial key in nibbles, its value, and for each next nibble the Merkle value of the child
-- that hangs there
pub record Node : Type 0 where
  pub partial : List ℕ
  pub value : Option (List ℕ)
  pub children : List (Option (List ℕ))

-- the node of the empty trie
abbrev pub empty_node : Node
empty_node = record { partial = []; value = None; children = replicate 16 None }

-- the header: the kind in the top two bits, and the number of nibbles of the partial key in the low six, or all ones
-- there and the rest in bytes that each add up to 255, of which the first below 255 is the last
abbrev pub header : ℕ → ℕ → List ℕ
header kind n =
    if nat_lt n 63 then (64 * kind + n) ∷ []
    else (64 * kind + 63) ∷ (replicate ((n - 63) / 255) 255 ++ ((n - 63) % 255) ∷ [])

-- bit i is set where there is a child i
abbrev pub bitmap : List (Option (List ℕ)) → ℕ
bitmap [] = 0
bitmap (c ∷ cs) = (if is_some c then 1 else 0) + 2 * bitmap cs

-- a part that need not be there, as a byte string
abbrev pub optional_string : Option (List ℕ) → List ℕ
optional_string None = []
optional_string (Some s) = string s

abbrev pub has_child : List (Option (List ℕ)) → Bool
has_child children = list_any is_some children

-- the kinds: 1 is a leaf, 2 a branch without a value, 3 a branch with one
abbrev pub branch_kind : Option (List ℕ) → ℕ
branch_kind None = 2
branch_kind (Some v) = 3

-- the spelling, by whether there is a child and a value
abbrev pub spelled : Bool → Option (List ℕ) → Node → List ℕ
spelled false None n = 0 ∷ []
spelled false (Some v) n = header 1 (length n.partial) ++ (packed n.partial ++ string v)
spelled true value n =
    header (branch_kind value) (length n.partial) ++ (packed n.partial
    ++ (to_le_bytes w16 (bitmap n.children) ++ (optional_string value ++ flat_map optional_string n.children)))

-- a node's spelling
unfoldable pub spelling : Node → List ℕ
spelling n = spelled (has_child n.children) n.value n

-- the Merkle value of a spelling: itself where it has fewer than 32 bytes, else its hash
unfoldable pub merkle_value : List ℕ → List ℕ
merkle_value bytes = if nat_lt (length bytes) 32 then bytes else H bytes

-- ---- which parts make a node

-- a partial key of nibbles, not too many
pub record IsPartial (ns : List ℕ) : Type 0 where
  pub nibbles : All (λ n. n < 16) ns
  pub short : length ns ≤ 2048

-- what a child's Merkle value may be, where P says which nodes it may spell: a hash, or the spelling of a leaf or branch
abbrev pub IsChild : (Node → Type 0) → Option (List ℕ) → Type 0
IsChild P None = Unit {0}
IsChild P (Some c) = (length c ≡ 32) ⊎ ((length c < 32) × (n : Node) × P n × (c ≡ spelling n) × (spelling n ≡ 0 ∷ [] → ⊥))

-- a leaf has a value; a branch has two children at least, or one and a value; the node of the empty trie has no parts
abbrev pub IsShaped : Node → Type 0
IsShaped n = (n ≡ empty_node) ⊎ ((1 ≤ count_by is_some n.children + (if is_some n.value then 1 else 0))
    × (has_child n.children ≡ true → 2 ≤ count_by is_some n.children + (if is_some n.value then 1 else 0)))

-- not too many for a compact length
abbrev pub HasCompactLength : List ℕ → Type 0
HasCompactLength bytes = length bytes < 2 ^ 30

-- bytes, not too many for a compact length
abbrev pub IsText : Option (List ℕ) → Type 0
IsText None = Unit {0}
IsText (Some bytes) = HasCompactLength bytes × All (λ b. b < 256) bytes

-- Parts that can be spelled: nibbles that are not too many, texts that are not too long for a compact length, and a
-- place for each of the sixteen children.
pub record IsSpellable (n : Node) : Type 0 where
  pub partial : IsPartial n.partial
  pub value : IfSome n.value HasCompactLength
  pub sixteen : length n.children ≡ 16
  pub children : All (λ c. IfSome c HasCompactLength) n.children

-- the parts of a node, where P says of which nodes an inline child may be the spelling
pub record AreParts (P : Node → Type 0) (n : Node) : Type 0 where
  pub partial : IsPartial n.partial
  pub value : IsText n.value
  pub sixteen : length n.children ≡ 16
  pub texts : All IsText n.children
  pub children : All (IsChild P) n.children
  pub shaped : IsShaped n

-- the parts of a node with inline children at most so many levels deep
unfoldable pub IsNodeWithin : ℕ → Node → Type 0
IsNodeWithin zero n = ⊥
IsNodeWithin (suc depth) n = AreParts (IsNodeWithin depth) n

-- The parts of a node. An inline child has fewer than 32 bytes and holds its own children in them, so that more levels
-- than 32 don't fit.
abbrev pub IsNode : Node → Type 0
IsNode n = IsNodeWithin 33 n
