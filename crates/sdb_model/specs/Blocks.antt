-- Accepted blocks, their chains, numbers and states. Blocks are listed newest first: the last of the list is
-- genesis, and the parent of each other block comes later in the list.
use Rattle.std.specs.Prelude.{ℕ, ◌-◌, ◌==◌, Bool, false, ◌≡◌, List, [], ◌∷◌, ◌++◌, length, count_by, if◌then◌else◌, Option, Some, None, IsSome}
use Rattle.std.specs.List.{flat_map}
use Rattle.std.specs.Option.{option_map, option_map_or}
use Rattle.std.specs.Str.{bytes_eq}
use Rattle.sdb_base.specs.declared.Block.{Block}
use Rattle.sdb_base.specs.declared.BlockId.{BlockId}
use Rattle.sdb_model.specs.State.{State, apply, no_keys}

abbrev pub same_id : BlockId → BlockId → Bool
same_id a b = bytes_eq a.0 b.0

-- the chain of a block, from genesis to the block itself; none where no block has the id
unfoldable pub chain_of : List Block → BlockId → Option (List Block)
chain_of [] id = None
chain_of (b ∷ []) id = if same_id b.id id then Some (b ∷ []) else None
chain_of (b ∷ (c ∷ older)) id =
    if same_id b.id id then option_map (λ chain. chain ++ b ∷ []) (chain_of (c ∷ older) b.parent)
    else chain_of (c ∷ older) id

-- the number of a block: how many blocks of its chain come before it
abbrev pub number_of : List Block → BlockId → Option ℕ
number_of blocks id = option_map (λ chain. length chain - 1) (chain_of blocks id)

-- the state of a block: the fold of the key changes from genesis along its chain
abbrev pub state_of : List Block → BlockId → Option State
state_of blocks id = option_map (λ chain. apply no_keys (flat_map (λ (b : Block). b.changes) chain)) (chain_of blocks id)

-- how many blocks have a number
abbrev pub count_at : List Block → ℕ → ℕ
count_at blocks n = count_by (λ (b : Block). option_map_or (λ k. k == n) (number_of blocks b.id) false) blocks

-- such lists alone come to be: ids differ, and the parent of each block but genesis comes later in the list
abbrev pub AreBlocks : List Block → Type 0
AreBlocks [] = Unit {0}
AreBlocks (b ∷ []) = Unit {0}
AreBlocks (b ∷ (c ∷ older)) =
    (chain_of (c ∷ older) b.id ≡ None) × IsSome (chain_of (c ∷ older) b.parent) × AreBlocks (c ∷ older)
