-- The chain of the newest block and of the blocks after it in the list, with their numbers and states.
use Rattle.std.proofs.Common.{◌≡◌, ℕ, ◌+◌, ◌-◌, ◌<◌, Bool, true, false, cond, List, [], ◌∷◌, ◌++◌, length, Option, Some, None, refl, ap, ap₂, ◌∙◌, arith, append-nil, length-append}
use Rattle.std.specs.List.{flat_map}
use Rattle.std.specs.Option.{option_map}
use Rattle.std.proofs.lemmas.Option.{none-some, same_Some}
use Rattle.std.proofs.lemmas.List.Concat.{flat_map-append}
use Rattle.std.proofs.lemmas.Cmp.{nat_list_eq_equiv}
use Rattle.sdb_base.specs.declared.Block.{Block}
use Rattle.sdb_base.specs.declared.BlockId.{BlockId}
use Rattle.sdb_base.specs.declared.Change.{Change}
use Rattle.sdb_model.specs.State.{State, apply, no_keys}
use Rattle.sdb_model.specs.Blocks.{chain_of, number_of, same_id, state_of}
use Rattle.trie_model.proofs.States.{apply-append}

pub same_id-refl : (id : BlockId) → same_id id id ≡ true
same_id-refl id = nat_list_eq_equiv.refl id.0

-- what is mapped to a value was there
pub option_map_some : {A B : Type 0} (f : A → B) (o : Option A) (y : B) → option_map f o ≡ Some y → (x : A) × (o ≡ Some x) × (f x ≡ y)
option_map_some f None y e = absurd (none-some y e)
option_map_some f (Some x) y e = (x, refl, same_Some (f x) y e)

-- the newest block's chain is its parent's with the block at its end, and no other block's chain has the newest one
pub chain-first : (b c : Block) (older : List Block) (id : BlockId) → same_id b.id id ≡ true
    → chain_of (b ∷ (c ∷ older)) id ≡ option_map (λ chain. chain ++ b ∷ []) (chain_of (c ∷ older) b.parent)
unfolding chain_of
chain-first b c older id e = ap (λ t. cond t (option_map (λ chain. chain ++ b ∷ []) (chain_of (c ∷ older) b.parent)) (chain_of (c ∷ older) id)) e

pub chain-later : (b c : Block) (older : List Block) (id : BlockId) → same_id b.id id ≡ false
    → chain_of (b ∷ (c ∷ older)) id ≡ chain_of (c ∷ older) id
unfolding chain_of
chain-later b c older id e = ap (λ t. cond t (option_map (λ chain. chain ++ b ∷ []) (chain_of (c ∷ older) b.parent)) (chain_of (c ∷ older) id)) e

pub chain-none : (id : BlockId) → chain_of [] id ≡ None
unfolding chain_of
chain-none id = refl

pub chain-genesis : (b : Block) (id : BlockId) → chain_of (b ∷ []) id ≡ cond (same_id b.id id) (Some (b ∷ [])) None
unfolding chain_of
chain-genesis b id = refl

-- no chain is empty
genesis_alone : (t : Bool) (b : Block) (chain : List Block) → cond t (Some (b ∷ [])) None ≡ Some chain → 0 < length chain
genesis_alone true b chain e = omega (arith, ap length (same_Some (b ∷ []) chain e))
genesis_alone false b chain e = absurd (none-some chain e)

one_more : (t : Bool) (b : Block) (o p : Option (List Block)) (chain : List Block) → (p ≡ Some chain → 0 < length chain)
    → cond t (option_map (λ before. before ++ b ∷ []) o) p ≡ Some chain → 0 < length chain
one_more true b None p chain h e = absurd (none-some chain e)
one_more true b (Some before) p chain h e = omega (arith, ap length (same_Some (before ++ b ∷ []) chain e), length-append before (b ∷ []))
one_more false b o p chain h e = h e

pub chain-positive : (blocks : List Block) (id : BlockId) (chain : List Block) → chain_of blocks id ≡ Some chain → 0 < length chain
unfolding chain_of
chain-positive [] id chain e = absurd (none-some chain e)
chain-positive (b ∷ []) id chain e = genesis_alone (same_id b.id id) b chain e
chain-positive (b ∷ (c ∷ older)) id chain e =
    one_more (same_id b.id id) b (chain_of (c ∷ older) b.parent) (chain_of (c ∷ older) id) chain (chain-positive (c ∷ older) id chain) e

-- numbers and states of the newest block
pub number-first : (b c : Block) (older : List Block) (n : ℕ) → number_of (c ∷ older) b.parent ≡ Some n
    → (id : BlockId) → same_id b.id id ≡ true → number_of (b ∷ (c ∷ older)) id ≡ Some (n + 1)
number-first b c older n e id same =
    let at = option_map_some (λ (chain : List Block). length chain - 1) (chain_of (c ∷ older) b.parent) n e in
    let some : 0 < length at.0 = chain-positive (c ∷ older) b.parent at.0 at.1 in
    let less : length at.0 - 1 ≡ n = at.2 in
    let more : length (at.0 ++ b ∷ []) ≡ length at.0 + 1 = length-append at.0 (b ∷ []) in
    ap (option_map (λ (chain : List Block). length chain - 1)) (chain-first b c older id same ∙ ap (option_map (λ chain. chain ++ b ∷ [])) at.1)
    ∙ ap Some (omega arith)

pub state-first : (b c : Block) (older : List Block) (m : State) → state_of (c ∷ older) b.parent ≡ Some m
    → (id : BlockId) → same_id b.id id ≡ true → state_of (b ∷ (c ∷ older)) id ≡ Some (apply m b.changes)
state-first b c older m e id same =
    let changes : Block → List Change = λ b. b.changes in
    let at = option_map_some (λ (chain : List Block). apply no_keys (flat_map (λ (b : Block). b.changes) chain)) (chain_of (c ∷ older) b.parent) m e in
    ap (option_map (λ (chain : List Block). apply no_keys (flat_map (λ (b : Block). b.changes) chain))) (chain-first b c older id same ∙ ap (option_map (λ chain. chain ++ b ∷ [])) at.1)
    ∙ ap (λ cs. Some (apply no_keys cs)) (flat_map-append changes at.0 (b ∷ []))
    ∙ ap Some (apply-append no_keys (flat_map changes at.0) (b.changes ++ []))
    ∙ ap₂ (λ s cs. Some (apply s cs)) at.2 (append-nil b.changes)

pub number-later : (b c : Block) (older : List Block) (id : BlockId) → same_id b.id id ≡ false → number_of (b ∷ (c ∷ older)) id ≡ number_of (c ∷ older) id
number-later b c older id other = ap (option_map (λ (chain : List Block). length chain - 1)) (chain-later b c older id other)

pub state-later : (b c : Block) (older : List Block) (id : BlockId) → same_id b.id id ≡ false → state_of (b ∷ (c ∷ older)) id ≡ state_of (c ∷ older) id
state-later b c older id other = ap (option_map (λ (chain : List Block). apply no_keys (flat_map (λ (b : Block). b.changes) chain))) (chain-later b c older id other)

genesis_mapped : {A : Type 0} (f : List Block → A) (t : Bool) (b : Block) → option_map f (cond t (Some (b ∷ [])) None) ≡ cond t (Some (f (b ∷ []))) None
genesis_mapped f true b = refl
genesis_mapped f false b = refl

pub number-genesis : (b : Block) (id : BlockId) → number_of (b ∷ []) id ≡ cond (same_id b.id id) (Some 0) None
number-genesis b id = ap (option_map (λ (chain : List Block). length chain - 1)) (chain-genesis b id) ∙ genesis_mapped (λ (chain : List Block). length chain - 1) (same_id b.id id) b

pub state-genesis : (b : Block) (id : BlockId) → state_of (b ∷ []) id ≡ cond (same_id b.id id) (Some (apply no_keys b.changes)) None
state-genesis b id =
    ap (option_map (λ (chain : List Block). apply no_keys (flat_map (λ (b : Block). b.changes) chain))) (chain-genesis b id)
    ∙ genesis_mapped (λ (chain : List Block). apply no_keys (flat_map (λ (b : Block). b.changes) chain)) (same_id b.id id) b
    ∙ ap (λ cs. cond (same_id b.id id) (Some (apply no_keys cs)) None) (append-nil b.changes)
