-- What a block that is accepted adds: an id of its own, a number, a state, and one to the count of its number.
use Rattle.std.proofs.Common.{◌≡◌, ℕ, ◌+◌, ◌-◌, ◌==◌, Bool, true, false, cond, List, [], ◌∷◌, ◌++◌, length, Option, Some, None, IsSome, is_some, refl, sym, ap, ap₂, ◌∙◌, arith}
use Rattle.std.specs.List.{AllByRecursion, count_by, flat_map}
use Rattle.std.specs.Option.{option_map, option_map_or}
use Rattle.std.proofs.lemmas.Option.{none-some}
use Rattle.std.proofs.lemmas.List.Sums.{sum_by-cons}
use Rattle.std.proofs.lemmas.Cmp.{nat_list_eq_equiv}
use Rattle.sdb_base.specs.declared.Block.{Block}
use Rattle.sdb_base.specs.declared.BlockId.{BlockId}
use Rattle.sdb_model.specs.State.{State, apply, no_keys}
use Rattle.sdb_model.specs.Blocks.{AreBlocks, chain_of, count_at, number_of, same_id, state_of}
use Rattle.sdb_model.proofs.Chains.{chain-none, number-first, number-genesis, number-later, same_id-refl, state-first, state-genesis, state-later}

-- a block on top of older ones has this number and this state, and changes no other block's
pub record IsAdded (older : List Block) (b : Block) (n : ℕ) (m : State) : Type 0 where
  pub tree : AreBlocks (b ∷ older)
  pub numbers : (id : BlockId) → number_of (b ∷ older) id ≡ cond (same_id b.id id) (Some n) (number_of older id)
  pub states : (id : BlockId) → state_of (b ∷ older) id ≡ cond (same_id b.id id) (Some m) (state_of older id)
  pub counts : (k : ℕ) → count_at (b ∷ older) k ≡ cond (n == k) 1 0 + count_at older k

by_test : {A : Type 0} (t : Bool) (x y z : A) → (t ≡ true → x ≡ y) → (t ≡ false → x ≡ z) → x ≡ cond t y z
by_test true x y z here there = here refl
by_test false x y z here there = there refl

pub is_some-option_map : {A B : Type 0} (f : A → B) (o : Option A) → is_some (option_map f o) ≡ is_some o
is_some-option_map f None = refl
is_some-option_map f (Some x) = refl

-- an id that no block has differs from each block's
apart_from_one : (t : Bool) (x : List Block) → cond t (Some x) None ≡ None → t ≡ false
apart_from_one true x e = absurd (none-some x (sym e))
apart_from_one false x e = refl

apart_from_first : (t : Bool) (f : List Block → List Block) (o p : Option (List Block)) → IsSome o → cond t (option_map f o) p ≡ None → (t ≡ false) × (p ≡ None)
apart_from_first true f None p some e = cc
apart_from_first true f (Some x) p some e = absurd (none-some (f x) (sym e))
apart_from_first false f o p some e = (refl, e)

pub ids_apart : (blocks : List Block) (id : BlockId) → AreBlocks blocks → chain_of blocks id ≡ None
    → AllByRecursion (λ (b : Block). same_id id b.id ≡ false) blocks
unfolding chain_of
ids_apart [] id tree e = tt
ids_apart (b ∷ []) id tree e = (nat_list_eq_equiv.symm id.0 b.id.0 ∙ apart_from_one (same_id b.id id) (b ∷ []) e, tt)
ids_apart (b ∷ (c ∷ older)) id tree e =
    let both = apart_from_first (same_id b.id id) (λ chain. chain ++ b ∷ []) (chain_of (c ∷ older) b.parent) (chain_of (c ∷ older) id) tree.1 e in
    (nat_list_eq_equiv.symm id.0 b.id.0 ∙ both.0, ids_apart (c ∷ older) id tree.2 both.1)

abbrev state_in : List Block → State
state_in chain = apply no_keys (flat_map (λ (b : Block). b.changes) chain)

-- whether a block has the number among these
abbrev has_number : List Block → ℕ → Block → Bool
has_number blocks n b = option_map_or (λ k. k == n) (number_of blocks b.id) false

counts_stay : (b c : Block) (older : List Block) (k : ℕ) (xs : List Block) → AllByRecursion (λ (x : Block). same_id b.id x.id ≡ false) xs
    → count_by (has_number (b ∷ (c ∷ older)) k) xs ≡ count_by (has_number (c ∷ older) k) xs
counts_stay b c older k [] apart = refl
counts_stay b c older k (x ∷ xs) apart =
    sum_by-cons (λ x. cond (has_number (b ∷ (c ∷ older)) k x) 1 0) x xs
    ∙ ap₂ (λ o i. cond (option_map_or (λ j. j == k) o false) 1 0 + i) (number-later b c older x.id apart.0) (counts_stay b c older k xs apart.1)
    ∙ sym (sum_by-cons (λ x. cond (has_number (c ∷ older) k x) 1 0) x xs)

pub added_genesis : (b : Block) → IsAdded [] b 0 (apply no_keys b.changes)
added_genesis b = record {
  tree = tt;
  numbers = λ id. number-genesis b id ∙ ap (λ o. cond (same_id b.id id) (Some 0) (option_map (λ chain. length chain - 1) o)) (sym (chain-none id));
  states = λ id. state-genesis b id ∙ ap (λ o. cond (same_id b.id id) (Some (apply no_keys b.changes)) (option_map state_in o)) (sym (chain-none id));
  counts = λ k. let first = ap {B = ℕ} (λ o. cond (option_map_or (λ j. j == k) o false) 1 0) (number-genesis b b.id ∙ ap (λ t. cond t (Some 0) None) (same_id-refl b.id)) in omega (arith, first);
}

pub added_above : (b c : Block) (older : List Block) (n : ℕ) (m : State) → AreBlocks (c ∷ older) → chain_of (c ∷ older) b.id ≡ None
    → number_of (c ∷ older) b.parent ≡ Some n → state_of (c ∷ older) b.parent ≡ Some m → IsAdded (c ∷ older) b (n + 1) (apply m b.changes)
added_above b c older n m tree new number state = record {
  tree = (new, (sym (is_some-option_map (λ (chain : List Block). length chain - 1) (chain_of (c ∷ older) b.parent)) ∙ ap is_some number), tree);
  numbers = λ id. by_test (same_id b.id id) _ _ _ (number-first b c older n number id) (number-later b c older id);
  states = λ id. by_test (same_id b.id id) _ _ _ (state-first b c older m state id) (state-later b c older id);
  counts = λ k.
      sum_by-cons (λ x. cond (has_number (b ∷ (c ∷ older)) k x) 1 0) b (c ∷ older)
      ∙ ap₂ (λ o i. cond (option_map_or (λ j. j == k) o false) 1 0 + i) (number-first b c older n number b.id (same_id-refl b.id))
      (counts_stay b c older k (c ∷ older) (ids_apart (c ∷ older) b.id tree new));
}

-- a block on a parent that is among the older ones
pub added_on : (b : Block) (older : List Block) (n : ℕ) (m : State) → AreBlocks older → chain_of older b.id ≡ None
    → number_of older b.parent ≡ Some n → state_of older b.parent ≡ Some m → IsAdded older b (n + 1) (apply m b.changes)
added_on b [] n m tree new number state = absurd (none-some n (ap (option_map (λ (chain : List Block). length chain - 1)) (sym (chain-none b.parent)) ∙ number))
added_on b (c ∷ older) n m tree new number state = added_above b c older n m tree new number state

-- the newest block has a number
some_value : {A : Type 0} (o : Option A) → IsSome o → (x : A) × (o ≡ Some x)
some_value None some = cc
some_value (Some x) some = (x, refl)

pub newest_has_number : (b : Block) (older : List Block) → AreBlocks (b ∷ older) → (n : ℕ) × (number_of (b ∷ older) b.id ≡ Some n)
newest_has_number b [] tree = (0, number-genesis b b.id ∙ ap (λ t. cond t (Some 0) None) (same_id-refl b.id))
newest_has_number b (c ∷ older) tree =
    let above = some_value (number_of (c ∷ older) b.parent) (is_some-option_map (λ (chain : List Block). length chain - 1) (chain_of (c ∷ older) b.parent) ∙ tree.1) in
    (above.0 + 1, number-first b c older above.0 above.1 b.id (same_id-refl b.id))
