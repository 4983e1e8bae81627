-- A job goes on after items were moved.
use Rattle.std.proofs.Common.{◌≡◌, ℕ, suc, Bool, true, false, eqb, List, [], ◌∷◌, length, reverse, Option, Some, None, refl, ap, sym, ◌∙◌, arith}
use Rattle.std.specs.Prelude.{is_some}
use Rattle.std.specs.List.{AllByRecursion}
use Rattle.sdb_base.specs.declared.Change.{Change}
use Rattle.trie_model.specs.Nodes.{PathNode}
use Rattle.trie_model.specs.State.{State}
use Rattle.trie_change.specs.declared.frontier.Fed.{Fed}
use Rattle.trie_change.specs.Item.{Item}
use Rattle.trie_change.specs.declared.frontier.Stub.{Stub}
use Rattle.trie_change.specs.declared.settings.Setting.{Setting}
use Rattle.trie_change.specs.inner.InOrder.{IsOff, in_place}
use Rattle.trie_change.specs.inner.Merged.{IsMerged}
use Rattle.trie_change.specs.inner.Stages.{IsCarriedOut, IsOnTheWay, IsUnderWay}
use Rattle.trie_change.proofs.StageMoves.{carried, is_on_the_way, moved_there}

pub no_settings : {X : Type 0} (xs : List X) (n : ℕ) (b : Bool) → n ≡ length xs → b ≡ eqb n 0 → b ≡ true → xs ≡ []
no_settings [] n b e f g = refl
no_settings (x ∷ xs) n b e f g = let zero_ : eqb n 0 ≡ true = sym f ∙ g in absurd (not_zero n (length xs) e zero_)
  where
    not_zero : (n k : ℕ) → n ≡ suc k → eqb n 0 ≡ true → ⊥
    not_zero n k e t = grind arith

pub some_settings : {X : Type 0} (xs : List X) (n : ℕ) (b : Bool) → n ≡ length xs → b ≡ eqb n 0 → b ≡ false → xs ≡ [] → ⊥
some_settings xs n b e f g none = is_zero n (e ∙ ap length none) (sym f ∙ g)
  where
    is_zero : (n : ℕ) → n ≡ 0 → eqb n 0 ≡ false → ⊥
    is_zero n e t = grind arith

pub none_left : (o : Option Stub) (b : Bool) → b ≡ is_some o → b ≡ false → o ≡ None
none_left None b e f = refl
none_left (Some s) b e f = let no : true ≡ false = sym e ∙ f in absurd cc

-- all of the way is gone, and what is set is carried out
pub after_set : (settings : List Setting) (fed : List Fed) (found later found2 later2 later3 : List Item) (next : Option Stub) (m : State) (changes : List Change) (todo : List PathNode)
    → (settings ≡ [] → ⊥) → IsUnderWay settings (record { settings = settings; fed = fed; wanted = None; found = found; later = later }) m changes todo
    → in_place found2 next later2 ≡ in_place found None later → (AllByRecursion (IsOff settings) found → AllByRecursion (IsOff settings) found2) → next ≡ None → later2 ≡ []
    → IsMerged (reverse found2) (reverse settings) later3
    → IsCarriedOut (record { settings = []; fed = fed; wanted = None; found = []; later = later3 }) m changes todo
after_set settings fed found later found2 later2 later3 next m changes todo some u same off none nothing merged =
    let w : IsOnTheWay (record { settings = settings; fed = fed; wanted = None; found = found; later = later }) m changes todo =
    is_on_the_way settings (record { settings = settings; fed = fed; wanted = None; found = found; later = later }) m changes todo some u in
    carried settings fed found2 later3 m changes todo some
    (moved_there settings fed found later found2 [] None m changes todo w
    (sym (ap (λ (o : Option Stub). in_place found2 o []) none) ∙ sym (ap (λ (xs : List Item). in_place found2 next xs) nothing) ∙ same) off tt) merged
