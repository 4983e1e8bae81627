-- The items of a piece are moved together from the end of those found.
use Rattle.std.proofs.Common.{◌≡◌, ℕ, List, [], ◌∷◌, ◌++◌, reverse, refl, ap, subst, sym, ◌∙◌, append_assoc}
use Rattle.std.specs.List.{AllByRecursion}
use Rattle.std.specs.Ordering.{nat_cmp}
use Rattle.std.specs.Cmp.Lexicographic.{slice_cmp}
use Rattle.std.specs.declared.cmp.Ordering.TheVariants.{Less, Equal, Greater}
use Rattle.std.proofs.lemmas.List.{append-nil, reverse-append, reverse-reverse}
use Rattle.trie_change.specs.Frontier.{item_path}
use Rattle.trie_change.specs.Item.{Item}
use Rattle.trie_change.specs.declared.frontier.Piece.{Piece}
use Rattle.trie_change.specs.declared.settings.Setting.{Setting}
use Rattle.trie_change.specs.inner.Merged.{IsBelowKey, IsMovedDown}
use Rattle.trie_change.specs.inner.Pieces.{all_items, back_items, piece_items}
use Rattle.trie_change.proofs.LowerNodes.{all_reversed}
use Rattle.trie_change.proofs.MovedDown.{one_dropped, one_kept}
use Rattle.trie_change.proofs.PieceLists.{all_more, back_more}
use Rattle.trie_change.proofs.SiblingOrder.{AllStand}

-- ---- several items

pub none_moved : (key : List ℕ) (found later : List Item) → IsMovedDown key found later found later
none_moved key found later = record { moved = []; later_is = sym (append-nil later); merges = λ s settings rest is m. m }

items_kept : (key : List ℕ) (found later found2 later2 less items : List Item) → IsMovedDown key found later found2 later2 → found2 ≡ less ++ items
    → AllStand key Greater items → IsMovedDown key found later less (later2 ++ reverse items)
items_kept key found later found2 later2 less [] d e above =
    subst (λ (xs : List Item). IsMovedDown key found later less xs) (sym (append-nil later2))
    (subst (λ (xs : List Item). IsMovedDown key found later xs later2) (e ∙ append-nil less) d)
items_kept key found later found2 later2 less (i ∷ items) d e above =
    subst (λ (xs : List Item). IsMovedDown key found later less xs)
    (append_assoc later2 (reverse items) (i ∷ []) ∙ ap (λ (xs : List Item). later2 ++ xs) (sym (reverse-append (i ∷ []) items)))
    (one_kept key found later (less ++ i ∷ []) (later2 ++ reverse items) less i
    (items_kept key found later found2 later2 (less ++ i ∷ []) items d (e ∙ sym (append_assoc less (i ∷ []) items)) above.1) refl above.0)

items_dropped : (key : List ℕ) (found later found2 later2 less items : List Item) → IsMovedDown key found later found2 later2 → found2 ≡ less ++ items
    → AllStand key Equal items → IsMovedDown key found later less later2
items_dropped key found later found2 later2 less [] d e same =
    subst (λ (xs : List Item). IsMovedDown key found later xs later2) (e ∙ append-nil less) d
items_dropped key found later found2 later2 less (i ∷ items) d e same =
    one_dropped key found later (less ++ i ∷ []) later2 less i
    (items_dropped key found later found2 later2 (less ++ i ∷ []) items d (e ∙ sym (append_assoc less (i ∷ []) items)) same.1) refl same.0

-- ---- one piece

pub piece_kept : (key : List ℕ) (found later : List Item) (found2 later2 less : List Piece) (p : Piece)
    → IsMovedDown key found later (all_items found2) (back_items later2) → found2 ≡ less ++ p ∷ [] → AllStand key Greater (piece_items p)
    → IsMovedDown key found later (all_items less) (back_items (later2 ++ p ∷ []))
piece_kept key found later found2 later2 less p d e above =
    subst (λ (xs : List Item). IsMovedDown key found later (all_items less) xs) (sym (back_more later2 p))
    (items_kept key found later (all_items found2) (back_items later2) (all_items less) (piece_items p) d (ap all_items e ∙ all_more less p) above)

pub piece_dropped : (key : List ℕ) (found later : List Item) (found2 later2 less : List Piece) (p : Piece)
    → IsMovedDown key found later (all_items found2) (back_items later2) → found2 ≡ less ++ p ∷ [] → AllStand key Equal (piece_items p)
    → IsMovedDown key found later (all_items less) (back_items later2)
piece_dropped key found later found2 later2 less p d e same =
    items_dropped key found later (all_items found2) (back_items later2) (all_items less) (piece_items p) d (ap all_items e ∙ all_more less p) same

-- a piece below a key is below what is set there
pub piece_below : (key : List ℕ) (s : Setting) (front : List Piece) (p : Piece) → s.path.items ≡ key → (piece_items p ≡ [] → ⊥) → AllStand key Less (piece_items p)
    → IsBelowKey s (reverse (all_items (front ++ p ∷ [])))
piece_below key s front p at some below =
    subst (IsBelowKey s) (sym (ap reverse (all_more front p) ∙ reverse-append (all_items front) (piece_items p)))
    (from_first (reverse (piece_items p)) (λ none. some (sym (reverse-reverse (piece_items p)) ∙ ap reverse none))
    (all_reversed (λ (i : Item). slice_cmp nat_cmp (item_path i) key ≡ Less) (piece_items p) below))
  where
    from_first : (items : List Item) → (items ≡ [] → ⊥) → AllStand key Less items → IsBelowKey s (items ++ reverse (all_items front))
    from_first [] more a = absurd (more refl)
    from_first (i ∷ items) more a = ap (slice_cmp nat_cmp (item_path i)) at ∙ a.0

-- ---- what holds of pieces holds of those in front

pub all_front : {X : Type 0} (P : X → Type 0) (front more : List X) → AllByRecursion P (front ++ more) → AllByRecursion P front
all_front P [] more a = tt
all_front P (x ∷ front) more a = (a.0, all_front P front more a.1)

pub at_middle : {X : Type 0} (P : X → Type 0) (front : List X) (x : X) (more : List X) → AllByRecursion P (front ++ x ∷ more) → P x
at_middle P [] x more a = a.0
at_middle P (y ∷ front) x more a = at_middle P front x more a.1

-- the last one of those that are left, and those before it
pub of_last : {X : Type 0} (P : X → Type 0) (all left less more : List X) (x : X) → all ≡ left ++ more → left ≡ less ++ x ∷ [] → AllByRecursion P all → P x
of_last P all left less more x e f a = at_middle P less x [] (subst (AllByRecursion P) f (all_front P left more (subst (AllByRecursion P) e a)))

pub before_last : {X : Type 0} (all left less more : List X) (x : X) → all ≡ left ++ more → left ≡ less ++ x ∷ [] → (rest : List X) × (all ≡ less ++ rest)
before_last all left less more x e f = (x ∷ more, e ∙ ap (λ xs. xs ++ more) f ∙ append_assoc less (x ∷ []) more)

pub back_again : {X : Type 0} (P : X → Type 0) (all left less more : List X) (x : X) → all ≡ left ++ more → left ≡ less ++ x ∷ [] → AllByRecursion P all → AllByRecursion P (less ++ x ∷ [])
back_again P all left less more x e f a = subst (AllByRecursion P) f (all_front P left more (subst (AllByRecursion P) e a))
