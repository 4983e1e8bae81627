-- Siblings that are apart from what is set are beside each key that is set.
use Rattle.std.proofs.Common.{◌≡◌, ℕ, List, [], ◌∷◌, ◌++◌, subst}
use Rattle.std.specs.List.{AllByRecursion}
use Rattle.trie_change.specs.declared.frontier.Piece.{Piece}
use Rattle.trie_change.specs.declared.frontier.Piece.TheVariants as piece
use Rattle.trie_change.specs.declared.settings.Setting.{Setting}
use Rattle.trie_change.specs.inner.Pieces.{IsAside, IsBeside, IsBesideKey, sibling_items}
use Rattle.trie_change.proofs.PiecesMoved.{of_last}

one_beside : (all left less more : List Setting) (s : Setting) → all ≡ left ++ more → left ≡ less ++ s ∷ [] → (p : Piece) → IsAside all p → IsBesideKey s.path.items p
one_beside all left less more s e f (piece.Entry k) a = tt
one_beside all left less more s e f (piece.Stub k) a = tt
one_beside all left less more s e f (piece.Siblings g) a =
    of_last (λ (t : Setting). IsBeside t.path.items (sibling_items g.end.items g.nodes.items)) all left less more s e f a.beside

all_beside : (all left less more : List Setting) (s : Setting) → all ≡ left ++ more → left ≡ less ++ s ∷ [] → (pieces : List Piece)
    → AllByRecursion (IsAside all) pieces → AllByRecursion (IsBesideKey s.path.items) pieces
all_beside all left less more s e f [] a = tt
all_beside all left less more s e f (p ∷ pieces) a = (one_beside all left less more s e f p a.0, all_beside all left less more s e f pieces a.1)

pub beside_key : (all left less more : List Setting) (s : Setting) (key : List ℕ) → s.path.items ≡ key → all ≡ left ++ more → left ≡ less ++ s ∷ []
    → (pieces : List Piece) → AllByRecursion (IsAside all) pieces → AllByRecursion (IsBesideKey key) pieces
beside_key all left less more s key at e f pieces a =
    subst (λ (k : List ℕ). AllByRecursion (IsBesideKey k) pieces) at (all_beside all left less more s e f pieces a)
