use Rattle.std.proofs.Common.{◌≡◌, ℕ, ◌-◌, List, [], ◌∷◌, length, get_or, drop, refl, ap, sym, ◌∙◌, length-drop, arith}
use Rattle.trie_model.specs.Trie.{common}
use Rattle.trie_change.specs.declared.frontier.Piece.{Piece}
use Rattle.trie_change.specs.inner.Pieces.{piece_path}
use Rattle.trie_change.proofs.KeysAlone.{same_number}
use Rattle.trie_change.proofs.build.shared_of_ends.Goals as goal

-- a path shares all of itself with itself
with_itself : (p : List ℕ) → common p p ≡ p
with_itself [] = refl
with_itself (n ∷ p) = rw (same_number n) (ap (λ (xs : List ℕ). n ∷ xs) (with_itself p))

-- a piece that is alone is the first and the last
one_shares : (at n : ℕ) (pieces : List Piece) (first d : Piece) → length pieces ≡ 1 → first ≡ get_or pieces 0 first → n ≡ length (piece_path first) - at
    → n ≡ length (common (drop at (piece_path (get_or pieces 0 d))) (drop at (piece_path (get_or pieces (length pieces - 1) d))))
one_shares at n [] first d one is e = absurd (omega arith)
one_shares at n (p ∷ []) first d one is e =
    e ∙ ap (λ (q : Piece). length (piece_path q) - at) is ∙ sym (length-drop at (piece_path p)) ∙ ap length (sym (with_itself (drop at (piece_path p))))
one_shares at n (p ∷ (q ∷ ps)) first d one is e = absurd (omega arith)

pub returns-then-items-eq1 : goal.returns-then-items-eq1
returns-then-items-eq1 c = λ d.
    one_shares c.args.at c.saturating_sub.result c.args.items.now c.index-items-0.result d (omega (arith, c.if-items-eq1.true)) c.index-items-0.is
    (c.saturating_sub.ensures ∙ ap (λ (xs : List ℕ). length xs - c.args.at) c.path_of-first.ensures)
