use Rattle.std.proofs.Common.{◌≡◌, [], ◌∷◌, ◌++◌, subst, sym, ◌∙◌, arith}
use Rattle.std.specs.List.{AllByRecursion}
use Rattle.trie_change.specs.inner.InOrder.{IsOff}
use Rattle.trie_change.specs.inner.Pieces.{IsAside}
use Rattle.trie_change.specs.declared.frontier.Piece.{Piece}
use Rattle.trie_change.proofs.PieceMoves.{all_items_more, all_less, off_apart, one_more_holds, piece_moved}
use Rattle.trie_change.proofs.in_order.move_to_set.Goals as goal

pub loop-piece-preserved : goal.loop-piece-preserved
loop-piece-preserved c =
    let ss = c.args.settings.now in
    let p : Piece = c.in-Some.piece in
    let found = c.loop-piece.found.items in
    let later = c.loop-piece.later.items in
    let less = c.pop.new.self.items in
    let split : later ≡ less ++ p ∷ [] = c.in-Some.ensures.items in
    let last : AllByRecursion (IsAside ss) later → AllByRecursion (IsAside ss) less × IsAside ss p = λ a. all_less (IsAside ss) less p (subst (AllByRecursion (IsAside ss)) split a) in
    record {
      room = omega (arith, c.in-Some.ensures.len, c.push_reserved-in_default-piece.ensures.len);
      fewer = omega (arith, c.in-Some.ensures.len, c.push_reserved-in_default-piece.ensures.len);
      same = piece_moved found later less c.push_reserved-in_default-piece.new.self.items p split c.push_reserved-in_default-piece.ensures.items ∙ c.loop-piece.invariant.same;
      off = λ rising a b. all_items_more (IsOff ss) found c.push_reserved-in_default-piece.new.self.items p c.push_reserved-in_default-piece.ensures.items
          (c.loop-piece.invariant.off rising a b) (off_apart ss p c.in_default-piece.not-Stub (last (c.loop-piece.invariant.later_apart b)).1);
      found_apart = λ a b. subst (AllByRecursion (IsAside ss)) (sym c.push_reserved-in_default-piece.ensures.items)
          (one_more_holds (IsAside ss) found p (c.loop-piece.invariant.found_apart a b) (last (c.loop-piece.invariant.later_apart b)).1);
      later_apart = λ b. (last (c.loop-piece.invariant.later_apart b)).0;
      capacity = c.push_reserved-in_default-piece.ensures.capacity ∙ c.loop-piece.invariant.capacity;
      later_capacity = c.in-Some.ensures.capacity ∙ c.loop-piece.invariant.later_capacity;
    }
