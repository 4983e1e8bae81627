use Rattle.std.proofs.Common.{arith, subst, sym, ◌∙◌}
use Rattle.std.specs.List.{AllByRecursion}
use Rattle.trie_change.specs.inner.Pieces.{IsAside, IsBesideKey, piece_items}
use Rattle.trie_change.proofs.PiecesMoved.{back_again, before_last, of_last, piece_below, piece_dropped, piece_kept}
use Rattle.trie_change.proofs.SiblingOrder.{AllStand}
use Rattle.trie_change.proofs.settings.move_above.Goals as goal

pub returns-in-Less-clause-below : goal.returns-in-Less-clause-below
returns-in-Less-clause-below c = λ beside s at.
    rw c.push_reserved.ensures.items
    (piece_below c.args.key.now s c.pop.new.self.items c.in-Some.piece at (c.order.ensures.some c.in-Less.is)
    (subst (λ o. AllStand c.args.key.now o (piece_items c.in-Some.piece)) c.in-Less.is
    (c.order.ensures.all (of_last (IsBesideKey c.args.key.now) _ _ _ _ c.in-Some.piece c.loop-piece.invariant.front.1 c.in-Some.ensures.items beside))))

pub returns-in-Less-clause-apart : goal.returns-in-Less-clause-apart
returns-in-Less-clause-apart c = λ settings apart.
    subst (AllByRecursion (IsAside settings)) (sym c.push_reserved.ensures.items)
    (back_again (IsAside settings) _ _ _ _ c.in-Some.piece c.loop-piece.invariant.front.1 c.in-Some.ensures.items apart)

pub loop-piece-preserved-in-Equal : goal.loop-piece-preserved-in-Equal
loop-piece-preserved-in-Equal c = record {
  moved = λ beside.
      piece_dropped c.args.key.now _ _ c.loop-piece.found.items c.loop-piece.later.items c.pop.new.self.items c.in-Some.piece (c.loop-piece.invariant.moved beside) c.in-Some.ensures.items
      (subst (λ o. AllStand c.args.key.now o (piece_items c.in-Some.piece)) c.in-Equal.is
      (c.order.ensures.all (of_last (IsBesideKey c.args.key.now) _ _ _ _ c.in-Some.piece c.loop-piece.invariant.front.1 c.in-Some.ensures.items beside)));
  front = before_last _ _ _ _ c.in-Some.piece c.loop-piece.invariant.front.1 c.in-Some.ensures.items;
  room = omega arith;
  capacity = c.loop-piece.invariant.capacity;
  found_capacity = c.pop.ensures.capacity ∙ c.loop-piece.invariant.found_capacity;
}

pub loop-piece-preserved-in-Equal-2 : goal.loop-piece-preserved-in-Equal-2
loop-piece-preserved-in-Equal-2 c = record {
  moved = λ beside.
      piece_dropped c.args.key.now _ _ c.loop-piece.found.items c.loop-piece.later.items c.pop.new.self.items c.in-Some.piece (c.loop-piece.invariant.moved beside) c.in-Some.ensures.items
      (subst (λ o. AllStand c.args.key.now o (piece_items c.in-Some.piece)) c.in-Equal.is
      (c.order.ensures.all (of_last (IsBesideKey c.args.key.now) _ _ _ _ c.in-Some.piece c.loop-piece.invariant.front.1 c.in-Some.ensures.items beside)));
  front = before_last _ _ _ _ c.in-Some.piece c.loop-piece.invariant.front.1 c.in-Some.ensures.items;
  room = omega arith;
  capacity = c.loop-piece.invariant.capacity;
  found_capacity = c.pop.ensures.capacity ∙ c.loop-piece.invariant.found_capacity;
}

pub loop-piece-preserved-in-Equal-3 : goal.loop-piece-preserved-in-Equal-3
loop-piece-preserved-in-Equal-3 c = record {
  moved = λ beside.
      piece_dropped c.args.key.now _ _ c.loop-piece.found.items c.loop-piece.later.items c.pop.new.self.items c.in-Some.piece (c.loop-piece.invariant.moved beside) c.in-Some.ensures.items
      (subst (λ o. AllStand c.args.key.now o (piece_items c.in-Some.piece)) c.in-Equal.is
      (c.order.ensures.all (of_last (IsBesideKey c.args.key.now) _ _ _ _ c.in-Some.piece c.loop-piece.invariant.front.1 c.in-Some.ensures.items beside)));
  front = before_last _ _ _ _ c.in-Some.piece c.loop-piece.invariant.front.1 c.in-Some.ensures.items;
  room = omega arith;
  capacity = c.loop-piece.invariant.capacity;
  found_capacity = c.pop.ensures.capacity ∙ c.loop-piece.invariant.found_capacity;
}

pub loop-piece-preserved-in-Equal-4 : goal.loop-piece-preserved-in-Equal-4
loop-piece-preserved-in-Equal-4 c = record {
  moved = λ beside.
      piece_dropped c.args.key.now _ _ c.loop-piece.found.items c.loop-piece.later.items c.pop.new.self.items c.in-Some.piece (c.loop-piece.invariant.moved beside) c.in-Some.ensures.items
      (subst (λ o. AllStand c.args.key.now o (piece_items c.in-Some.piece)) c.in-Equal.is
      (c.order.ensures.all (of_last (IsBesideKey c.args.key.now) _ _ _ _ c.in-Some.piece c.loop-piece.invariant.front.1 c.in-Some.ensures.items beside)));
  front = before_last _ _ _ _ c.in-Some.piece c.loop-piece.invariant.front.1 c.in-Some.ensures.items;
  room = omega arith;
  capacity = c.loop-piece.invariant.capacity;
  found_capacity = c.pop.ensures.capacity ∙ c.loop-piece.invariant.found_capacity;
}

pub loop-piece-preserved : goal.loop-piece-preserved
loop-piece-preserved c = record {
  moved = λ beside.
      rw c.push_reserved-in-Greater.ensures.items
      (piece_kept c.args.key.now _ _ c.loop-piece.found.items c.loop-piece.later.items c.pop.new.self.items c.in-Some.piece (c.loop-piece.invariant.moved beside) c.in-Some.ensures.items
      (subst (λ o. AllStand c.args.key.now o (piece_items c.in-Some.piece)) c.in-Greater.is
      (c.order.ensures.all (of_last (IsBesideKey c.args.key.now) _ _ _ _ c.in-Some.piece c.loop-piece.invariant.front.1 c.in-Some.ensures.items beside))));
  front = before_last _ _ _ _ c.in-Some.piece c.loop-piece.invariant.front.1 c.in-Some.ensures.items;
  room = omega (arith, c.in-Some.ensures.len);
  capacity = c.push_reserved-in-Greater.ensures.capacity ∙ c.loop-piece.invariant.capacity;
  found_capacity = c.pop.ensures.capacity ∙ c.loop-piece.invariant.found_capacity;
}
