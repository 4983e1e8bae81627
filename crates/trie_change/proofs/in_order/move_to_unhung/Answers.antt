use Rattle.std.proofs.Common.{◌-◌, List, [], ◌∷◌, ◌++◌, length, arith, ap, ◌∙◌, sym}
use Rattle.std.specs.List.{slice_get}
use Rattle.trie_change.specs.Frontier.{IsHanging}
use Rattle.trie_change.specs.declared.frontier.Piece.{Piece}
use Rattle.trie_model.specs.Trie.{suffixes_of}
use Rattle.trie_change.proofs.PieceMoves.{all_items_more, piece_moved}
use Rattle.trie_change.proofs.PieceUnhung.{hangs_here_too, no_node_there, piece_hangs}
use Rattle.trie_change.proofs.in_order.move_to_unhung.Goals as goal

pub returns-then-not-hangs-clause-hanging : goal.returns-then-not-hangs-clause-hanging
returns-then-not-hangs-clause-hanging c = λ m within front hanging. (
  c.loop-piece.invariant.hanging m within front hanging,
  no_node_there m within _ c.loop-piece.found.items c.loop-piece.later.items c.pop.new.self.items c.in-Some.piece front c.loop-piece.invariant.same c.in-Some.ensures.items
      c.in-Stub.stub c.in-Stub.is _ _ _ c.hangs.result c.hangs.ensures
      (c.last.ensures.value ∙ ap (λ (xs : List Piece). slice_get xs (length xs - 1)) c.deref.ensures.value)
      (c.last-in-Stub.ensures.value ∙ ap (λ (xs : List Piece). slice_get xs (length xs - 1)) c.deref-in-Stub.ensures.value)
      c.as_slice.ensures c.if-not-hangs.true,
)

pub loop-piece-preserved-in-Stub : goal.loop-piece-preserved-in-Stub
loop-piece-preserved-in-Stub c = record {
  room = omega (arith, c.in-Some.ensures.len, c.push_reserved.ensures.len);
  fewer = omega (arith, c.in-Some.ensures.len, c.push_reserved.ensures.len, c.loop-piece.invariant.fewer);
  same = piece_moved c.loop-piece.found.items c.loop-piece.later.items c.pop.new.self.items c.push_reserved.new.self.items c.in-Some.piece c.in-Some.ensures.items
      (c.push_reserved.ensures.items ∙ ap (λ (p : Piece). c.loop-piece.found.items ++ p ∷ []) (sym c.in-Stub.is)) ∙ c.loop-piece.invariant.same;
  hanging = λ m within front hanging.
      all_items_more (IsHanging (suffixes_of m)) c.loop-piece.found.items c.push_reserved.new.self.items c.in-Some.piece
      (c.push_reserved.ensures.items ∙ ap (λ (p : Piece). c.loop-piece.found.items ++ p ∷ []) (sym c.in-Stub.is))
      (c.loop-piece.invariant.hanging m within front hanging)
      (hangs_here_too m within _ c.loop-piece.found.items c.loop-piece.later.items c.pop.new.self.items c.in-Some.piece front c.loop-piece.invariant.same c.in-Some.ensures.items
      c.in-Stub.stub c.in-Stub.is _ _ _ c.hangs.result c.hangs.ensures
      (c.last.ensures.value ∙ ap (λ (xs : List Piece). slice_get xs (length xs - 1)) c.deref.ensures.value)
      (c.last-in-Stub.ensures.value ∙ ap (λ (xs : List Piece). slice_get xs (length xs - 1)) c.deref-in-Stub.ensures.value)
      c.as_slice.ensures c.if-not-hangs.false);
}

pub loop-piece-preserved : goal.loop-piece-preserved
loop-piece-preserved c = record {
  room = omega (arith, c.in-Some.ensures.len, c.push_reserved-in_default-piece.ensures.len);
  fewer = omega (arith, c.in-Some.ensures.len, c.push_reserved-in_default-piece.ensures.len, c.loop-piece.invariant.fewer);
  same = piece_moved c.loop-piece.found.items c.loop-piece.later.items c.pop.new.self.items c.push_reserved-in_default-piece.new.self.items c.in-Some.piece
      c.in-Some.ensures.items c.push_reserved-in_default-piece.ensures.items ∙ c.loop-piece.invariant.same;
  hanging = λ m within front hanging.
      all_items_more (IsHanging (suffixes_of m)) c.loop-piece.found.items c.push_reserved-in_default-piece.new.self.items c.in-Some.piece
      c.push_reserved-in_default-piece.ensures.items (c.loop-piece.invariant.hanging m within front hanging)
      (piece_hangs m within _ c.loop-piece.found.items c.loop-piece.later.items c.pop.new.self.items c.in-Some.piece front c.loop-piece.invariant.same c.in-Some.ensures.items
      c.in_default-piece.not-Stub);
}
