use Rattle.std.proofs.Common.{◌++◌, ◌∷◌, [], ap, ap₂, ◌∙◌, length, List, ℕ}
use Rattle.sdb_io.specs.Memory.{pieces}
use Rattle.sdb_io.proofs.Pieces.{one_more_piece}
use Rattle.sdb_io.proofs.memory.MemSink.add.Goals as goal

pub returns-clause-ok : goal.returns-clause-ok
returns-clause-ok c =
    let bytes = c.in_ok-extend_from_slice.ensures.items in
    let lengths = c.in_ok-push.ensures.items ∙ ap (λ (ns : List ℕ). ns ++ length c.args.piece.now ∷ []) c.in_ok-reserve.ensures.items in
    (bytes, ap₂ pieces bytes lengths ∙ one_more_piece c.args.self.now.bytes.items c.args.piece.now c.args.self.now.lengths.items c.args.self.now.whole)
