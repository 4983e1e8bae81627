use Rattle.std.proofs.Common.{sym, arith}
use Rattle.std.proofs.lemmas.List.{append-nil}
use Rattle.trie_change.specs.inner.Pieces.{all_items}
use Rattle.trie_change.proofs.PieceItems.{some_path}
use Rattle.trie_change.proofs.build.siblings_here.Goals as goal

pub returns-clause-cut : goal.returns-clause-cut
returns-clause-cut c =
    let path = some_path c.args.at in
    record { end = path.0; len = path.1; whole = sym (append-nil (all_items c.args.items.now)); fewer = omega arith }
