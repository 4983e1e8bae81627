use Rattle.std.proofs.lemmas.Float.{T_from_true}
use Rattle.trie_root.proofs.Rows.{Row, row, below_row, none_begin}
use Rattle.trie_root.proofs.laws.a_nibble_is_a_row.Goals as goal

pub returns : goal.returns
returns c = λ nibble suffixes h.
    let r : Row nibble suffixes = row nibble suffixes (T_from_true _ h) in (
      r.front,
      r.middle,
      r.back,
      r.parts,
      none_begin nibble r.front r.before,
      r.begin,
      none_begin nibble r.back r.after,
      below_row nibble suffixes r,
    )
