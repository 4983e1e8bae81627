use Rattle.std.proofs.Common.{sym, ◌∙◌}
use Rattle.std.proofs.lemmas.Option.{IfSome_then}
use Rattle.std.proofs.lemmas.Result.{err_from_is_err_and}
use Rattle.pdb_column.proofs.KeyChunks.{in_picture}
use Rattle.pdb_column.proofs.Located.{hit_range}
use Rattle.pdb_column.proofs.locate.locate.Goals as goal

pub returns-in_err-chunk-clause-sound : goal.returns-in_err-chunk-clause-sound
returns-in_err-chunk-clause-sound g c cells base content seen holds =
    let p = err_from_is_err_and c.from_residual.result c.from_residual.ensures.1 in
    rw (p.1, p.2) (c.in_err-chunk.ensures.sound cells base content seen holds)

pub returns-in_err-hit-clause-sound : goal.returns-in_err-hit-clause-sound
returns-in_err-hit-clause-sound g c cells base content seen holds =
    let p = err_from_is_err_and c.from_residual-in_err-hit.result c.from_residual-in_err-hit.ensures.1 in
    rw (p.1, p.2) (c.in_err-hit.ensures.sound cells base content (c.read_key_chunk.ensures.stays cells seen) holds (c.in_ok-chunk.ensures.spelled cells seen))

pub returns-clause-within : goal.returns-clause-within
returns-clause-within g c =
    IfSome_then c.in_ok-hit.hit c.in_ok-hit.ensures.hit
    (λ hit is. hit_range c.in_ok-chunk.chunk.entries.items hit.place hit.at.tier hit.at.slot c.in_ok-chunk.ensures.chunk c.in_ok-chunk.ensures.tiers is)

pub returns-clause-same_base : goal.returns-clause-same_base
returns-clause-same_base g c cells base content seen holds =
    let is = in_picture cells c.args.column base c.in_ok-chunk.chunk.base content c.args.key.now c.in_ok-chunk.chunk.entries.items holds (c.in_ok-chunk.ensures.spelled cells seen) in
    sym is.base_is ∙ holds.base_is

pub returns-clause-found : goal.returns-clause-found
returns-clause-found g c cells content seen holds =
    c.in_ok-hit.ensures.found cells c.in_ok-chunk.chunk.base content (c.read_key_chunk.ensures.stays cells seen) holds (c.in_ok-chunk.ensures.spelled cells seen)
