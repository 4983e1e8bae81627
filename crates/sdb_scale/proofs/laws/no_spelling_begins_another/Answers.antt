use Rattle.sdb_scale.specs.Compact.{compact, mode_of}
use Rattle.sdb_scale.proofs.Spellings.{spelled_once, fits_mode}
use Rattle.sdb_scale.proofs.laws.no_spelling_begins_another.Goals as goal

pub returns : goal.returns
unfolding compact
returns c m n x y below_m below_n e =
    let same = spelled_once (mode_of m) (mode_of n) m n x y (fits_mode m below_m) (fits_mode n below_n) e in
    (same.number, same.rest)
