use Rattle.std.proofs.Common.{◌≡◌, ◌≤◌, length, refl, ap, sym, arith, ◌∙◌}
use Rattle.sdb_scale.specs.Compact.{Mode, compact, mode_of, mode_len, spelled_in}
use Rattle.sdb_scale.proofs.Spellings.{fits_mode, mode_is_least, same_mode, length-spelled}
use Rattle.sdb_scale.proofs.laws.spelling_is_the_shortest.Goals as goal

pub returns-clause-spells : goal.returns-clause-spells
unfolding compact
returns-clause-spells c n below = (mode_of n, fits_mode n below, refl)

pub returns-clause-shortest : goal.returns-clause-shortest
unfolding compact
returns-clause-shortest c n bytes s =
    let least : mode_len (mode_of n) ≤ mode_len s.0 = mode_is_least s.0 n s.1 in
    omega (arith, least, length-spelled (mode_of n) n, length-spelled s.0 n, ap length s.2)

pub returns-clause-only : goal.returns-clause-only
unfolding compact
returns-clause-only c n bytes s e =
    let same : mode_len s.0 ≡ mode_len (mode_of n) = sym (length-spelled s.0 n) ∙ sym (ap length s.2) ∙ e ∙ length-spelled (mode_of n) n in
    s.2 ∙ ap (λ (m : Mode). spelled_in m n) (same_mode s.0 (mode_of n) same)
