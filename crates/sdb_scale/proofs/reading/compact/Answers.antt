use Rattle.std.proofs.Common.{◌≡◌, ℕ, ◌/◌, ◌<◌, ◌++◌, List, drop, arith, rules}
use Rattle.std.proofs.lemmas.Grind.{common_steps}
use Rattle.sdb_scale.specs.Compact.{two, four, mode_len, mode_limit, mode_of, spelled_in}
use Rattle.sdb_scale.proofs.reading.compact.Goals as goal

pub returns-then-n-clause-not_shortest : goal.returns-then-n-clause-not_shortest
returns-then-n-clause-not_shortest c =
    let n : ℕ = c.from-n.result / 4 in
    let rest : List ℕ = drop 2 c.args.bytes.now in
    let fits : n < mode_limit two = omega arith in
    let longer : mode_len (mode_of n) < mode_len two = grind (arith, common_steps) in
    let spelled : c.args.bytes.now ≡ spelled_in two n ++ rest = grind (arith, common_steps) in
    ((λ _. (two, n, rest, fits, longer, spelled)), (λ _. search rules))

pub returns-then-n-2-clause-not_shortest : goal.returns-then-n-2-clause-not_shortest
returns-then-n-2-clause-not_shortest c =
    let n : ℕ = c.from_le_bytes-n.result / 4 in
    let rest : List ℕ = drop 4 c.args.bytes.now in
    let fits : n < mode_limit four = omega arith in
    let longer : mode_len (mode_of n) < mode_len four = grind (arith, common_steps) in
    let spelled : c.args.bytes.now ≡ spelled_in four n ++ rest = grind (arith, common_steps) in
    ((λ _. (four, n, rest, fits, longer, spelled)), (λ _. search rules))
