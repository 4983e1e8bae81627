-- A header is read as the kind and the count that it spells.
use Rattle.std.proofs.Common.{◌≡◌, ℕ, zero, suc, ◌+◌, ◌-◌, ◌*◌, ◌/◌, ◌%◌, ◌<◌, ◌≤◌, false, List, [], ◌∷◌, ◌++◌, inl, inr, Ok, refl, ap, ◌∙◌, append_assoc, arith}
use Rattle.std.specs.Prelude.{nat_lt, ◌==◌, ◌⊎◌, replicate}
use Rattle.std.proofs.lemmas.Bool.{cases_lt, lt-ltb, le-ltb}
use Rattle.std.proofs.lemmas.Bool.Decides.{nat_tests}
use Rattle.trie_model.specs.Node.{header}
use Rattle.trie_codec.specs.Reading.{first_count, first_header, most_nibbles}

-- bytes that add to a count
counted : (q r n : ℕ) (rest : List ℕ) → r < 255 → n + (255 * q + r) ≤ 2048 → first_count n (replicate q 255 ++ (r ∷ rest)) ≡ Ok (n + (255 * q + r), rest)
unfolding first_count
counted zero r n rest small few =
    let fits : nat_lt most_nibbles (n + r) ≡ false = grind (arith, nat_tests) in
    let last : (r == 255) ≡ false = grind (arith, nat_tests) in
    let all : n + (255 * 0 + r) ≡ n + r = omega arith in
    rw (fits, last, all) refl
counted (suc q) r n rest small few =
    let fits : nat_lt most_nibbles (n + 255) ≡ false = grind (arith, nat_tests) in
    let all : n + (255 * suc q + r) ≡ (n + 255) + (255 * q + r) = omega arith in
    let others : first_count (n + 255) (replicate q 255 ++ (r ∷ rest)) ≡ Ok ((n + 255) + (255 * q + r), rest) = counted q r (n + 255) rest small (omega arith) in
    rw (fits, all) others

-- a count that the first byte says
header_short : (kind n : ℕ) (rest : List ℕ) → 1 ≤ kind → n < 63 → first_header ((64 * kind + n) ∷ rest) ≡ Ok ((kind, n), rest)
unfolding first_header
header_short kind n rest some small =
    let first : (64 * kind + n) / 64 ≡ kind = omega arith in
    let low : (64 * kind + n) % 64 ≡ n = omega arith in
    let is_kind : (kind == 0) ≡ false = grind (arith, nat_tests) in
    let few : (n == 63) ≡ false = grind (arith, nat_tests) in
    rw (first, low, is_kind, few) refl

-- one that more bytes say
header_long : (kind q r : ℕ) (rest : List ℕ) → 1 ≤ kind → r < 255 → 63 + (255 * q + r) ≤ 2048
    → first_header ((64 * kind + 63) ∷ (replicate q 255 ++ (r ∷ rest))) ≡ Ok ((kind, 63 + (255 * q + r)), rest)
unfolding first_header
header_long kind q r rest some small few =
    let first : (64 * kind + 63) / 64 ≡ kind = omega arith in
    let low : (64 * kind + 63) % 64 ≡ 63 = omega arith in
    let is_kind : (kind == 0) ≡ false = grind (arith, nat_tests) in
    rw (first, low, is_kind, counted q r 63 rest small few) refl

header_by : (kind n : ℕ) (rest : List ℕ) → 1 ≤ kind → n ≤ 2048 → (n < 63) ⊎ (63 ≤ n) → first_header (header kind n ++ rest) ≡ Ok ((kind, n), rest)
header_by kind n rest some few (inl lt) = rw (lt-ltb n 63 lt) (header_short kind n rest some lt)
header_by kind n rest some few (inr le) =
    let q = (n - 63) / 255 in
    let r = (n - 63) % 255 in
    let all : 63 + (255 * q + r) ≡ n = omega arith in
    let long : first_header ((64 * kind + 63) ∷ (replicate q 255 ++ (r ∷ rest))) ≡ Ok ((kind, 63 + (255 * q + r)), rest) = header_long kind q r rest some (omega arith) (omega arith) in
    rw (le-ltb n 63 le, append_assoc (replicate q 255) (r ∷ []) rest) (long ∙ ap (λ (m : ℕ). Ok ((kind, m), rest)) all)

pub header_read : (kind n : ℕ) (rest : List ℕ) → 1 ≤ kind → n ≤ 2048 → first_header (header kind n ++ rest) ≡ Ok ((kind, n), rest)
header_read kind n rest some few = header_by kind n rest some few (cases_lt n 63)
