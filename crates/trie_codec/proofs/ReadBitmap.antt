-- The bitmap of a branch that was read.
use Rattle.std.proofs.Common.{◌≡◌, ℕ, ◌+◌, ◌*◌, ◌/◌, ◌%◌, ◌≤◌, true, false, cond, List, [], ◌∷◌, length, Option, Some, None, Result, Ok, Err, refl, ap, ◌∙◌, arith}
use Rattle.std.specs.Prelude.{◌==◌, ◌&&◌, ◌||◌, count_by, is_some}
use Rattle.std.proofs.lemmas.Bool.Decides.{nat_tests}
use Rattle.std.proofs.lemmas.List.Recursion.{is_count_by}
use Rattle.trie_model.specs.Node.{bitmap, has_child}
use Rattle.trie_codec.specs.declared.fault.CodecFault.{CodecFault}
use Rattle.trie_codec.specs.declared.fault.CodecFault.TheVariants.{BadBitmap}
use Rattle.trie_codec.specs.Reading.{bits_set}
use Rattle.trie_codec.proofs.ReadSteps.{value_is, no_fault}

-- how many children there are, by recursion
abbrev pub there : List (Option (List ℕ)) → ℕ
there [] = 0
there (c ∷ cs) = cond (is_some c) (1 + there cs) (there cs)

pub there-counts : (cs : List (Option (List ℕ))) → there cs ≡ count_by is_some cs
there-counts cs = is_count_by there is_some refl (λ _ _. refl) cs

pub bits_set-bitmap : (cs : List (Option (List ℕ))) → bits_set (bitmap cs) (length cs) ≡ there cs
bits_set-bitmap [] = refl
bits_set-bitmap (None ∷ cs) =
    let low : (0 + 2 * bitmap cs) % 2 ≡ 0 = omega arith in
    let high : (0 + 2 * bitmap cs) / 2 ≡ bitmap cs = omega arith in
    rw (low, high) (omega (arith, bits_set-bitmap cs))
bits_set-bitmap (Some c ∷ cs) =
    let low : (1 + 2 * bitmap cs) % 2 ≡ 1 = omega arith in
    let high : (1 + 2 * bitmap cs) / 2 ≡ bitmap cs = omega arith in
    rw (low, high) (omega (arith, bits_set-bitmap cs))

pub some_there : (cs : List (Option (List ℕ))) → (bitmap cs ≡ 0 → ⊥) → (has_child cs ≡ true) × (1 ≤ there cs)
some_there [] some = absurd (some refl)
some_there (None ∷ cs) some = some_there cs (λ none. some (omega arith))
some_there (Some c ∷ cs) some = (refl, omega arith)

-- a bitmap that is no fault: a branch with one child has a value
unmarked : (map count kind : ℕ) → ((map == 0) || ((count == 1) && (kind == 2))) ≡ false → (map ≡ 0 → ⊥) × (count ≡ 1 → kind ≡ 2 → ⊥)
unmarked map count kind pass = ((λ none. grind (arith, nat_tests)), (λ one two. grind (arith, nat_tests)))

pub two_or_more : (n v kind : ℕ) → 1 ≤ n → 2 + v ≡ kind → (n ≡ 1 → kind ≡ 2 → ⊥) → 2 ≤ n + v
two_or_more n v kind one counts enough = grind arith

-- the bitmap of a branch of a kind
unfoldable pub checked : ℕ → ℕ → Result ℕ CodecFault
checked kind map = cond ((map == 0) || ((bits_set map 16 == 1) && (kind == 2))) (Err BadBitmap) (Ok map)

pub not_refused : (kind found map : ℕ) → checked kind found ≡ Ok map → (found ≡ map) × (map ≡ 0 → ⊥) × (bits_set map 16 ≡ 1 → kind ≡ 2 → ⊥)
unfolding checked
not_refused kind found map e =
    let (pass, same) = no_fault ((found == 0) || ((bits_set found 16 == 1) && (kind == 2))) BadBitmap (Ok found) map e in
    let is : found ≡ map = value_is found map same in
    let (some, enough) = unmarked found (bits_set found 16) kind pass in
    (is, (λ none. some (is ∙ none)), (λ once. enough (ap (λ k. bits_set k 16) is ∙ once)))
