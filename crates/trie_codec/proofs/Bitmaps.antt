-- The bitmap of children: which and how many are there.
use Rattle.std.proofs.Common.{◌≡◌, ℕ, suc, ◌+◌, ◌*◌, ◌/◌, ◌%◌, ◌≤◌, true, false, cond, List, [], ◌∷◌, length, replicate, Option, Some, None, refl, sym, ap, ◌∙◌, arith}
use Rattle.std.specs.Prelude.{is_some, count_by, if◌then◌else◌, ◌==◌, ◌&&◌, ◌||◌}
use Rattle.std.proofs.lemmas.List.Recursion.{is_count_by}
use Rattle.trie_model.specs.Node.{bitmap, branch_kind, has_child}
use Rattle.trie_codec.specs.Reading.{bits_set}
use Rattle.trie_codec.proofs.Bits.{unmarked}

bits_more : (c : Option (List ℕ)) (cs : List (Option (List ℕ)))
    → bits_set (bitmap (c ∷ cs)) (suc (length cs)) ≡ cond (is_some c) (1 + bits_set (bitmap cs) (length cs)) (bits_set (bitmap cs) (length cs))
bits_more None cs =
    let low : (0 + 2 * bitmap cs) % 2 ≡ 0 = omega arith in
    let others : (0 + 2 * bitmap cs) / 2 ≡ bitmap cs = omega arith in
    rw (low, others) (omega arith)
bits_more (Some c) cs =
    let low : (1 + 2 * bitmap cs) % 2 ≡ 1 = omega arith in
    let others : (1 + 2 * bitmap cs) / 2 ≡ bitmap cs = omega arith in
    rw (low, others) refl

pub bits_counted : (cs : List (Option (List ℕ))) → bits_set (bitmap cs) (length cs) ≡ count_by is_some cs
bits_counted cs = is_count_by (λ (xs : List (Option (List ℕ))). bits_set (bitmap xs) (length xs)) is_some refl bits_more cs

-- no bit is set where no child is
pub no_bit : (cs : List (Option (List ℕ))) → bitmap cs ≡ 0 → has_child cs ≡ false
no_bit [] e = refl
no_bit (None ∷ cs) e = no_bit cs (omega arith)
no_bit (Some c ∷ cs) e = absurd (omega arith)

-- no child is counted where none is
pub none_counted : (cs : List (Option (List ℕ))) → has_child cs ≡ false → count_by is_some cs ≡ 0
none_counted [] e = refl
none_counted (None ∷ cs) e = none_counted cs e
none_counted (Some c ∷ cs) e = cc

pub childless_list : (cs : List (Option (List ℕ))) → has_child cs ≡ false → cs ≡ replicate (length cs) None
childless_list [] e = refl
childless_list (None ∷ cs) e = ap (λ (others : List (Option (List ℕ))). None ∷ others) (childless_list cs e)
childless_list (Some c ∷ cs) e = cc

-- a branch's bitmap is no fault
pub bitmap_allowed : (value : Option (List ℕ)) (cs : List (Option (List ℕ))) → length cs ≡ 16 → has_child cs ≡ true
    → 2 ≤ count_by is_some cs + (if is_some value then 1 else 0)
    → ((bitmap cs == 0) || ((bits_set (bitmap cs) 16 == 1) && (branch_kind value == 2))) ≡ false
bitmap_allowed None cs sixteen some enough =
    let count : bits_set (bitmap cs) 16 ≡ count_by is_some cs = ap (λ n. bits_set (bitmap cs) n) (sym sixteen) ∙ bits_counted cs in
    unmarked 2 (bitmap cs) (bits_set (bitmap cs) 16) (λ (none : bitmap cs ≡ 0). let no = no_bit cs none in cc) (λ (one : bits_set (bitmap cs) 16 ≡ 1) (two : ◌≡◌ {A = ℕ} 2 2). omega arith)
bitmap_allowed (Some v) cs sixteen some enough =
    let no_two : ◌≡◌ {A = ℕ} 3 2 → ⊥ = omega arith in
    unmarked 3 (bitmap cs) (bits_set (bitmap cs) 16) (λ (none : bitmap cs ≡ 0). let no = no_bit cs none in cc) (λ one. no_two)
