-- Children that are lent, and what stands after each.
use Rattle.std.proofs.Common.{◌≡◌, ℕ, zero, suc, ◌+◌, ◌<◌, ◌≤◌, List, [], ◌∷◌, length, get_or, set, drop, replicate, map, Option, None, refl, sym, ap, subst, arith, add-one, length-append}
use Rattle.std.specs.Prelude.{IfSome}
use Rattle.std.specs.List.{flat_map}
use Rattle.std.specs.Borrow.{Bor}
use Rattle.trie_model.specs.Node.{optional_string}
use Rattle.trie_codec.specs.Slices.{bytes_in}

-- the spelling of children that are lent
abbrev pub slice_bytes : List (Option (Bor (List ℕ))) → List ℕ
slice_bytes cs = flat_map optional_string (map bytes_in cs)

-- what holds of a child that is there, by how many bytes stand after it
abbrev pub HoldsBefore : (Bor (List ℕ) → ℕ → Type 0) → List (Option (Bor (List ℕ))) → ℕ → ℕ → Type 0
HoldsBefore P cs rest k = IfSome (get_or cs k None) (λ s. P s (length (slice_bytes (drop (suc k) cs)) + rest))

-- no child is lent where none is there
pub none_borrowed : (P : Bor (List ℕ) → Type 0) (n i : ℕ) → IfSome (get_or (replicate n None) i None) P
none_borrowed P zero i = tt
none_borrowed P (suc n) zero = tt
none_borrowed P (suc n) (suc i) = none_borrowed P n i

-- one child more that is lent
pub one_more_lent : (P : Bor (List ℕ) → Type 0) (children : List (Option (Bor (List ℕ)))) (i : ℕ) (child : Option (Bor (List ℕ))) → ((k : ℕ) → IfSome (get_or children k None) P) → IfSome child P
    → (k : ℕ) → IfSome (get_or (set children i child) k None) P
one_more_lent P [] i child before now k = before k
one_more_lent P (c ∷ cs) zero child before now zero = now
one_more_lent P (c ∷ cs) zero child before now (suc k) = before (suc k)
one_more_lent P (c ∷ cs) (suc i) child before now zero = before zero
one_more_lent P (c ∷ cs) (suc i) child before now (suc k) = one_more_lent P cs i child (λ j. before (suc j)) now k

-- there is no child from one on
abbrev pub NoneFrom : ℕ → List (Option (Bor (List ℕ))) → Type 0
NoneFrom i cs = (k : ℕ) → i ≤ k → get_or cs k None ≡ None

none_spelled : (cs : List (Option (Bor (List ℕ)))) → NoneFrom 0 cs → slice_bytes cs ≡ []
none_spelled [] none = refl
none_spelled (c ∷ cs) none =
    let first : c ≡ None = none 0 (omega arith) in
    rw first (none_spelled cs (λ k h. none (suc k) (omega arith)))

-- a child where there was none adds its spelling
more_spelled : (cs : List (Option (Bor (List ℕ)))) (i : ℕ) (child : Option (Bor (List ℕ))) → i < length cs → get_or cs i None ≡ None
    → length (slice_bytes (set cs i child)) ≡ length (slice_bytes cs) + length (optional_string (bytes_in child))
more_spelled [] i child lt none = absurd (omega arith)
more_spelled (c ∷ cs) zero child lt none =
    let first : c ≡ None = none in
    rw first (omega (arith, length-append (optional_string (bytes_in child)) (slice_bytes cs)))
more_spelled (c ∷ cs) (suc i) child lt none =
    omega (arith, length-append (optional_string (bytes_in c)) (slice_bytes cs), length-append (optional_string (bytes_in c)) (slice_bytes (set cs i child)), more_spelled cs i child (omega arith) none)

pub same_after : (P : Bor (List ℕ) → ℕ → Type 0) (c : Option (Bor (List ℕ))) (a b : ℕ) → a ≡ b → IfSome c (λ s. P s a) → IfSome c (λ s. P s b)
same_after P c a b e h = subst (λ n. IfSome c (λ s. P s n)) e h

-- One child more, where no later one is there: as many bytes stand after each child before it.
pub one_more_after : (P : Bor (List ℕ) → ℕ → Type 0) (cs : List (Option (Bor (List ℕ)))) (i : ℕ) (child : Option (Bor (List ℕ))) (before after : ℕ)
    → i < length cs → NoneFrom i cs → before ≡ length (optional_string (bytes_in child)) + after → ((k : ℕ) → HoldsBefore P cs before k)
    → IfSome child (λ s. P s after) → (k : ℕ) → HoldsBefore P (set cs i child) after k
one_more_after P [] i child before after lt none took each_after now k = absurd (omega arith)
one_more_after P (c ∷ cs) zero child before after lt none took each_after now zero =
    let empty : slice_bytes cs ≡ [] = none_spelled cs (λ k h. none (suc k) (omega arith)) in
    same_after P child after (length (slice_bytes cs) + after) (omega (arith, ap length empty)) now
one_more_after P (c ∷ cs) zero child before after lt none took each_after now (suc k) =
    let gone : get_or cs k None ≡ None = none (suc k) (omega arith) in
    rw gone tt
one_more_after P (c ∷ cs) (suc i) child before after lt none took each_after now zero =
    same_after P c (length (slice_bytes cs) + before) (length (slice_bytes (set cs i child)) + after)
    (omega (arith, more_spelled cs i child (omega arith) (none (suc i) (omega arith)))) (each_after zero)
one_more_after P (c ∷ cs) (suc i) child before after lt none took each_after now (suc k) =
    one_more_after P cs i child before after (omega arith) (λ j h. none (suc j) (omega arith)) took (λ j. each_after (suc j)) now k

-- the same with the next place as code counts it
pub after_next : (P : Bor (List ℕ) → ℕ → Type 0) (cs : List (Option (Bor (List ℕ)))) (rest : ℕ) → ((k : ℕ) → HoldsBefore P cs rest k)
    → (k : ℕ) → IfSome (get_or cs k None) (λ s. P s (length (slice_bytes (drop (k + 1) cs)) + rest))
after_next P cs rest each_after k = subst (λ j. IfSome (get_or cs k None) (λ s. P s (length (slice_bytes (drop j cs)) + rest))) (sym (add-one k)) (each_after k)

-- all bytes that were taken are the children's
pub more_taken : (cs : List (Option (Bor (List ℕ)))) (i : ℕ) (child : Option (Bor (List ℕ))) (total before after : ℕ) → i < length cs → NoneFrom i cs
    → before ≡ length (optional_string (bytes_in child)) + after → total ≡ length (slice_bytes cs) + before → total ≡ length (slice_bytes (set cs i child)) + after
more_taken cs i child total before after lt none took so_far = omega (arith, more_spelled cs i child lt (none i (omega arith)))

-- none from the next one on
pub none_from_next : (cs : List (Option (Bor (List ℕ)))) (i : ℕ) (child : Option (Bor (List ℕ))) → NoneFrom i cs → NoneFrom (i + 1) (set cs i child)
none_from_next [] i child none k h = refl
none_from_next (c ∷ cs) zero child none zero h = absurd (omega arith)
none_from_next (c ∷ cs) zero child none (suc k) h = none (suc k) (omega arith)
none_from_next (c ∷ cs) (suc i) child none zero h = absurd (omega arith)
none_from_next (c ∷ cs) (suc i) child none (suc k) h = none_from_next cs i child (λ j g. none (suc j) (omega arith)) k (omega arith)
