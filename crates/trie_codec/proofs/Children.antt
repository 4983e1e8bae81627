-- Children by their bytes and by their slices.
use Rattle.std.proofs.Common.{◌≡◌, ℕ, suc, ◌+◌, ◌-◌, ◌/◌, ◌%◌, ◌<◌, ◌≤◌, Bool, true, false, cond, List, [], ◌∷◌, ◌++◌, Option, Some, None, Result, Ok, Err, map, refl, sym, ap, ◌∙◌, append_assoc, arith}
use Rattle.std.specs.Prelude.{is_some, ◌==◌}
use Rattle.std.proofs.lemmas.List.{append-nil}
use Rattle.std.specs.List.{list_any}
use Rattle.std.specs.Borrow.{Bor}
use Rattle.trie_codec.specs.Slices.{bytes_in}
use Rattle.trie_codec.specs.declared.fault.CodecFault.{CodecFault}
use Rattle.trie_codec.specs.Reading.{◌>>=◌, first_child, first_children}
use Rattle.trie_codec.specs.inner.Steps.{first_lowest_child}

is_there : (c : Option (Bor (List ℕ))) → is_some (bytes_in c) ≡ is_some c
is_there None = refl
is_there (Some s) = refl

pub has_child_in : (cs : List (Option (Bor (List ℕ)))) → list_any is_some (map bytes_in cs) ≡ list_any is_some cs
has_child_in [] = refl
has_child_in (None ∷ cs) = has_child_in cs
has_child_in (Some s ∷ cs) = refl

-- the children that were read, and those that are still read
abbrev pub with_front : List (Option (List ℕ)) → Result (List (Option (List ℕ)) × List ℕ) CodecFault → Result (List (Option (List ℕ)) × List ℕ) CodecFault
with_front front read = read >>= λ x. Ok (front ++ x.0, x.1)

-- a child in front of the others
abbrev in_front : Option (List ℕ) → Result (List (Option (List ℕ)) × List ℕ) CodecFault → Result (List (Option (List ℕ)) × List ℕ) CodecFault
in_front c others = others >>= λ x. Ok (c ∷ x.0, x.1)

regroup : (front : List (Option (List ℕ))) (c : Option (List ℕ)) (read : Result (List (Option (List ℕ)) × List ℕ) CodecFault) → with_front front (in_front c read) ≡ with_front (front ++ c ∷ []) read
regroup front c (Ok x) = ap (λ (cs : List (Option (List ℕ))). Ok (cs, x.1)) (simp append_assoc)
regroup front c (Err f) = refl

-- a child that is there
abbrev there : Result (List ℕ × List ℕ) CodecFault → Result (Option (List ℕ) × List ℕ) CodecFault
there found = found >>= λ c. Ok (Some c.0, c.1)

chosen : (reads : List ℕ → Bool) (n bits : ℕ) (t : Bool) (first : Result (List ℕ × List ℕ) CodecFault) (bytes : List ℕ)
    → cond t (first >>= λ c. in_front (Some c.0) (first_children reads n (bits / 2) c.1)) (in_front None (first_children reads n (bits / 2) bytes))
    ≡ (cond t (there first) (Ok (None, bytes)) >>= λ c. in_front c.0 (first_children reads n (bits / 2) c.1))
chosen reads n bits true (Ok c) bytes = refl
chosen reads n bits true (Err f) bytes = refl
chosen reads n bits false first bytes = refl

-- the child of the lowest bit, and the others
by_lowest : (reads : List ℕ → Bool) (n bits : ℕ) (bytes : List ℕ)
    → first_children reads (suc n) bits bytes ≡ (first_lowest_child reads bits bytes >>= λ c. in_front c.0 (first_children reads n (bits / 2) c.1))
unfolding first_children
by_lowest reads n bits bytes = chosen reads n bits (bits % 2 == 1) (first_child reads bytes) bytes

pub goes_on : (reads : List ℕ → Bool) (front : List (Option (List ℕ))) (i bits : ℕ) (bytes : List ℕ) (c : Option (List ℕ)) (after : List ℕ) (total : Result (List (Option (List ℕ)) × List ℕ) CodecFault)
    → i < 16 → first_lowest_child reads bits bytes ≡ Ok (c, after)
    → with_front front (first_children reads (16 - i) bits bytes) ≡ total → with_front (front ++ c ∷ []) (first_children reads (16 - (i + 1)) (bits / 2) after) ≡ total
goes_on reads front i bits bytes c after total lt h so_far =
    let k : 16 - i ≡ suc (16 - (i + 1)) = omega arith in
    let one : with_front front (first_children reads (16 - i) bits bytes) ≡ with_front (front ++ c ∷ []) (first_children reads (16 - (i + 1)) (bits / 2) after) = rw (k, by_lowest, h) (regroup front c (first_children reads (16 - (i + 1)) (bits / 2) after)) in
    sym one ∙ so_far

pub ends : (reads : List ℕ → Bool) (front : List (Option (List ℕ))) (i bits : ℕ) (bytes : List ℕ) (f : CodecFault) (total : Result (List (Option (List ℕ)) × List ℕ) CodecFault)
    → i < 16 → first_lowest_child reads bits bytes ≡ Err f
    → with_front front (first_children reads (16 - i) bits bytes) ≡ total → total ≡ Err f
ends reads front i bits bytes f total lt h so_far =
    let k : 16 - i ≡ suc (16 - (i + 1)) = omega arith in
    let one : with_front front (first_children reads (16 - i) bits bytes) ≡ Err f = rw (k, by_lowest, h) refl in
    sym so_far ∙ one

pub is_done : (reads : List ℕ → Bool) (front : List (Option (List ℕ))) (i bits : ℕ) (bytes : List ℕ) (total : Result (List (Option (List ℕ)) × List ℕ) CodecFault)
    → 16 ≤ i → with_front front (first_children reads (16 - i) bits bytes) ≡ total → total ≡ Ok (front, bytes)
unfolding first_children
is_done reads front i bits bytes total le so_far =
    let k : 16 - i ≡ 0 = omega arith in
    let one : with_front front (first_children reads (16 - i) bits bytes) ≡ Ok (front, bytes) = rw k (ap (λ (cs : List (Option (List ℕ))). Ok (cs, bytes)) (append-nil front)) in
    sym so_far ∙ one
