-- A list that is longer by what was read into its new places.
use Rattle.std.proofs.Common.{◌≡◌, ℕ, ◌+◌, ◌≤◌, List, ◌++◌, length, take, drop, replicate, sym, ap, ◌∙◌, arith, length-append}
use Rattle.std.proofs.lemmas.List.{take_all, take-append-le, take_at, length-take-le}
use Rattle.std.proofs.lemmas.Slice.{take-put_mid}
use borrow.Rule.Slice.PartMut.{put_mid, post_of}

pub filled : (old items now ys : List ℕ) (s n k m end : ℕ) → s ≡ length old → items ≡ take n old ++ replicate k 0 → now ≡ items → n ≡ s + length ys → end ≡ n
    → take end (put_mid s m now ys ++ drop (length (put_mid s m now ys)) items) ≡ old ++ ys
filled old items now ys s n k m end start is same len ends =
    let whole : take n old ≡ old = take_all n old (omega (arith, start, len)) in
    let here : now ≡ old ++ replicate k 0 = same ∙ (is ∙ ap (λ xs. xs ++ replicate k 0) whole) in
    let front : take s now ≡ old = ap (take s) here ∙ take_at old (replicate k 0) s (sym start) in
    let low : s ≤ length now = omega (arith, start, ap length here, length-append old (replicate k 0)) in
    let put : take n (put_mid s m now ys) ≡ take s now ++ ys = take-put_mid s m now ys n len low in
    let long : n ≤ length (put_mid s m now ys) = omega (arith, len, low, length-append (take s now) (ys ++ post_of s m now), length-append ys (post_of s m now), length-take-le s now low) in
    ap (λ j. take j (put_mid s m now ys ++ drop (length (put_mid s m now ys)) items)) ends ∙ take-append-le n (put_mid s m now ys) (drop (length (put_mid s m now ys)) items) long ∙ (put ∙ ap (λ xs. xs ++ ys) front)
