-- Where lines are in a piece of the input.
use Rattle.std.proofs.Common.{◌≡◌, ◌≢◌, ℕ, zero, suc, ◌+◌, ◌-◌, ◌<◌, ◌≤◌, List, [], ◌∷◌, ◌++◌, length, take, drop, get_or, sym, ap, ◌∙◌, arith, inl, inr, append_assoc, append-nil}
use Rattle.std.specs.Prelude.{◌⊎◌, slice_range}
use Rattle.std.proofs.lemmas.Bool.{cases_lt}
use Rattle.std.proofs.lemmas.Bool.Decides.{eqb_tells}
use Rattle.std.proofs.lemmas.List.{get_or_default, get_or-take, length-take}
use Rattle.std.proofs.lemmas.List.Elements.{All-append}
use Rattle.std.proofs.lemmas.List.Folds.{drop_split}
use Rattle.std.proofs.lemmas.List.Edits.{get_or-between, length-between}
use Rattle.std.proofs.Math.Seq.{drop-cons}
use Rattle.sdb_serve.specs.Runs.{BeginsWith, HasNoLineFeed}

pub clear_cons : (x : ℕ) (xs : List ℕ) → x ≢ 10 → HasNoLineFeed xs → HasNoLineFeed (x ∷ xs)
clear_cons x xs ne clear zero d lt = ne
clear_cons x xs ne clear (suc k) d lt = clear k d (omega arith)

pub clear_nothing : HasNoLineFeed []
clear_nothing k d lt = absurd (omega arith)

pub clear_front : (piece : List ℕ) (n : ℕ) → n ≤ length piece → HasNoLineFeed (take n piece) → (k : ℕ) → 0 ≤ k → k < n → get_or piece k 0 ≢ 10
clear_front piece n le h k low lt = rw (get_or-take n piece k 0 lt) at (h k 0 (omega (arith, length-take n piece)))

pub clear_range : (piece : List ℕ) (a b : ℕ) → b ≤ length piece → HasNoLineFeed (slice_range piece a b) → (k : ℕ) → a ≤ k → k < b → get_or piece k 0 ≢ 10
clear_range piece a b le h k low lt =
    let there : k - a < length (slice_range piece a b) = omega (arith, length-between piece a b le) in
    let same : get_or (slice_range piece a b) (k - a) 0 ≡ get_or piece (a + (k - a)) 0 = get_or-between piece a b (k - a) 0 (omega arith) in
    let back : a + (k - a) ≡ k = omega arith in
    rw (same, back) at (h (k - a) 0 there)

pub range_clear : (piece : List ℕ) (a b : ℕ) → b ≤ length piece → ((k : ℕ) → a ≤ k → k < b → get_or piece k 0 ≢ 10) → HasNoLineFeed (slice_range piece a b)
range_clear piece a b le h k d lt =
    let in_range : a + k < b = omega (arith, length-between piece a b le) in
    let same : get_or (slice_range piece a b) k d ≡ get_or piece (a + k) 0 = get_or-between piece a b k d in_range ∙ get_or_default piece (a + k) d 0 (omega arith) in
    rw same (h (a + k) (omega arith) in_range)

pub rest_clear : (piece : List ℕ) (a b : ℕ) → a ≤ b → b ≤ length piece → ((k : ℕ) → a ≤ k → k < b → get_or piece k 0 ≢ 10) → HasNoLineFeed (drop b piece)
    → HasNoLineFeed (drop a piece)
rest_clear piece a b ab le h past = rw (drop_split piece a b ab) (All-append (λ (c : ℕ). c ≢ 10) (slice_range piece a b) (drop b piece) (range_clear piece a b le h) past)

pub line_clear : (piece : List ℕ) (a b e : ℕ) → b ≤ e → e ≤ length piece → ((k : ℕ) → a ≤ k → k < b → get_or piece k 0 ≢ 10)
    → HasNoLineFeed (slice_range piece b e) → HasNoLineFeed (slice_range piece a e)
line_clear piece a b e be le h past = range_clear piece a e le (λ k low lt. elim (cases_lt k b) [
  | inl below ↦ h k low below
  | inr above ↦ clear_range piece b e le past k above lt
])

-- the line that ends at a line feed
pub line_at : (piece rest : List ℕ) (a b : ℕ) → a ≤ b → b < length piece → get_or piece b 0 ≡ 10
    → drop a piece ++ rest ≡ slice_range piece a b ++ 10 ∷ (drop (b + 1) piece ++ rest)
line_at piece rest a b ab lt e =
    let next : suc b ≡ b + 1 = omega arith in
    let feed : drop b piece ≡ 10 ∷ drop (b + 1) piece =
    drop-cons piece b 0 lt ∙ ap (λ (c : ℕ). c ∷ drop (suc b) piece) e ∙ ap (λ (n : ℕ). 10 ∷ drop n piece) next in
    ap (λ (t : List ℕ). t ++ rest) (drop_split piece a b ab ∙ ap (λ (t : List ℕ). slice_range piece a b ++ t) feed)
    ∙ append_assoc (slice_range piece a b) (10 ∷ drop (b + 1) piece) rest

pub begins_at : (start end : ℕ) (piece rest more : List ℕ) → start ≤ end → end < length piece → get_or piece end 0 ≡ 10 → HasNoLineFeed (slice_range piece start end)
    → more ≡ drop start piece ++ rest → BeginsWith more (slice_range piece start end) (drop (end + 1) piece ++ rest)
begins_at start end piece rest more order within feed clear e = record { parts = e ∙ line_at piece rest start end order within feed; one_line = clear }

-- the first line feed of a text, if there is one
pub first_feed : (xs : List ℕ) → HasNoLineFeed xs ⊎ ((line rest : List ℕ) × HasNoLineFeed line × (xs ≡ line ++ 10 ∷ rest))
first_feed [] = inl (λ k d lt. absurd (omega arith))
first_feed (x ∷ xs) = elim (eqb_tells x 10) [
  | inl same ↦ inr ([], xs, (λ k d lt. absurd (omega arith)), ap (λ (c : ℕ). c ∷ xs) same.1)
  | inr other ↦ elim (first_feed xs) [
    | inl clear ↦ inl (clear_cons x xs other.1 clear)
    | inr found ↦ inr (x ∷ found.0, found.1, clear_cons x found.0 other.1 found.2, ap (λ (t : List ℕ). x ∷ t) found.3)
  ]
]

-- the rest of a piece begins with the line that ends at a line feed
pub rest_begins : (start end : ℕ) (piece : List ℕ) → start ≤ end → end < length piece → get_or piece end 0 ≡ 10 → HasNoLineFeed (slice_range piece start end)
    → BeginsWith (drop start piece) (slice_range piece start end) (drop (end + 1) piece)
rest_begins start end piece order within feed clear = record {
  parts = sym (append-nil (drop start piece)) ∙ line_at piece [] start end order within feed ∙ ap (λ (t : List ℕ). slice_range piece start end ++ 10 ∷ t) (append-nil (drop (end + 1) piece));
  one_line = clear;
}
