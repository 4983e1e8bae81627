-- Cells after a put, and head cells after a write of a tier's ends.
use Rattle.std.proofs.Common.{◌≡◌, ◌≢◌, ◌+◌, ◌-◌, ◌^◌, ◌<◌, ◌≤◌, ◌==◌, ◌&&◌, if◌then◌else◌, Bool, true, false, ℕ, List, ◌++◌, length, take, drop, refl, sym, ap, subst, ◌∙◌, arith, inl, inr, append_assoc}
use Rattle.std.proofs.lemmas.Bool.{cases_lt}
use Rattle.std.proofs.lemmas.Bool.Decides.{eqb_tells}
use Rattle.std.proofs.lemmas.Grind.{common_steps}
use Rattle.std.proofs.lemmas.List.{drop-append-le, take-append-le, drop-take, take-take, length-drop, length-append, drop-drop}
use Rattle.std.proofs.Math.Seq.{drop-append_seam, take-append_seam}
use Rattle.pdb_cells.specs.Content.{Content, put_cell}
use Rattle.pdb_cells.specs.Sizes.{head_file}
use Rattle.pdb_model.specs.Files.{table_file}
use Rattle.pdb_model.specs.Heads.{Ends, IsHeadCell, ends_at, ends_bytes, ends_place}
use Rattle.pdb_value.specs.inner.HeadCells.{KeepsEnds, ends_said, with_ends}
use Rattle.std.specs.Int.{w32, from_le_bytes}
use Rattle.pdb_value.proofs.HeadCells.{head_made, head_read, keeps_made}

-- ---- puts

by_file : (file i f j : ℕ) (bytes old : List ℕ) → (f ≡ file → ⊥) → (if (file == f) && (i == j) then bytes else old) ≡ old
by_file file i f j bytes old ne = elim (eqb_tells file f) [ inl h ↦ absurd (ne (sym h.1)) | inr h ↦ ap (λ b. if b && (i == j) then bytes else old) h.0 ]

by_index : (file i f j : ℕ) (bytes old : List ℕ) → (j ≡ i → ⊥) → (if (file == f) && (i == j) then bytes else old) ≡ old
by_index file i f j bytes old ne =
    let none : (b : Bool) → (if b && false then bytes else old) ≡ old = λ b. elim b as (λ b. (if b && false then bytes else old) ≡ old) [ true ↦ refl | false ↦ refl ] in
    elim (eqb_tells i j) [ inl h ↦ absurd (ne (sym h.1)) | inr h ↦ ap (λ b. if (file == f) && b then bytes else old) h.0 ∙ none (file == f) ]

pub put_here : (file i : ℕ) (bytes : List ℕ) (cells : Content) → put_cell file i bytes cells file i ≡ bytes
put_here file i bytes cells =
    elim (eqb_tells file file) [
      | inl h ↦ elim (eqb_tells i i) [ inl k ↦ ap (λ b. if b && (i == i) then bytes else cells file i) h.0 ∙ ap (λ b. if true && b then bytes else cells file i) k.0 | inr k ↦ absurd (k.1 refl) ]
      | inr h ↦ absurd (h.1 refl)
    ]

pub put_file : (file i f j : ℕ) (bytes : List ℕ) (cells : Content) → (f ≡ file → ⊥) → put_cell file i bytes cells f j ≡ cells f j
put_file file i f j bytes cells ne = by_file file i f j bytes (cells f j) ne

pub put_index : (file i f j : ℕ) (bytes : List ℕ) (cells : Content) → (j ≡ i → ⊥) → put_cell file i bytes cells f j ≡ cells f j
put_index file i f j bytes cells ne = by_index file i f j bytes (cells f j) ne

pub not_head : (column tier : ℕ) → table_file column tier ≡ head_file → ⊥
not_head column tier e = omega arith

-- ---- a write into a head cell

abbrev said : List ℕ → Ends
said bytes = record { free = from_le_bytes w32 (take 4 bytes); end = from_le_bytes w32 (take 4 (drop 4 bytes)) }

-- what stands before a write
front_kept : (xs ys : List ℕ) (n a k : ℕ) → n ≤ length xs → a + k ≤ n → take k (drop a (take n xs ++ ys)) ≡ take k (drop a xs)
front_kept xs ys n a k h w =
    let long : length (take n xs) ≡ n = grind (arith, common_steps) in
    ap (take k) (drop-append-le a (take n xs) ys (omega arith))
    ∙ take-append-le k (drop a (take n xs)) ys (omega (arith, length-drop a (take n xs)))
    ∙ ap (λ m. take k (drop a (take m xs))) (let e : n ≡ a + (n - a) = omega arith in e)
    ∙ ap (take k) (drop-take a (n - a) xs)
    ∙ take-take k (n - a) (drop a xs) (omega arith)

-- what stands after it
back_kept : (xs ys : List ℕ) (n a : ℕ) → n ≤ length xs → length ys ≡ 8 → n + 8 ≤ a → drop a (take n xs ++ (ys ++ drop (n + 8) xs)) ≡ drop a xs
back_kept xs ys n a h e w =
    let long : length (take n xs) ≡ n = grind (arith, common_steps) in
    let far : length (take n xs ++ ys) ≡ n + 8 = length-append (take n xs) ys ∙ omega arith in
    let seam : drop (n + 8) (take n xs ++ (ys ++ drop (n + 8) xs)) ≡ drop (n + 8) xs =
    ap (drop (n + 8)) (sym (append_assoc (take n xs) ys (drop (n + 8) xs))) ∙ ap (λ m. drop m ((take n xs ++ ys) ++ drop (n + 8) xs)) (sym far) ∙ drop-append_seam (take n xs ++ ys) (drop (n + 8) xs) in
    ap (λ m. drop m (take n xs ++ (ys ++ drop (n + 8) xs))) (let q : a ≡ (n + 8) + (a - (n + 8)) = omega arith in q)
    ∙ sym (drop-drop (a - (n + 8)) (n + 8) (take n xs ++ (ys ++ drop (n + 8) xs))) ∙ ap (drop (a - (n + 8))) seam ∙ drop-drop (a - (n + 8)) (n + 8) xs
    ∙ ap (λ m. drop m xs) (let q : (n + 8) + (a - (n + 8)) ≡ a = omega arith in q)

-- the middle of three parts
middle : (xs ys zs : List ℕ) (n m k : ℕ) → length xs ≡ n → length ys ≡ m → k ≡ m → take k (drop n (xs ++ (ys ++ zs))) ≡ ys
middle xs ys zs n m k a b c =
    ap (λ k. take k (drop n (xs ++ (ys ++ zs)))) (c ∙ sym b) ∙ (ap (λ k. take (length ys) (drop k (xs ++ (ys ++ zs)))) (sym a) ∙ (ap (take (length ys)) (drop-append_seam xs (ys ++ zs)) ∙ take-append_seam ys zs))

ends_len : (e : Ends) → length (ends_bytes e) ≡ 8
ends_len e = refl

pub ends_written : (tier : ℕ) (head : List ℕ) (e : Ends) → length head ≡ 256 → tier < 16 → ends_at tier (with_ends tier head e) ≡ ends_bytes e
ends_written tier head e len small =
    let long : length (take (ends_place tier) head) ≡ ends_place tier = grind (arith, common_steps) in
    middle (take (ends_place tier) head) (ends_bytes e) (drop (ends_place tier + 8) head) (ends_place tier) 8 _ long refl (omega arith)

pub written_len : (tier : ℕ) (head : List ℕ) (e : Ends) → length head ≡ 256 → tier < 16 → length (with_ends tier head e) ≡ 256
written_len tier head e len small =
    let p : length (ends_bytes e) ≡ 8 = refl in
    let a = length-append (take (ends_place tier) head) (ends_bytes e ++ drop (ends_place tier + 8) head) in
    let b = length-append (ends_bytes e) (drop (ends_place tier + 8) head) in
    let d = length-drop (ends_place tier + 8) head in
    let f : length (take (ends_place tier) head) ≡ ends_place tier = grind (arith, common_steps) in omega arith

-- another tier's ends stay
pub others_kept : (head : List ℕ) (t u : ℕ) (e : Ends) → length head ≡ 256 → t < 16 → u < 16 → u ≢ t → ends_at u (with_ends t head e) ≡ ends_at u head
others_kept head t u e len a b ne =
    elim (cases_lt u t) [
      | inl before ↦ front_kept head (ends_bytes e ++ drop (ends_place t + 8) head) (ends_place t) (ends_place u) (ends_place u + 8 - ends_place u) (omega arith) (omega arith)
      | inr here ↦ let far : t < u = omega (arith, ne) in ap (take (ends_place u + 8 - ends_place u)) (back_kept head (ends_bytes e) (ends_place t) (ends_place u) (omega arith) refl (omega arith))
    ]

pub first_kept : (head : List ℕ) (t : ℕ) (e : Ends) → length head ≡ 256 → t < 16 → take 4 (with_ends t head e) ≡ take 4 head
first_kept head t e len small = front_kept head (ends_bytes e ++ drop (ends_place t + 8) head) (ends_place t) 0 4 (omega arith) (omega arith)

pub last_kept : (head : List ℕ) (t : ℕ) (e : Ends) → length head ≡ 256 → t < 16 → drop 132 (with_ends t head e) ≡ drop 132 head
last_kept head t e len small = back_kept head (ends_bytes e) (ends_place t) 132 (omega arith) refl (omega arith)

-- ends that are as they were keep their rule
other_keeps : (head : List ℕ) (u : ℕ) (after : List ℕ) → ends_at u after ≡ ends_at u head → KeepsEnds head u → KeepsEnds after u
other_keeps head u after e keeps =
    let is : ends_said u after ≡ ends_said u head = ap said e in
    record {
      spelled = e ∙ (keeps.spelled ∙ ap ends_bytes (sym is));
      free = subst (λ (e : Ends). e.free ≤ e.end) (sym is) keeps.free;
      narrow = subst (λ (e : Ends). e.end < 2 ^ 32) (sym is) keeps.narrow;
    }

-- a head cell that keeps the rules still does
pub head_kept : (head : List ℕ) (t : ℕ) (e : Ends) → t < 16 → length head ≡ 256 → IsHeadCell head → e.free ≤ e.end → e.end < 2 ^ 32 → IsHeadCell (with_ends t head e)
head_kept head t e small len is le narrow =
    let has = head_read head is in
    head_made (with_ends t head e) (written_len t head e len small) (record {
      base = has.base;
      bits = has.bits;
      growing = has.growing;
      front = first_kept head t e len small ∙ has.front;
      are_bits = has.are_bits;
      ends = λ u low. elim (eqb_tells u t) [
        | inl h ↦ subst (KeepsEnds (with_ends t head e)) (sym h.1) (keeps_made (with_ends t head e) t e.free e.end (omega arith) narrow (ends_written t head e len small) le)
        | inr h ↦ other_keeps head u (with_ends t head e) (others_kept head t u e len small low h.1) (has.ends u low)
      ];
      zeros = last_kept head t e len small ∙ has.zeros;
    })
