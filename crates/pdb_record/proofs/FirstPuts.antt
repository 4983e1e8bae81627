-- The put with which a body begins.
use Rattle.std.proofs.Common.{◌≡◌, ◌⊎◌, ◌+◌, ◌-◌, ◌==◌, ◌^◌, ◌<◌, ◌≤◌, ℕ, List, ◌++◌, length, take, drop, nat_lt, false, Some, None, Option, slice_get, refl, sym, ap, ◌∙◌, ⊎_elim, arith, length-take, length-drop, length-append}
use Rattle.std.specs.Int.{w16, w64, to_le_bytes, from_le_bytes}
use Rattle.std.proofs.lemmas.Bool.Decides.{nat_tests}
use Rattle.std.proofs.lemmas.Nat.{from_le_bytes-to_le_bytes_2, from_le_bytes-to_le_bytes_8}
use Rattle.std.proofs.lemmas.Option.{slice_get_past}
use Rattle.std.proofs.lemmas.List.{take-append-drop, take_at, drop-drop}
use Rattle.pdb_cells.specs.Puts.{IsWholeCell}
use Rattle.pdb_cells.specs.Sizes.{head_file, size_of, slot_sizes}
use Rattle.pdb_cells.specs.declared.CellName.{CellName}
use Rattle.pdb_cells.specs.declared.Put.{Put}
use Rattle.pdb_model.specs.Records.{put_bytes}

high_file : (file : ℕ) → 65 < file → size_of file ≡ None
high_file file high =
    let t : (file == head_file) ≡ false = grind (arith, nat_tests) in
    let u : nat_lt file 16 ≡ false = grind (arith, nat_tests) in
    let v : nat_lt file 48 ≡ false = grind (arith, nat_tests) in
    let w : nat_lt (file - 48) 2 ≡ false = grind (arith, nat_tests) in
    let past : slice_get slot_sizes (file - 48 - 2) ≡ None = slice_get_past slot_sizes (file - 48 - 2) (let l : length slot_sizes ≡ 16 = refl in omega arith) in
    rw (t, u, v, w) past

pub none_some : (n : ℕ) (o : Option ℕ) → o ≡ None → o ≡ Some n → ⊥
none_some n o p q = cc

-- a file with cells has a number below 66
pub small_file : (file n : ℕ) → size_of file ≡ Some n → file < 66
small_file file n e =
    let which : (file < 66) ⊎ (65 < file) = grind arith in
    ⊎_elim (λ low. low) (λ high. absurd (none_some n (size_of file) (high_file file high) e)) which

-- the first ten bytes of a body name its first cell
pub one_name : (bytes rest : List ℕ) (name : CellName) (p : Put) → to_le_bytes w16 name.file ++ to_le_bytes w64 name.index ≡ take 10 bytes
    → bytes ≡ put_bytes p ++ rest → IsWholeCell p → name.file < 2 ^ 16 → name.index < 2 ^ 64 → name ≡ p.name
one_name bytes rest name p spelled is whole small narrow =
    let front : to_le_bytes w16 name.file ++ to_le_bytes w64 name.index ≡ to_le_bytes w16 p.name.file ++ to_le_bytes w64 p.name.index = spelled ∙ ap (take 10) is in
    let low : p.name.file < 66 = small_file p.name.file _ whole.0 in
    let file : name.file ≡ p.name.file = sym (from_le_bytes-to_le_bytes_2 name.file small) ∙ (ap (λ b. from_le_bytes w16 (take 2 b)) front ∙ from_le_bytes-to_le_bytes_2 p.name.file (omega arith)) in
    let index : name.index ≡ p.name.index = sym (from_le_bytes-to_le_bytes_8 name.index narrow) ∙ (ap (λ b. from_le_bytes w64 (drop 2 b)) front ∙ from_le_bytes-to_le_bytes_8 p.name.index (omega (arith, whole.1))) in
    λ i. record { file = file i; index = index i }

pub one_some : (o : Option ℕ) (n m : ℕ) → o ≡ Some n → o ≡ Some m → n ≡ m
one_some o n m p q = cc

-- the bytes of the first cell
pub one_body : (bytes rest : List ℕ) (p : Put) (n : ℕ) → bytes ≡ put_bytes p ++ rest → n ≡ length p.bytes → take (10 + n - 10) (drop 10 bytes) ≡ p.bytes
one_body bytes rest p n is len =
    let k : length p.bytes ≡ 10 + n - 10 = omega arith in
    ap (λ b. take (10 + n - 10) (drop 10 b)) is ∙ take_at p.bytes rest (10 + n - 10) k

-- ten bytes that name a cell, and what comes after them, are a put and the rest
pub split_put : (bytes : List ℕ) (name : CellName) (n : ℕ) → to_le_bytes w16 name.file ++ to_le_bytes w64 name.index ≡ take 10 bytes → 10 + n ≤ length bytes
    → bytes ≡ (to_le_bytes w16 name.file ++ (to_le_bytes w64 name.index ++ take (10 + n - 10) (drop 10 bytes))) ++ drop (10 + length (take (10 + n - 10) (drop 10 bytes))) bytes
split_put bytes name n spelled within =
    let body : List ℕ = take (10 + n - 10) (drop 10 bytes) in
    let len : 10 + n - 10 ≡ length body = omega (arith, length-take (10 + n - 10) (drop 10 bytes), length-drop 10 bytes) in
    let back : drop 10 bytes ≡ body ++ drop (10 + length body) bytes
    = sym (take-append-drop (10 + n - 10) (drop 10 bytes)) ∙ ap (λ t. body ++ t) (drop-drop (10 + n - 10) 10 bytes ∙ ap (λ m. drop (10 + m) bytes) len) in
    sym (take-append-drop 10 bytes) ∙ (ap (λ f. f ++ drop 10 bytes) (sym spelled) ∙ ap (λ t. (to_le_bytes w16 name.file ++ to_le_bytes w64 name.index) ++ t) back)

-- a whole put's cell is the one read, and so is its size
pub same_size : (name : CellName) (p : Put) (n : ℕ) → name ≡ p.name → size_of name.file ≡ Some n → IsWholeCell p → n ≡ length p.bytes
same_size name p n same is whole = one_some (size_of p.name.file) n (length p.bytes) (ap (λ (m : CellName). size_of m.file) (sym same) ∙ is) whole.0

pub whole_len : (bytes rest : List ℕ) (p : Put) → bytes ≡ put_bytes p ++ rest → length bytes ≡ 10 + (length p.bytes + length rest)
whole_len bytes rest p is = let parts = length-append p.bytes rest in omega (arith, ap length is)
