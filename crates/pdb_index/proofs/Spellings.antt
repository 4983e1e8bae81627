-- The bytes of a chunk, entry by entry.
use Rattle.std.proofs.Common.{◌≡◌, ◌+◌, ◌-◌, ◌*◌, ◌<◌, ◌^◌, ℕ, List, [], ◌∷◌, ◌++◌, All, length, take, drop, refl, sym, ap, ap₂, ◌∙◌, arith}
use Rattle.std.specs.Int.{w64, from_le_bytes, to_le_bytes}
use Rattle.std.specs.Prelude.{slice_range}
use Rattle.std.proofs.lemmas.Grind.{flat_map-append}
use Rattle.std.proofs.lemmas.List.Elements.{All-head, All-tail}
use Rattle.std.proofs.lemmas.Nat.{from_le_bytes-to_le_bytes_8}
use Rattle.std.proofs.Math.Seq.{take-add}
use Rattle.pdb_model.specs.Chunks.{IsChunk, chunk_bytes}

pub one_more_read : (entries : List ℕ) (entry i : ℕ) (bytes : List ℕ) → chunk_bytes entries ≡ take (8 * i) bytes
    → to_le_bytes w64 entry ≡ slice_range bytes (8 * i) (8 * i + 8) → chunk_bytes (entries ++ entry ∷ []) ≡ take (8 * (i + 1)) bytes
one_more_read entries entry i bytes e h =
    let wide : (8 * i + 8) - 8 * i ≡ 8 = omega arith in
    let next : 8 * i + 8 ≡ 8 * (i + 1) = omega arith in
    flat_map-append (to_le_bytes w64) entries (entry ∷ []) ∙ ap₂ ◌++◌ e (h ∙ ap (λ k. take k (drop (8 * i) bytes)) wide)
    ∙ sym (take-add (8 * i) 8 bytes) ∙ ap (λ k. take k bytes) next

same_entry : (x y : ℕ) → x < 2 ^ 64 → y < 2 ^ 64 → to_le_bytes w64 x ≡ to_le_bytes w64 y → x ≡ y
same_entry x y one other e = sym (from_le_bytes-to_le_bytes_8 x one) ∙ ap (from_le_bytes w64) e ∙ from_le_bytes-to_le_bytes_8 y other

same_entries : (xs ys : List ℕ) → length xs ≡ length ys → All (λ e. e < 2 ^ 64) xs → All (λ e. e < 2 ^ 64) ys → chunk_bytes xs ≡ chunk_bytes ys → xs ≡ ys
same_entries [] [] long one other e = refl
same_entries [] (y ∷ ys) long one other e = absurd (omega arith)
same_entries (x ∷ xs) [] long one other e = absurd (omega arith)
same_entries (x ∷ xs) (y ∷ ys) long one other e =
    let narrow : ℕ → Type 0 = λ e. e < 2 ^ 64 in
    ap₂ (λ (x : ℕ) (xs : List ℕ). x ∷ xs)
    (same_entry x y (All-head narrow x xs one) (All-head narrow y ys other) (ap (take 8) e))
    (same_entries xs ys (omega arith) (All-tail narrow x xs one) (All-tail narrow y ys other) (ap (drop 8) e))

-- a chunk is known by its bytes
pub same_chunk : (one other : List ℕ) → IsChunk one → IsChunk other → chunk_bytes one ≡ chunk_bytes other → one ≡ other
same_chunk one other a b e = same_entries one other (a.places ∙ sym b.places) a.narrow b.narrow e
