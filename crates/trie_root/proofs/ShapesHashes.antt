-- A hash is of 32 bytes, and so a Merkle value is a text.
use Rattle.std.proofs.Common.{◌≡◌, ℕ, ◌*◌, ◌<◌, true, false, ltb, zero, suc, List, [], ◌∷◌, length, take, Some, refl, inl, inr, arith, w64, length-append, length-take-le}
use Rattle.std.specs.Int.{to_le_bytes}
use Rattle.std.specs.Prelude.{slice_index}
use Rattle.std.proofs.lemmas.Bool.Decides.{leb_tells}
use Rattle.std.proofs.lemmas.List.Elements.{All-from_recursion}
use Rattle.sdb_blake2.specs.Blake2b.{H, digest, final_state, state_bytes}
use Rattle.trie_model.specs.Node.{IsChild, IsText, Node, merkle_value, spelling}
use Rattle.trie_root.proofs.ShapesBytes.{AreBytes, joined}

word_bytes : (n : ℕ) → AreBytes (to_le_bytes w64 n)
word_bytes n = omega arith

state_bytes_are : (h : List ℕ) (n : ℕ) → AreBytes (state_bytes h n)
unfolding state_bytes
state_bytes_are h zero = tt
state_bytes_are h (suc n) = joined (state_bytes h n) (to_le_bytes w64 (slice_index h n)) (state_bytes_are h n) (word_bytes (slice_index h n))

length-state_bytes : (h : List ℕ) (n : ℕ) → length (state_bytes h n) ≡ 8 * n
unfolding state_bytes
length-state_bytes h zero = refl
length-state_bytes h (suc n) =
    let others : length (state_bytes h n) ≡ 8 * n = length-state_bytes h n in
    omega (arith, length-append (state_bytes h n) (to_le_bytes w64 (slice_index h n)))

taken : (n : ℕ) (xs : List ℕ) → AreBytes xs → AreBytes (take n xs)
taken zero xs a = tt
taken (suc n) [] a = tt
taken (suc n) (x ∷ xs) a = (a.0, taken n xs a.1)

hash_bytes : (m : List ℕ) → AreBytes (H m)
unfolding H digest
hash_bytes m = taken 32 (state_bytes (final_state 32 m) 8) (state_bytes_are (final_state 32 m) 8)

length-hash : (m : List ℕ) → length (H m) ≡ 32
unfolding H digest
length-hash m = length-take-le 32 (state_bytes (final_state 32 m) 8) (omega (arith, length-state_bytes (final_state 32 m) 8))

-- the Merkle value of bytes is a text
pub merkle_text : (bytes : List ℕ) → AreBytes bytes → IsText (Some (merkle_value bytes))
unfolding merkle_value
merkle_text bytes a =
    elim (leb_tells (suc (length bytes)) 32) [
      | inl t ↦
          let e : ltb (length bytes) 32 ≡ true = t.0 in let short : length bytes < 32 = t.1 in
          rw e (omega arith, All-from_recursion (λ b. b < 256) bytes a)
      | inr f ↦
          let e : ltb (length bytes) 32 ≡ false = f.0 in let len : length (H bytes) ≡ 32 = length-hash bytes in
          rw e (omega arith, All-from_recursion (λ b. b < 256) (H bytes) (hash_bytes bytes))
    ]

-- the Merkle value of a node that has parts is a child's
pub merkle_child : (P : Node → Type 0) (n : Node) → P n → (spelling n ≡ 0 ∷ [] → ⊥) → IsChild P (Some (merkle_value (spelling n)))
unfolding merkle_value
merkle_child P n h something =
    elim (leb_tells (suc (length (spelling n))) 32) [
      | inl t ↦ let e : ltb (length (spelling n)) 32 ≡ true = t.0 in rw e (inr (t.1, n, h, refl, something))
      | inr f ↦ let e : ltb (length (spelling n)) 32 ≡ false = f.0 in rw e (inl (length-hash (spelling n)))
    ]
