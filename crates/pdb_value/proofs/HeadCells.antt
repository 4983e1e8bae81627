-- Head cells: what is read of them, and what a write of a tier's ends leaves.
use Rattle.std.proofs.Common.{◌≡◌, ◌^◌, ◌<◌, ◌≤◌, ℕ, List, [], ◌∷◌, length, take, drop, replicate, sym, ap, subst, ◌∙◌, arith}
use Rattle.std.specs.Int.{w32, from_le_bytes}
use Rattle.std.proofs.lemmas.Nat.{from_le_bytes-to_le_bytes_4}
use Rattle.pdb_model.specs.Heads.{Ends, IsHeadCell, ends_at, ends_bytes}
use Rattle.pdb_value.specs.inner.HeadCells.{AreBits, KeepsEnds, ends_said}

pub said_is : (head : List ℕ) (tier : ℕ) (e : Ends) → e.free < 2 ^ 32 → e.end < 2 ^ 32 → ends_at tier head ≡ ends_bytes e → ends_said tier head ≡ e
said_is head tier e f n q =
    let p : (ends_said tier head).free ≡ e.free = ap (λ xs. from_le_bytes w32 (take 4 xs)) q ∙ from_le_bytes-to_le_bytes_4 e.free f in
    let r : (ends_said tier head).end ≡ e.end = ap (λ xs. from_le_bytes w32 (take 4 (drop 4 xs))) q ∙ from_le_bytes-to_le_bytes_4 e.end n in
    λ i. record { free = p i; end = r i }

pub keeps_made : (head : List ℕ) (tier free end : ℕ) → free < 2 ^ 32 → end < 2 ^ 32 → ends_at tier head ≡ ends_bytes (record { free = free; end = end }) → free ≤ end → KeepsEnds head tier
keeps_made head tier free end f n q le =
    let e : Ends = record { free = free; end = end } in
    let is : ends_said tier head ≡ e = said_is head tier e f n q in
    record {
      spelled = q ∙ ap ends_bytes (sym is);
      free = subst (λ (e : Ends). e.free ≤ e.end) (sym is) le;
      narrow = subst (λ (e : Ends). e.end < 2 ^ 32) (sym is) n;
    }

pub keeps_read : (head : List ℕ) (tier free end : ℕ) → free < 2 ^ 32 → end < 2 ^ 32 → ends_at tier head ≡ ends_bytes (record { free = free; end = end }) → KeepsEnds head tier → free ≤ end
keeps_read head tier free end f n q keeps =
    let e : Ends = record { free = free; end = end } in
    subst (λ (e : Ends). e.free ≤ e.end) (said_is head tier e f n q) keeps.free

-- what a head cell that keeps the rules has
pub record HasHead (cell : List ℕ) : Type 0 where
  pub base : ℕ
  pub bits : ℕ
  pub growing : ℕ
  pub front : take 4 cell ≡ 1 ∷ (base ∷ (bits ∷ (growing ∷ [])))
  pub are_bits : AreBits base bits growing
  pub ends : (tier : ℕ) → tier < 16 → KeepsEnds cell tier
  pub zeros : drop 132 cell ≡ replicate 124 0

pub head_read : (cell : List ℕ) → IsHeadCell cell → HasHead cell
head_read cell (h, spells, is) = record {
  base = h.base;
  bits = h.bits;
  growing = h.growing;
  front = spells.front;
  are_bits = record { base_low = is.base; from_base = is.from_base; to_most = is.bits; growing_low = is.growing; doubled = is.doubled };
  ends = λ u small. let narrow = is.narrow u small in let le = is.free u small in keeps_made cell u (h.ends u).free (h.ends u).end (omega arith) narrow (spells.tiers u small) le;
  zeros = spells.zeros;
}

pub head_made : (cell : List ℕ) → length cell ≡ 256 → HasHead cell → IsHeadCell cell
head_made cell len has = (
  record { base = has.base; bits = has.bits; growing = has.growing; ends = λ u. ends_said u cell },
  record { len = len; front = has.front; tiers = λ u small. (has.ends u small).spelled; zeros = has.zeros },
  record {
    base = has.are_bits.base_low;
    from_base = has.are_bits.from_base;
    bits = has.are_bits.to_most;
    growing = has.are_bits.growing_low;
    doubled = has.are_bits.doubled;
    free = λ u small. (has.ends u small).free;
    narrow = λ u small. (has.ends u small).narrow;
  },
)

same_bits : (base bits growing a b g : ℕ) (cell : List ℕ) → take 4 cell ≡ 1 ∷ (base ∷ (bits ∷ (growing ∷ []))) → take 4 cell ≡ 1 ∷ (a ∷ (b ∷ (g ∷ []))) → AreBits a b g → AreBits base bits growing
same_bits base bits growing a b g cell p q are =
    let all : 1 ∷ (base ∷ (bits ∷ (growing ∷ []))) ≡ 1 ∷ (a ∷ (b ∷ (g ∷ []))) = sym p ∙ q in
    let x : a ≡ base = cc in let y : b ≡ bits = cc in let z : g ≡ growing = cc in
    subst (λ g. AreBits base bits g) z (subst (λ b. AreBits base b g) y (subst (λ a. AreBits a b g) x are))

-- a head cell has the bits that are read of it
pub bits_read : (base bits growing : ℕ) (cell : List ℕ) → take 4 cell ≡ 1 ∷ (base ∷ (bits ∷ (growing ∷ []))) → IsHeadCell cell → AreBits base bits growing
bits_read base bits growing cell p head = let has = head_read cell head in same_bits base bits growing has.base has.bits has.growing cell p has.front has.are_bits
