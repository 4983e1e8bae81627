-- What is read of a value's first slot.
use Rattle.std.proofs.Common.{◌≡◌, ◌+◌, ◌-◌, ◌/◌, ◌<◌, ◌≤◌, ◌++◌, ◌==◌, if◌then◌else◌, Bool, true, false, not, ℕ, List, length, take, drop, replicate, refl, sym, ap, subst, ◌∙◌, arith, inl, inr, length-append}
use Rattle.std.specs.Int.{w32, to_le_bytes}
use Rattle.std.proofs.Math.Seq.{take-append_seam, drop-append_seam}
use Rattle.std.proofs.lemmas.List.{drop-drop}
use Rattle.pdb_cells.specs.Content.{Content}
use Rattle.pdb_model.specs.Breaks.{HasEnd, IsNoPart}
use Rattle.pdb_model.specs.Files.{table_cells, table_file}
use Rattle.pdb_model.specs.Slots.{IsHeadOfParts, IsWhole}
use Rattle.pdb_model.specs.Tables.{first, part_count, slots_of}
use Rattle.pdb_model.specs.Tiers.{in_head, parts_tier, slot_size, tier_of}
use Rattle.pdb_value.specs.Values.{AreFurtherParts, BreaksValue, IsFirstAt, IsValueAt}
use Rattle.pdb_value.specs.Faults.{FaultSays, NoTier}
use Rattle.pdb_value.specs.declared.fault.ValueFault.{ValueFault}
use Rattle.pdb_value.specs.declared.fault.ValueFault.TheVariants.{Damaged, Disk, OutOfMemory, TierFull}
use Rattle.pdb_value.specs.inner.Fields.{counted_bytes}
use Rattle.pdb_value.specs.inner.Firsts.{FitsFirst, IsFirst}
use Rattle.pdb_value.proofs.Layouts.{head_fields, whole_fields}
use Rattle.pdb_value.proofs.Sizes.{parts_long, whole_fits, whole_short}

pub first_at : (cells : Content) (column tier s end : ℕ) (cell key : List ℕ) (count len next : ℕ) → cell ≡ table_cells cells column tier s → IsFirst tier end cell key count len next
    → IsFirstAt cells column tier s key count
first_at cells column tier s end cell key count len next is read =
    elim read [
      | inl a ↦ inl (a.0, subst (λ (c : List ℕ). IsWhole tier c key count a.0) is a.1)
      | inr b ↦ inr (b.0, (len, next, b.1.0, subst (λ (c : List ℕ). IsHeadOfParts c key count len next b.1.0) is b.1.1))
    ]

pub first_fits : (tier end : ℕ) (cell key : List ℕ) (count len next : ℕ) → IsFirst tier end cell key count len next → FitsFirst tier end len next
first_fits tier end cell key count len next read =
    elim read [
      | inl a ↦ record {
        whole = λ _. subst (λ n. 44 + n ≤ slot_size tier) (sym a.2) (whole_fits (length a.0) tier a.1.not_parts a.1.lowest);
        parted = λ e. let low = a.1.not_parts in absurd (omega arith);
        most = let q = whole_fits (length a.0) tier a.1.not_parts a.1.lowest in let r = whole_short (length a.0) tier a.1.not_parts a.1.lowest in omega (arith, a.2);
        lowest = a.1.lowest ∙ ap tier_of (sym a.2);
      }
      | inr b ↦ record {
        whole = λ low. absurd (omega (arith, b.0));
        parted = λ _. (parts_long len b.1.1.long, b.1.2, b.1.3);
        most = b.1.1.not_too_long;
        lowest = b.0 ∙ sym b.1.1.long;
      }
    ]

fields_off : (kind len count : ℕ) (key rest : List ℕ) → length key ≡ 32 → drop 44 (counted_bytes kind len count (key ++ rest)) ≡ rest
unfolding counted_bytes
fields_off kind len count key rest n = ap (λ k. drop k (key ++ rest)) (sym n) ∙ drop-append_seam key rest

-- the bytes of a whole value lie behind its fields
pub whole_value : (tier end len next count n : ℕ) (cell key d : List ℕ) → tier < 15 → IsFirst tier end cell key count len next → d ≡ cell → n ≡ len → (value : List ℕ) × (take n (drop 44 d) ≡ value) × IsWhole tier cell key count value
whole_value tier end len next count n cell key d low read e is =
    elim read [
      | inl a ↦ (
        a.0,
        ap (λ x. take n (drop 44 x)) (e ∙ (a.1.spelled ∙ whole_fields (slot_size tier) key a.0 count a.1.counted.key_len))
            ∙ (ap (take n) (fields_off 1 (length a.0) count key _ a.1.counted.key_len) ∙ (ap (λ k. take k (a.0 ++ replicate (slot_size tier - (44 + length a.0)) 0)) (is ∙ a.2) ∙ take-append_seam a.0 _)),
        a.1,
      )
      | inr b ↦ absurd (omega (arith, b.0))
    ]

links_off : (whole next : ℕ) (rest : List ℕ) → drop 8 (to_le_bytes w32 whole ++ (to_le_bytes w32 next ++ rest)) ≡ rest
links_off whole next rest = refl

-- the first bytes of a value in parts lie behind the fields of its head
pub head_value : (tier end len next count : ℕ) (cell key d : List ℕ) → tier ≡ 15 → IsFirst tier end cell key count len next → d ≡ cell → (value : List ℕ) × (drop 52 d ≡ value) × IsHeadOfParts cell key count len next value
head_value tier end len next count cell key d low read e =
    elim read [
      | inl a ↦ let q = a.1.not_parts in absurd (omega arith)
      | inr b ↦ (
        b.1.0,
        ap (drop 52) (e ∙ (b.1.1.spelled ∙ head_fields key b.1.0 count len next))
            ∙ (sym (drop-drop 8 44 (counted_bytes 2 in_head count (key ++ (to_le_bytes w32 len ++ (to_le_bytes w32 next ++ b.1.0)))))
            ∙ (ap (drop 8) (fields_off 2 in_head count key _ b.1.1.counted.key_len) ∙ links_off len next b.1.0)),
        b.1.1,
      )
    ]

pub whole_at : (cells : Content) (column tier s end len next count n : ℕ) (cell key key' d out : List ℕ) → tier < 15 → IsFirst tier end cell key count len next
    → cell ≡ table_cells cells column tier s → d ≡ cell → n ≡ len → key ≡ key' → out ≡ take n (drop 44 d) → IsValueAt cells column tier s key' count out
whole_at cells column tier s end len next count n cell key key' d out low read is e m k o =
    let v = whole_value tier end len next count n cell key d low read e m in
    inl (subst (λ (c : List ℕ). IsWhole tier c key' count out) is (subst (λ (k : List ℕ). IsWhole tier cell k count out) k (subst (λ (x : List ℕ). IsWhole tier cell key count x) (sym (o ∙ v.1)) v.2)))

pub parts_at : (cells : Content) (column tier s end len next count : ℕ) (cell key key' d out parts bytes : List ℕ) → tier ≡ 15 → IsFirst tier end cell key count len next
    → HasEnd cells column tier end → cell ≡ table_cells cells column tier s → d ≡ cell → key ≡ key' → AreFurtherParts end (table_cells cells column parts_tier) parts bytes → first parts ≡ next
    → length bytes ≡ len - 4044 → out ≡ drop 52 d ++ bytes → IsValueAt cells column tier s key' count out
parts_at cells column tier s end len next count cell key key' d out parts bytes low read has is e k are f n o =
    let v = head_value tier end len next count cell key d low read e in
    let q : out ≡ v.0 ++ bytes = o ∙ ap (λ x. x ++ bytes) v.1 in
    let front : take in_head out ≡ v.0 = ap (take in_head) q ∙ (ap (λ k. take k (v.0 ++ bytes)) (sym v.2.full) ∙ take-append_seam v.0 bytes) in
    let back : drop in_head out ≡ bytes = ap (drop in_head) q ∙ (ap (λ k. drop k (v.0 ++ bytes)) (sym v.2.full) ∙ drop-append_seam v.0 bytes) in
    let long = parts_long len v.2.long in
    let all : length out ≡ len = ap length q ∙ (length-append v.0 bytes ∙ omega (arith, v.2.full)) in
    let one : IsHeadOfParts cell key' count len next v.0 = subst (λ (k : List ℕ). IsHeadOfParts cell k count len next v.0) k v.2 in
    let two : IsHeadOfParts cell key' count (length out) next v.0 = subst (λ m. IsHeadOfParts cell key' count m next v.0) (sym all) one in
    let three : IsHeadOfParts cell key' count (length out) (first parts) v.0 = subst (λ m. IsHeadOfParts cell key' count (length out) m v.0) (sym f) two in
    let four : IsHeadOfParts cell key' count (length out) (first parts) (take in_head out) = subst (IsHeadOfParts cell key' count (length out) (first parts)) (sym front) three in
    inr (
      low,
      (
        end,
        has,
        (
          parts,
          subst (λ (c : List ℕ). IsHeadOfParts c key' count (length out) (first parts) (take in_head out)) is four,
          subst (λ u. AreFurtherParts end (table_cells cells column u) parts (drop in_head out)) (sym low) (subst (AreFurtherParts end (table_cells cells column parts_tier) parts) (sym back) are),
        ),
      ),
    )

pub slots_long : (tier len : ℕ) → tier ≡ 15 → tier ≡ tier_of len → slots_of len ≡ 1 + (len - 4044 + 4087) / 4088
slots_long tier len e l = ap (λ n. if n == parts_tier then 1 + part_count len else 1) (sym l ∙ e)

pub broken_part : (cells : Content) (column tier end : ℕ) (e : ValueFault) → tier ≡ 15 → HasEnd cells column tier end
    → FaultSays (λ file cell. (left : ℕ) × (1 ≤ left) × (file ≡ table_file column parts_tier) × IsNoPart left end (cells file cell)) NoTier e → FaultSays (BreaksValue cells column tier) NoTier e
broken_part cells column tier end OutOfMemory low has says = tt
broken_part cells column tier end Disk low has says = tt
broken_part cells column tier end (Damaged file cell) low has says = inr (says.2 ∙ ap (table_file column) (sym low), (end, has, inr (inr (says.0, says.1, low, says.3))))
broken_part cells column tier end (TierFull u) low has says = says

pub not_no : (b : Bool) → not b ≡ false → b ≡ true
not_no true e = refl
not_no false e = sym e
