-- The sizes of slots and of the files that they lie in.
use Rattle.std.proofs.Common.{◌≡◌, ◌+◌, ◌*◌, ◌<◌, ◌≤◌, ℕ, zero, suc, Some, refl, sym, ap, subst, ◌∙◌, arith}
use Rattle.pdb_cells.specs.Sizes.{size_of}
use Rattle.pdb_model.specs.Tiers.{slot_size, tier_of}
use Rattle.std.proofs.lemmas.Bool.Decides.{nat_tests}
use Rattle.std.proofs.lemmas.Bool.{cases_lt}
use Rattle.std.proofs.Common.{inl, inr}

low : (tier : ℕ) → tier ≤ 15 → size_of (18 + tier) ≡ Some (slot_size tier)
low zero h = refl
low (suc zero) h = refl
low (suc (suc zero)) h = refl
low (suc (suc (suc zero))) h = refl
low (suc (suc (suc (suc zero)))) h = refl
low (suc (suc (suc (suc (suc zero))))) h = refl
low (suc (suc (suc (suc (suc (suc zero)))))) h = refl
low (suc (suc (suc (suc (suc (suc (suc zero))))))) h = refl
low (suc (suc (suc (suc (suc (suc (suc (suc zero)))))))) h = refl
low (suc (suc (suc (suc (suc (suc (suc (suc (suc zero))))))))) h = refl
low (suc (suc (suc (suc (suc (suc (suc (suc (suc (suc zero)))))))))) h = refl
low (suc (suc (suc (suc (suc (suc (suc (suc (suc (suc (suc zero))))))))))) h = refl
low (suc (suc (suc (suc (suc (suc (suc (suc (suc (suc (suc (suc zero)))))))))))) h = refl
low (suc (suc (suc (suc (suc (suc (suc (suc (suc (suc (suc (suc (suc zero))))))))))))) h = refl
low (suc (suc (suc (suc (suc (suc (suc (suc (suc (suc (suc (suc (suc (suc zero)))))))))))))) h = refl
low (suc (suc (suc (suc (suc (suc (suc (suc (suc (suc (suc (suc (suc (suc (suc zero))))))))))))))) h = refl
low (suc (suc (suc (suc (suc (suc (suc (suc (suc (suc (suc (suc (suc (suc (suc (suc n)))))))))))))))) h = absurd (omega arith)

high : (tier : ℕ) → tier ≤ 15 → size_of (50 + tier) ≡ Some (slot_size tier)
high zero h = refl
high (suc zero) h = refl
high (suc (suc zero)) h = refl
high (suc (suc (suc zero))) h = refl
high (suc (suc (suc (suc zero)))) h = refl
high (suc (suc (suc (suc (suc zero))))) h = refl
high (suc (suc (suc (suc (suc (suc zero)))))) h = refl
high (suc (suc (suc (suc (suc (suc (suc zero))))))) h = refl
high (suc (suc (suc (suc (suc (suc (suc (suc zero)))))))) h = refl
high (suc (suc (suc (suc (suc (suc (suc (suc (suc zero))))))))) h = refl
high (suc (suc (suc (suc (suc (suc (suc (suc (suc (suc zero)))))))))) h = refl
high (suc (suc (suc (suc (suc (suc (suc (suc (suc (suc (suc zero))))))))))) h = refl
high (suc (suc (suc (suc (suc (suc (suc (suc (suc (suc (suc (suc zero)))))))))))) h = refl
high (suc (suc (suc (suc (suc (suc (suc (suc (suc (suc (suc (suc (suc zero))))))))))))) h = refl
high (suc (suc (suc (suc (suc (suc (suc (suc (suc (suc (suc (suc (suc (suc zero)))))))))))))) h = refl
high (suc (suc (suc (suc (suc (suc (suc (suc (suc (suc (suc (suc (suc (suc (suc zero))))))))))))))) h = refl
high (suc (suc (suc (suc (suc (suc (suc (suc (suc (suc (suc (suc (suc (suc (suc (suc n)))))))))))))))) h = absurd (omega arith)

pub file_sized : (column tier a b : ℕ) → column ≤ 1 → tier ≤ 15 → a ≡ column → b ≡ tier → size_of (18 + 32 * a + b) ≡ Some (slot_size tier)
file_sized zero tier a b c t e f = ap (λ k. size_of (18 + 32 * k + b)) e ∙ (ap (λ k. size_of (18 + k)) f ∙ low tier t)
file_sized (suc zero) tier a b c t e f = ap (λ k. size_of (18 + 32 * k + b)) e ∙ (ap (λ k. size_of (50 + k)) f ∙ high tier t)
file_sized (suc (suc n)) tier a b c t e f = absurd (omega arith)

tier_of_long : (len : ℕ) → 32724 < len → tier_of len ≡ 15
tier_of_long len h = grind (arith, nat_tests)

-- a value that goes to a tier for whole values is short
pub whole_short : (len tier : ℕ) → tier < 15 → tier ≡ tier_of len → len ≤ 32724
whole_short len tier h e = elim (cases_lt 32724 len) [ inl far ↦ let q = tier_of_long len far in absurd (omega arith) | inr near ↦ near ]

tier_of_short : (len : ℕ) → len ≤ 32724 → tier_of len < 15
tier_of_short len h = grind (arith, nat_tests)

-- a value that goes to the tier of values in parts is long
pub parts_long : (len : ℕ) → tier_of len ≡ 15 → 32724 < len
parts_long len e = elim (cases_lt 32724 len) [ inl far ↦ far | inr near ↦ let q = tier_of_short len near in absurd (omega arith) ]

fits : (len : ℕ) → tier_of len < 15 → 44 + len ≤ slot_size (tier_of len)
fits len h = grind (arith, nat_tests)

-- a value that goes to another tier fits it
pub whole_fits : (len tier : ℕ) → tier < 15 → tier ≡ tier_of len → 44 + len ≤ slot_size tier
whole_fits len tier h e = subst (λ k. 44 + len ≤ slot_size k) (sym e) (fits len (subst (λ k. k < 15) e h))
