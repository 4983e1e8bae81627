-- Steps of the layouts of nibbles and bitmaps.
use Rattle.std.proofs.Common.{◌≡◌, ℕ, zero, suc, ◌+◌, ◌-◌, ◌*◌, ◌^◌, ◌<◌, ◌≤◌, Bool, true, false, List, [], ◌∷◌, Option, Some, None, length, take, drop, get_or, refl, arith, lit<, length-drop}
use Rattle.std.proofs.lemmas.List.{take_all}
use Rattle.std.proofs.Math.Nat.{pow-suc}
use Rattle.trie_model.specs.Node.{bitmap}
use Rattle.trie_model.specs.Nibbles.{paired}
use mir.Val.{bool_byte}

-- a bit for each child
pub bitmap_fits : (cs : List (Option (List ℕ))) (n : ℕ) → length cs ≤ n → bitmap cs < 2 ^ n
bitmap_fits [] zero h = lit< tt
bitmap_fits [] (suc n) h = let f : 0 < 2 ^ n = bitmap_fits [] n (omega arith) in rw (pow-suc 2 n) (omega arith)
bitmap_fits (None ∷ cs) (suc n) h = let f : bitmap cs < 2 ^ n = bitmap_fits cs n (omega arith) in rw (pow-suc 2 n) (omega arith)
bitmap_fits (Some c ∷ cs) (suc n) h = let f : bitmap cs < 2 ^ n = bitmap_fits cs n (omega arith) in rw (pow-suc 2 n) (omega arith)
bitmap_fits (c ∷ cs) zero h = absurd (omega arith)

pub bit_fits : (b : Bool) → bool_byte b ≤ 1
bit_fits true = omega arith
bit_fits false = omega arith

-- what a pattern of two leaves
pub after_two : (s : List ℕ) → take (length s - 2) (drop 2 s) ≡ drop 2 s
after_two s = take_all (length s - 2) (drop 2 s) (omega (arith, length-drop 2 s))

-- two nibbles make a byte
pub paired_step : (s : List ℕ) (d e : ℕ) → 2 ≤ length s → (16 * get_or s 0 d + get_or s 1 e) ∷ paired (drop 2 s) ≡ paired s
paired_step [] d e h = absurd (omega arith)
paired_step (a ∷ []) d e h = absurd (omega arith)
paired_step (a ∷ (b ∷ s)) d e h = refl
