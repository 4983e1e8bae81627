-- Bytes that are read from a file.
use Rattle.std.proofs.Common.{◌≡◌, ℕ, zero, suc, ◌+◌, ◌≤◌, List, ◌∷◌, ◌++◌, length, take, refl, sym, ◌∙◌, ap, arith, append-nil, length-append}
use Rattle.std.proofs.lemmas.List.{get_or-append-add, get_or_append_left}
use Rattle.pdb_disk.specs.Files.{FileBytes, Files, StandsAt}
use Rattle.pdb_model.specs.Recovery.{bytes_from}
use Rattle.std.specs.Prelude.{Bool}
use Rattle.pdb_recover.specs.Scanning.{OnlyReads}
use Rattle.pdb_log.proofs.Bytes.{stands_first}

-- bytes that stand at a place are what the file has there
pub read_is : (c : FileBytes) (at : ℕ) (xs : List ℕ) (n : ℕ) → length xs ≡ n → StandsAt c at xs → xs ≡ bytes_from c at n
read_is c at xs n len h = sym (stands_first c at xs n 0 (omega (arith, len)) h ∙ append-nil xs)

pub from_len : (c : FileBytes) (at n : ℕ) → length (bytes_from c at n) ≡ n
from_len c at zero = refl
from_len c at (suc n) = ap suc (from_len c (at + 1) n)

pub from_stands : (c : FileBytes) (at n : ℕ) → StandsAt c at (bytes_from c at n)
from_stands c at zero i l = absurd (omega (arith, l))
from_stands c at (suc n) zero l = let e : at ≡ at + 0 = omega arith in ap c e
from_stands c at (suc n) (suc i) l =
    let e : at + 1 + i ≡ at + suc i = omega arith in
    from_stands c (at + 1) n i (omega (arith, l)) ∙ ap c e

pub from_take : (c : FileBytes) (at k m : ℕ) → take k (bytes_from c at (k + m)) ≡ bytes_from c at k
from_take c at zero m = refl
from_take c at (suc k) m =
    let n : suc k + m ≡ suc (k + m) = omega arith in
    ap (λ j. take (suc k) (bytes_from c at j)) n ∙ ap (λ bs. c at ∷ bs) (from_take c (at + 1) k m)

pub from_sum : (c : FileBytes) (at n m : ℕ) → bytes_from c at (n + m) ≡ bytes_from c at n ++ bytes_from c (at + n) m
from_sum c at zero m =
    let n : 0 + m ≡ m = omega arith in
    let e : at ≡ at + 0 = omega arith in
    ap (bytes_from c at) n ∙ ap (λ a. bytes_from c a m) e
from_sum c at (suc n) m =
    let k : suc n + m ≡ suc (n + m) = omega arith in
    let e : at + 1 + n ≡ at + suc n = omega arith in
    ap (bytes_from c at) k ∙ ap (λ bs. c at ∷ bs) (from_sum c (at + 1) n m ∙ ap (λ a. bytes_from c (at + 1) n ++ bytes_from c a m) e)

-- of bytes that stand at a place the first ones do, and so do the others after them
pub stands_left : (c : FileBytes) (at : ℕ) (xs ys : List ℕ) → StandsAt c at (xs ++ ys) → StandsAt c at xs
stands_left c at xs ys h i l = sym (get_or_append_left xs ys 0 i l) ∙ h i (omega (arith, l, length-append xs ys))

pub stands_right : (c : FileBytes) (at : ℕ) (xs ys : List ℕ) → StandsAt c at (xs ++ ys) → StandsAt c (at + length xs) ys
stands_right c at xs ys h i l =
    let e : at + (length xs + i) ≡ at + length xs + i = omega arith in
    sym (get_or-append-add xs ys i 0) ∙ h (length xs + i) (omega (arith, l, length-append xs ys)) ∙ ap c e

-- of bytes at one place the shorter ones are the first of the others
pub stands_take : (c : FileBytes) (at : ℕ) (xs ys : List ℕ) (n : ℕ) → length xs ≡ n → n ≤ length ys → StandsAt c at xs → StandsAt c at ys → xs ≡ take n ys
stands_take c at xs ys n len low h k =
    let m : (d : ℕ) × (length ys ≡ n + d) = split n (length ys) low in
    read_is c at xs n len h ∙ sym (from_take c at n m.0) ∙ ap (take n) (sym (read_is c at ys (n + m.0) m.1 k))
  where
    split : (a b : ℕ) → a ≤ b → (d : ℕ) × (b ≡ a + d)
    split zero b l = (b, omega arith)
    split (suc a) zero l = absurd (omega (arith, l))
    split (suc a) (suc b) l = let r = split a b (omega (arith, l)) in let e = r.1 in (r.0, omega (arith, e))

-- after a call that only reads, the files are the same
pub same_files : {D : Type 0} (clock : D → ℕ) (past : D → ℕ → Files) (old new : D) → clock new ≡ clock old → past new ≡ past old → past new (clock new) ≡ past old (clock old)
same_files clock past old new time same = ap (past new) time ∙ ap (λ (p : ℕ → Files). p (clock old)) same

-- no call at all
pub reads_none : {D : Type 0} (tells : D → Bool) (clock : D → ℕ) (past : D → ℕ → Files) (read_count : D → ℕ) (d : D) → OnlyReads tells clock past read_count d d
reads_none tells clock past read_count d = record { time = refl; unchanged = refl; told = λ t. t; reads = omega arith }

-- two such calls, one after the other
pub reads_after : {D : Type 0} (tells : D → Bool) (clock : D → ℕ) (past : D → ℕ → Files) (read_count : D → ℕ) (a b d : D)
    → OnlyReads tells clock past read_count a b → OnlyReads tells clock past read_count b d → OnlyReads tells clock past read_count a d
reads_after tells clock past read_count a b d one other = record {
  time = other.time ∙ one.time;
  unchanged = other.unchanged ∙ one.unchanged;
  told = λ t. other.told (one.told t);
  reads = let p = one.reads in let q = other.reads in omega (arith, p, q);
}
