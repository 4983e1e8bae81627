-- The cells of a database without keys.
use Rattle.std.proofs.Common.{◌≡◌, ◌≢◌, inl, inr, ⊎_elim, ℕ, zero, suc, ◌+◌, ◌*◌, ◌≤◌, ◌==◌, ◌&&◌, nat_lt, Bool, false, List, ◌∷◌, length, Option, Some, None, IsSome, if◌then◌else◌, refl, sym, ◌∙◌, ap, ap₂, subst, arith, rules}
use Rattle.std.specs.Prelude.{replicate, unwrap_or}
use Rattle.std.proofs.lemmas.Bool.{cases_eq}
use Rattle.std.proofs.lemmas.Bool.Decides.{nat_tests}
use Rattle.std.proofs.lemmas.List.{append-nil}
use Rattle.pdb_cells.specs.Sizes.{head_file, size_of}
use Rattle.pdb_disk.specs.Files.{FileBytes, Image, StandsAt, done}
use Rattle.pdb_disk.specs.Files.{Step as step}
use Rattle.pdb_disk.proofs.Images.{done_spared}
use Rattle.pdb_log.proofs.Bytes.{stands_first, stands_local}
use Rattle.pdb_log.proofs.Gates.{done_stands}
use Rattle.pdb_model.specs.Recovery.{bytes_from, cells_of_files}
use Rattle.pdb_redo.specs.Creating.{new_cells, new_head}
use Rattle.pdb_redo.specs.inner.Creation.{heads_bytes}

zeros_from : (c : FileBytes) (at n : ℕ) → ((i : ℕ) → at ≤ i → c i ≡ 0) → bytes_from c at n ≡ replicate n 0
zeros_from c at zero zeros = refl
zeros_from c at (suc n) zeros = ap₂ (λ (b : ℕ) (bs : List ℕ). b ∷ bs) (zeros at (omega arith)) (zeros_from c (at + 1) n (λ i high. zeros i (omega (arith, high))))

bytes_there : (c : FileBytes) (at n : ℕ) (bs : List ℕ) → n ≡ length bs → StandsAt c at bs → bytes_from c at n ≡ bs
bytes_there c at n bs e there = stands_first c at bs n 0 (omega (arith, e)) there ∙ append-nil bs

module _ (head : List ℕ) (long : length head ≡ 256) where
  first_stands : StandsAt (heads_bytes head) 0 head
  first_stands = stands_local (heads_bytes head) (done (λ i. 0) (step.Write 0 head)) 0 head
      (λ i low high. done_spared (done (λ k. 0) (step.Write 0 head)) (step.Write 256 head) i (inl (omega (arith, high, long))))
      (done_stands (λ i. 0) 0 head)

  second_stands : StandsAt (heads_bytes head) 256 head
  second_stands = done_stands (done (λ i. 0) (step.Write 0 head)) 256 head

  zeros_after : (i : ℕ) → 512 ≤ i → heads_bytes head i ≡ 0
  zeros_after i high =
      done_spared (done (λ k. 0) (step.Write 0 head)) (step.Write 256 head) i (inr (omega (arith, high, long)))
      ∙ done_spared (λ k. 0) (step.Write 0 head) i (inr (omega (arith, high, long)))

  pub head_at : (index : ℕ) → (if nat_lt index 2 then head else replicate 256 0) ≡ bytes_from (heads_bytes head) (index * 256) 256
  head_at zero = sym (bytes_there (heads_bytes head) 0 256 head (sym long) first_stands)
  head_at (suc zero) = sym (bytes_there (heads_bytes head) 256 256 head (sym long) second_stands)
  head_at (suc (suc n)) =
      let out : nat_lt (suc (suc n)) 2 ≡ false = grind (arith, nat_tests) in
      ap (λ (t : Bool). if t then head else replicate 256 0) out
      ∙ sym (zeros_from (heads_bytes head) (suc (suc n) * 256) 256 (λ i high. zeros_after i (omega (arith, high))))

head_long : (base : ℕ) → length (new_head base) ≡ 256
head_long base = refl

none_there : (o : Option ℕ) (c : FileBytes) (index : ℕ) → (IsSome o → c ≡ (λ i. 0)) → replicate (unwrap_or o 0) 0 ≡ bytes_from c (index * unwrap_or o 0) (unwrap_or o 0)
none_there None c index empty = refl
none_there (Some n) c index empty = sym (ap (λ (d : FileBytes). bytes_from d (index * n) n) (empty (search rules)) ∙ zeros_from (λ i. 0) (index * n) n (λ i high. refl))

pub new_cells_are : (base : ℕ) (x : Image) → ((j : ℕ) → IsSome (size_of j) → j ≢ head_file → x j ≡ (λ i. 0)) → x head_file ≡ heads_bytes (new_head base)
    → (file index : ℕ) → new_cells base file index ≡ cells_of_files x file index
new_cells_are base x empty heads file index = ⊎_elim
    (λ here. subst (λ f. new_cells base f index ≡ cells_of_files x f index) (sym here)
    (head_at (new_head base) (head_long base) index ∙ sym (ap (λ (c : FileBytes). bytes_from c (index * 256) 256) heads)))
    (λ other.
    let out : (file == head_file) ≡ false = grind (arith, nat_tests) in
    ap (λ (t : Bool). if t && nat_lt index 2 then new_head base else replicate (unwrap_or (size_of file) 0) 0) out
    ∙ none_there (size_of file) (x file) index (λ some. empty file some other))
    (cases_eq file head_file)
