-- Head cells as they are read.
use Rattle.std.proofs.Common.{◌≡◌, ℕ, ◌*◌, ◌<◌, List, length, refl, sym, ◌∙◌, ap, subst, arith, ⊎_elim}
use Rattle.std.proofs.lemmas.Bool.{cases_eq}
use Rattle.pdb_disk.specs.Files.{Image, StandsAt}
use Rattle.pdb_cells.specs.Content.{Content}
use Rattle.pdb_model.specs.Files.{head_cell}
use Rattle.pdb_model.specs.Recovery.{bytes_from, cells_of_files}
use Rattle.pdb_recover.specs.Answers.{IsOfHeads}
use Rattle.pdb_recover.specs.declared.cause.OpenCause.{OpenCause}
use Rattle.pdb_recover.specs.declared.cause.OpenCause.TheVariants.{Damaged, Disk, NoDatabase, NumbersEnd, OutOfMemory}
use Rattle.pdb_recover.specs.Heads.{AreSteadyHeads, IsSteadyHead}
use Rattle.pdb_recover.proofs.ReadBytes.{read_is}

sized : (x : Image) (column n : ℕ) → n ≡ 256 → bytes_from (x 9) (column * n) n ≡ head_cell (cells_of_files x) column
sized x column n e = ap (λ m. bytes_from (x 9) (column * m) m) e

pub head_cell_is : (x : Image) (column at : ℕ) (xs : List ℕ) → length xs ≡ 256 → at ≡ 256 * column → StandsAt (x 9) at xs → xs ≡ head_cell (cells_of_files x) column
head_cell_is x column at xs len e h =
    let place : at ≡ column * length xs = omega (arith, e, len, ap (λ n. column * n) len) in
    read_is (x 9) at xs (length xs) refl h ∙ (ap (λ a. bytes_from (x 9) a (length xs)) place ∙ sized x column (length xs) len)

-- two head cells
pub both_steady : (cells : Content) → IsSteadyHead (head_cell cells 0) → IsSteadyHead (head_cell cells 1) → AreSteadyHeads cells 2
both_steady cells first second column l = ⊎_elim
    (λ e. subst (λ k. IsSteadyHead (head_cell cells k)) (sym e) first)
    (λ ne. let e : 1 ≡ column = omega (arith, l, ne) in subst (λ k. IsSteadyHead (head_cell cells k)) e second)
    (cases_eq column 0)

none_before : (cells : Content) → AreSteadyHeads cells 0
none_before cells column l = absurd (omega (arith, l))

first_before : (cells : Content) → IsSteadyHead (head_cell cells 0) → AreSteadyHeads cells 1
first_before cells first column l = let e : 0 ≡ column = omega (arith, l) in subst (λ k. IsSteadyHead (head_cell cells k)) e first

heads_weaker : (P Q : ℕ → Type 0) → ((n : ℕ) → P n → Q n) → (e : OpenCause) → IsOfHeads P e → IsOfHeads Q e
heads_weaker P Q f OutOfMemory h = h
heads_weaker P Q f (Disk fault) h = h
heads_weaker P Q f NoDatabase h = h
heads_weaker P Q f (NumbersEnd which) h = h
heads_weaker P Q f (Damaged file cell) h = (h.0, f cell h.1)

-- what a damaged one says among the two
abbrev pub IsFirstDamaged : Type 0 → Content → ℕ → Type 0
IsFirstDamaged T cells cell = (cell < 2) × (T → AreSteadyHeads cells cell × ¬ IsSteadyHead (head_cell cells cell))

pub first_damaged : (T : Type 0) (cells : Content) (e : OpenCause) → IsOfHeads (λ cell. (cell ≡ 0) × (T → ¬ IsSteadyHead (head_cell cells 0))) e
    → IsOfHeads (IsFirstDamaged T cells) e
first_damaged T cells e h = heads_weaker (λ cell. (cell ≡ 0) × (T → ¬ IsSteadyHead (head_cell cells 0))) (IsFirstDamaged T cells)
    (λ n k. let z = k.0 in ((let l : n < 2 = omega (arith, z) in l), λ t. subst (λ m. AreSteadyHeads cells m × ¬ IsSteadyHead (head_cell cells m)) (sym z) (none_before cells, k.1 t))) e h

pub second_damaged : (T U : Type 0) (cells later : Content) (e : OpenCause) → (T → U) → later ≡ cells → (T → IsSteadyHead (head_cell cells 0))
    → IsOfHeads (λ cell. (cell ≡ 1) × (U → ¬ IsSteadyHead (head_cell later 1))) e → IsOfHeads (IsFirstDamaged T cells) e
second_damaged T U cells later e told same first h = heads_weaker (λ cell. (cell ≡ 1) × (U → ¬ IsSteadyHead (head_cell later 1))) (IsFirstDamaged T cells)
    (λ n k. let z = k.0 in (
      (let l : n < 2 = omega (arith, z) in l),
      λ t. subst (λ m. AreSteadyHeads cells m × ¬ IsSteadyHead (head_cell cells m)) (sym z)
          (first_before cells (first t), subst (λ (x : Content). ¬ IsSteadyHead (head_cell x 1)) same (k.1 (told t))),
    )) e h
