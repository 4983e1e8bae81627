-- What the causes of recovery say of the files.
use Rattle.std.proofs.Common.{◌≡◌, ℕ, ◌+◌, ◌<◌, List, [], ◌∷◌, length, refl, sym, ◌∙◌, ap, subst, arith}
use Rattle.std.specs.Prelude.{Ok, Err}
use Rattle.pdb_cells.specs.Content.{Content}
use Rattle.pdb_disk.specs.Files.{Image}
use Rattle.pdb_model.specs.Files.{head_cell}
use Rattle.pdb_model.specs.Logs.{AreRecovered, IsFound, gate_file}
use Rattle.pdb_model.specs.Records.{Record}
use Rattle.pdb_model.specs.Recovery.{Laid, Row, cells_of_files, commits_after, laid_over}
use Rattle.pdb_model.specs.declared.gate_slot.GateSlot.{GateSlot}
use Rattle.sdb_base.specs.declared.Counter.TheVariants.{Gates}
use Rattle.pdb_recover.specs.Answers.{EndsGates, GatesEnd, IsOfHeads, IsOfPassing, IsOfPending, OpenSays}
use Rattle.pdb_recover.specs.Heads.{AreSteadyHeads, IsSteadyHead}
use Rattle.pdb_recover.specs.Scanning.{IsPending}
use Rattle.pdb_recover.specs.declared.cause.OpenCause.{OpenCause}
use Rattle.pdb_recover.specs.declared.cause.OpenCause.TheVariants.{Damaged, Disk, NoDatabase, NumbersEnd, OutOfMemory}
use Rattle.pdb_recover.specs.declared.pending_puts.Pending.{Pending}
use Rattle.pdb_recover.proofs.Taking.{one_gate}

-- an answer is no cause
pub not_err : {T E : Type 0} (t : T) (e : E) → Ok t ≡ Err e → ⊥
not_err t e same = cc

-- what is pending over the cells is a row
pub pending_row : (x : Image) (p : Pending) → IsPending x p → (row : Row) × Laid x row
pending_row x p is = (
  record { cells = laid_over is.taken (cells_of_files x); commits = commits_after p.gate.commits is.taken },
  record { gate = p.gate; is_gate = is.gate; taken = is.taken; are_taken = is.are_taken; cells = λ file index. refl; commits = refl },
)

first_taken : (x : Image) (n m : ℕ) (rs : List Record) → AreRecovered x n rs → m ≡ n + length rs → n < m → (r : Record) × IsFound x r × (r.number ≡ n + 1)
first_taken x n m [] are e l = absurd (omega (arith, e, l))
first_taken x n m (r ∷ rs) are e l = (r, are.0, are.1)

some_taken : (x : Image) (n m : ℕ) (rs : List Record) (r : Record) → AreRecovered x n rs → m ≡ n + length rs → IsFound x r → r.number ≡ n + 1 → n < m
some_taken x n m [] r are e found number = absurd (are r found number)
some_taken x n m (s ∷ rs) r are e found number = omega (arith, e)

-- the gate's numbers end for what is pending just where they do for the files
pub ends_pending : (x : Image) (p : Pending) → IsPending x p → GatesEnd x → EndsGates p
ends_pending x p is h =
    let same : h.0 ≡ p.gate = one_gate (x gate_file) h.0 p.gate h.2 is.gate in (
      some_taken x p.gate.number p.number is.taken h.1 is.are_taken is.number h.4 (h.5 ∙ ap (λ (g : GateSlot). g.number + 1) same),
      ap (λ (g : GateSlot). g.sequence) (sym same) ∙ h.3,
    )

pub ends_files : (x : Image) (p : Pending) → IsPending x p → EndsGates p → GatesEnd x
ends_files x p is h =
    let r = first_taken x p.gate.number p.number is.taken is.are_taken is.number h.0 in
    (p.gate, r.0, is.gate, h.1, r.1, r.2)

says : (x : Image) (e : OpenCause) → IsOfPending x e → OpenSays x e
says x OutOfMemory h = tt
says x (Disk fault) h = tt
says x NoDatabase h = h
says x (NumbersEnd which) h = absurd h
says x (Damaged file cell) h = absurd h

-- also of files that read the same
pub pending_says : (x y : Image) (e : OpenCause) → x ≡ y → IsOfPending x e → OpenSays y e
pending_says x y e same h = subst (λ (z : Image). OpenSays z e) same (says x e h)

pub passing_says : (x : Image) (p : Pending) (e : OpenCause) → IsPending x p → IsOfPassing e → (e ≡ NumbersEnd Gates → EndsGates p) → OpenSays x e
passing_says x p OutOfMemory is h ends = absurd h
passing_says x p (Disk fault) is h ends = tt
passing_says x p NoDatabase is h ends = absurd h
passing_says x p (NumbersEnd which) is h ends = (h, ends_files x p is (ends (ap NumbersEnd h)))
passing_says x p (Damaged file cell) is h ends = absurd h

-- the row's cells are these, in which a head cell isn't steady
pub heads_say : (T : Type 0) (x : Image) (cells : Content) (e : OpenCause) → T
    → IsOfHeads (λ cell. (cell < 2) × (T → AreSteadyHeads cells cell × ¬ IsSteadyHead (head_cell cells cell))) e
    → ¬ GatesEnd x → (row : Row) × Laid x row → ((row : Row) → Laid x row → row.cells ≡ cells) → OpenSays x e
heads_say T x cells OutOfMemory t h no_end some same = absurd h
heads_say T x cells (Disk fault) t h no_end some same = tt
heads_say T x cells NoDatabase t h no_end some same = absurd h
heads_say T x cells (NumbersEnd which) t h no_end some same = absurd h
heads_say T x cells (Damaged file cell) t h no_end some same = (
  h.0,
  h.1.0,
  no_end,
  some,
  λ row laid. subst (λ (c : Content). AreSteadyHeads c cell × ¬ IsSteadyHead (head_cell c cell)) (sym (same row laid)) (h.1.1 t),
)
