-- What a status says of the cause for which a run stopped, and so of the counts of faults.
use Rattle.std.proofs.Common.{◌≡◌, ◌≢◌, ℕ, Bool, true, false, arith, refl, sym, ap, subst, ◌∙◌, inl, inr}
use Rattle.std.specs.Prelude.{◌⊎◌}
use Rattle.std.proofs.lemmas.Bool.{cases_lt}
use Rattle.sdb_io.specs.Faults.{CountsFault, Rose}
use Rattle.sdb_io.specs.Output.{Output}
use Rattle.sdb_serve.specs.Statuses.{status_of}
use Rattle.sdb_serve.specs.inner.Steps.{CountsWhere, IsClosed, IsLastCause, MakesLine}
use Rattle.sdb_serve.specs.declared.cause.Cause.{Cause}
use Rattle.sdb_serve.specs.declared.cause.Cause.TheVariants.{End, Source, Memory, Disk, Occupied}
use Rattle.sdb_serve.specs.declared.cause.Stop.{Stop}
use Rattle.sdb_serve.specs.declared.cause.Stop.TheVariants as stops
use Rattle.sdb_serve.specs.declared.status.Status.{Status}
use Rattle.sdb_serve.specs.declared.status.Status.TheVariants as statuses

pub a_fault_rose : (a b : ℕ) → CountsFault true a b → Rose a b
a_fault_rose a b e = elim (cases_lt a b) [
  | inl lt ↦ inl lt
  | inr le ↦ inr (omega (arith, e))
]

-- ---- what a status says of the cause

pub never_sink : (c : Cause) → status_of c ≢ statuses.SinkFault
never_sink End e = cc
never_sink c e = cc

only_source : (c : Cause) → status_of c ≡ statuses.SourceFault → c ≡ Source
only_source Source e = refl
only_source c e = absurd cc

only_disk : (c : Cause) → status_of c ≡ statuses.DiskFault → c ≡ Disk
only_disk Disk e = refl
only_disk c e = absurd cc

only_occupied : (c : Cause) → status_of c ≡ statuses.Occupied → c ≡ Occupied
only_occupied Occupied e = refl
only_occupied c e = absurd cc

-- A status that comes of one cause alone, whose last line takes no memory.
pub record NamesCause (named : Status) (which : Cause) : Type 0 where
  pub is : status_of which ≡ named
  pub only : (c : Cause) → status_of c ≡ named → c ≡ which
  pub ready : MakesLine which → ⊥
  pub apart : which ≢ Memory

pub names_source : NamesCause statuses.SourceFault Source
names_source = record { is = refl; only = only_source; ready = λ m. m; apart = λ e. cc }

pub names_disk : NamesCause statuses.DiskFault Disk
names_disk = record { is = refl; only = only_disk; ready = λ m. m; apart = λ e. cc }

pub names_occupied : NamesCause statuses.Occupied Occupied
names_occupied = record { is = refl; only = only_occupied; ready = λ m. m; apart = λ e. cc }

pub cause_is : (x y : Cause) → stops.Cause x ≡ stops.Cause y → x ≡ y
cause_is x y e = cc

last_is : (cause last which : Cause) → IsLastCause cause last → which ≢ Memory → last ≡ which → cause ≡ which
last_is cause last which is apart e = elim is [
  | inl same ↦ sym same ∙ e
  | inr made ↦ absurd (apart (sym e ∙ made.1))
]

pub is_last : (cause last which : Cause) → IsLastCause cause last → (MakesLine which → ⊥) → cause ≡ which → last ≡ which
is_last cause last which is ready e = elim is [
  | inl same ↦ same ∙ e
  | inr made ↦ absurd (ready (subst MakesLine e made.0))
]

module _ (cause last : Cause) (n : ℕ) (result : Status) (old new : Output) (is : IsLastCause cause last)
    (closed : IsClosed last n result old new) where
  -- the cause is the one that the status names
  pub of_status : (named : Status) (which : Cause) → NamesCause named which → result ≡ named → cause ≡ which
  of_status named which names e = elim closed [
    | inl a ↦ last_is cause last which is names.apart (names.only last (sym a.0 ∙ e))
    | inr b ↦ absurd (never_sink which (names.is ∙ sym e ∙ b.0))
  ]

  -- where a fault is counted for the cause, it is counted for the status
  pub named_counts : (named : Status) (which : Cause) (a b : ℕ) → NamesCause named which
      → CountsWhere (stops.Cause cause ≡ stops.Cause which) a b → result ≢ statuses.SinkFault → CountsWhere (result ≡ named) a b
  named_counts named which a b names counts whole = (
    λ e. counts.0 (ap (λ (c : Cause). stops.Cause c) (of_status named which names e)),
    λ other. counts.1 (λ h. elim closed [
      | inl s ↦ other (s.0 ∙ ap status_of (is_last cause last which is names.ready (cause_is cause which h)) ∙ names.is)
      | inr s ↦ whole s.0
    ]),
  )

-- ---- whether a stop is for a fault of the source or of the disk

pub is_source : (s : Stop) → (s ≡ stops.Cause Source) ⊎ (s ≢ stops.Cause Source)
is_source (stops.Cause Source) = inl refl
is_source s = inr (λ e. cc)

pub is_disk : (s : Stop) → (s ≡ stops.Cause Disk) ⊎ (s ≢ stops.Cause Disk)
is_disk (stops.Cause Disk) = inl refl
is_disk s = inr (λ e. cc)

-- one fault was counted, or none
pub one_counted : (P : Type 0) (a b : ℕ) → P ⊎ (P → ⊥) → CountsWhere P a b → (failed : Bool) × CountsFault failed a b
one_counted P a b decided counts = elim decided [
  | inl holds ↦ (true, counts.0 holds)
  | inr fails ↦ (false, counts.1 fails)
]
