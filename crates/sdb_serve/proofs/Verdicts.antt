-- What a status says of the input.
use Rattle.std.proofs.Common.{◌≡◌, ◌≢◌, ℕ, refl, ap, subst, ◌∙◌, inl, inr, List}
use Rattle.std.specs.Prelude.{◌⊎◌}
use Rattle.sdb_io.specs.Output.{Output}
use Rattle.sdb_serve.specs.Given.{Given}
use Rattle.sdb_serve.specs.Runs.{Ending, IsFirstBad, IsOfStore, IsRun, IsRunOf, IsScript, MayStop, Run, StoreStops}
use Rattle.sdb_serve.specs.Statuses.{status_of}
use Rattle.sdb_serve.specs.declared.cause.Cause.{Cause}
use Rattle.sdb_serve.specs.declared.cause.Cause.TheVariants.{End, BadLine, Source, Memory, Disk, Occupied, BadCell, BadNode, IndexFull, TierFull, NumbersEnd}
use Rattle.sdb_serve.specs.declared.status.Status.{Status}
use Rattle.sdb_serve.specs.declared.status.Status.TheVariants.{Done, Script, SourceFault, SinkFault, DiskFault, NoMemory}
use Rattle.sdb_serve.proofs.Unique.{no_script, not_whole}

-- why a run stops that no fault of the outside stopped
abbrev IsInside : Cause → Type 0
IsInside cause = (cause ≡ End) ⊎ ((cause ≡ BadLine) ⊎ ((cause ≡ Memory) ⊎ IsOfStore cause))

stopped : (cause : Cause) → cause ≢ Source → cause ≢ Disk → IsInside cause
stopped End a b = inl refl
stopped BadLine a b = inr (inl refl)
stopped Source a b = absurd (a refl)
stopped Memory a b = inr (inr (inl refl))
stopped Disk a b = absurd (b refl)
stopped Occupied a b = inr (inr (inr tt))
stopped (BadCell file cell) a b = inr (inr (inr tt))
stopped (BadNode hash) a b = inr (inr (inr tt))
stopped (IndexFull column bits chunk) a b = inr (inr (inr tt))
stopped (TierFull column tier) a b = inr (inr (inr tt))
stopped (NumbersEnd which) a b = inr (inr (inr tt))

-- the cause of a run that was written whole
abbrev WhollyEnds : Given → Status → List ℕ → Ending → Type 0
WhollyEnds g status input e = (cause : Cause) × (r : Run) × IsRun g r input × (status ≡ status_of cause) × MayStop g cause e.left r
    × IsInside cause

stops_for : (g : Given) (status : Status) (input : List ℕ) (e : Ending) (old new : Output) → IsRunOf g status input e old new
    → status ≢ SourceFault → status ≢ SinkFault → status ≢ DiskFault → WhollyEnds g status input e
stops_for g status input e old new run a b d = elim run.stopped [
  | inl s ↦ (
    s.0,
    run.at,
    run.run,
    s.1,
    s.2.may_stop,
    stopped s.0 (λ h. a (s.1 ∙ ap status_of h)) (λ h. d (s.1 ∙ ap status_of h)),
  )
  | inr s ↦ absurd (b s.0)
]

-- the store stopped it
by_store : (g : Given) (status : Status) (input : List ℕ) (e : Ending) (s : WhollyEnds g status input e) → IsOfStore s.0
    → StoreStops g status input e.left
by_store g status input e s of = (s.0, of, s.3, s.1, s.2, s.4)

pub complete : (g : Given) (status : Status) (input : List ℕ) (e : Ending) (old new : Output) → IsRunOf g status input e old new
    → IsScript g input → status ≢ SourceFault → status ≢ SinkFault → status ≢ DiskFault
    → (status ≡ Done) ⊎ ((status ≡ NoMemory) ⊎ StoreStops g status input e.left)
complete g status input e old new run script a b d =
    let s = stops_for g status input e old new run a b d in
    elim s.5 [
      | inl end ↦ inl (s.3 ∙ ap status_of end)
      | inr other ↦ elim other [
        | inl bad ↦ absurd (no_script g s.1 input s.2 (subst (λ (c : Cause). MayStop g c e.left s.1) bad s.4) script)
        | inr more ↦ elim more [
          | inl memory ↦ inr (inl (s.3 ∙ ap status_of memory))
          | inr of ↦ inr (inr (by_store g status input e s of))
        ]
      ]
    ]

pub stops_at_bad : (g : Given) (status : Status) (input : List ℕ) (n : ℕ) (e : Ending) (old new : Output)
    → IsRunOf g status input e old new → IsFirstBad g input n → status ≢ SourceFault → status ≢ SinkFault → status ≢ DiskFault
    → (status ≡ Script) ⊎ ((status ≡ NoMemory) ⊎ StoreStops g status input e.left)
stops_at_bad g status input n e old new run bad a b d =
    let s = stops_for g status input e old new run a b d in
    elim s.5 [
      | inl end ↦ absurd (not_whole g s.1 input n s.2 (subst (λ (c : Cause). MayStop g c e.left s.1) end s.4) bad)
      | inr other ↦ elim other [
        | inl line ↦ inl (s.3 ∙ ap status_of line)
        | inr more ↦ elim more [
          | inl memory ↦ inr (inl (s.3 ∙ ap status_of memory))
          | inr of ↦ inr (inr (by_store g status input e s of))
        ]
      ]
    ]
