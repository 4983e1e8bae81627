-- The gate's file before the first gate is written.
use Rattle.std.proofs.Common.{◌≡◌, ◌≢◌, ◌⊎◌, inl, inr, ⊎_elim, ℕ, zero, suc, List, [], ◌∷◌, ◌++◌, take, Result, Ok, Err, OnOk, OnErr, refl, sym, ◌∙◌, ap, subst, arith}
use Rattle.std.specs.Prelude.{slice_index}
use Rattle.pdb_disk.specs.Files.{AllSpare, Begins, FileBytes, FileState, Files, IsFileImage, Settles, StandsAt, Step, done}
use Rattle.pdb_disk.specs.Files.{Step as step}
use Rattle.pdb_disk.proofs.Images.{done_spared}
use Rattle.pdb_log.proofs.Gates.{gate_fits, gate_len, has_gate, place_of}
use Rattle.pdb_log.specs.Ledger.{IsEmptyFile}
use Rattle.pdb_model.specs.Gates.{gate_bytes}
use Rattle.pdb_model.specs.Logs.{gate_file}
use Rattle.pdb_model.specs.Recovery.{after_steps}
use Rattle.pdb_model.specs.declared.gate_slot.GateSlot.{GateSlot}
use Rattle.pdb_redo.specs.inner.Creation.{HasNoGateYet, IsEmptied, NeverHasGate}

-- a call that tells was answered or failed
pub either_way : {A E : Type 0} (r : Result A E) (T P Q : Type 0) → T → OnOk r (T → P) → OnErr r (T → Q) → P ⊎ Q
either_way (Ok a) T P Q told p q = inl (p told)
either_way (Err e) T P Q told p q = inr (q told)

pub after_ok : {A E : Type 0} (r : Result A E) (P Q : Type 0) → (P → Q) → OnOk r P → OnOk r Q
after_ok (Ok a) P Q goes p = goes p
after_ok (Err e) P Q goes p = tt

gate_first : (g : GateSlot) → slice_index (gate_bytes g) 0 ≡ 83
unfolding gate_bytes
gate_first g = refl

-- zeros are no gate
pub no_gate_in_zeros : (p : ℕ) (g : GateSlot) → StandsAt (λ i. 0) p (gate_bytes g) → ⊥
no_gate_in_zeros p g h =
    let long = gate_len g in
    let byte : 83 ≡ 0 = sym (gate_first g) ∙ h 0 (omega (arith, long)) in
    absurd (omega (arith, byte))

-- what steps leave, where some are done whole
steps_image : (c : FileBytes) (ss : List Step) (k i : ℕ) → AllSpare ss i → after_steps c (take k ss) i ≡ c i
steps_image c ss zero i spared = refl
steps_image c [] (suc k) i spared = refl
steps_image c (s ∷ ss) (suc k) i spared = steps_image (done c s) ss k i spared.1 ∙ done_spared c s i spared.0

none_after : (c : FileBytes) (k : ℕ) → after_steps c (take k []) ≡ c
none_after c zero = refl
none_after c (suc k) = refl

after_cut : (c : FileBytes) (ss : List Step) (k : ℕ) → (after_steps c (take k (ss ++ step.Cut ∷ [])) ≡ after_steps c (take k ss)) ⊎ (after_steps c (take k (ss ++ step.Cut ∷ [])) ≡ (λ i. 0))
after_cut c ss zero = inl refl
after_cut c [] (suc k) = inr (none_after (λ i. 0) k)
after_cut c (s ∷ ss) (suc k) = after_cut (done c s) ss k

-- a cut of the gate's file
pub cut_has_none : (old new : Files) → NeverHasGate old → (new gate_file).kept ≡ (old gate_file).kept → (new gate_file).since ≡ (old gate_file).since ++ step.Cut ∷ [] → HasNoGateYet new
cut_has_none old new never kept since c image clear g has =
    let stood = clear g has in
    let s = old gate_file in
    let t = new gate_file in
    let content : after_steps t.kept (take stood.0 t.since) ≡ after_steps s.kept (take stood.0 (s.since ++ step.Cut ∷ [])) =
    ap (λ (d : FileBytes). after_steps d (take stood.0 t.since)) kept ∙ ap (λ (ss : List Step). after_steps s.kept (take stood.0 ss)) since in
    ⊎_elim
    (λ same. never (after_steps s.kept (take stood.0 s.since)) (steps_image s.kept s.since stood.0) g
    (has_gate (after_steps s.kept (take stood.0 s.since)) g (gate_fits c g has) (subst (λ (d : FileBytes). StandsAt d (place_of g) (gate_bytes g)) (content ∙ same) stood.1)))
    (λ zeros. no_gate_in_zeros (place_of g) g (subst (λ (d : FileBytes). StandsAt d (place_of g) (gate_bytes g)) (content ∙ zeros) stood.1))
    (after_cut s.kept s.since stood.0)

pub never_yet : (fs : Files) → NeverHasGate fs → HasNoGateYet fs
never_yet fs never c image clear g has = never c image g has

-- an empty gate's file
pub empty_never : (fs : Files) → IsEmptyFile (fs gate_file) → NeverHasGate fs
empty_never fs empty c image g has =
    let same : c ≡ (λ i. 0) = λ k i. (image i (subst (λ (ss : List Step). AllSpare ss i) (sym empty.since) tt) ∙ ap (λ (d : FileBytes). d i) empty.kept) k in
    no_gate_in_zeros (place_of g) g (subst (λ (d : FileBytes). StandsAt d (place_of g) (gate_bytes g)) same has.there)

-- the gate's file stays
pub same_never : (old new : Files) → new gate_file ≡ old gate_file → NeverHasGate old → NeverHasGate new
same_never old new same never c image = never c (subst (λ (s : FileState). IsFileImage s c) same image)

pub same_yet : (old new : Files) → new gate_file ≡ old gate_file → HasNoGateYet old → HasNoGateYet new
same_yet old new same none = subst P (sym same) none
  where
    P : FileState → Type 0
    P s = HasNoGateYet (λ j. s)

which : (file : ℕ) → (file ≡ gate_file) ⊎ (gate_file ≢ file)
which zero = inl refl
which (suc n) = inr (λ e. omega (arith, e))

-- a cut of a file, while it isn't synced
pub cut_yet : (file : ℕ) (old new : Files) → NeverHasGate old → Begins file step.Cut old new → HasNoGateYet new
cut_yet file old new never begun = ⊎_elim
    (λ here. let at = subst (λ j. Begins j step.Cut old new) here begun in cut_has_none old new never at.kept at.since)
    (λ other. same_yet old new (begun.others gate_file other) (never_yet old never))
    (which file)

-- and once it is
pub emptied_never : (file : ℕ) (old new : Files) → NeverHasGate old → IsEmptied file old new → NeverHasGate new
emptied_never file old new never emptied = ⊎_elim
    (λ here. let at = subst (λ j. IsEmptied j old new) here emptied in empty_never new at.empty)
    (λ other. same_never old new (emptied.others gate_file other) never)
    (which file)

pub emptied_by : (file : ℕ) (old mid new : Files) → Begins file step.Cut old mid → (mid file).read ≡ (λ i. 0) → Settles file mid new → IsEmptied file old new
emptied_by file old mid new begun written settles = record {
  others = λ j other. settles.others j other ∙ begun.others j other;
  empty = record { read = settles.read ∙ written; kept = settles.kept ∙ written; since = settles.since };
}
