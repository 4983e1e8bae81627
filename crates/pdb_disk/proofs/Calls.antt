-- How what holds at every moment goes on from one call of a disk to the next.
use Rattle.std.proofs.Common.{◌≡◌, ℕ, sym, subst, refl, ◌∙◌, ⊎_elim, arith}
use Rattle.std.proofs.lemmas.Bool.{cases_lt}
use Rattle.pdb_disk.specs.Files.{Files, Step, Elapses, Begins, MayBegin, Settles}
use Rattle.pdb_disk.specs.Moments.{Moments}

-- no call
pub no_call : (t : ℕ) (past : ℕ → Files) (P : Files → Type 0) → P (past t) → Moments t t past past P
no_call t past P h = record {
  later = omega arith;
  earlier = λ u le. refl;
  each = λ u le ge. let e : t ≡ u = omega (arith, le, ge) in subst (λ v. P (past v)) e h;
}

-- one call that leaves clock and past, as a read
pub no_time : (before now : ℕ) (past since : ℕ → Files) (P : Files → Type 0) → now ≡ before → since ≡ past → P (past before) → Moments before now past since P
no_time before now past since P t e h =
    subst (λ u. Moments before u past since P) (sym t) (subst (λ (f : ℕ → Files). Moments before before past f P) (sym e) (no_call before past P h))

-- one write, cut or sync
pub one_call : (before now : ℕ) (past since : ℕ → Files) (P : Files → Type 0) → Elapses before now past since → P (past before) → P (since now) → Moments before now past since P
one_call before now past since P time old new = record {
  later = time.later;
  earlier = time.earlier;
  each = λ t le ge. ⊎_elim
      (λ l. let one = time.one in
      let e : now ≡ t = omega (arith, one, l, ge) in
      subst (λ u. P (since u)) e new)
      (λ l. let e : before ≡ t = omega (arith, l, le) in
      subst P (sym (time.earlier t l)) (subst (λ u. P (past u)) e old))
      (cases_lt before t);
}

-- one run of calls after another
pub joined : (a b c : ℕ) (past mid since : ℕ → Files) (P : Files → Type 0) → Moments a b past mid P → Moments b c mid since P → Moments a c past since P
joined a b c past mid since P first second = record {
  later = let x = first.later in let y = second.later in omega (arith, x, y);
  earlier = λ t le. let x = first.later in second.earlier t (omega (arith, le, x)) ∙ first.earlier t le;
  each = λ t le ge. ⊎_elim
      (λ l. second.each t (omega (arith, l)) ge)
      (λ l. subst P (sym (second.earlier t l)) (first.each t le l))
      (cases_lt b t);
}

-- what follows from P holds too
pub weaker : (a b : ℕ) (past since : ℕ → Files) (P Q : Files → Type 0) → Moments a b past since P → ((fs : Files) → P fs → Q fs) → Moments a b past since Q
weaker a b past since P Q h goes = record { later = h.later; earlier = h.earlier; each = λ t le ge. goes (since t) (h.each t le ge) }

-- P holds now
pub at_end : (a b : ℕ) (past since : ℕ → Files) (P : Files → Type 0) → Moments a b past since P → P (since b)
at_end a b past since P h = h.each b h.later (omega arith)

-- a write or a cut that was answered
pub begun : (before now : ℕ) (past since : ℕ → Files) (P : Files → Type 0) (file : ℕ) (s : Step) → Elapses before now past since → Begins file s (past before) (since now) → P (past before) → ((new : Files) → Begins file s (past before) new → P new) → Moments before now past since P
begun before now past since P file s time b h keeps = one_call before now past since P time h (keeps (since now) b)

-- a write or a cut that failed
pub maybe_begun : (before now : ℕ) (past since : ℕ → Files) (P : Files → Type 0) (file : ℕ) (s : Step) → Elapses before now past since → MayBegin file s (past before) (since now) → P (past before) → ((new : Files) → Begins file s (past before) new → P new) → Moments before now past since P
maybe_begun before now past since P file s time may h keeps =
    one_call before now past since P time h (⊎_elim (keeps (since now)) (λ e. subst P (sym e) h) may)

-- a sync that was answered
pub synced : (before now : ℕ) (past since : ℕ → Files) (P : Files → Type 0) (file : ℕ) → Elapses before now past since → Settles file (past before) (since now) → P (past before) → ((new : Files) → Settles file (past before) new → P new) → Moments before now past since P
synced before now past since P file time b h keeps = one_call before now past since P time h (keeps (since now) b)

-- a sync that failed
pub unsynced : (before now : ℕ) (past since : ℕ → Files) (P : Files → Type 0) → Elapses before now past since → since now ≡ past before → P (past before) → Moments before now past since P
unsynced before now past since P time e h = one_call before now past since P time h (subst P (sym e) h)
