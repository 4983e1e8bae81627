-- How the past of a disk in memory goes on.
use mathlib.Core.Path.{fun_ext}
use Rattle.std.proofs.Common.{◌≡◌, ℕ, ◌+◌, ◌-◌, ◌^◌, ◌≤◌, ◌<◌, List, [], ◌∷◌, ◌++◌, Bool, true, false, nat_le, refl, sym, ap, ◌∙◌, arith, if◌then◌else◌, ◌==◌}
use Rattle.std.specs.List.{All}
use Rattle.std.proofs.lemmas.List.{append-nil}
use Rattle.std.proofs.lemmas.List.Elements.{All-head, All-tail, All-push, All-weaker, filter-append}
use Rattle.std.proofs.lemmas.Bool.Decides.{nat_tests}
use Rattle.pdb_disk.specs.Files.{Files, Image, Elapses, done, reads_of}
use Rattle.pdb_memdisk.specs.Record.{step_of, acted, played, replayed, until}
use Rattle.pdb_memdisk.specs.inner.Steps.{applied}
use Rattle.pdb_memdisk.specs.declared.record.Call.{Call}
use Rattle.pdb_memdisk.specs.declared.record.Action.{Action}
use Rattle.pdb_memdisk.specs.declared.record.Action.TheVariants.{Changes, Syncs}

abbrev pub Stamped : ℕ → List Call → Type 0
Stamped t cs = All (λ c. c.stamp ≤ t) cs

pub until_all : (t u : ℕ) (cs : List Call) → t ≤ u → Stamped t cs → until u cs ≡ cs
until_all t u [] le h = refl
until_all t u (c ∷ cs) le h =
    let low : c.stamp ≤ t = All-head (λ (x : Call). x.stamp ≤ t) c cs h in
    let first : nat_le c.stamp u ≡ true = grind (arith, nat_tests) in
    rw first (ap (λ (xs : List Call). c ∷ xs) (until_all t u cs le (All-tail (λ (x : Call). x.stamp ≤ t) c cs h)))

until_in : (t : ℕ) (cs : List Call) (c : Call) → c.stamp ≤ t → until t (cs ++ c ∷ []) ≡ until t cs ++ c ∷ []
until_in t cs c low =
    let first : nat_le c.stamp t ≡ true = grind (arith, nat_tests) in
    filter-append (λ (x : Call). nat_le x.stamp t) cs (c ∷ []) ∙ rw first refl

until_out : (t : ℕ) (cs : List Call) (c : Call) → t < c.stamp → until t (cs ++ c ∷ []) ≡ until t cs
until_out t cs c high =
    let first : nat_le c.stamp t ≡ false = grind (arith, nat_tests) in
    filter-append (λ (x : Call). nat_le x.stamp t) cs (c ∷ []) ∙ rw first (append-nil (until t cs))

pub replayed_last : (fs : Files) (cs : List Call) (c : Call) → replayed fs (cs ++ c ∷ []) ≡ played (replayed fs cs) c.file c.action c.done
replayed_last fs [] c = refl
replayed_last fs (d ∷ cs) c = replayed_last (played fs d.file d.action d.done) cs c

-- one kept call more
pub past_more : (fs : Files) (t : ℕ) (cs : List Call) (c : Call) → Stamped t cs → c.stamp ≡ t + 1 → replayed fs (until (t + 1) (cs ++ c ∷ [])) ≡ played (replayed fs (until t cs)) c.file c.action c.done
past_more fs t cs c h is =
    ap (replayed fs) (until_in (t + 1) cs c (omega (arith, is)) ∙ ap (λ (xs : List Call). xs ++ c ∷ []) (until_all t (t + 1) cs (omega arith) h ∙ sym (until_all t t cs (omega arith) h)))
    ∙ replayed_last fs (until t cs) c

pub past_same : (fs : Files) (t : ℕ) (cs : List Call) → Stamped t cs → replayed fs (until (t + 1) cs) ≡ replayed fs (until t cs)
past_same fs t cs h = ap (replayed fs) (until_all t (t + 1) cs (omega arith) h ∙ sym (until_all t t cs (omega arith) h))

pub more_time : (fs : Files) (t : ℕ) (cs : List Call) (c : Call) → t < 2 ^ 64 - 1 → c.stamp ≡ t + 1 → Elapses t (t + 1) (λ u. replayed fs (until u cs)) (λ u. replayed fs (until u (cs ++ c ∷ [])))
more_time fs t cs c low is = record {
  one = omega (arith, low);
  later = omega arith;
  earlier = λ u le. ap (replayed fs) (until_out u cs c (omega (arith, is, le)));
}

pub same_time : (fs : Files) (t : ℕ) (cs : List Call) → t < 2 ^ 64 - 1 → Elapses t (t + 1) (λ u. replayed fs (until u cs)) (λ u. replayed fs (until u cs))
same_time fs t cs low = record { one = omega (arith, low); later = omega arith; earlier = λ u le. refl }

-- what is read after a call that was done
pub reads_done : (fs : Files) (file : ℕ) (a : Action) → reads_of (played fs file a true) ≡ applied (reads_of fs) file a
reads_done fs file (Changes c) = fun_ext (λ j. elim (j == file) as (λ b. (if b then acted (fs j) (Changes c) true else fs j).read ≡ (if b then done (fs j).read (step_of c) else (fs j).read)) [ true ↦ refl | false ↦ refl ])
reads_done fs file Syncs = fun_ext (λ j. elim (j == file) as (λ b. (if b then acted (fs j) Syncs true else fs j).read ≡ (fs j).read) [ true ↦ refl | false ↦ refl ])

-- and after one that failed
pub reads_failed : (fs : Files) (file : ℕ) (a : Action) → reads_of (played fs file a false) ≡ reads_of fs
reads_failed fs file (Changes c) = fun_ext (λ j. elim (j == file) as (λ b. (if b then acted (fs j) (Changes c) false else fs j).read ≡ (fs j).read) [ true ↦ refl | false ↦ refl ])
reads_failed fs file Syncs = fun_ext (λ j. elim (j == file) as (λ b. (if b then acted (fs j) Syncs false else fs j).read ≡ (fs j).read) [ true ↦ refl | false ↦ refl ])

pub stamped_later : (t : ℕ) (cs : List Call) → Stamped t cs → Stamped (t + 1) cs
stamped_later t cs h = All-weaker (λ (x : Call). x.stamp ≤ t) (λ (x : Call). x.stamp ≤ t + 1) (λ x le. omega (arith, le)) cs h

pub stamped_more : (t : ℕ) (cs : List Call) (c : Call) → Stamped t cs → c.stamp ≡ t + 1 → Stamped (t + 1) (cs ++ c ∷ [])
stamped_more t cs c h is = All-push (λ (x : Call). x.stamp ≤ t + 1) cs c (stamped_later t cs h) (omega (arith, is))

-- the files read as the replayed calls, also after one more
pub tied_more : (fs : Files) (x y : Image) (cs : List Call) (c : Call) → x ≡ reads_of (replayed fs cs) → y ≡ (if c.done then applied x c.file c.action else x) → y ≡ reads_of (replayed fs (cs ++ c ∷ []))
tied_more fs x y cs c e is = is ∙ pick c.done refl ∙ ap reads_of (sym (replayed_last fs cs c))
  where
    pick : (b : Bool) → c.done ≡ b → (if b then applied x c.file c.action else x) ≡ reads_of (played (replayed fs cs) c.file c.action c.done)
    pick true d = rw d (ap (λ (z : Image). applied z c.file c.action) e ∙ sym (reads_done (replayed fs cs) c.file c.action))
    pick false d = rw d (e ∙ sym (reads_failed (replayed fs cs) c.file c.action))

-- the same of a list that is known to be those calls
pub plays_more : (fs : Files) (t : ℕ) (cs items : List Call) (c : Call) (ok : Bool) → items ≡ cs ++ c ∷ [] → c.done ≡ ok → Stamped t cs → c.stamp ≡ t + 1 → replayed fs (until (t + 1) items) ≡ played (replayed fs (until t cs)) c.file c.action ok
plays_more fs t cs items c ok e is h s =
    ap (λ (xs : List Call). replayed fs (until (t + 1) xs)) e ∙ past_more fs t cs c h s
    ∙ ap (λ (b : Bool). played (replayed fs (until t cs)) c.file c.action b) is

pub plays_same : (fs : Files) (t : ℕ) (cs items : List Call) → items ≡ cs → Stamped t cs → replayed fs (until (t + 1) items) ≡ replayed fs (until t cs)
plays_same fs t cs items e h = ap (λ (xs : List Call). replayed fs (until (t + 1) xs)) e ∙ past_same fs t cs h
