-- What files kept, from the changes that were synced.
use mathlib.Core.Path.{fun_ext}
use Rattle.std.proofs.Common.{◌≡◌, ℕ, ◌==◌, ◌&&◌, ◌||◌, Bool, true, false, List, [], ◌∷◌, ◌++◌, if◌then◌else◌, Some, None, refl, append_assoc, sym, ap, ◌∙◌, arith}
use Rattle.std.proofs.lemmas.Bool.Decides.{nat_tests}
use Rattle.std.specs.List.{list_any}
use Rattle.std.proofs.lemmas.List.{append-nil}
use Rattle.std.proofs.lemmas.List.Elements.{filter_map-append}
use Rattle.pdb_disk.specs.Files.{FileBytes, FileState, Files, Image, Step, done}
use Rattle.pdb_memdisk.specs.Contents.{all_settled}
use Rattle.pdb_memdisk.specs.Record.{step_of, acted, played, replayed}
use Rattle.pdb_memdisk.specs.inner.Steps.{applied}
use Rattle.pdb_memdisk.specs.Images.{Placed, is_sync, syncs, placed_change, pending, steps_on, keeps_of}
use Rattle.pdb_memdisk.specs.inner.Steps.{kept_step}
use Rattle.pdb_memdisk.specs.declared.record.Call.{Call}
use Rattle.pdb_memdisk.specs.declared.record.Action.{Action}
use Rattle.pdb_memdisk.specs.declared.record.Action.TheVariants.{Changes, Syncs}

abbrev pub kept_after : Image → List Call → Image
kept_after x [] = x
kept_after x (c ∷ cs) = kept_after (kept_step x c cs) cs

abbrev one_applied : FileBytes → Action → FileBytes
one_applied y (Changes s) = done y (step_of s)
one_applied y Syncs = y

-- one call of a file, where b says whether a later one syncs it
one_kept : (f : FileState) (y : FileBytes) (a : Action) (ok b : Bool) → y ≡ (if (ok && is_sync a) || b then f.read else f.kept) → (if b && ok then one_applied y a else y) ≡ (if b then (acted f a ok).read else (acted f a ok).kept)
one_kept f y (Changes s) true true h = ap (λ (z : FileBytes). done z (step_of s)) h
one_kept f y (Changes s) false true h = h
one_kept f y (Changes s) true false h = h
one_kept f y (Changes s) false false h = h
one_kept f y Syncs true true h = h
one_kept f y Syncs false true h = h
one_kept f y Syncs true false h = h
one_kept f y Syncs false false h = h

here : (x : Image) (j file : ℕ) (a : Action) (t : Bool) → (j == file) ≡ true → (if t then applied x file a else x) j ≡ (if t then one_applied (x j) a else x j)
here x j file (Changes s) true e = rw e refl
here x j file Syncs true e = refl
here x j file a false e = refl

there : (x : Image) (j file : ℕ) (a : Action) (t : Bool) → (j == file) ≡ false → (if t then applied x file a else x) j ≡ x j
there x j file (Changes s) true e = rw e refl
there x j file Syncs true e = refl
there x j file a false e = refl

-- one file: what it comes to is what it kept, where it begins with what it reads if it will be synced, else with what it kept
pub file_kept : (fs : Files) (x : Image) (cs : List Call) (j : ℕ) → x j ≡ (if list_any (syncs j) cs then (fs j).read else (fs j).kept) → kept_after x cs j ≡ (replayed fs cs j).kept
file_kept fs x [] j h = h
file_kept fs x (c ∷ cs) j h = file_kept (played fs c.file c.action c.done) (kept_step x c cs) cs j (pick (j == c.file) refl)
  where
    pick : (b : Bool) → (j == c.file) ≡ b → kept_step x c cs j ≡ (if list_any (syncs j) cs then (played fs c.file c.action c.done j).read else (played fs c.file c.action c.done j).kept)
    pick true e =
        let is : j ≡ c.file = grind (arith, nat_tests) in
        let r = list_any (syncs j) cs in
        let same : list_any (syncs c.file) cs ≡ r = ap (λ k. list_any (syncs k) cs) (sym is) in
        let left : kept_step x c cs j ≡ (if r && c.done then one_applied (x j) c.action else x j) = ap (λ (b : Bool). (if b && c.done then applied x c.file c.action else x) j) same ∙ here x j c.file c.action (r && c.done) e in
        let known : x j ≡ (if (c.done && is_sync c.action) || r then (fs j).read else (fs j).kept) = rw e at h in
        left ∙ rw e (one_kept (fs j) (x j) c.action c.done r known)
    pick false e =
        let known : x j ≡ (if list_any (syncs j) cs then (fs j).read else (fs j).kept) = rw e at h in
        there x j c.file c.action (list_any (syncs c.file) cs && c.done) e ∙ rw e known

pub all_kept : (x : Image) (cs : List Call) → kept_after x cs ≡ keeps_of (replayed (all_settled x) cs)
all_kept x cs = fun_ext (λ j. file_kept (all_settled x) x cs j (elim (list_any (syncs j) cs) as (λ b. x j ≡ (if b then x j else x j)) [ true ↦ refl | false ↦ refl ]))

-- the same of one call of a file
since_here : (f : FileState) (j file : ℕ) (a : Action) (ok b : Bool) (ss : List Step) → (j == file) ≡ true → (if b then [] else (acted f a ok).since) ++ ss ≡ (if (ok && is_sync a) || b then [] else f.since) ++ (steps_on j (if b then [] else placed_change file a) ++ ss)
since_here f j file (Changes s) true true ss e = refl
since_here f j file (Changes s) false true ss e = refl
since_here f j file (Changes s) true false ss e = rw e (append_assoc f.since (step_of s ∷ []) ss)
since_here f j file (Changes s) false false ss e = rw e (append_assoc f.since (step_of s ∷ []) ss)
since_here f j file Syncs true true ss e = refl
since_here f j file Syncs false true ss e = refl
since_here f j file Syncs true false ss e = refl
since_here f j file Syncs false false ss e = refl

none_there : (j file : ℕ) (a : Action) (b : Bool) → (j == file) ≡ false → steps_on j (if b then [] else placed_change file a) ≡ []
none_there j file a true e = refl
none_there j file (Changes s) false e = rw e refl
none_there j file Syncs false e = refl

-- the steps since the last sync of a file are the pending ones on it
pub pending_since : (fs : Files) (cs : List Call) (j : ℕ) → (replayed fs cs j).since ≡ (if list_any (syncs j) cs then [] else (fs j).since) ++ steps_on j (pending cs)
pending_since fs [] j = sym (append-nil (fs j).since)
pending_since fs (c ∷ cs) j =
    pending_since (played fs c.file c.action c.done) cs j
    ∙ pick (j == c.file) refl
    ∙ ap (λ (ss : List Step). (if list_any (syncs j) (c ∷ cs) then [] else (fs j).since) ++ ss) (sym (filter_map-append (λ (p : Placed). if j == p.0 then Some p.1 else None) (if list_any (syncs c.file) cs then [] else placed_change c.file c.action) (pending cs)))
  where
    pick : (b : Bool) → (j == c.file) ≡ b → (if list_any (syncs j) cs then [] else (played fs c.file c.action c.done j).since) ++ steps_on j (pending cs)
        ≡ (if list_any (syncs j) (c ∷ cs) then [] else (fs j).since) ++ (steps_on j (if list_any (syncs c.file) cs then [] else placed_change c.file c.action) ++ steps_on j (pending cs))
    pick true e =
        let is : j ≡ c.file = grind (arith, nat_tests) in
        let same : list_any (syncs j) cs ≡ list_any (syncs c.file) cs = ap (λ k. list_any (syncs k) cs) is in
        rw e (since_here (fs j) j c.file c.action c.done (list_any (syncs j) cs) (steps_on j (pending cs)) e
        ∙ ap (λ (b : Bool). (if (c.done && is_sync c.action) || list_any (syncs j) cs then [] else (fs j).since) ++ (steps_on j (if b then [] else placed_change c.file c.action) ++ steps_on j (pending cs))) same)
    pick false e = rw e (ap (λ (ss : List Step). (if list_any (syncs j) cs then [] else (fs j).since) ++ (ss ++ steps_on j (pending cs))) (sym (none_there j c.file c.action (list_any (syncs c.file) cs) e)))
