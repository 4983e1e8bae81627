-- Cells of a flushed record while they are written, one after the other.
use Rattle.std.proofs.Common.{◌≡◌, ⊎_elim, ℕ, suc, ◌+◌, ◌*◌, ◌<◌, ◌≤◌, ◌==◌, ◌&&◌, Bool, true, false, List, [], ◌∷◌, ◌++◌, length, take, drop, get_or, Option, None, Some, if◌then◌else◌, refl, sym, ◌∙◌, ap, subst, arith}
use Rattle.std.specs.Prelude.{Contains}
use Rattle.std.specs.Option.{option_or}
use Rattle.std.proofs.lemmas.Bool.Decides.{nat_tests}
use Rattle.std.proofs.lemmas.List.{take_all, take-append-drop}
use Rattle.std.proofs.lemmas.List.Elements.{Contains-append_left, Contains-append_right}
use Rattle.std.proofs.Math.Seq.{take-suc}
use Rattle.pdb_cells.specs.Puts.{laid, last_put}
use Rattle.pdb_cells.specs.Sizes.{size_of}
use Rattle.pdb_cells.specs.declared.CellName.{CellName}
use Rattle.pdb_cells.specs.declared.Put.{Put}
use Rattle.pdb_cells.proofs.Laying.{laid-append}
use Rattle.pdb_disk.specs.Files.{Begins, Files, MayBegin, Step, done, reads_of}
use Rattle.pdb_disk.specs.Files.{Step as step}
use Rattle.pdb_disk.proofs.Calls.{joined, no_call}
use Rattle.pdb_log.specs.Standing.{IsCellAt}
use Rattle.pdb_log.specs.declared.log.Log.{Log}
use Rattle.pdb_log.proofs.Logs.{safe_now}
use Rattle.pdb_log.proofs.Times.{time_itself, time_then}
use Rattle.pdb_model.specs.Recovery.{Safe, cells_of_files}
use Rattle.pdb_redo.specs.inner.Writing.{AreDone, IsDone, Writes, WritesAll, cells_now, files_now}
use Rattle.pdb_redo.proofs.Layers.{puts_alike}
use Rattle.pdb_redo.proofs.WrittenCells.{other_cell, put_done, same_step}

last-append : (ps qs : List Put) (name : CellName) → last_put (ps ++ qs) name ≡ option_or (last_put qs name) (last_put ps name)
last-append [] qs name = or_none (last_put qs name)
  where
    or_none : (o : Option (List ℕ)) → o ≡ option_or o None
    or_none None = refl
    or_none (Some x) = refl
last-append (p ∷ ps) qs name =
    ap (λ o. option_or o (if (p.name.file == name.file) && (p.name.index == name.index) then Some p.bytes else None)) (last-append ps qs name)
    ∙ assoc (last_put qs name) (last_put ps name) (if (p.name.file == name.file) && (p.name.index == name.index) then Some p.bytes else None)
  where
    assoc : (a b c : Option (List ℕ)) → option_or (option_or a b) c ≡ option_or a (option_or b c)
    assoc None b c = refl
    assoc (Some x) b c = refl

none_left : (a b : Option (List ℕ)) → option_or a b ≡ None → a ≡ None
none_left None b e = refl
none_left (Some x) b e = e

none_right : (a b : Option (List ℕ)) → option_or a b ≡ None → b ≡ None
none_right None b e = e
none_right (Some x) b e = cc

-- a put whose cell this isn't
unput : (p : Put) (name : CellName) → last_put (p ∷ []) name ≡ None → p.name.file ≡ name.file → p.name.index ≡ name.index → ⊥
unput p name e f i =
    let t : ((p.name.file == name.file) && (p.name.index == name.index)) ≡ true = grind (arith, nat_tests) in
    put ((p.name.file == name.file) && (p.name.index == name.index)) t e
  where
    put : (b : Bool) → b ≡ true → option_or None (if b then Some p.bytes else None) ≡ None → ⊥
    put true t n = cc
    put false t n = cc

pub alone : (p : Put) → Contains (p ∷ []) p
alone p = (0, omega arith, refl)

pub cell_at : (p : Put) (n : ℕ) (bytes : List ℕ) → n ≡ length p.bytes → bytes ≡ p.bytes → IsCellAt p p.name.file (p.name.index * n) bytes
cell_at p n bytes len same = record { here = refl; place = ap (λ k. p.name.index * k) (sym len); same = sym same }

module _ {D : Type 0} (tells : D → Bool) (clock : D → ℕ) (past : D → ℕ → Files) where
  pub writes_none : (log : Log D) → WritesAll tells clock past [] log log
  writes_none log = record {
    rest = refl;
    stands = λ l rows f r is has sub. is;
    moments = λ l rows f r is has sub. no_call (clock log.disk) (past log.disk) (Safe rows f) (safe_now tells clock past log l rows f is);
    told = λ t. t;
    goes_on = time_itself clock past log.disk;
    beside = λ t name none. refl;
  }

  pub writes_on : (ps qs : List Put) (old mid new : Log D) → WritesAll tells clock past ps old mid → WritesAll tells clock past qs mid new → WritesAll tells clock past (ps ++ qs) old new
  writes_on ps qs old mid new a b = record {
    rest = b.rest ∙ ap (λ (log : Log D). record log { disk = new.disk }) a.rest;
    stands = λ l rows f r is has sub.
        b.stands l rows f r (a.stands l rows f r is has (λ p h. sub p (Contains-append_left ps qs p h))) has (λ p h. sub p (Contains-append_right ps qs p h));
    moments = λ l rows f r is has sub.
        joined (clock old.disk) (clock mid.disk) (clock new.disk) (past old.disk) (past mid.disk) (past new.disk) (Safe rows f)
        (a.moments l rows f r is has (λ p h. sub p (Contains-append_left ps qs p h)))
        (b.moments l rows f r (a.stands l rows f r is has (λ p h. sub p (Contains-append_left ps qs p h))) has (λ p h. sub p (Contains-append_right ps qs p h)));
    told = λ t. b.told (a.told t);
    goes_on = time_then clock past old.disk mid.disk new.disk a.goes_on b.goes_on;
    beside = λ t name none.
        let e = sym (last-append ps qs name) ∙ none in
        b.beside (a.told t) name (none_left (last_put qs name) (last_put ps name) e) ∙ a.beside t name (none_right (last_put qs name) (last_put ps name) e);
  }

  -- the first of these puts were written
  pub writes_front : (ps qs : List Put) (old new : Log D) → WritesAll tells clock past ps old new → WritesAll tells clock past (ps ++ qs) old new
  writes_front ps qs old new a = record {
    rest = a.rest;
    stands = λ l rows f r is has sub. a.stands l rows f r is has (λ p h. sub p (Contains-append_left ps qs p h));
    moments = λ l rows f r is has sub. a.moments l rows f r is has (λ p h. sub p (Contains-append_left ps qs p h));
    told = a.told;
    goes_on = a.goes_on;
    beside = λ t name none. a.beside t name (none_right (last_put qs name) (last_put ps name) (sym (last-append ps qs name) ∙ none));
  }

  pub done_on : (ps : List Put) (p : Put) (old mid new : Log D) → AreDone clock past ps old mid → IsDone clock past p mid new → AreDone clock past (ps ++ p ∷ []) old new
  done_on ps p old mid new a b file index =
      b.read file index
      ∙ puts_alike (p ∷ []) (cells_now clock past mid) (laid ps (cells_now clock past old)) file index (a file index)
      ∙ ap (λ (c : ℕ → ℕ → List ℕ). c file index) (sym (laid-append ps (p ∷ []) (cells_now clock past old)))

  -- the first so many
  next_puts : (puts : List Put) (k : ℕ) (p : Put) → k < length puts → p ≡ get_or puts k p → take (k + 1) puts ≡ take k puts ++ p ∷ []
  next_puts puts k p l is =
      let e : k + 1 ≡ suc k = omega arith in
      ap (λ n. take n puts) e ∙ take-suc puts k p l ∙ ap (λ (q : Put). take k puts ++ q ∷ []) (sym is)

  pub next_writes : (puts : List Put) (k : ℕ) (p : Put) (old mid new : Log D) → k < length puts → p ≡ get_or puts k p
      → WritesAll tells clock past (take k puts) old mid → Writes tells clock past p mid new → WritesAll tells clock past (take (k + 1) puts) old new
  next_writes puts k p old mid new l is a b =
      subst (λ (ps : List Put). WritesAll tells clock past ps old new) (sym (next_puts puts k p l is)) (writes_on (take k puts) (p ∷ []) old mid new a b)

  pub all_writes : (puts : List Put) (k : ℕ) (old new : Log D) → WritesAll tells clock past (take k puts) old new → WritesAll tells clock past puts old new
  all_writes puts k old new a =
      subst (λ (ps : List Put). WritesAll tells clock past ps old new) (take-append-drop k puts) (writes_front (take k puts) (drop k puts) old new a)

  pub next_done : (puts : List Put) (k : ℕ) (p : Put) (old mid new : Log D) → k < length puts → p ≡ get_or puts k p
      → AreDone clock past (take k puts) old mid → IsDone clock past p mid new → AreDone clock past (take (k + 1) puts) old new
  next_done puts k p old mid new l is a b =
      subst (λ (ps : List Put). AreDone clock past ps old new) (sym (next_puts puts k p l is)) (done_on (take k puts) p old mid new a b)

  pub all_done : (puts : List Put) (k : ℕ) (old new : Log D) → length puts ≤ k → AreDone clock past (take k puts) old new → AreDone clock past puts old new
  all_done puts k old new l a = subst (λ (ps : List Put). AreDone clock past ps old new) (take_all k puts l) a

  -- what the other cells read after a write, answered or failed
  pub may_beside : (old new : Log D) (p : Put) (n : ℕ) (bytes : List ℕ) → n ≡ length p.bytes → bytes ≡ p.bytes → size_of p.name.file ≡ Some (length p.bytes)
      → MayBegin p.name.file (step.Write (p.name.index * n) bytes) (files_now clock past old) (files_now clock past new)
      → (name : CellName) → last_put (p ∷ []) name ≡ None → cells_now clock past new name.file name.index ≡ cells_now clock past old name.file name.index
  may_beside old new p n bytes len same sized may name none = ⊎_elim
      (λ begun. other_cell (files_now clock past old) (files_now clock past new) p sized
      (subst (λ (s : Step). Begins p.name.file s (files_now clock past old) (files_now clock past new)) (same_step p n bytes len same) begun)
      name.file name.index (unput p name none))
      (λ e. ap (λ (fs : Files). cells_of_files (reads_of fs) name.file name.index) e)
      may

  pub call_done : (old new : Log D) (p : Put) (n : ℕ) (bytes : List ℕ) → n ≡ length p.bytes → bytes ≡ p.bytes → size_of p.name.file ≡ Some (length p.bytes)
      → Begins p.name.file (step.Write (p.name.index * n) bytes) (files_now clock past old) (files_now clock past new)
      → (files_now clock past new p.name.file).read ≡ done (files_now clock past old p.name.file).read (step.Write (p.name.index * n) bytes) → IsDone clock past p old new
  call_done old new p n bytes len same sized begun written = record {
    read = put_done (files_now clock past old) (files_now clock past new) p sized
        (subst (λ (s : Step). Begins p.name.file s (files_now clock past old) (files_now clock past new)) (same_step p n bytes len same) begun)
        (written ∙ ap (done (files_now clock past old p.name.file).read) (same_step p n bytes len same));
    others = begun.others;
  }
