-- The rows that a log stands for, where other files than those of cells change, and where records come to it.
use Rattle.std.proofs.Common.{◌≡◌, inl, ⊎_elim, ℕ, zero, suc, ◌+◌, ◌*◌, ◌≤◌, ◌<◌, List, [], ◌∷◌, ◌++◌, length, take, nat_le, true, false, if◌then◌else◌, None, refl, sym, ◌∙◌, ap, subst, arith, length-append, append_assoc}
use Rattle.std.specs.Prelude.{Option, Some, slice_get}
use Rattle.std.specs.Option.{unwrap_or}
use Rattle.std.proofs.lemmas.Bool.{cases_lt}
use Rattle.std.proofs.lemmas.Bool.Decides.{nat_tests}
use Rattle.std.proofs.lemmas.List.{append-nil, take_all, take-append-le}
use Rattle.pdb_cells.specs.Content.{Content}
use Rattle.pdb_cells.specs.Puts.{laid}
use Rattle.pdb_cells.specs.Sizes.{size_of}
use Rattle.pdb_cells.proofs.Sizes.{no_cells}
use Rattle.pdb_disk.specs.Files.{FileBytes, FileState, Files, Image, IsFileImage, IsImage}
use Rattle.pdb_model.specs.Records.{Record}
use Rattle.pdb_model.specs.Recovery.{Row, Safe, bytes_from, cells_of_files, commits_after, laid_over}
use Rattle.pdb_model.specs.declared.gate_slot.GateSlot.{GateSlot}
use Rattle.pdb_log.specs.Ledger.{AreRows, IsRowAt, Ledger, records_flushed, appended, row_after}

below_nine : (file : ℕ) → file < 9 → size_of file ≡ None
below_nine file low = no_cells file (inl (omega (arith, low), (λ e. omega (arith, low, e))))

-- cells lie in the files from 9 on
pub same_cells : (x y : Image) → ((j : ℕ) → 9 ≤ j → x j ≡ y j) → cells_of_files x ≡ cells_of_files y
same_cells x y same = λ i file index. at file index i
  where
    none : (file index size : ℕ) → size ≡ 0 → bytes_from (x file) (index * size) size ≡ bytes_from (y file) (index * size) size
    none file index size e = rw e refl

    at : (file index : ℕ) → cells_of_files x file index ≡ cells_of_files y file index
    at file index = ⊎_elim
        (λ low. none file index (unwrap_or (size_of file) 0) (ap (λ o. unwrap_or o 0) (below_nine file low)))
        (λ high. let size : ℕ = unwrap_or (size_of file) 0 in ap (λ (c : FileBytes). bytes_from c (index * size) size) (same file high))
        (cases_lt file 9)

-- an image with the cells of another one
module _ (old new : Files) (x : Image) (image : IsImage new x) (same : (j : ℕ) → 9 ≤ j → new j ≡ old j) where
  abbrev pub cells_only : Image
  cells_only j = if nat_le 9 j then x j else (old j).kept

  cells_here : (j : ℕ) → 9 ≤ j → cells_only j ≡ x j
  cells_here j high = let t : nat_le 9 j ≡ true = grind (arith, nat_tests) in rw t refl

  kept_here : (j : ℕ) → j < 9 → cells_only j ≡ (old j).kept
  kept_here j low = let t : nat_le 9 j ≡ false = grind (arith, nat_tests) in rw t refl

  pub only_image : IsImage old cells_only
  only_image j = ⊎_elim
      (λ low. subst (IsFileImage (old j)) (sym (kept_here j low)) (λ i s. refl))
      (λ high. subst (IsFileImage (old j)) (sym (cells_here j high)) (subst (λ (s : FileState). IsFileImage s (x j)) (same j high) (image j)))
      (cases_lt j 9)

  pub only_cells : cells_of_files cells_only ≡ cells_of_files x
  only_cells = same_cells cells_only x cells_here

-- a row's cells are those of any image with the same
pub row_moved : (rows : List Row) (k : ℕ) (x y : Image) (g : GateSlot) (rs : List Record) → laid_over rs (cells_of_files x) ≡ laid_over rs (cells_of_files y) → IsRowAt rows k x g rs → IsRowAt rows k y g rs
row_moved rows k x y g rs same row = record {
  row = row.row;
  there = row.there;
  cells = λ file index. row.cells file index ∙ ap (λ (c : Content). c file index) same;
  commits = row.commits;
}

-- the files of the cells stay
pub same_rows : (rows : List Row) (f : ℕ) (old new : Files) (l : Ledger) → ((j : ℕ) → 9 ≤ j → new j ≡ old j) → AreRows rows f old l → AreRows rows f new l
same_rows rows f old new l same are k le x image =
    row_moved rows (f + k) (cells_only old new x image same) x l.gate (l.flushed ++ take k l.rest)
    (ap (laid_over (l.flushed ++ take k l.rest)) (only_cells old new x image same))
    (are k le (cells_only old new x image same) (only_image old new x image same))

-- rows of a list

pub row_left : (rows more : List Row) (k : ℕ) (row : Row) → slice_get rows k ≡ Some row → slice_get (rows ++ more) k ≡ Some row
row_left [] more k row e = cc
row_left (a ∷ rows) more zero row e = e
row_left (a ∷ rows) more (suc k) row e = row_left rows more k row e

pub row_last : (rows : List Row) (k : ℕ) (row : Row) → k ≡ length rows → slice_get (rows ++ row ∷ []) k ≡ Some row
row_last [] k row e = ap (slice_get (row ∷ [])) e
row_last (a ∷ rows) zero row e = absurd (omega (arith, e))
row_last (a ∷ rows) (suc k) row e = row_last rows k row (omega (arith, e))

some_same : (d a b : Row) (o : Option Row) → o ≡ Some a → o ≡ Some b → a ≡ b
some_same d a b o e f = ap (λ o. unwrap_or o d) (sym e ∙ f)

-- more rows leave those that were there
pub more_rows : (rows more : List Row) (f : ℕ) (fs : Files) → Safe rows f fs → Safe (rows ++ more) f fs
more_rows rows more f fs safe x image clear =
    let h = safe x image clear in
    (h.0, h.1, h.2, row_left rows more h.0 h.1 h.3, h.4)

pub laid_push : (rs : List Record) (r : Record) (c : Content) → laid_over (rs ++ r ∷ []) c ≡ laid r.puts (laid_over rs c)
laid_push [] r c = refl
laid_push (a ∷ rs) r c = laid_push rs r (laid a.puts c)

pub commits_push : (n : ℕ) (rs : List Record) (r : Record) → commits_after n (rs ++ r ∷ []) ≡ r.commits
commits_push n [] r = refl
commits_push n (a ∷ rs) r = commits_push a.commits rs r

cut : (rs : List Record) → take (length rs) rs ≡ rs
cut rs = take_all (length rs) rs (omega arith)

-- the row after one record more
pub pushed_row : (rows : List Row) (k m : ℕ) (x : Image) (g : GateSlot) (rs : List Record) (r : Record) (row : Row) → slice_get rows k ≡ Some row → m ≡ length rows → IsRowAt rows k x g rs
    → IsRowAt (rows ++ row_after row r ∷ []) m x g (rs ++ r ∷ [])
pushed_row rows k m x g rs r row last end before = record {
  row = row_after row r;
  there = row_last rows m (row_after row r) end;
  cells = λ file index. ap (λ (c : Content). laid r.puts c file index) was ∙ sym (ap (λ (c : Content). c file index) (laid_push rs r (cells_of_files x)));
  commits = sym (commits_push g.commits rs r);
}
  where
    same : before.row ≡ row
    same = some_same row before.row row (slice_get rows k) before.there last

    was : row.cells ≡ laid_over rs (cells_of_files x)
    was = ap (λ (w : Row). w.cells) (sym same) ∙ (λ i file index. before.cells file index i)

pub append_rows : (rows : List Row) (f : ℕ) (fs : Files) (l : Ledger) (file : ℕ) (r : Record) (row : Row) → length rows ≡ f + length l.rest + 1 → slice_get rows (f + length l.rest) ≡ Some row
    → AreRows rows f fs l → AreRows (rows ++ row_after row r ∷ []) f fs (appended l file r)
append_rows rows f fs l file r row len last are k le x image = ⊎_elim
    (λ more.
    let q = length-append l.rest (r ∷ []) in
    let whole : take k (l.rest ++ r ∷ []) ≡ l.rest ++ r ∷ [] = take_all k (l.rest ++ r ∷ []) (omega (arith, q, more)) in
    let end : f + k ≡ length rows = omega (arith, q, more, le, len) in
    let was : IsRowAt rows (f + length l.rest) x l.gate (l.flushed ++ l.rest) = subst (λ rs. IsRowAt rows (f + length l.rest) x l.gate (l.flushed ++ rs)) (cut l.rest) (are (length l.rest) (omega arith) x image) in
    let now : (l.flushed ++ l.rest) ++ r ∷ [] ≡ l.flushed ++ take k (l.rest ++ r ∷ []) = append_assoc l.flushed l.rest (r ∷ []) ∙ ap (λ rs. l.flushed ++ rs) (sym whole) in
    subst (IsRowAt (rows ++ row_after row r ∷ []) (f + k) x l.gate) now
    (pushed_row rows (f + length l.rest) (f + k) x l.gate (l.flushed ++ l.rest) r row last end was))
    (λ less.
    let front : take k (l.rest ++ r ∷ []) ≡ take k l.rest = take-append-le k l.rest (r ∷ []) less in
    let old = are k less x image in
    subst (λ rs. IsRowAt (rows ++ row_after row r ∷ []) (f + k) x l.gate (l.flushed ++ rs)) (sym front)
    (record { row = old.row; there = row_left rows (row_after row r ∷ []) (f + k) old.row old.there; cells = old.cells; commits = old.commits }))
    (cases_lt (length l.rest) k)

-- all records are flushed
pub flush_rows : (rows : List Row) (f : ℕ) (fs : Files) (l : Ledger) → AreRows rows f fs l → AreRows rows (f + length l.rest) fs (records_flushed l)
flush_rows rows f fs l are k le x image =
    let e : f + length l.rest ≡ f + length l.rest + k = omega (arith, le) in
    let empty : List Record = [] in
    let nothing : take k empty ≡ empty = take_all k empty (omega arith) in
    let same : l.flushed ++ take (length l.rest) l.rest ≡ (l.flushed ++ l.rest) ++ take k [] =
    ap (λ (rs : List Record). l.flushed ++ rs) (cut l.rest) ∙ sym (append-nil (l.flushed ++ l.rest)) ∙ ap (λ (rs : List Record). (l.flushed ++ l.rest) ++ rs) (sym nothing) in
    subst (λ n. IsRowAt rows n x l.gate ((l.flushed ++ l.rest) ++ take k [])) e
    (subst (IsRowAt rows (f + length l.rest) x l.gate) same (are (length l.rest) (omega arith) x image))
