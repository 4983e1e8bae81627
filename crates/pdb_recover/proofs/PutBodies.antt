-- Bodies of records in a file, cut put by put.
use Rattle.std.proofs.Common.{◌≡◌, ℕ, ◌+◌, ◌-◌, ◌<◌, ◌^◌, List, [], ◌∷◌, ◌++◌, Option, Some, None, length, take, All, sym, ◌∙◌, ap, subst, arith, length-append, append-nil, append_assoc}
use Rattle.std.specs.Int.{w16, w64, to_le_bytes}
use Rattle.std.proofs.lemmas.List.Elements.{All-head, All-tail}
use Rattle.pdb_cells.specs.Puts.{IsWholeCell}
use Rattle.pdb_cells.specs.Sizes.{size_of}
use Rattle.pdb_cells.specs.declared.CellName.{CellName}
use Rattle.pdb_cells.specs.declared.Put.{Put}
use Rattle.pdb_disk.specs.Files.{FileBytes, StandsAt}
use Rattle.pdb_model.specs.Records.{body_bytes, put_bytes}
use Rattle.pdb_model.specs.Recovery.{bytes_from}
use Rattle.pdb_record.proofs.Bodies.{put-len}
use Rattle.pdb_record.proofs.FirstPuts.{one_name, same_size}
use Rattle.pdb_recover.specs.inner.ReadPuts.{AddsPut, HasNoBody, HasNoPut}
use Rattle.pdb_recover.proofs.ReadBytes.{from_len, from_sum, stands_left, stands_right, stands_take}

-- each body of so many bytes at a place has whole puts up to here, and other whole puts after them
abbrev pub GoesOnTo : FileBytes → ℕ → ℕ → ℕ → Type 0
GoesOnTo c at len done = (ps : List Put) → All IsWholeCell ps → StandsAt c at (body_bytes ps) → length (body_bytes ps) ≡ len
    → (qs : List Put) × All IsWholeCell qs × StandsAt c (at + done) (body_bytes qs) × (done + length (body_bytes qs) ≡ len)

pub begins : (c : FileBytes) (at len : ℕ) → GoesOnTo c at len 0
begins c at len ps whole h e = let p : at ≡ at + 0 = omega arith in (ps, whole, subst (λ a. StandsAt c a (body_bytes ps)) p h, omega (arith, e))

-- one more put
pub goes_on : (c : FileBytes) (at len done n : ℕ) → done < len → GoesOnTo c at len done
    → ((p : Put) → IsWholeCell p → StandsAt c (at + done) (put_bytes p) → length (put_bytes p) ≡ n) → GoesOnTo c at len (done + n)
goes_on c at len done n low before only ps whole h e = step (before ps whole h e)
  where
    step : ((qs : List Put) × All IsWholeCell qs × StandsAt c (at + done) (body_bytes qs) × (done + length (body_bytes qs) ≡ len))
        → (qs : List Put) × All IsWholeCell qs × StandsAt c (at + (done + n)) (body_bytes qs) × (done + n + length (body_bytes qs) ≡ len)
    step ([], w, s, l) = absurd (omega (arith, l, low))
    step (q ∷ qs, w, s, l) =
        let size : length (put_bytes q) ≡ n = only q (All-head IsWholeCell q qs w) (stands_left c (at + done) (put_bytes q) (body_bytes qs) s) in
        let place : at + done + length (put_bytes q) ≡ at + (done + n) = omega (arith, size) in (
          qs,
          All-tail IsWholeCell q qs w,
          subst (λ a. StandsAt c a (body_bytes qs)) place (stands_right c (at + done) (put_bytes q) (body_bytes qs) s),
          omega (arith, l, size, length-append (put_bytes q) (body_bytes qs)),
        )

-- no put comes next
pub goes_no_further : (c : FileBytes) (at len done left : ℕ) → done < len → left ≡ len - done → GoesOnTo c at len done → HasNoPut c (at + done) left → HasNoBody c at len
goes_no_further c at len done left low rest before none ps whole h e = stop (before ps whole h e)
  where
    stop : ((qs : List Put) × All IsWholeCell qs × StandsAt c (at + done) (body_bytes qs) × (done + length (body_bytes qs) ≡ len)) → ⊥
    stop ([], w, s, l) = absurd (omega (arith, l, low))
    stop (q ∷ qs, w, s, l) =
        none q (All-head IsWholeCell q qs w) (stands_left c (at + done) (put_bytes q) (body_bytes qs) s)
        (omega (arith, l, low, rest, length-append (put_bytes q) (body_bytes qs)))

-- bytes added after others
pub added_more : (c : FileBytes) (at done n : ℕ) (first now next : List ℕ) → now ≡ first ++ bytes_from c at done → next ≡ now ++ bytes_from c (at + done) n
    → next ≡ first ++ bytes_from c at (done + n)
added_more c at done n first now next e f =
    f ∙ ap (λ xs. xs ++ bytes_from c (at + done) n) e ∙ append_assoc first (bytes_from c at done) (bytes_from c (at + done) n) ∙ ap (λ xs. first ++ xs) (sym (from_sum c at done n))

pub put_added : (c : FileBytes) (at len done n : ℕ) (first now next : List ℕ) → done < len → length next ≡ length now + n → AddsPut c (at + done) now next
    → now ≡ first ++ bytes_from c at done → GoesOnTo c at len done → (next ≡ first ++ bytes_from c at (done + n)) × GoesOnTo c at len (done + n)
put_added c at len done n first now next low long adds e before =
    let same : adds.len ≡ n = omega (arith, long, ap length adds.added, length-append now (bytes_from c (at + done) adds.len), from_len c (at + done) adds.len) in (
      added_more c at done n first now next e (adds.added ∙ ap (λ m. now ++ bytes_from c (at + done) m) same),
      goes_on c at len done n low before (λ p whole there. adds.only p whole there ∙ same),
    )

-- the name that is read at a place is that of the put there
pub name_there : (c : FileBytes) (at : ℕ) (xs : List ℕ) (name : CellName) (p : Put) → length xs ≡ 10 → StandsAt c at xs
    → to_le_bytes w16 name.file ++ to_le_bytes w64 name.index ≡ xs → name.file < 2 ^ 16 → name.index < 2 ^ 64 → IsWholeCell p → StandsAt c at (put_bytes p) → name ≡ p.name
name_there c at xs name p len h spelled small narrow whole there =
    let front : xs ≡ take 10 (put_bytes p) = stands_take c at xs (put_bytes p) 10 len (omega (arith, put-len p)) h there in
    one_name (put_bytes p) [] name p (spelled ∙ front) (sym (append-nil (put_bytes p))) whole small narrow

none_some : (n : ℕ) (o : Option ℕ) → o ≡ None → o ≡ Some n → ⊥
none_some n o p q = cc

-- a file without cells has no put
pub no_size : (name : CellName) (p : Put) → name ≡ p.name → size_of name.file ≡ None → IsWholeCell p → ⊥
no_size name p same none whole = none_some (length p.bytes) (size_of p.name.file) (ap (λ (m : CellName). size_of m.file) (sym same) ∙ none) whole.0

pub size_there : (name : CellName) (p : Put) (n : ℕ) → name ≡ p.name → size_of name.file ≡ Some n → IsWholeCell p → length (put_bytes p) ≡ 10 + n
size_there name p n same is whole = let e = same_size name p n same is whole in omega (arith, e, put-len p)
