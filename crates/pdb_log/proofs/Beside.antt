-- Contents that are the same but for one cell.
use Rattle.std.proofs.Common.{◌≡◌, ⊎_elim, ℕ, zero, suc, ◌<◌, ◌==◌, ◌&&◌, Bool, true, false, List, [], ◌∷◌, length, if◌then◌else◌, refl, sym, ap, subst, arith}
use Rattle.std.specs.Prelude.{Contains, get_or}
use Rattle.pdb_cells.specs.Content.{Content, put_cell}
use Rattle.pdb_cells.specs.Puts.{laid}
use Rattle.pdb_cells.specs.declared.Put.{Put}
use Rattle.pdb_model.specs.Records.{Record}
use Rattle.pdb_model.specs.Recovery.{laid_over}
use Rattle.pdb_log.proofs.Members.{In}

abbrev pub Beside : ℕ → ℕ → Content → Content → Type 0
Beside file index c d = (f i : ℕ) → ((file == f) && (index == i)) ≡ false → c f i ≡ d f i

pick : (t : Bool) (b x y : List ℕ) → (t ≡ false → x ≡ y) → (if t then b else x) ≡ (if t then b else y)
pick true b x y h = refl
pick false b x y h = h refl

put_beside : (file index a k : ℕ) (b : List ℕ) (c d : Content) → Beside file index c d → Beside file index (put_cell a k b c) (put_cell a k b d)
put_beside file index a k b c d same f i out = pick ((a == f) && (k == i)) b (c f i) (d f i) (λ e. same f i out)

put_same : (file index : ℕ) (b : List ℕ) (c d : Content) → Beside file index c d → put_cell file index b c ≡ put_cell file index b d
put_same file index b c d same = λ j f i. pick ((file == f) && (index == i)) b (c f i) (d f i) (same f i) j

laid_beside : (file index : ℕ) (ps : List Put) (c d : Content) → Beside file index c d → Beside file index (laid ps c) (laid ps d)
laid_beside file index [] c d same = same
laid_beside file index (q ∷ ps) c d same = laid_beside file index ps (put_cell q.name.file q.name.index q.bytes c) (put_cell q.name.file q.name.index q.bytes d)
    (put_beside file index q.name.file q.name.index q.bytes c d same)

-- a put of that cell makes them the same
laid_at : (ps : List Put) (p : Put) (k : ℕ) (c d : Content) → k < length ps → get_or ps k p ≡ p → Beside p.name.file p.name.index c d → laid ps c ≡ laid ps d
laid_at [] p k c d l e same = absurd (omega (arith, l))
laid_at (q ∷ ps) p zero c d l e same =
    ap (laid ps) (put_same q.name.file q.name.index q.bytes c d (subst (λ (s : Put). Beside s.name.file s.name.index c d) (sym e) same))
laid_at (q ∷ ps) p (suc k) c d l e same =
    laid_at ps p k (put_cell q.name.file q.name.index q.bytes c) (put_cell q.name.file q.name.index q.bytes d) (omega (arith, l)) e
    (put_beside p.name.file p.name.index q.name.file q.name.index q.bytes c d same)

pub laid_same : (rs : List Record) (r : Record) (p : Put) (c d : Content) → In rs r → Contains r.puts p → Beside p.name.file p.name.index c d → laid_over rs c ≡ laid_over rs d
laid_same [] r p c d i has same = absurd i
laid_same (q ∷ rs) r p c d i has same = ⊎_elim
    (λ e. let here = subst (λ (s : Record). Contains s.puts p) (sym e) has in ap (laid_over rs) (laid_at q.puts p here.0 c d here.1 here.2 same))
    (λ j. laid_same rs r p (laid q.puts c) (laid q.puts d) j has (laid_beside p.name.file p.name.index q.puts c d same))
    i
