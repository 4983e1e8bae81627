-- Records laid over cells, cell by cell.
use Rattle.std.proofs.Common.{◌≡◌, ℕ, List, [], ◌∷◌, ◌++◌, Option, Some, None, refl, sym, ap, ◌∙◌}
use Rattle.std.specs.Option.{option_or, unwrap_or}
use Rattle.pdb_cells.specs.Content.{Content}
use Rattle.pdb_cells.specs.Puts.{laid, last_put}
use Rattle.pdb_cells.specs.declared.CellName.{CellName}
use Rattle.pdb_cells.specs.declared.Put.{Put}
use Rattle.pdb_cells.proofs.Laying.{laid-last}
use Rattle.pdb_model.specs.Records.{Record}
use Rattle.pdb_model.specs.Recovery.{commits_after, laid_over}
use Rattle.pdb_redo.specs.Places.{newest}

or_or : (a b : Option (List ℕ)) (d : List ℕ) → unwrap_or a (unwrap_or b d) ≡ unwrap_or (option_or a b) d
or_or None b d = refl
or_or (Some x) b d = refl

or_none : (o : Option (List ℕ)) → option_or None o ≡ option_or o None
or_none None = refl
or_none (Some x) = refl

or_assoc : (a b c : Option (List ℕ)) → option_or (option_or a b) c ≡ option_or a (option_or b c)
or_assoc None b c = refl
or_assoc (Some x) b c = refl

-- a cell has its bytes in the newest record that puts it, else those below
pub newest_laid : (rs : List Record) (c : Content) (name : CellName) → laid_over rs c name.file name.index ≡ unwrap_or (newest rs name) (c name.file name.index)
newest_laid [] c name = refl
newest_laid (r ∷ rs) c name =
    newest_laid rs (laid r.puts c) name
    ∙ ap (unwrap_or (newest rs name)) (laid-last r.puts c name)
    ∙ or_or (newest rs name) (last_put r.puts name) (c name.file name.index)

-- so only the cell below counts
pub laid_alike : (rs : List Record) (c d : Content) (file index : ℕ) → c file index ≡ d file index → laid_over rs c file index ≡ laid_over rs d file index
laid_alike rs c d file index e =
    newest_laid rs c (record { file = file; index = index })
    ∙ ap (unwrap_or (newest rs (record { file = file; index = index }))) e
    ∙ sym (newest_laid rs d (record { file = file; index = index }))

pub puts_alike : (ps : List Put) (c d : Content) (file index : ℕ) → c file index ≡ d file index → laid ps c file index ≡ laid ps d file index
puts_alike ps c d file index e =
    laid-last ps c (record { file = file; index = index })
    ∙ ap (unwrap_or (last_put ps (record { file = file; index = index }))) e
    ∙ sym (laid-last ps d (record { file = file; index = index }))

pub newest_push : (rs : List Record) (r : Record) (name : CellName) → newest (rs ++ r ∷ []) name ≡ option_or (last_put r.puts name) (newest rs name)
newest_push [] r name = or_none (last_put r.puts name)
newest_push (q ∷ rs) r name =
    ap (λ o. option_or o (last_put q.puts name)) (newest_push rs r name)
    ∙ or_assoc (last_put r.puts name) (newest rs name) (last_put q.puts name)

-- one more record is laid over the others
pub below_push : (rs : List Record) (r : Record) (name : CellName) (own : List ℕ)
    → unwrap_or (newest (rs ++ r ∷ []) name) own ≡ unwrap_or (last_put r.puts name) (unwrap_or (newest rs name) own)
below_push rs r name own = ap (λ o. unwrap_or o own) (newest_push rs r name) ∙ sym (or_or (last_put r.puts name) (newest rs name) own)

pub laid_over-append : (front back : List Record) (c : Content) → laid_over (front ++ back) c ≡ laid_over back (laid_over front c)
laid_over-append [] back c = refl
laid_over-append (r ∷ front) back c = laid_over-append front back (laid r.puts c)

pub commits-append : (n : ℕ) (front back : List Record) → commits_after n (front ++ back) ≡ commits_after (commits_after n front) back
commits-append n [] back = refl
commits-append n (r ∷ front) back = commits-append r.commits front back
