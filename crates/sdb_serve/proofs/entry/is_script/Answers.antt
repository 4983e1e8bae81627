use Rattle.std.proofs.Common.{◌≡◌, ◌∙◌, sym, ap, List, [], ◌∷◌, ℕ}
use Rattle.sdb_serve.proofs.Words.{bytes_same, first_is, one_item, same_bytes}
use Rattle.sdb_serve.proofs.entry.is_script.Goals as goal

pub returns-in-len1 : goal.returns-in-len1
returns-in-len1 c =
    let word : List ℕ = c.word-item.result in
    let one : c.args.words.now ≡ word ∷ [] = sym c.as_slice.ensures ∙ one_item c.as_slice.result.now word c.in-len1.len_at_least c.in-len1.len_below c.word-item.is in (
      λ e. one ∙ ap (λ (w : List ℕ). w ∷ []) (sym c.as_slice-in-len1.ensures ∙ same_bytes c.as_slice-in-len1.result.now c.as_slice-in-len1-2.result.now (sym c.eq.ensures ∙ e) ∙ c.as_slice-in-len1-2.ensures),
      λ e. c.eq.ensures ∙ bytes_same c.as_slice-in-len1.result.now c.as_slice-in-len1-2.result.now (c.as_slice-in-len1.ensures ∙ first_is word c.as_slice-in-len1-2.result.now (sym one ∙ e ∙ ap (λ (w : List ℕ). w ∷ []) (sym c.as_slice-in-len1-2.ensures))),
    )
