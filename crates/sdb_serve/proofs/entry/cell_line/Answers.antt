use Rattle.std.proofs.Common.{◌≡◌, ◌++◌, ◌∷◌, [], ℕ, List, Vec, Global, codes, decimal, sym, ap, ◌∙◌, append_assoc}
use Rattle.sdb_serve.proofs.entry.cell_line.Goals as goal

pub returns : goal.returns
returns c = λ n.
    let file = decimal c.args.file in
    let cell = decimal c.args.cell in
    let joined : ((file ++ 32 ∷ []) ++ cell) ++ 10 ∷ [] ≡ file ++ 32 ∷ (cell ++ 10 ∷ []) =
    append_assoc (file ++ 32 ∷ []) cell (10 ∷ []) ∙ append_assoc file (32 ∷ []) (cell ++ 10 ∷ []) in
    let bytes = ap (λ (v : Vec ℕ Global). v.items) c.into_bytes.ensures.value ∙ c.in_ok-text.ensures.ok in
    ap (λ (t : List ℕ). (codes "stop 9 cell " ++ t) ∷ []) joined ∙ ap (λ (t : List ℕ). t ∷ []) (sym bytes)
