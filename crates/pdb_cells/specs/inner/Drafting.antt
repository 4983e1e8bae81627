-- What is observable of a draft stays while that of the cells below and the puts stay.
use Rattle.std.specs.Prelude.{◌≡◌, List, Option, Some, None, refl}
use Rattle.std.proofs.Common.{◌∙◌, ap}
use Rattle.pdb_cells.specs.Content.{Content}
use Rattle.pdb_cells.specs.Puts.{drafted}
use Rattle.pdb_cells.specs.declared.puts.Put.{Put}

stays_laid : (puts : List Put) (a b : Option Content) (cells : Content) → ((below : Content) → a ≡ Some below → b ≡ Some below)
    → drafted puts a ≡ Some cells → drafted puts b ≡ Some cells
stays_laid puts None b cells keeps seen = cc
stays_laid puts (Some below) b cells keeps seen = ap (drafted puts) (keeps below refl) ∙ seen

pub stays_drafted : (ps qs : List Put) (a b : Option Content) (cells : Content) → qs ≡ ps
    → ((below : Content) → a ≡ Some below → b ≡ Some below) → drafted ps a ≡ Some cells → drafted qs b ≡ Some cells
stays_drafted ps qs a b cells same keeps seen = ap (λ ps. drafted ps b) same ∙ stays_laid ps a b cells keeps seen
