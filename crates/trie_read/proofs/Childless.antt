-- A node that is no branch has no child.
use Rattle.std.proofs.Common.{◌≡◌, ℕ, Bool, true, false, List, [], ◌∷◌, Option, Some, None, refl}
use Rattle.std.specs.Prelude.{is_some}
use Rattle.std.specs.List.{list_any}
use Rattle.trie_model.specs.Node.{Node}
use Rattle.trie_codec.specs.NodeParts.{kind_by}
use Rattle.trie_codec.specs.declared.node_ref.Kind.TheVariants.{Branch}
use Rattle.trie_read.specs.Depth.{child_too_deep}

pub no_branch : (some : Bool) (value : Option (List ℕ)) → (kind_by some value ≡ Branch → ⊥) → some ≡ false
no_branch false value other = refl
no_branch true value other = absurd (other refl)

-- where there is no child none is too deep
pub none_deep : (deep : Node → Bool) (cs : List (Option (List ℕ))) → list_any is_some cs ≡ false → false ≡ list_any (child_too_deep deep) cs
none_deep deep [] e = refl
none_deep deep (None ∷ cs) e = none_deep deep cs e
none_deep deep (Some c ∷ cs) e = absurd cc
