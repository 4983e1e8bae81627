-- Parts that are put before what is left.
use Rattle.std.proofs.Common.{◌≡◌, ℕ, ◌-◌, List, [], ◌∷◌, ◌++◌, map, reverse, take, Option, Some, None, refl, ap, ap₂, subst, sym, ◌∙◌}
use Rattle.std.specs.Prelude.{MatchOption}
use Rattle.std.specs.Option.{option_or, option_to_list}
use Rattle.std.proofs.lemmas.List.{map-append, reverse-append, reverse-reverse}
use Rattle.trie_read.specs.inner.Parts.{OfKey, OfNode, Piece, as_pieces, behind_it, first_two_of, in_order, piece_of}
use Rattle.trie_read.specs.declared.parts.Part.{Part}
use Rattle.trie_read.specs.declared.parts.Part.TheVariants as part
use Rattle.trie_read.specs.declared.parts.Stored.{Stored}

pub put_before : (found : List (List ℕ)) (later parts : List Part) → in_order found None (later ++ reverse parts) ≡ map OfKey found ++ (as_pieces parts ++ as_pieces (reverse later))
put_before found later parts =
    ap (λ (ps : List Part). map OfKey found ++ as_pieces ps) (reverse-append later (reverse parts) ∙ ap (λ (ps : List Part). ps ++ reverse later) (reverse-reverse parts))
    ∙ ap (λ (ps : List Piece). map OfKey found ++ ps) (map-append piece_of parts (reverse later))

-- ---- the first two of parts, which are the last two of the same the other way round

first_last : (parts left : List Part) (x : Part) → reverse parts ≡ left ++ x ∷ [] → parts ≡ x ∷ reverse left
first_last parts left x e = sym (reverse-reverse parts) ∙ ap (λ (ps : List Part). reverse ps) e ∙ reverse-append left (x ∷ [])

pub first_two : (parts left last : List Part) (stored : Stored) (second behind nearest : Option Part) → reverse parts ≡ left ++ part.Node stored ∷ [] → left ≡ last ++ option_to_list second
    → (second ≡ None → left ≡ []) → nearest ≡ option_or second behind → OfNode stored.hash.0 stored.path.items ∷ behind_it nearest ≡ first_two_of (as_pieces parts ++ behind_it behind)
first_two parts left last stored second behind nearest whole others none is = next second refl
  where
    one : (o : Option Part) → OfNode stored.hash.0 stored.path.items ∷ behind_it o ≡ first_two_of (OfNode stored.hash.0 stored.path.items ∷ behind_it o)
    one None = refl
    one (Some p) = refl

    next : (s : Option Part) → second ≡ s → OfNode stored.hash.0 stored.path.items ∷ behind_it nearest ≡ first_two_of (as_pieces parts ++ behind_it behind)
    next None e =
        let nothing : reverse left ≡ [] = ap (λ (ps : List Part). reverse ps) (none e) in
        ap (λ (o : Option Part). OfNode stored.hash.0 stored.path.items ∷ behind_it o) (is ∙ ap (λ (o : Option Part). option_or o behind) e)
        ∙ one behind
        ∙ ap (λ (ps : List Part). first_two_of (as_pieces (part.Node stored ∷ ps) ++ behind_it behind)) (sym nothing)
        ∙ ap (λ (ps : List Part). first_two_of (as_pieces ps ++ behind_it behind)) (sym (first_last parts left (part.Node stored) whole))
    next (Some p) e =
        let more : reverse left ≡ p ∷ reverse last = ap (λ (ps : List Part). reverse ps) (others ∙ ap (λ (o : Option Part). last ++ option_to_list o) e) ∙ reverse-append last (p ∷ []) in
        ap (λ (o : Option Part). OfNode stored.hash.0 stored.path.items ∷ behind_it o) (is ∙ ap (λ (o : Option Part). option_or o behind) e)
        ∙ ap (λ (ps : List Part). first_two_of (as_pieces (part.Node stored ∷ ps) ++ behind_it behind)) (sym more)
        ∙ ap (λ (ps : List Part). first_two_of (as_pieces ps ++ behind_it behind)) (sym (first_last parts left (part.Node stored) whole))

-- what gave nothing was empty
pub emptied : (X : Type 0) (Q : Part → Type 0) (left last : List Part) (second : Option Part) (n : ℕ) → MatchOption second ((n ≡ 0) × X) Q → last ≡ take (n - 1) left
    → left ≡ last ++ option_to_list second → second ≡ None → left ≡ []
emptied X Q left last second n m rest items e =
    let none : (n ≡ 0) × X = subst (λ (o : Option Part). MatchOption o ((n ≡ 0) × X) Q) e m in
    items ∙ ap₂ (λ (ps qs : List Part). ps ++ qs) (rest ∙ ap (λ (k : ℕ). take (k - 1) left) none.0) (ap option_to_list e)

pub first_key : (parts left : List Part) (key : List ℕ) (behind : Option Part) → reverse parts ≡ left ++ part.Key key ∷ [] → OfKey key ∷ [] ≡ first_two_of (as_pieces parts ++ behind_it behind)
first_key parts left key behind e = ap (λ (ps : List Part). first_two_of (as_pieces ps ++ behind_it behind)) (sym (first_last parts left (part.Key key) e))
