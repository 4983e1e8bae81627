-- How lists of images grow by one change.
use Rattle.std.proofs.Common.{◌≡◌, ℕ, zero, suc, ◌+◌, ◌<◌, ◌≤◌, List, [], ◌∷◌, ◌++◌, map, length, get_or, drop, append_assoc, add-one, drop-cons, refl, sym, ap, ◌∙◌, arith}
use Rattle.std.proofs.lemmas.List.{map-append}
use Rattle.pdb_disk.specs.Files.{Image}
use Rattle.pdb_memdisk.specs.Contents.{changed}
use Rattle.pdb_memdisk.specs.Images.{Placed, image_after, half, first_n, first_n_and_half, all_but_one}

-- what is left of a list before and after one more element
pub drop_next : {A : Type 0} (xs : List A) (i : ℕ) (x : A) → i < length xs → x ≡ get_or xs i x → drop i xs ≡ x ∷ drop (i + 1) xs
drop_next xs i x low e = drop-cons xs i x low ∙ ap (λ z. z ∷ drop (suc i) xs) (sym e) ∙ ap (λ n. x ∷ drop n xs) (sym (add-one i))

pub drop_end : {A : Type 0} (xs : List A) (i : ℕ) → length xs ≤ i → drop i xs ≡ []
drop_end [] zero le = refl
drop_end [] (suc i) le = refl
drop_end (x ∷ xs) zero le = absurd (omega (arith, le))
drop_end (x ∷ xs) (suc i) le = drop_end xs i (omega (arith, le))

-- images with one change before all others
pub laid_after : (x : Image) (p : Placed) (pss : List (List Placed)) → map (image_after x) (map (λ qs. p ∷ qs) pss) ≡ map (image_after (changed x p.0 p.1)) pss
laid_after x p [] = refl
laid_after x p (qs ∷ pss) = ap (λ (ys : List Image). image_after (changed x p.0 p.1) qs ∷ ys) (laid_after x p pss)

pub first_n_more : (seen : List Image) (x y : Image) (p : Placed) (ps : List Placed) → y ≡ changed x p.0 p.1 → (seen ++ x ∷ []) ++ map (image_after y) (first_n ps) ≡ seen ++ map (image_after x) (first_n (p ∷ ps))
first_n_more seen x y p ps e =
    append_assoc seen (x ∷ []) (map (image_after y) (first_n ps))
    ∙ ap (λ (ys : List Image). seen ++ x ∷ ys) (ap (λ (z : Image). map (image_after z) (first_n ps)) e ∙ sym (laid_after x p (first_n ps)))

pub half_more : (seen : List Image) (x y : Image) (p : Placed) (ps : List Placed) → y ≡ changed x p.0 p.1 → (seen ++ map (image_after x) (map (λ q. q ∷ []) (half p))) ++ map (image_after y) (first_n_and_half ps) ≡ seen ++ map (image_after x) (first_n_and_half (p ∷ ps))
half_more seen x y p ps e =
    append_assoc seen (map (image_after x) (map (λ q. q ∷ []) (half p))) (map (image_after y) (first_n_and_half ps))
    ∙ ap (λ (ys : List Image). seen ++ ys) (ap (λ (ys : List Image). map (image_after x) (map (λ q. q ∷ []) (half p)) ++ ys) (ap (λ (z : Image). map (image_after z) (first_n_and_half ps)) e ∙ sym (laid_after x p (first_n_and_half ps)))
    ∙ sym (map-append (image_after x) (map (λ q. q ∷ []) (half p)) (map (λ qs. p ∷ qs) (first_n_and_half ps))))

pub but_one_more : (seen : List Image) (x y : Image) (p : Placed) (ps : List Placed) → y ≡ changed x p.0 p.1 → (seen ++ image_after x ps ∷ []) ++ map (image_after y) (all_but_one ps) ≡ seen ++ map (image_after x) (all_but_one (p ∷ ps))
but_one_more seen x y p ps e =
    append_assoc seen (image_after x ps ∷ []) (map (image_after y) (all_but_one ps))
    ∙ ap (λ (ys : List Image). seen ++ image_after x ps ∷ ys) (ap (λ (z : Image). map (image_after z) (all_but_one ps)) e ∙ sym (laid_after x p (all_but_one ps)))
