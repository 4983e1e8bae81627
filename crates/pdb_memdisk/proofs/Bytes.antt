-- How contents of files in memory change.
use mathlib.Core.Path.{fun_ext}
use Rattle.std.proofs.Common.{◌≡◌, ◌≢◌, ℕ, zero, suc, ◌<◌, ◌≤◌, List, [], ◌∷◌, ◌++◌, length, get_or, take, set, replicate, if◌then◌else◌, ◌==◌, Bool, true, false, refl, sym, ap, ◌∙◌, arith}
use Rattle.std.proofs.lemmas.Bool.Decides.{nat_tests}
use Rattle.std.proofs.lemmas.List.{get_or-set_same, get_or-set_other, take_all}
use Rattle.pdb_disk.specs.Files.{FileBytes, Step, done}
use Rattle.pdb_memdisk.specs.Contents.{content_of, image_of, changed}

pub content_nil : (i : ℕ) → content_of [] i ≡ 0
content_nil zero = refl
content_nil (suc i) = refl

zeros : (n i : ℕ) → content_of (replicate n 0) i ≡ 0
zeros zero i = content_nil i
zeros (suc n) zero = refl
zeros (suc n) (suc i) = zeros n i

padded_at : (xs : List ℕ) (n i : ℕ) → content_of (xs ++ replicate n 0) i ≡ content_of xs i
padded_at [] n i = zeros n i ∙ sym (content_nil i)
padded_at (x ∷ xs) n zero = refl
padded_at (x ∷ xs) n (suc i) = padded_at xs n i

-- zeros at the end change no content
pub content_padded : (xs : List ℕ) (n : ℕ) → content_of (xs ++ replicate n 0) ≡ content_of xs
content_padded xs n = fun_ext (λ i. padded_at xs n i)

pub content_resized : (xs : List ℕ) (n k : ℕ) → length xs ≤ n → content_of (take n xs ++ replicate k 0) ≡ content_of xs
content_resized xs n k le = ap (λ ys. content_of (ys ++ replicate k 0)) (take_all n xs le) ∙ content_padded xs k

pub same_content : (c d : FileBytes) → ((i : ℕ) → c i ≡ d i) → c ≡ d
same_content c d h = fun_ext h

more_at : (xs : List (List ℕ)) (j : ℕ) → get_or (xs ++ [] ∷ []) j [] ≡ get_or xs j []
more_at [] zero = refl
more_at [] (suc j) = refl
more_at (x ∷ xs) zero = refl
more_at (x ∷ xs) (suc j) = more_at xs j

-- nor does an empty file more
pub image_more : (xs : List (List ℕ)) → image_of (xs ++ [] ∷ []) ≡ image_of xs
image_more xs = fun_ext (λ j. ap content_of (more_at xs j))

-- a file that is put in the place of another one
pub image_set : (xs : List (List ℕ)) (file : ℕ) (x : List ℕ) (s : Step) → file < length xs → content_of x ≡ done (content_of (get_or xs file [])) s → image_of (set xs file x) ≡ changed (image_of xs) file s
image_set xs file x s low e = fun_ext (λ j. at j (j == file) refl)
  where
    at : (j : ℕ) (b : Bool) → (j == file) ≡ b → image_of (set xs file x) j ≡ (if b then done (image_of xs j) s else image_of xs j)
    at j true h =
        let is : j ≡ file = grind (arith, nat_tests) in
        rw is (ap content_of (get_or-set_same xs file x [] low) ∙ e)
    at j false h =
        let is : j ≢ file = grind (arith, nat_tests) in
        ap content_of (get_or-set_other xs file j x [] is)
