-- Each image that is listed is one that a crash may leave.
use Rattle.std.proofs.Common.{◌≡◌, ℕ, zero, suc, ◌/◌, ◌==◌, Bool, true, false, if◌then◌else◌, List, [], ◌∷◌, ◌++◌, map, length, take, refl, sym, subst, ◌∙◌, inl, inr, arith}
use Rattle.std.specs.List.{All}
use Rattle.std.proofs.lemmas.List.{length-take}
use Rattle.std.proofs.lemmas.Bool.Decides.{nat_tests}
use Rattle.pdb_disk.specs.Files.{Files, Image, Step, Spares, AllSpare, IsImage, done}
use Rattle.pdb_disk.specs.Files.{Step as step}
use Rattle.pdb_disk.proofs.Images.{done_spared}
use Rattle.pdb_memdisk.specs.Contents.{changed}
use Rattle.pdb_memdisk.specs.Images.{Placed, steps_on, image_after, half, first_n, first_n_and_half, all_but_one, listed, keeps_of}

-- no step on file j covers place i
abbrev pub SparesAt : List Placed → ℕ → ℕ → Type 0
SparesAt [] j i = Unit {0}
SparesAt (p ∷ ps) j i = (j ≡ p.0 → Spares p.1 i) × SparesAt ps j i

-- the second steps cover no place beside those of the first
abbrev pub Within : List Placed → List Placed → Type 0
Within ps qs = (j i : ℕ) → SparesAt ps j i → SparesAt qs j i

abbrev pub Each : {A : Type 0} → (A → Type 0) → List A → Type 0
Each P [] = Unit {0}
Each P (x ∷ xs) = P x × Each P xs

each_map : {A B : Type 0} (P : A → Type 0) (Q : B → Type 0) (f : A → B) → ((x : A) → P x → Q (f x)) → (xs : List A) → Each P xs → Each Q (map f xs)
each_map P Q f goes [] h = tt
each_map P Q f goes (x ∷ xs) h = (goes x h.0, each_map P Q f goes xs h.1)

each_append : {A : Type 0} (P : A → Type 0) (xs ys : List A) → Each P xs → Each P ys → Each P (xs ++ ys)
each_append P [] ys h k = k
each_append P (x ∷ xs) ys h k = (h.0, each_append P xs ys h.1 k)

pub each_all : {A B : Type 0} (P : B → Type 0) (f : A → B) (xs : List A) → Each P (map f xs) → All (λ x. P (f x)) xs
each_all P f [] h k d low = absurd (omega (arith, low))
each_all P f (x ∷ xs) h zero d low = h.0
each_all P f (x ∷ xs) h (suc k) d low = each_all P f xs h.1 k d (omega (arith, low))

changed_spared : (x : Image) (p : Placed) (j i : ℕ) → (j ≡ p.0 → Spares p.1 i) → changed x p.0 p.1 j i ≡ x j i
changed_spared x p j i h = pick (j == p.0) refl
  where
    pick : (b : Bool) → (j == p.0) ≡ b → (if b then done (x j) p.1 else x j) i ≡ x j i
    pick true e = done_spared (x j) p.1 i (h (grind (arith, nat_tests)))
    pick false e = refl

laid_spared : (x : Image) (ps : List Placed) (j i : ℕ) → SparesAt ps j i → image_after x ps j i ≡ x j i
laid_spared x [] j i h = refl
laid_spared x (p ∷ ps) j i h = laid_spared (changed x p.0 p.1) ps j i h.1 ∙ changed_spared x p j i h.0

spared_at : (ps : List Placed) (j i : ℕ) → AllSpare (steps_on j ps) i → SparesAt ps j i
spared_at [] j i h = tt
spared_at (p ∷ ps) j i h = pick (j == p.0) refl (λ k. spared_at ps j i k)
  where
    pick : (b : Bool) → (j == p.0) ≡ b → (AllSpare (steps_on j ps) i → SparesAt ps j i) → SparesAt (p ∷ ps) j i
    pick true e goes = let both = rw e at h in ((λ is. both.0), goes both.1)
    pick false e goes = let rest = rw e at h in ((λ is. absurd (grind (arith, nat_tests))), goes rest)

first_n_within : (ps : List Placed) → Each (Within ps) (first_n ps)
first_n_within [] = ((λ j i h. h), tt)
first_n_within (p ∷ ps) = ((λ j i h. tt), each_map (Within ps) (Within (p ∷ ps)) (λ qs. p ∷ qs) (λ qs w j i h. (h.0, w j i h.1)) (first_n ps) (first_n_within ps))

half_spares : (at : ℕ) (bytes : List ℕ) (k i : ℕ) → Spares (step.Write at bytes) i → Spares (step.Write at (take k bytes)) i
half_spares at bytes k i (inl low) = inl low
half_spares at bytes k i (inr high) = inr (let e = length-take k bytes in omega (arith, e, high))

half_within : (p : Placed) (ps : List Placed) → Each (Within (p ∷ ps)) (map (λ q. q ∷ []) (half p))
half_within (j, step.Write at bytes) ps = ((λ k i h. ((λ is. half_spares at bytes (length bytes / 2) i (h.0 is)), tt)), tt)
half_within (j, step.Cut) ps = tt

first_n_and_half_within : (ps : List Placed) → Each (Within ps) (first_n_and_half ps)
first_n_and_half_within [] = tt
first_n_and_half_within (p ∷ ps) = each_append (Within (p ∷ ps)) (map (λ q. q ∷ []) (half p)) (map (λ qs. p ∷ qs) (first_n_and_half ps)) (half_within p ps)
    (each_map (Within ps) (Within (p ∷ ps)) (λ qs. p ∷ qs) (λ qs w j i h. (h.0, w j i h.1)) (first_n_and_half ps) (first_n_and_half_within ps))

all_but_one_within : (ps : List Placed) → Each (Within ps) (all_but_one ps)
all_but_one_within [] = tt
all_but_one_within (p ∷ ps) = ((λ j i h. h.1), each_map (Within ps) (Within (p ∷ ps)) (λ qs. p ∷ qs) (λ qs w j i h. (h.0, w j i h.1)) (all_but_one ps) (all_but_one_within ps))

member : (fs : Files) (ps : List Placed) → ((j : ℕ) → steps_on j ps ≡ (fs j).since) → (qs : List Placed) → Within ps qs → IsImage fs (image_after (keeps_of fs) qs)
member fs ps h qs w j i sp = laid_spared (keeps_of fs) qs j i (w j i (spared_at ps j i (subst (λ (ss : List Step). AllSpare ss i) (sym (h j)) sp)))

pub listed_members : (fs : Files) (ps : List Placed) → ((j : ℕ) → steps_on j ps ≡ (fs j).since) → Each (IsImage fs) (listed (keeps_of fs) ps)
listed_members fs ps h =
    each_append (IsImage fs) (map (image_after (keeps_of fs)) (first_n ps)) (map (image_after (keeps_of fs)) (first_n_and_half ps) ++ map (image_after (keeps_of fs)) (all_but_one ps))
    (each_map (Within ps) (IsImage fs) (image_after (keeps_of fs)) (member fs ps h) (first_n ps) (first_n_within ps))
    (each_append (IsImage fs) (map (image_after (keeps_of fs)) (first_n_and_half ps)) (map (image_after (keeps_of fs)) (all_but_one ps))
    (each_map (Within ps) (IsImage fs) (image_after (keeps_of fs)) (member fs ps h) (first_n_and_half ps) (first_n_and_half_within ps))
    (each_map (Within ps) (IsImage fs) (image_after (keeps_of fs)) (member fs ps h) (all_but_one ps) (all_but_one_within ps)))
