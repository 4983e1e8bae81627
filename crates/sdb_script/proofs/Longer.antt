-- Lines with a word too many.
use Rattle.std.proofs.Common.{◌≡◌, ℕ, ◌==◌, true, List, [], ◌∷◌, length, Option, Some, None, Bor, refl, arith}
use Rattle.std.specs.Prelude.{is_some}
use Rattle.std.proofs.lemmas.List.Splits.{length-slice_split}
use Rattle.sdb_script.specs.Grammar.{new_line, id_and_key, root_line, stage_line, words_of}
use Rattle.sdb_script.specs.inner.Reading.{words_left}

some_left : (rest : Option (Bor (List ℕ))) → is_some rest ≡ true → length (words_left rest) ≡ 0 → ⊥
some_left (Some r) e none = omega (arith, none, length-slice_split (λ c. c == 32) r.now)
some_left None e none = absurd cc

new_two : (b : List ℕ) (ws : List (List ℕ)) → (length ws ≡ 0 → ⊥) → new_line (b ∷ ws) ≡ None
unfolding new_line
new_two b [] h = absurd (h refl)
new_two b (w ∷ ws) h = refl

pub new_longer : (b : List ℕ) (rest : Option (Bor (List ℕ))) (words : List (List ℕ)) → is_some rest ≡ true → words ≡ b ∷ words_left rest → new_line words ≡ None
new_longer b rest words e is = rw is (new_two b (words_left rest) (some_left rest e))

asked_three : (i k : List ℕ) (ws : List (List ℕ)) → (length ws ≡ 0 → ⊥) → id_and_key (i ∷ (k ∷ ws)) ≡ None
unfolding id_and_key
asked_three i k [] h = absurd (h refl)
asked_three i k (w ∷ ws) h = refl

pub asked_longer : (i k : List ℕ) (rest : Option (Bor (List ℕ))) (left words : List (List ℕ)) → is_some rest ≡ true → words ≡ i ∷ left → left ≡ k ∷ words_left rest → id_and_key words ≡ None
asked_longer i k rest left words e is left_is = rw (is, left_is) (asked_three i k (words_left rest) (some_left rest e))

root_two : (i : List ℕ) (ws : List (List ℕ)) → (length ws ≡ 0 → ⊥) → root_line (i ∷ ws) ≡ None
unfolding root_line
root_two i [] h = absurd (h refl)
root_two i (w ∷ ws) h = refl

pub root_longer : (i : List ℕ) (rest : Option (Bor (List ℕ))) (words : List (List ℕ)) → is_some rest ≡ true → words ≡ i ∷ words_left rest → root_line words ≡ None
root_longer i rest words e is = rw is (root_two i (words_left rest) (some_left rest e))

stage_more : (w : List ℕ) (ws : List (List ℕ)) → (length ws ≡ 0 → ⊥) → stage_line w ws ≡ None
unfolding stage_line
stage_more w [] h = absurd (h refl)
stage_more w (x ∷ ws) h = refl

pub stage_longer : (w : List ℕ) (rest : Bor (List ℕ)) → stage_line w (words_of rest.now) ≡ None
stage_longer w rest = stage_more w (words_of rest.now) (some_left (Some rest) refl)
