-- Without the prefix that all suffixes share, they share nothing.
use Rattle.std.proofs.Common.{◌≡◌, ℕ, true, eqb, zero, suc, List, [], ◌∷◌, length, drop, map, refl, ap, sym, ◌∙◌, eq-eqb}
use Rattle.trie_model.specs.Trie.{Suffix, below, common, common_prefix}
use Rattle.trie_root.proofs.Prefixes.{Begins, all_remain, begins_both, begins_itself, begins_nothing, begins_parts, without}

common_without : (p a b : List ℕ) → Begins p a → Begins p b → common (drop (length p) a) (drop (length p) b) ≡ drop (length p) (common a b)
common_without [] a b h k = refl
common_without (x ∷ p) [] b h k = absurd (begins_nothing x p h)
common_without (x ∷ p) (n ∷ a) [] h k = absurd (begins_nothing x p k)
common_without (x ∷ p) (n ∷ a) (m ∷ b) h k =
    let one : (x ≡ n) × Begins p a = begins_parts x n p a h in
    let two : (x ≡ m) × Begins p b = begins_parts x m p b k in
    let same : eqb n m ≡ true = eq-eqb n m (sym one.0 ∙ two.0) in
    rw same (common_without p a b one.1 two.1)

drop_nothing : (k : ℕ) → drop {A = ℕ} k [] ≡ []
drop_nothing zero = refl
drop_nothing (suc k) = refl

common_prefix_without : (p : List ℕ) (ss : List Suffix) → Begins p (common_prefix ss)
    → common_prefix (map (without (length p)) ss) ≡ drop (length p) (common_prefix ss)
common_prefix_without p [] h = sym (drop_nothing (length p))
common_prefix_without p (s ∷ []) h = refl
common_prefix_without p (s ∷ (t ∷ ss)) h =
    let both : Begins p s.0 × Begins p (common_prefix (t ∷ ss)) = begins_both p s.0 (common_prefix (t ∷ ss)) h in
    ap (common (drop (length p) s.0)) (common_prefix_without p (t ∷ ss) both.1)
    ∙ common_without p s.0 (common_prefix (t ∷ ss)) both.0 both.1

nothing_after : (p : List ℕ) → drop (length p) p ≡ []
nothing_after [] = refl
nothing_after (x ∷ p) = nothing_after p

pub nothing_shared : (ss : List Suffix) → common_prefix (below (common_prefix ss) ss) ≡ []
nothing_shared ss =
    let p = common_prefix ss in
    ap common_prefix (all_remain p ss (begins_itself p)) ∙ common_prefix_without p ss (begins_itself p) ∙ nothing_after p
