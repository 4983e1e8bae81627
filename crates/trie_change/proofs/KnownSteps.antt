-- Steps of a list of what a node has.
use Rattle.std.proofs.Common.{◌≡◌, ℕ, zero, suc, ◌+◌, ◌-◌, ◌<◌, ◌≤◌, List, [], ◌∷◌, ◌++◌, get_or, Option, None, refl, ap, sym, ◌∙◌, arith}
use Rattle.std.specs.List.{flat_map}
use Rattle.trie_model.specs.Node.{Node}
use Rattle.trie_model.specs.Trie.{every_nibble}
use Rattle.trie_root.proofs.ReadOffNibbles.{from}
use Rattle.trie_change.specs.inner.Known.{Known, known_at, known_in, own_known}

pub one_child : (f : ℕ → List Known) (i : ℕ) → i < 16 → flat_map f (from i (16 - i)) ≡ f i ++ flat_map f (from (i + 1) (16 - (i + 1)))
one_child f i h =
    let some : 16 - i ≡ suc (16 - (i + 1)) = omega arith in
    let next : suc i ≡ i + 1 = omega arith in
    ap (λ (k : ℕ). flat_map f (from i k)) some ∙ ap (λ (k : ℕ). f i ++ flat_map f (from k (16 - (i + 1)))) next

pub known_none : (n : Node) (path : List ℕ) → [] ≡ known_in 0 n path
unfolding known_in
known_none n path = refl

pub known_step : (levels : ℕ) (n : Node) (path : List ℕ) → known_in (suc levels) n path
    ≡ own_known (path ++ n.partial) n.value
    ++ flat_map (λ i. known_at (known_in levels) ((path ++ n.partial) ++ i ∷ []) (get_or n.children i None)) every_nibble
unfolding known_in
known_step levels n path = refl

pub known_begin : (levels : ℕ) (n : Node) (path key : List ℕ) (v : Option (List ℕ)) → 1 ≤ levels → key ≡ path ++ n.partial → v ≡ n.value
    → own_known key v ++ flat_map (λ i. known_at (known_in (levels - 1)) (key ++ i ∷ []) (get_or n.children i None)) (from 0 16)
    ≡ known_in levels n path
known_begin zero n path key v some k e = absurd (omega arith)
known_begin (suc levels) n path key v some k e =
    let less : suc levels - 1 ≡ levels = omega arith in
    ap (λ (l : ℕ). own_known key v ++ flat_map (λ i. known_at (known_in l) (key ++ i ∷ []) (get_or n.children i None)) (from 0 16)) less
    ∙ ap (λ (q : List ℕ). own_known q v ++ flat_map (λ i. known_at (known_in levels) (q ++ i ∷ []) (get_or n.children i None)) (from 0 16)) k
    ∙ ap (λ (o : Option (List ℕ)). own_known (path ++ n.partial) o
    ++ flat_map (λ i. known_at (known_in levels) ((path ++ n.partial) ++ i ∷ []) (get_or n.children i None)) (from 0 16)) e
    ∙ sym (known_step levels n path)
