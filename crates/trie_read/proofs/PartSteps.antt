-- Steps of a list of what a node has.
use Rattle.std.proofs.Common.{◌≡◌, ℕ, zero, suc, ◌+◌, ◌-◌, ◌*◌, ◌%◌, ◌<◌, ◌≤◌, Bool, List, [], ◌∷◌, ◌++◌, length, get_or, drop, Option, None, refl, ap, sym, ◌∙◌, arith, length-drop}
use Rattle.std.specs.List.{flat_map}
use Rattle.std.proofs.lemmas.List.{append-nil, drop_more}
use Rattle.trie_model.specs.Node.{Node}
use Rattle.trie_model.specs.Trie.{every_nibble}
use Rattle.trie_root.proofs.ReadOffNibbles.{from}
use Rattle.trie_read.specs.inner.Parts.{Piece, child_parts, key_of_nibbles, own_parts, parts_in}

-- ---- the bytes of nibbles

pub one_pair : (ns : List ℕ) (i : ℕ) → 2 * i + 1 < length ns
    → key_of_nibbles (drop (2 * i) ns) ≡ (16 * (get_or ns (2 * i) 0 % 16) + get_or ns (2 * i + 1) 0 % 16) ∷ key_of_nibbles (drop (2 * (i + 1)) ns)
one_pair ns i h =
    let two : drop (2 * i) ns ≡ get_or ns (2 * i) 0 ∷ (get_or ns (2 * i + 1) 0 ∷ drop (2 * i + 1 + 1) ns) =
    drop_more ns (2 * i) 0 (omega arith) ∙ ap (λ (xs : List ℕ). get_or ns (2 * i) 0 ∷ xs) (drop_more ns (2 * i + 1) 0 h) in
    let next : 2 * i + 1 + 1 ≡ 2 * (i + 1) = omega arith in
    ap key_of_nibbles two ∙ ap (λ (k : ℕ). (16 * (get_or ns (2 * i) 0 % 16) + get_or ns (2 * i + 1) 0 % 16) ∷ key_of_nibbles (drop k ns)) next

pub no_pair : (ns : List ℕ) → length ns ≤ 1 → key_of_nibbles ns ≡ []
no_pair [] h = refl
no_pair (n ∷ []) h = refl
no_pair (n ∷ (k ∷ ns)) h = absurd (omega arith)

pub pairs_end : (bytes ns : List ℕ) (i : ℕ) → length ns ≤ 2 * i + 1 → bytes ++ key_of_nibbles (drop (2 * i) ns) ≡ key_of_nibbles ns → bytes ≡ key_of_nibbles ns
pairs_end bytes ns i h e =
    sym (append-nil bytes) ∙ ap (λ (xs : List ℕ). bytes ++ xs) (sym (no_pair (drop (2 * i) ns) (omega (arith, length-drop (2 * i) ns)))) ∙ e

-- ---- the children one by one

pub one_child : (f : ℕ → List Piece) (i : ℕ) → i < 16 → flat_map f (from i (16 - i)) ≡ f i ++ flat_map f (from (i + 1) (16 - (i + 1)))
one_child f i h =
    let some : 16 - i ≡ suc (16 - (i + 1)) = omega arith in
    let next : suc i ≡ i + 1 = omega arith in
    ap (λ (k : ℕ). flat_map f (from i k)) some ∙ ap (λ (k : ℕ). f i ++ flat_map f (from k (16 - (i + 1)))) next

pub parts_none : (keeps goes : List ℕ → Bool) (n : Node) (path : List ℕ) → [] ≡ parts_in keeps goes 0 n path
unfolding parts_in
parts_none keeps goes n path = refl

pub parts_step : (keeps goes : List ℕ → Bool) (levels : ℕ) (n : Node) (path : List ℕ) → parts_in keeps goes (suc levels) n path
    ≡ own_parts keeps (path ++ n.partial) n.value
    ++ flat_map (λ i. child_parts goes (parts_in keeps goes levels) ((path ++ n.partial) ++ i ∷ []) (get_or n.children i None)) every_nibble
unfolding parts_in
parts_step keeps goes levels n path = refl

pub parts_begin : (keeps goes : List ℕ → Bool) (levels : ℕ) (n : Node) (path key : List ℕ) (v : Option (List ℕ)) → 1 ≤ levels → key ≡ path ++ n.partial → v ≡ n.value
    → own_parts keeps key v ++ flat_map (λ i. child_parts goes (parts_in keeps goes (levels - 1)) (key ++ i ∷ []) (get_or n.children i None)) (from 0 16)
    ≡ parts_in keeps goes levels n path
parts_begin keeps goes zero n path key v some k e = absurd (omega arith)
parts_begin keeps goes (suc levels) n path key v some k e =
    let less : suc levels - 1 ≡ levels = omega arith in
    ap (λ (l : ℕ). own_parts keeps key v ++ flat_map (λ i. child_parts goes (parts_in keeps goes l) (key ++ i ∷ []) (get_or n.children i None)) (from 0 16)) less
    ∙ ap (λ (q : List ℕ). own_parts keeps q v ++ flat_map (λ i. child_parts goes (parts_in keeps goes levels) (q ++ i ∷ []) (get_or n.children i None)) (from 0 16)) k
    ∙ ap (λ (o : Option (List ℕ)). own_parts keeps (path ++ n.partial) o
    ++ flat_map (λ i. child_parts goes (parts_in keeps goes levels) ((path ++ n.partial) ++ i ∷ []) (get_or n.children i None)) (from 0 16)) e
    ∙ sym (parts_step keeps goes levels n path)
