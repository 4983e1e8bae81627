-- Lists of parts that stand for keys and nodes, and lists of those joined.
use Rattle.std.proofs.Common.{◌≡◌, ℕ, zero, suc, ◌+◌, ◌<◌, ◌≤◌, Bool, true, false, cond, List, [], ◌∷◌, ◌++◌, map, refl, ap, ap₂, subst, sym, ◌∙◌, arith, append_assoc}
use Rattle.std.specs.Prelude.{filter}
use Rattle.std.specs.List.{AllByRecursion, flat_map}
use Rattle.std.proofs.lemmas.List.{map-append}
use Rattle.std.proofs.lemmas.List.Concat.{flat_map-append}
use Rattle.std.proofs.lemmas.List.Elements.{filter-append}
use Rattle.trie_model.specs.Nodes.{PathNode, is_stored}
use Rattle.trie_model.specs.Trie.{Suffix, with_prefix}
use Rattle.trie_root.proofs.ReadOffNibbles.{from}
use Rattle.trie_root.proofs.ShapesBytes.{all_joined}
use Rattle.trie_read.specs.inner.Parts.{IsPiece, Piece, StandFor, gone_into, key_of_nibbles, keys_for, keys_under, nodes_for}
use Rattle.trie_read.proofs.Rising.{StartsWith}

module _ {ss : List Suffix} {keeps goes : List ℕ → Bool} where
  pub stand_as : (ps qs : List Piece) (ks ls : List (List ℕ)) (ms ns : List PathNode) → ps ≡ qs → ks ≡ ls → ms ≡ ns → StandFor ss keeps goes ps ks ms → StandFor ss keeps goes qs ls ns
  stand_as ps qs ks ls ms ns e k n s =
      subst (λ (xs : List Piece). StandFor ss keeps goes xs ls ns) e
      (subst (λ (xs : List (List ℕ)). StandFor ss keeps goes ps xs ns) k (subst (λ (xs : List PathNode). StandFor ss keeps goes ps ks xs) n s))

  pub stand_none : StandFor ss keeps goes [] [] []
  stand_none = record { sound = tt; keys = refl; nodes = refl }

  pub stand_joined : (ps qs : List Piece) (ks ls : List (List ℕ)) (ms ns : List PathNode) → StandFor ss keeps goes ps ks ms → StandFor ss keeps goes qs ls ns
      → StandFor ss keeps goes (ps ++ qs) (ks ++ ls) (ms ++ ns)
  stand_joined ps qs ks ls ms ns s t = record {
    sound = all_joined (IsPiece ss goes) ps qs s.sound t.sound;
    keys = flat_map-append (keys_for ss keeps) ps qs ∙ ap₂ (λ (xs ys : List (List ℕ)). xs ++ ys) s.keys t.keys;
    nodes = flat_map-append (nodes_for ss goes) ps qs ∙ ap₂ (λ (xs ys : List PathNode). xs ++ ys) s.nodes t.nodes;
  }

  pub stand_flat : (f : ℕ → List Piece) (k : ℕ → List (List ℕ)) (n : ℕ → List PathNode) → ((i : ℕ) → i < 16 → StandFor ss keeps goes (f i) (k i) (n i))
      → (i c : ℕ) → i + c ≤ 16 → StandFor ss keeps goes (flat_map f (from i c)) (flat_map k (from i c)) (flat_map n (from i c))
  stand_flat f k n each i zero h = stand_none
  stand_flat f k n each i (suc c) h =
      stand_joined (f i) (flat_map f (from (suc i) c)) (k i) (flat_map k (from (suc i) c)) (n i) (flat_map n (from (suc i) c))
      (each i (omega arith)) (stand_flat f k n each (suc i) c (omega arith))

-- ---- what goes through lists of lists

pub flat_through : {X Y : Type 0} (h : List X → List Y) → h [] ≡ [] → ((xs ys : List X) → h (xs ++ ys) ≡ h xs ++ h ys) → (f : ℕ → List X) (is : List ℕ)
    → h (flat_map f is) ≡ flat_map (λ i. h (f i)) is
flat_through h none joins f [] = none
flat_through h none joins f (i ∷ is) = joins (f i) (flat_map f is) ∙ ap (λ ys. h (f i) ++ ys) (flat_through h none joins f is)

-- ---- keys under a path

-- a key before others, if it is kept
abbrev pub if_kept : (List ℕ → Bool) → List ℕ → List (List ℕ) → List (List ℕ)
if_kept keeps key ks = cond (keeps key) (key_of_nibbles key ∷ ks) ks

pub one_under : (keeps : List ℕ → Bool) (p : List ℕ) (s : Suffix) (us : List Suffix) → keys_under keeps p (s ∷ us) ≡ if_kept keeps (p ++ s.0) (keys_under keeps p us)
one_under keeps p s us =
    elim (keeps (p ++ s.0)) as (λ b. map (λ (t : Suffix). key_of_nibbles (p ++ t.0)) (cond b (s ∷ filter (λ (t : Suffix). keeps (p ++ t.0)) us) (filter (λ (t : Suffix). keeps (p ++ t.0)) us))
    ≡ cond b (key_of_nibbles (p ++ s.0) ∷ keys_under keeps p us) (keys_under keeps p us)) [ true ↦ refl | false ↦ refl ]

pub under_joined : (keeps : List ℕ → Bool) (p : List ℕ) (us vs : List Suffix) → keys_under keeps p (us ++ vs) ≡ keys_under keeps p us ++ keys_under keeps p vs
under_joined keeps p us vs =
    ap (map (λ (t : Suffix). key_of_nibbles (p ++ t.0))) (filter-append (λ (t : Suffix). keeps (p ++ t.0)) us vs)
    ∙ map-append (λ (t : Suffix). key_of_nibbles (p ++ t.0)) (filter (λ (t : Suffix). keeps (p ++ t.0)) us) (filter (λ (t : Suffix). keeps (p ++ t.0)) vs)

pub under_further : (keeps : List ℕ → Bool) (p c : List ℕ) (us : List Suffix) → keys_under keeps p (with_prefix c us) ≡ keys_under keeps (p ++ c) us
under_further keeps p c [] = refl
under_further keeps p c (s ∷ us) =
    one_under keeps p (c ++ s.0, s.1) (with_prefix c us)
    ∙ ap (λ (k : List ℕ). if_kept keeps k (keys_under keeps p (with_prefix c us))) (sym (append_assoc p c s.0))
    ∙ ap (if_kept keeps ((p ++ c) ++ s.0)) (under_further keeps p c us)
    ∙ sym (one_under keeps (p ++ c) s us)

pub none_under : (keeps : List ℕ → Bool) (p : List ℕ) → ((r : List ℕ) → keeps (p ++ r) ≡ false) → (us : List Suffix) → keys_under keeps p us ≡ []
none_under keeps p none [] = refl
none_under keeps p none (s ∷ us) =
    one_under keeps p s us ∙ ap (λ b. cond b (key_of_nibbles (p ++ s.0) ∷ keys_under keeps p us) (keys_under keeps p us)) (none s.0) ∙ none_under keeps p none us

-- ---- nodes that are gone into

pub gone_joined : (goes : List ℕ → Bool) (ms ns : List PathNode) → gone_into goes (ms ++ ns) ≡ gone_into goes ms ++ gone_into goes ns
gone_joined goes ms ns =
    ap (filter (λ (n : PathNode). goes n.path)) (filter-append is_stored ms ns) ∙ filter-append (λ (n : PathNode). goes n.path) (filter is_stored ms) (filter is_stored ns)

pub none_gone : (goes : List ℕ → Bool) (p : List ℕ) → ((r : List ℕ) → goes (p ++ r) ≡ false) → (ns : List PathNode) → AllByRecursion (StartsWith p) ns → gone_into goes ns ≡ []
none_gone goes p none [] a = refl
none_gone goes p none (n ∷ ns) a =
    elim (is_stored n) as (λ b. filter (λ (m : PathNode). goes m.path) (cond b (n ∷ filter is_stored ns) (filter is_stored ns)) ≡ []) [
      | true ↦
          let no : goes n.path ≡ false = ap goes a.0.1 ∙ none a.0.0 in
          ap (λ b. cond b (n ∷ gone_into goes ns) (gone_into goes ns)) no ∙ none_gone goes p none ns a.1
      | false ↦ none_gone goes p none ns a.1
    ]

pub gone_past : (goes : List ℕ → Bool) (n : PathNode) (ns : List PathNode) → is_stored n ≡ false → gone_into goes (n ∷ ns) ≡ gone_into goes ns
gone_past goes n ns off = ap (λ b. filter (λ (m : PathNode). goes m.path) (cond b (n ∷ filter is_stored ns) (filter is_stored ns))) off

pub gone_first : (goes : List ℕ → Bool) (n : PathNode) (ns : List PathNode) → is_stored n ≡ true → goes n.path ≡ true → gone_into goes (n ∷ ns) ≡ n ∷ gone_into goes ns
gone_first goes n ns kept near =
    ap (λ b. filter (λ (m : PathNode). goes m.path) (cond b (n ∷ filter is_stored ns) (filter is_stored ns))) kept
    ∙ ap (λ b. cond b (n ∷ gone_into goes ns) (gone_into goes ns)) near
