-- The items of pieces: the first and the last of them, and where they are.
use Rattle.std.proofs.Common.{◌≡◌, ℕ, suc, ◌-◌, ◌≤◌, List, [], ◌∷◌, ◌++◌, length, get_or, true, false, zero, None, refl, ap, sym, ◌∙◌, inl, inr, append_assoc, length-append, arith}
use Rattle.std.specs.Prelude.{◌==◌}
use Rattle.std.proofs.lemmas.Bool.Decides.{eqb_tells}
use Rattle.std.proofs.lemmas.List.{append-nil, map-append}
use Rattle.std.proofs.lemmas.List.Concat.{flat_map-append}
use Rattle.trie_root.proofs.Rows.{unlike}
use Rattle.trie_change.specs.Frontier.{item_path}
use Rattle.trie_change.specs.Item.{Item}
use Rattle.trie_change.specs.Item as item
use Rattle.trie_change.specs.declared.frontier.Piece.{Piece}
use Rattle.trie_change.specs.declared.frontier.Piece.TheVariants as piece
use Rattle.trie_change.specs.declared.frontier.Sibling.{Sibling}
use Rattle.trie_change.specs.inner.Built.{hash_here, value_after}
use Rattle.trie_change.specs.inner.Pieces.{all_items, piece_hash, piece_items, piece_path, piece_value, sibling_item, sibling_items}
use Rattle.trie_change.proofs.FedNodes.{ended}

-- ---- the first item and the last

-- an item that is where the piece is, or hangs below
abbrev pub IsAt : Piece → Item → Type 0
IsAt p i = (rest : List ℕ) × (item_path i ≡ piece_path p ++ rest)

pub record FirstIn (p : Piece) : Type 0 where
  pub first : Item
  pub others : List Item
  pub is : piece_items p ≡ first ∷ others
  pub place : IsAt p first
  pub hash : (at : ℕ) → at ≤ length (piece_path p) → hash_here at first ≡ piece_hash at p
  pub value : (at : ℕ) → value_after at first ≡ piece_value at p

pub record LastIn (p : Piece) : Type 0 where
  pub before : List Item
  pub last : Item
  pub is : piece_items p ≡ before ++ last ∷ []
  pub place : IsAt p last

deeper : (end : List ℕ) (s : Sibling) (at : ℕ) → at ≤ length end → hash_here at (sibling_item end s) ≡ None
deeper end s at h = elim (eqb_tells (length (end ++ s.nibble ∷ [])) at) [
  | inl t ↦ absurd (omega (arith, t.1, length-append end (s.nibble ∷ [])))
  | inr f ↦ rw f.0 refl
]

pub two_at_least : (ns : List Sibling) → 2 ≤ length ns → (s : Sibling) × (t : Sibling) × (others : List Sibling) × (ns ≡ s ∷ (t ∷ others))
two_at_least [] h = absurd (omega arith)
two_at_least (s ∷ []) h = absurd (omega arith)
two_at_least (s ∷ (t ∷ others)) h = (s, t, others, refl)

pub first_in : (p : Piece) → FirstIn p
first_in (piece.Entry e) = record { first = item.Entry e; others = []; is = refl; place = ([], sym (append-nil e.path.items)); hash = λ at h. refl; value = λ at. refl }
first_in (piece.Stub s) = record { first = item.Stub s; others = []; is = refl; place = ([], sym (append-nil s.path.items)); hash = λ at h. refl; value = λ at. refl }
first_in (piece.Siblings s) =
    let two = two_at_least s.nodes.items s.two in
    record {
      first = sibling_item s.end.items two.0;
      others = sibling_items s.end.items (two.1 ∷ two.2);
      is = ap (sibling_items s.end.items) two.3;
      place = (two.0.nibble ∷ [], refl);
      hash = λ at h. deeper s.end.items two.0 at h;
      value = λ at. refl;
    }

pub last_in : (p : Piece) → LastIn p
last_in (piece.Entry e) = record { before = []; last = item.Entry e; is = refl; place = ([], sym (append-nil e.path.items)) }
last_in (piece.Stub s) = record { before = []; last = item.Stub s; is = refl; place = ([], sym (append-nil s.path.items)) }
last_in (piece.Siblings s) = elim (ended s.nodes.items) [
  | inl none ↦ absurd (omega (arith, s.two, ap length none))
  | inr l ↦
      record {
        before = sibling_items s.end.items l.0;
        last = sibling_item s.end.items l.1;
        is = ap (sibling_items s.end.items) l.2 ∙ map-append (sibling_item s.end.items) l.0 (l.1 ∷ []);
        place = (l.1.nibble ∷ [], refl);
      }
]

-- of all pieces
pub first_of_all : (p : Piece) (ps : List Piece) → (others : List Item) × (all_items (p ∷ ps) ≡ (first_in p).first ∷ others)
first_of_all p ps = let f = first_in p in (f.others ++ all_items ps, ap (λ (is : List Item). is ++ all_items ps) f.is)

pub all_with_last : (before : List Piece) (p : Piece) → all_items (before ++ p ∷ []) ≡ all_items before ++ piece_items p
all_with_last before p = flat_map-append piece_items before (p ∷ []) ∙ ap (λ (is : List Item). all_items before ++ is) (append-nil (piece_items p))

pub last_of_all : (before : List Piece) (p : Piece) → (others : List Item) × (all_items (before ++ p ∷ []) ≡ others ++ (last_in p).last ∷ [])
last_of_all before p =
    let l = last_in p in
    (all_items before ++ l.before, all_with_last before p ∙ ap (λ (is : List Item). all_items before ++ is) l.is ∙ sym (append_assoc (all_items before) l.before (l.last ∷ [])))

pub some_items : (pieces : List Piece) → 1 ≤ length pieces → 1 ≤ length (all_items pieces)
some_items [] h = absurd (omega arith)
some_items (p ∷ ps) h = omega (arith, ap length (first_of_all p ps).1)

pub no_items : (pieces : List Piece) → true ≡ (length pieces == 0) → true ≡ (length (all_items pieces) == 0)
no_items [] e = refl
no_items (p ∷ ps) e = absurd (not_none (length ps) (sym e))
  where
    not_none : (n : ℕ) → (suc n == 0) ≡ true → ⊥
    not_none n e = let other : (suc n == 0) ≡ false = unlike (suc n) 0 (λ z. omega arith) in let both : false ≡ true = sym other ∙ e in cc

-- the last of a list
pub last_there : {X : Type 0} (before ys : List X) (l d : X) → ys ≡ before ++ l ∷ [] → get_or ys (length ys - 1) d ≡ l
last_there {X = X} before ys l d e =
    let place : length ys - 1 ≡ length before = omega (arith, ap length e, length-append before (l ∷ [])) in
    ap (λ (n : ℕ). get_or ys n d) place ∙ ap (λ zs. get_or zs (length before) d) e ∙ there before
  where
    there : (bs : List X) → get_or (bs ++ l ∷ []) (length bs) d ≡ l
    there [] = refl
    there (b ∷ bs) = there bs

-- ---- a path of any length

pub some_path : (at : ℕ) → (path : List ℕ) × (length path ≡ at)
some_path zero = ([], refl)
some_path (suc n) = let path = some_path n in (0 ∷ path.0, ap suc path.1)
