-- What is made of a group of pieces: it is what their items make, since the ends of the pieces share what the ends of the items do.
use Rattle.std.proofs.Common.{◌≡◌, ℕ, ◌+◌, ◌-◌, ◌≤◌, List, [], ◌∷◌, ◌++◌, length, get_or, take, drop, Option, All, Some, ap, ap₂, subst, sym, ◌∙◌, inl, inr, length-append, length-drop, arith}
use Rattle.std.specs.Prelude.{filter}
use Rattle.std.proofs.lemmas.List.{drop-append-le, take-append-le}
use Rattle.sdb_base.specs.declared.node.NodeHash.{NodeHash}
use Rattle.trie_model.specs.Node.{spelling}
use Rattle.trie_model.specs.Trie.{common}
use Rattle.trie_codec.specs.Parts.{node_with}
use Rattle.trie_read.proofs.OneFed.{all_split}
use Rattle.trie_change.specs.Frontier.{item_path}
use Rattle.trie_change.specs.Item.{Item}
use Rattle.trie_change.specs.declared.build.Made.TheVariants as made
use Rattle.trie_change.specs.declared.diff.Diff.{Diff}
use Rattle.trie_change.specs.declared.frontier.Piece.{Piece}
use Rattle.trie_change.specs.inner.Built.{GoesOnFrom, IsHere, IsMade, ItemBranch, ItemGroup, ItemsRise, is_made, made_of_group, node_of_group, nodes_below, values_below}
use Rattle.trie_change.specs.inner.Diffs.{Comparison, IsComparison, after_nodes}
use Rattle.trie_change.specs.inner.Pieces.{all_items, piece_hash, piece_items, piece_path, piece_value}
use Rattle.trie_change.proofs.ChildValues.{path_taken}
use Rattle.trie_change.proofs.FedNodes.{ended}
use Rattle.trie_change.proofs.ItemPaths.{rise_joined}
use Rattle.trie_change.proofs.ItemSuffixes.{AllGoOn}
use Rattle.trie_change.proofs.ItemsParted.{Parts, shared_by}
use Rattle.trie_change.proofs.KeptStubs.{kept_made}
use Rattle.trie_change.proofs.MadeGroups.{away_from, ends_of, group_made}
use Rattle.trie_change.proofs.Parting.{parts_of_job}
use Rattle.trie_change.proofs.PieceItems.{all_with_last, first_in, first_of_all, last_in, last_of_all, last_there, some_items}
use Rattle.trie_change.proofs.PieceShares.{share_same, within_piece}

pub piece_kept : (at : ℕ) (pieces : List Piece) (g : ItemGroup at (all_items pieces)) (first : Piece) (hash : NodeHash) (c : Comparison) (d : Diff) → 1 ≤ length pieces
    → first ≡ get_or pieces 0 first → at ≤ length (piece_path first) → Some hash ≡ piece_hash at first → IsComparison d c
    → IsMade c (node_of_group g) (made_of_group g) d (made.Kept hash)
piece_kept at [] g first hash c d some is long e k = absurd (omega arith)
piece_kept at (p ∷ ps) g first hash c d some is long e k =
    let f = first_in p in
    let all = first_of_all p ps in
    kept_made at (all_items (p ∷ ps)) g f.first hash c d (some_items (p ∷ ps) some) (sym (ap (λ (is : List Item). get_or is 0 f.first) all.1))
    (e ∙ ap (piece_hash at) is ∙ sym (f.hash at (subst (λ (r : Piece). at ≤ length (piece_path r)) is long))) k

pub piece_path_taken : (at : ℕ) (pieces : List Piece) (g : ItemGroup at (all_items pieces)) (first : Piece) → 1 ≤ length pieces → first ≡ get_or pieces 0 first
    → at ≤ length (piece_path first) → g.path ≡ take at (piece_path first)
piece_path_taken at [] g first some is long = absurd (omega arith)
piece_path_taken at (p ∷ ps) g first some is long =
    let f = first_in p in
    let all = first_of_all p ps in
    path_taken at (all_items (p ∷ ps)) g f.first (some_items (p ∷ ps) some) (sym (ap (λ (is : List Item). get_or is 0 f.first) all.1))
    ∙ ap (take at) f.place.1 ∙ take-append-le at (piece_path p) f.place.0 (subst (λ (r : Piece). at ≤ length (piece_path r)) is long) ∙ ap (λ (r : Piece). take at (piece_path r)) (sym is)

module _ (at : ℕ) (p : Piece) (ps before : List Piece) (r : Piece) (e : p ∷ ps ≡ before ++ r ∷ []) (g : ItemGroup at (all_items (p ∷ ps)))
    (long : All (λ (p : Piece). at ≤ length (piece_path p)) (p ∷ ps)) (none : (h : NodeHash) → Some h ≡ piece_hash at p → ⊥) where
  abbrev items : List Item
  items = all_items (p ∷ ps)

  abbrev f : Item
  f = (first_in p).first

  abbrev l : Item
  l = get_or items (length items - 1) f

  abbrev s : List ℕ
  s = shared_by at f l

  some : 1 ≤ length items
  some = some_items (p ∷ ps) (omega arith)

  head : f ≡ get_or items 0 f
  head = sym (ap (λ (is : List Item). get_or is 0 f) (first_of_all p ps).1)

  long_p : at ≤ length (piece_path p)
  long_p = long 0 p (omega arith)

  long_r : at ≤ length (piece_path r)
  long_r = subst (λ (x : Piece). at ≤ length (piece_path x)) (last_there before (p ∷ ps) r r e) (long (length (p ∷ ps) - 1) r (omega arith))

  away : IsHere g.path items → ⊥
  away = away_from at g.path items f head g.place (λ h k. none h (k ∙ (first_in p).hash at long_p))

  parts : Parts g s
  parts = subst (λ (n : ℕ). Parts g (shared_by n f l)) g.place (parts_of_job at items f l g (ends_of items f some head) away)

  length_all : length (g.path ++ s) ≡ at + length s
  length_all = length-append g.path s ∙ ap (λ (n : ℕ). n + length s) g.place

  within_p : at + length s ≤ length (piece_path p)
  within_p =
      omega (
        arith,
        length_all,
        within_piece (g.path ++ s) p (all_split (GoesOnFrom (g.path ++ s)) (piece_items p) (all_items ps) parts.goes_on).0
            (rise_joined (piece_items p) (all_items ps) parts.rises).0,
      )

  split : items ≡ all_items before ++ piece_items r
  split = ap (λ (xs : List Piece). all_items xs) e ∙ all_with_last before r

  within_r : at + length s ≤ length (piece_path r)
  within_r =
      omega (
        arith,
        length_all,
        within_piece (g.path ++ s) r
            (all_split (GoesOnFrom (g.path ++ s)) (all_items before) (piece_items r) (subst (AllGoOn (g.path ++ s)) split parts.goes_on)).1
            (rise_joined (all_items before) (piece_items r) (subst ItemsRise split parts.rises)).1,
      )

  last_path : item_path l ≡ piece_path r ++ (last_in r).place.0
  last_path =
      ap item_path (last_there (last_of_all before r).0 items (last_in r).last f (ap (λ (xs : List Piece). all_items xs) e ∙ (last_of_all before r).1)) ∙ (last_in r).place.1

  below_both : s ≡ common (drop at (piece_path p ++ (first_in p).place.0)) (drop at (piece_path r ++ (last_in r).place.0))
  below_both = ap₂ (λ (x y : List ℕ). common (drop at x) (drop at y)) (first_in p).place.1 last_path

  pub same_shared : s ≡ common (drop at (piece_path p)) (drop at (piece_path r))
  same_shared =
      below_both
      ∙ share_same at (piece_path p) (first_in p).place.0 (piece_path r) (last_in r).place.0 long_p long_r (omega (arith, ap length below_both, within_p)) (omega (arith, ap length below_both, within_r))

  same_partial : (end : ℕ) → end ≤ length (piece_path p) → take (end - at) (drop at (item_path f)) ≡ take (end - at) (drop at (piece_path p))
  same_partial end h =
      ap (λ (x : List ℕ). take (end - at) (drop at x)) (first_in p).place.1
      ∙ ap (take (end - at)) (drop-append-le at (piece_path p) (first_in p).place.0 long_p)
      ∙ take-append-le (end - at) (drop at (piece_path p)) (first_in p).place.0 (omega (arith, length-drop at (piece_path p), long_p))

  pub ends_made : (end : ℕ) (bytes : List ℕ) (children : List (Option (List ℕ))) (c : Comparison) (d : Diff)
      → end ≡ at + length (common (drop at (piece_path p)) (drop at (piece_path r)))
      → ((b : ItemBranch end items) → (children ≡ values_below b.group.suffixes b.group.path)
      × IsComparison d (after_nodes c (filter (is_made b.group.under) (nodes_below b.group.suffixes b.group.path))))
      → bytes ≡ spelling (node_with (take (end - at) (drop at (piece_path p))) (piece_value end p) children)
      → IsMade c (node_of_group g) (made_of_group g) d (made.New bytes)
  ends_made end bytes children c d place below_it spelled =
      let count : end ≡ at + length s = place ∙ ap (λ (x : List ℕ). at + length x) (sym same_shared) in
      group_made at end items g f bytes children c d some head away count below_it
      (spelled ∙ sym (ap₂ (λ (x : List ℕ) (v : Option (List ℕ)). spelling (node_with x v children)) (same_partial end (omega (arith, count, within_p))) ((first_in p).value end)))

pub pieces_made : (at end : ℕ) (pieces : List Piece) (g : ItemGroup at (all_items pieces)) (first : Piece) (bytes : List ℕ) (children : List (Option (List ℕ))) (c : Comparison) (d : Diff)
    → 1 ≤ length pieces → first ≡ get_or pieces 0 first → All (λ (p : Piece). at ≤ length (piece_path p)) pieces → ((h : NodeHash) → Some h ≡ piece_hash at first → ⊥)
    → end ≡ at + length (common (drop at (piece_path first)) (drop at (piece_path (get_or pieces (length pieces - 1) first))))
    → ((b : ItemBranch end (all_items pieces)) → (children ≡ values_below b.group.suffixes b.group.path)
    × IsComparison d (after_nodes c (filter (is_made b.group.under) (nodes_below b.group.suffixes b.group.path))))
    → bytes ≡ spelling (node_with (take (end - at) (drop at (piece_path first))) (piece_value end first) children)
    → IsMade c (node_of_group g) (made_of_group g) d (made.New bytes)
pieces_made at end [] g first bytes children c d some is long none place below_it spelled = absurd (omega arith)
pieces_made at end (p ∷ ps) g first bytes children c d some is long none place below_it spelled = elim (ended (p ∷ ps)) [
  | inl nothing ↦ absurd (omega (arith, ap length nothing))
  | inr l ↦
      ends_made at p ps l.0 l.1 l.2 g long (λ h k. none h (k ∙ ap (piece_hash at) (sym is))) end bytes children c d
      (place ∙ ap₂ (λ (x y : Piece). at + length (common (drop at (piece_path x)) (drop at (piece_path y)))) is (last_there l.0 (p ∷ ps) l.1 first l.2)) below_it
      (spelled ∙ ap (λ (x : Piece). spelling (node_with (take (end - at) (drop at (piece_path x))) (piece_value end x) children)) is)
]
