-- What is made of a group of items: a stub's hash as it is, or the node that has what they share as its partial key.
use Rattle.std.proofs.Common.{◌≡◌, ℕ, suc, ◌+◌, ◌-◌, ◌≤◌, Bool, true, false, cond, eqb, List, [], ◌∷◌, ◌++◌, length, get_or, take, drop, Option, Some, None, refl, ap, ap₂, subst, sym, ◌∙◌, inl, inr, append_assoc, length-append, length-drop, arith}
use Rattle.std.specs.Prelude.{filter}
use Rattle.std.specs.List.{AllByRecursion, flat_map}
use Rattle.std.proofs.lemmas.Bool.Decides.{eqb_tells}
use Rattle.std.proofs.lemmas.Float.{T_from_true}
use Rattle.std.proofs.lemmas.List.{append-nil}
use Rattle.sdb_base.specs.declared.node.NodeHash.{NodeHash}
use Rattle.trie_model.specs.Node.{spelling}
use Rattle.trie_model.specs.Trie.{below, common, value_here}
use Rattle.trie_codec.specs.Parts.{node_with}
use Rattle.trie_change.specs.Frontier.{IsItem, suffixes_for, item_path}
use Rattle.trie_change.specs.declared.build.Made.TheVariants as made
use Rattle.trie_change.specs.declared.diff.Diff.{Diff}
use Rattle.trie_change.specs.Item.{Item}
use Rattle.trie_change.specs.Item as item
use Rattle.trie_change.specs.inner.Built.{GoesOnFrom, IsHere, IsMade, IsPastPath, ItemBranch, ItemGroup, hash_here, is_made, made_of_group, node_of_group, nodes_below, value_after, values_below}
use Rattle.trie_change.specs.inner.Diffs.{Comparison, IsComparison, after_nodes}
use Rattle.trie_change.proofs.ChildRuns.{in_the_middle}
use Rattle.trie_change.proofs.FedNodes.{ended}
use Rattle.trie_change.proofs.GroupNodes.{made_parts, parts_of_node, value_of_first}
use Rattle.trie_change.proofs.ItemPaths.{drop_itself}
use Rattle.trie_change.proofs.ItemsParted.{AreEnds, Parts, shared_by}
use Rattle.trie_change.proofs.Parting.{branch_at, parts_of_job}

-- ---- the ends of a group

pub away_from : (at : ℕ) (path : List ℕ) (items : List Item) (first : Item) → first ≡ get_or items 0 first → length path ≡ at
    → ((h : NodeHash) → Some h ≡ hash_here at first → ⊥) → IsHere path items → ⊥
away_from at path [] first e place none here = here
away_from at path (item.Entry x ∷ is) first e place none here = here
away_from at path (item.Stub s ∷ is) first e place none here =
    let at_end : length s.path.items ≡ at = ap length here ∙ place in
    elim (eqb_tells (length s.path.items) at) [
      | inl t ↦ none s.hash (sym (ap (hash_here at) e ∙ ap (λ (b : Bool). cond b (Some s.hash) None) t.0))
      | inr f ↦ f.1 at_end
    ]

pub ends_of : (items : List Item) (first : Item) → 1 ≤ length items → first ≡ get_or items 0 first → AreEnds items first (get_or items (length items - 1) first)
ends_of [] first some e = absurd (omega arith)
ends_of (x ∷ xs) first some e = elim (ended xs) [
  | inl none ↦
      let place : length (x ∷ xs) - 1 ≡ 0 = omega (arith, ap length none) in
      inl (ap₂ (λ (y : Item) (ys : List Item). y ∷ ys) (sym e) none, ap (λ (n : ℕ). get_or (x ∷ xs) n first) place ∙ sym e)
  | inr l ↦
      let place : length (x ∷ xs) - 1 ≡ length (x ∷ l.0) = omega (arith, ap length l.2, length-append l.0 (l.1 ∷ [])) in
      let last : get_or (x ∷ xs) (length (x ∷ xs) - 1) first ≡ l.1 =
      ap (λ (n : ℕ). get_or (x ∷ xs) n first) place
      ∙ ap (λ (ys : List Item). get_or ys (length (x ∷ l.0)) first) (ap (λ (ys : List Item). x ∷ ys) l.2 ∙ sym (append-nil ((x ∷ l.0) ++ l.1 ∷ [])))
      ∙ in_the_middle (x ∷ l.0) l.1 first [] in
      inr (l.0, ap₂ (λ (y : Item) (ys : List Item). y ∷ ys) (sym e) (l.2 ∙ ap (λ (y : Item). l.0 ++ y ∷ []) (sym last)))
]

-- ---- the node

length_common : (a b : List ℕ) → length (common a b) ≤ length a
length_common [] b = omega arith
length_common (x ∷ a) [] = omega arith
length_common (x ∷ a) (y ∷ b) = elim (eqb x y) as (λ t. length (cond t (x ∷ common a b) []) ≤ suc (length a)) [
  | true ↦ omega (arith, length_common a b)
  | false ↦ omega arith
]

-- what the first shares ends within it
pub end_within : (at : ℕ) (a b : List ℕ) → at ≤ length a → at + length (common (drop at a) (drop at b)) ≤ length a
end_within at a b h = omega (arith, length_common (drop at a) (drop at b), length-drop at a)

pub taken : (c r : List ℕ) → take (length c) (c ++ r) ≡ c
taken [] r = refl
taken (x ∷ c) r = ap (λ (t : List ℕ). x ∷ t) (taken c r)

rest_of : (at : ℕ) (p c path : List ℕ) → length p ≡ at → path ≡ p ++ drop (length p) path → path ≡ (p ++ c) ++ drop (length (p ++ c)) path
    → drop at path ≡ c ++ drop (length (p ++ c)) path
rest_of at p c path place e k =
    let r : List ℕ = drop (length (p ++ c)) path in
    ap (λ (n : ℕ). drop n path) (sym place) ∙ ap (λ (t : List ℕ). drop (length p) t) (k ∙ append_assoc p c r) ∙ drop_itself p (c ++ r)

-- the first is followed by others
begun : (items : List Item) (first last : Item) → AreEnds items first last → (others : List Item) × (items ≡ first ∷ others)
begun items first last (inl one) = ([], one.0)
begun items first last (inr more) = (more.0 ++ last ∷ [], more.1)

pub group_made : (at end : ℕ) (items : List Item) (g : ItemGroup at items) (first : Item) (bytes : List ℕ) (children : List (Option (List ℕ))) (c : Comparison) (d : Diff)
    → 1 ≤ length items → first ≡ get_or items 0 first → (IsHere g.path items → ⊥) → end ≡ at + length (shared_by at first (get_or items (length items - 1) first))
    → ((b : ItemBranch end items) → (children ≡ values_below b.group.suffixes b.group.path)
    × IsComparison d (after_nodes c (filter (is_made b.group.under) (nodes_below b.group.suffixes b.group.path))))
    → bytes ≡ spelling (node_with (take (end - at) (drop at (item_path first))) (value_after end first) children)
    → IsMade c (node_of_group g) (made_of_group g) d (made.New bytes)
group_made at end items g first bytes children c d some is away place below_it spelled =
    let last : Item = get_or items (length items - 1) first in
    let ends : AreEnds items first last = ends_of items first some is in
    let shared : List ℕ = shared_by at first last in
    let parts : Parts g shared = subst (λ (n : ℕ). Parts g (shared_by n first last)) g.place (parts_of_job at items first last g ends away) in
    let b : ItemBranch end items = branch_at g shared end place parts in
    let q : List ℕ = g.path ++ shared in
    let whole = begun items first last ends in
    let head : (P : Item → Type 0) → AllByRecursion P items → P first = λ P a. (subst (λ (xs : List Item). AllByRecursion P xs) whole.1 a).0 in
    let on : GoesOnFrom q first = head (GoesOnFrom q) parts.goes_on in
    let value : value_after end first ≡ value_here (below q g.suffixes) =
    ap (λ (n : ℕ). value_after n first) (sym b.group.place)
    ∙ sym (value_of_first g.suffixes q first whole.0 (T_from_true _ g.sorted) (head (IsItem g.suffixes) g.stubs) (head (IsPastPath q) parts.past) on
    (ap (λ (xs : List Item). flat_map (suffixes_for g.suffixes) xs) (sym whole.1) ∙ b.group.whole)) in
    let count : end - at ≡ length shared = omega arith in
    let partial : take (end - at) (drop at (item_path first)) ≡ shared =
    ap₂ (λ (n : ℕ) (ns : List ℕ). take n ns) count (rest_of at g.path shared (item_path first) g.place (head (GoesOnFrom g.path) g.goes_on) on) ∙ taken shared (drop (length q) (item_path first)) in
    let out = below_it b in (
      spelled
          ∙ ap (λ (p : List ℕ). spelling (node_with p (value_after end first) children)) partial
          ∙ ap₂ (λ (v : Option (List ℕ)) (cs : List (Option (List ℕ))). spelling (node_with shared v cs)) value out.0
          ∙ ap spelling (sym (parts_of_node g shared parts)),
      filter (is_made g.under) (nodes_below g.suffixes q),
      made_parts g shared parts,
      out.1,
    )
