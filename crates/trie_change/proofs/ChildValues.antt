-- A group below the root stands for some suffixes, and its node has a Merkle value.
use Rattle.std.proofs.Common.{◌≡◌, ℕ, ◌≤◌, List, [], ◌∷◌, ◌++◌, length, get_or, take, drop, Some, refl, ap, ap₂, sym, ◌∙◌, inl, inr, length-append, arith}
use Rattle.std.specs.List.{flat_map}
use Rattle.trie_model.specs.Node.{merkle_value, spelling}
use Rattle.trie_model.specs.Nodes.{PathNode, if_any}
use Rattle.trie_model.specs.Trie.{Suffix, below, child_value, node_of_all, with_prefix}
use Rattle.trie_read.proofs.Binding.{none_or_some}
use Rattle.trie_change.specs.Frontier.{IsItem, suffixes_for, item_path}
use Rattle.trie_change.specs.Item.{Item}
use Rattle.trie_change.specs.Item as item
use Rattle.trie_change.specs.inner.Built.{ItemGroup}
use Rattle.trie_change.proofs.ItemSuffixes.{below_with}
use Rattle.trie_change.proofs.MadeGroups.{taken}

-- it stands for some suffixes
pub group_some : (at : ℕ) (items : List Item) (g : ItemGroup at items) → 1 ≤ at → 1 ≤ length items → below g.path g.suffixes ≡ [] → ⊥
group_some at [] g root some none = absurd (omega arith)
group_some at (i ∷ is) g root some none =
    nothing i g.stubs.0 (longer (item_path i) g.goes_on.0)
    (first_none (suffixes_for g.suffixes i) (flat_map (suffixes_for g.suffixes) is) (g.whole ∙ ap (with_prefix g.path) none))
  where
    first_none : (xs ys : List Suffix) → xs ++ ys ≡ [] → xs ≡ []
    first_none [] ys e = refl
    first_none (x ∷ xs) ys e = absurd cc

    longer : (path : List ℕ) → path ≡ g.path ++ drop (length g.path) path → path ≡ [] → ⊥
    longer path e z = absurd (omega (arith, ap length e, ap length z, length-append g.path (drop (length g.path) path), g.place))

    nothing : (i : Item) → IsItem g.suffixes i → (item_path i ≡ [] → ⊥) → suffixes_for g.suffixes i ≡ [] → ⊥
    nothing (item.Entry e) h k z = cc
    nothing (item.Stub s) h k z = elim h.some [
      | inl top ↦ k top
      | inr more ↦ more (sym (below_with s.path.items (below s.path.items g.suffixes)) ∙ ap (below s.path.items) z)
    ]

pub path_taken : (at : ℕ) (items : List Item) (g : ItemGroup at items) (first : Item) → 1 ≤ length items → first ≡ get_or items 0 first → g.path ≡ take at (item_path first)
path_taken at [] g first some e = absurd (omega arith)
path_taken at (i ∷ is) g first some e =
    sym (ap (λ (j : Item). take at (item_path j)) e ∙ ap₂ (λ (n : ℕ) (ns : List ℕ). take n ns) (sym g.place) g.goes_on.0 ∙ taken g.path (drop (length g.path) (item_path i)))

-- the node over some suffixes, and its Merkle value
pub value_there : (us : List Suffix) → (us ≡ [] → ⊥) → child_value node_of_all us ≡ Some (merkle_value (spelling (node_of_all us)))
value_there us some = elim (none_or_some us) [ inl none ↦ absurd (some none) | inr is ↦ is.1 ]

pub any_there : (f : List Suffix → List PathNode) (us : List Suffix) → (us ≡ [] → ⊥) → if_any f us ≡ f us
any_there f [] some = absurd (some refl)
any_there f (u ∷ us) some = refl

pub longer_path : (at : ℕ) (items : List Item) (g : ItemGroup at items) → 1 ≤ at → g.path ≡ [] → ⊥
longer_path at items g h e = absurd (omega (arith, g.place, ap length e))
