-- Where a group of items parts, and the items there as a branch.
use Rattle.std.proofs.Common.{◌≡◌, ℕ, ◌+◌, List, ◌++◌, length, ap, subst, sym, ◌∙◌, append_assoc, inl, inr, length-append}
use Rattle.std.specs.List.{flat_map}
use Rattle.trie_model.specs.Trie.{Suffix, below, common_prefix, with_prefix}
use Rattle.trie_root.proofs.Prefixes.{Begins, below-append, begins_itself}
use Rattle.trie_root.proofs.ReadOff.{with_prefix-below}
use Rattle.trie_change.specs.Frontier.{suffixes_for}
use Rattle.trie_change.specs.Item.{Item}
use Rattle.trie_change.specs.inner.Built.{IsHere, ItemBranch, ItemGroup}
use Rattle.trie_change.proofs.ItemSuffixes.{prefixes_joined}
use Rattle.trie_change.proofs.ItemsParted.{AreEnds, Parts, more_parts, one_parts, shared_by}

-- what stands for all with a path, stands for all with what these share after it
pub whole_further : (p c : List ℕ) (ss xs : List Suffix) → xs ≡ with_prefix p (below p ss) → common_prefix (below p ss) ≡ c → xs ≡ with_prefix (p ++ c) (below (p ++ c) ss)
whole_further p c ss xs e shared =
    let back : with_prefix c (below c (below p ss)) ≡ below p ss =
    with_prefix-below c (below p ss) (subst (λ (t : List ℕ). Begins c t) (sym shared) (begins_itself c)) in
    e ∙ ap (with_prefix p) (sym back) ∙ sym (prefixes_joined p c (below c (below p ss))) ∙ ap (with_prefix (p ++ c)) (sym (below-append p c ss))

pub parts_of_job : (at : ℕ) (items : List Item) (first last : Item) (g : ItemGroup at items) → AreEnds items first last → (IsHere g.path items → ⊥)
    → Parts g (shared_by (length g.path) first last)
parts_of_job at items first last g (inl one) away =
    subst (λ (l : Item). Parts g (shared_by (length g.path) first l)) (sym one.1)
    (subst (λ (is : List Item). (h : ItemGroup at is) → (IsHere h.path is → ⊥) → Parts h (shared_by (length h.path) first first)) (sym one.0) (one_parts at first) g away)
parts_of_job at items first last g (inr more) away =
    subst (λ (is : List Item). (h : ItemGroup at is) → (IsHere h.path is → ⊥) → Parts h (shared_by (length h.path) first last)) (sym more.1)
    (λ h k. more_parts at first last more.0 h (h.rise k)) g away

-- the items where they part
abbrev pub branch_at : {at : ℕ} {items : List Item} (g : ItemGroup at items) (c : List ℕ) (end : ℕ) → end ≡ at + length c → Parts g c → ItemBranch end items
branch_at {at = at} {items = items} g c end place parts = record {
  group = record {
    suffixes = g.suffixes;
    path = g.path ++ c;
    under = g.under;
    sorted = g.sorted;
    place = length-append g.path c ∙ ap (λ (n : ℕ). n + length c) g.place ∙ sym place;
    goes_on = parts.goes_on;
    stubs = g.stubs;
    hanging = g.hanging;
    whole = whole_further g.path c g.suffixes (flat_map (suffixes_for g.suffixes) items) g.whole parts.shared;
    same = λ n rest e. g.same n (c ++ rest) (e ∙ append_assoc g.path c rest);
    rise = λ _. parts.rises;
  };
  rises = parts.rises;
  past = parts.past;
}
