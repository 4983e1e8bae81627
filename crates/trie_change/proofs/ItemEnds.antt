-- The first and the last of the suffixes that an item stands for.
use Rattle.std.proofs.Common.{◌≡◌, ℕ, true, false, List, [], ◌∷◌, ◌++◌, T, refl, ap, subst, sym, ◌∙◌, inl, inr}
use Rattle.std.specs.Ordering.{nat_cmp}
use Rattle.std.specs.Cmp.Lexicographic.{slice_cmp}
use Rattle.std.specs.FinMap.{is_sorted}
use Rattle.std.proofs.lemmas.List.{append-nil, map-append}
use Rattle.trie_model.specs.Trie.{Suffix, below, with_prefix}
use Rattle.trie_root.proofs.Prefixes.{below-append}
use Rattle.trie_root.proofs.ReadOffOrder.{is_sorted-nibble}
use Rattle.trie_read.proofs.Hanging.{below-nil}
use Rattle.trie_change.specs.Frontier.{IsItem, suffixes_for, item_path}
use Rattle.trie_change.specs.Item.{Item}
use Rattle.trie_change.specs.Item as item
use Rattle.trie_change.specs.inner.Built.{IsPastPath}
use Rattle.trie_change.proofs.FedNodes.{ended}
use Rattle.trie_change.proofs.ItemPaths.{is_key}

pub sorted_below : (p : List ℕ) (ss : List Suffix) → T (is_sorted (slice_cmp nat_cmp) ss) → T (is_sorted (slice_cmp nat_cmp) (below p ss))
sorted_below [] ss s = subst (λ (ts : List Suffix). T (is_sorted (slice_cmp nat_cmp) ts)) (sym (below-nil ss)) s
sorted_below (x ∷ p) ss s =
    subst (λ (ts : List Suffix). T (is_sorted (slice_cmp nat_cmp) ts)) (sym (below-append (x ∷ []) p ss)) (sorted_below p (below (x ∷ []) ss) (is_sorted-nibble x ss s))

-- the first suffix of an item, and its last
pub record FirstOf (ss : List Suffix) (i : Item) : Type 0 where
  pub rest : List ℕ
  pub value : List ℕ
  pub others : List Suffix
  pub is : suffixes_for ss i ≡ (item_path i ++ rest, value) ∷ others
  pub ends : is_key i ≡ true → rest ≡ []

pub record LastOf (ss : List Suffix) (i : Item) : Type 0 where
  pub rest : List ℕ
  pub value : List ℕ
  pub others : List Suffix
  pub is : suffixes_for ss i ≡ others ++ (item_path i ++ rest, value) ∷ []

-- where a stub goes on with a path, some suffixes do
pub some_below : (ss : List Suffix) (q : List ℕ) (i : Item) → IsItem ss i → IsPastPath q i → is_key i ≡ false → below (item_path i) ss ≡ [] → ⊥
some_below ss q (item.Entry e) h p k none = let no : true ≡ false = k in cc
some_below ss q (item.Stub s) h p k none = elim h.some [
  | inl root ↦ longer q p.0 p.1 (sym p.2 ∙ root)
  | inr some ↦ some none
]
  where
    longer : (q : List ℕ) (n : ℕ) (ns : List ℕ) → q ++ n ∷ ns ≡ [] → ⊥
    longer [] n ns e = cc
    longer (x ∷ q) n ns e = cc

pub first_of : (ss : List Suffix) (q : List ℕ) (i : Item) → IsItem ss i → IsPastPath q i → FirstOf ss i
first_of ss q (item.Entry e) h p = record { rest = []; value = e.value; others = []; is = ap (λ (t : List ℕ). (t, e.value) ∷ []) (sym (append-nil e.path.items)); ends = λ k. refl }
first_of ss q (item.Stub s) h p = by_list (below s.path.items ss) refl
  where
    by_list : (us : List Suffix) → below s.path.items ss ≡ us → FirstOf ss (item.Stub s)
    by_list [] e = absurd (some_below ss q (item.Stub s) h p refl e)
    by_list (u ∷ us) e = record {
      rest = u.0;
      value = u.1;
      others = with_prefix s.path.items us;
      is = ap (with_prefix s.path.items) e;
      ends = λ k. let no : false ≡ true = k in cc;
    }

pub last_of : (ss : List Suffix) (q : List ℕ) (i : Item) → IsItem ss i → IsPastPath q i → LastOf ss i
last_of ss q (item.Entry e) h p = record { rest = []; value = e.value; others = []; is = ap (λ (t : List ℕ). (t, e.value) ∷ []) (sym (append-nil e.path.items)) }
last_of ss q (item.Stub s) h p = elim (ended (below s.path.items ss)) [
  | inl none ↦ absurd (some_below ss q (item.Stub s) h p refl none)
  | inr l ↦ record {
    rest = l.1.0;
    value = l.1.1;
    others = with_prefix s.path.items l.0;
    is = ap (with_prefix s.path.items) l.2 ∙ map-append (λ (t : Suffix). (s.path.items ++ t.0, t.1)) l.0 (l.1 ∷ []);
  }
]
