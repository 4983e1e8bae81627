-- Items that part: all of their paths have what the first and the last share, and so have the suffixes.
use Rattle.std.proofs.Common.{◌≡◌, ◌⊎◌, ℕ, Bool, true, false, eqb, List, [], ◌∷◌, ◌++◌, length, map, drop, T, refl, ap, ap₂, subst, sym, ◌∙◌, append_assoc, eq-eqb}
use Rattle.std.specs.List.{AllByRecursion, flat_map}
use Rattle.std.specs.Ordering.{nat_cmp}
use Rattle.std.specs.Cmp.Lexicographic.{slice_cmp}
use Rattle.std.specs.FinMap.{is_sorted}
use Rattle.std.proofs.lemmas.Float.{T_from_true}
use Rattle.std.proofs.lemmas.List.{append-nil, map-append}
use Rattle.std.proofs.lemmas.List.Concat.{flat_map-append}
use Rattle.trie_model.specs.Trie.{Suffix, below, common, common_prefix}
use Rattle.trie_root.proofs.Ends.{common_of_ends}
use Rattle.trie_root.proofs.Prefixes.{Begins, begins_both, begins_itself, without}
use Rattle.trie_root.proofs.ShapesBytes.{all_joined}
use Rattle.trie_read.proofs.OneFed.{all_split}
use Rattle.trie_change.specs.Frontier.{IsItem, suffixes_for, item_path}
use Rattle.trie_change.specs.Item.{Item}
use Rattle.trie_change.specs.Item as item
use Rattle.trie_change.specs.inner.Built.{GoesOnFrom, IsHere, IsPastPath, ItemBefore, ItemGroup, ItemsRise, PathBefore}
use Rattle.trie_change.proofs.ItemPaths.{before_after, by_paths, common_before, drop_itself, goes_further, is_key, second_goes_on, shared_before, stub_goes_on}
use Rattle.trie_change.proofs.ItemSuffixes.{AllGoOn, without_with}
use Rattle.trie_change.proofs.LoneStubs.{stub_is_here}
use Rattle.trie_change.proofs.ItemEnds.{FirstOf, LastOf, first_of, last_of, sorted_below}

-- the first and the last of some items, which may be one
abbrev pub AreEnds : List Item → Item → Item → Type 0
AreEnds items first last = ((items ≡ first ∷ []) × (last ≡ first)) ⊎ ((between : List Item) × (items ≡ first ∷ (between ++ last ∷ [])))

-- what the ends share after so many nibbles
abbrev pub shared_by : ℕ → Item → Item → List ℕ
shared_by at first last = common (drop at (item_path first)) (drop at (item_path last))

-- all items go on with what the ends share, and the suffixes share just that
pub record Parts {at : ℕ} {items : List Item} (g : ItemGroup at items) (c : List ℕ) : Type 0 where
  pub shared : common_prefix (below g.path g.suffixes) ≡ c
  pub goes_on : AllGoOn (g.path ++ c) items
  pub past : AllByRecursion (IsPastPath (g.path ++ c)) items
  pub rises : ItemsRise items

-- ---- one item

common_itself : (xs : List ℕ) → common xs xs ≡ xs
common_itself [] = refl
common_itself (x ∷ xs) = let same : eqb x x ≡ true = eq-eqb x x refl in rw same (ap (λ (t : List ℕ). x ∷ t) (common_itself xs))

pub one_parts : (at : ℕ) (i : Item) (g : ItemGroup at (i ∷ [])) → (IsHere g.path (i ∷ []) → ⊥) → Parts g (shared_by (length g.path) i i)
one_parts at (item.Stub s) g away = absurd (away (stub_is_here at s g))
one_parts at (item.Entry e) g away =
    let a : List ℕ = drop (length g.path) e.path.items in
    let same : common a a ≡ a = common_itself a in
    let alone : below g.path g.suffixes ≡ (a, e.value) ∷ [] =
    sym (without_with g.path (below g.path g.suffixes)) ∙ ap (λ (ss : List Suffix). map (without (length g.path)) ss) (sym g.whole) in
    let begin : Begins (common a a) a = subst (λ (t : List ℕ). Begins t a) (sym same) (begins_itself a) in
    record {
      shared = ap common_prefix alone ∙ sym same;
      goes_on = (goes_further g.path (common a a) e.path.items g.goes_on.0 begin, tt);
      past = (tt, tt);
      rises = (tt, tt);
    }

-- ---- more than one

all_before_last : (between : List Item) (last : Item) → ItemsRise (between ++ last ∷ []) → AllByRecursion (λ i. ItemBefore i last) between
all_before_last [] last r = tt
all_before_last (i ∷ is) last r = ((all_split (ItemBefore i) is (last ∷ []) r.0).1.0, all_before_last is last r.1)

past_of : (q : List ℕ) (i : Item) → GoesOnFrom q i → (is_key i ≡ false → drop (length q) (item_path i) ≡ [] → ⊥) → IsPastPath q i
past_of q (item.Entry e) g some = tt
past_of q (item.Stub s) g some = by_rest (drop (length q) s.path.items) g (some refl)
  where
    by_rest : (r : List ℕ) → s.path.items ≡ q ++ r → (r ≡ [] → ⊥) → (n : ℕ) × (ns : List ℕ) × (s.path.items ≡ q ++ n ∷ ns)
    by_rest [] e some = absurd (some refl)
    by_rest (n ∷ ns) e some = (n, ns, e)

module _ (at : ℕ) (first last : Item) (between : List Item) (g : ItemGroup at (first ∷ (between ++ last ∷ []))) (r : ItemsRise (first ∷ (between ++ last ∷ []))) where
  abbrev p : List ℕ
  p = g.path

  abbrev a : List ℕ
  a = drop (length g.path) (item_path first)

  abbrev b : List ℕ
  b = drop (length g.path) (item_path last)

  abbrev q : List ℕ
  q = g.path ++ common a b

  on_between : AllGoOn g.path between × AllGoOn g.path (last ∷ [])
  on_between = all_split (GoesOnFrom g.path) between (last ∷ []) g.goes_on.1

  before_between : AllByRecursion (ItemBefore first) between × AllByRecursion (ItemBefore first) (last ∷ [])
  before_between = all_split (ItemBefore first) between (last ∷ []) r.0

  ends_part : PathBefore (is_key first) a b
  ends_part = before_after (is_key first) g.path (item_path first) (item_path last) g.goes_on.0 on_between.1.0 (by_paths first last before_between.1.0)

  both_begin : Begins (common a b) a × Begins (common a b) b
  both_begin = begins_both (common a b) a b (begins_itself (common a b))

  goes_between : (is : List Item) → AllGoOn g.path is → AllByRecursion (ItemBefore first) is → AllByRecursion (λ i. ItemBefore i last) is → AllGoOn q is
  goes_between [] h k l = tt
  goes_between (i ∷ is) h k l =
      let m : List ℕ = drop (length g.path) (item_path i) in
      let up : PathBefore (is_key first) a m = before_after (is_key first) g.path (item_path first) (item_path i) g.goes_on.0 h.0 (by_paths first i k.0) in
      let down : PathBefore (is_key i) m b = before_after (is_key i) g.path (item_path i) (item_path last) h.0 on_between.1.0 (by_paths i last l.0) in
      (goes_further g.path (common a b) (item_path i) h.0 (shared_before (is_key first) (is_key i) a m b up down), goes_between is h.1 k.1 l.1)

  first_on : GoesOnFrom q first
  first_on = goes_further g.path (common a b) (item_path first) g.goes_on.0 both_begin.0

  last_on : GoesOnFrom q last
  last_on = goes_further g.path (common a b) (item_path last) on_between.1.0 both_begin.1

  between_on : AllGoOn q between
  between_on = goes_between between on_between.0 before_between.0 (all_before_last between last r.1)

  -- a stub before the last goes on, and so does the last
  past_before : (i : Item) → GoesOnFrom q i → ItemBefore i last → IsPastPath q i
  past_before i h k =
      let part : PathBefore (is_key i) (drop (length q) (item_path i)) (drop (length q) (item_path last)) =
      before_after (is_key i) q (item_path i) (item_path last) h last_on (by_paths i last k) in
      past_of q i h (λ stub. stub_goes_on _ _ (subst (λ (t : Bool). PathBefore t (drop (length q) (item_path i)) (drop (length q) (item_path last))) stub part))

  past_between : (is : List Item) → AllGoOn q is → AllByRecursion (λ i. ItemBefore i last) is → AllByRecursion (IsPastPath q) is
  past_between [] h k = tt
  past_between (i ∷ is) h k = (past_before i h.0 k.0, past_between is h.1 k.1)

  last_past : IsPastPath q last
  last_past =
      past_of q last last_on (λ stub. second_goes_on (is_key first) _ _ (before_after (is_key first) q (item_path first) (item_path last) first_on last_on (by_paths first last before_between.1.0)))

  first_past : IsPastPath q first
  first_past = past_before first first_on before_between.1.0

  items_there : AllByRecursion (IsItem g.suffixes) between × AllByRecursion (IsItem g.suffixes) (last ∷ [])
  items_there = all_split (IsItem g.suffixes) between (last ∷ []) g.stubs.1

  longer : (path x : List ℕ) → path ≡ g.path ++ drop (length g.path) path → drop (length g.path) (path ++ x) ≡ drop (length g.path) path ++ x
  longer path x e =
      ap (λ (t : List ℕ). drop (length g.path) (t ++ x)) e ∙ ap (λ (t : List ℕ). drop (length g.path) t) (append_assoc g.path (drop (length g.path) path) x)
      ∙ drop_itself g.path (drop (length g.path) path ++ x)

  suffixes_share : common_prefix (below g.path g.suffixes) ≡ common a b
  suffixes_share =
      let ss : List Suffix = g.suffixes in
      let f : FirstOf ss first = first_of ss q first g.stubs.0 first_past in
      let l : LastOf ss last = last_of ss q last items_there.1.0 last_past in
      let s : Suffix = (item_path first ++ f.rest, f.value) in
      let t : Suffix = (item_path last ++ l.rest, l.value) in
      let middle : List Suffix = f.others ++ (flat_map (suffixes_for ss) between ++ l.others) in
      let cut : Suffix → Suffix = without (length g.path) in
      let all : flat_map (suffixes_for ss) (first ∷ (between ++ last ∷ [])) ≡ s ∷ (middle ++ t ∷ []) =
      ap (λ (us : List Suffix). suffixes_for ss first ++ us) (flat_map-append (suffixes_for ss) between (last ∷ []) ∙ ap (λ (us : List Suffix). flat_map (suffixes_for ss) between ++ us) (append-nil (suffixes_for ss last)))
      ∙ ap₂ (λ (us vs : List Suffix). us ++ (flat_map (suffixes_for ss) between ++ vs)) f.is l.is
      ∙ ap (λ (us : List Suffix). s ∷ us) (regrouped f.others (flat_map (suffixes_for ss) between) l.others (t ∷ [])) in
      let parts : below g.path ss ≡ cut s ∷ (map cut middle ++ cut t ∷ []) =
      sym (without_with g.path (below g.path ss)) ∙ ap (λ (us : List Suffix). map cut us) (sym g.whole ∙ all) ∙ ap (λ (us : List Suffix). cut s ∷ us) (map-append cut middle (t ∷ [])) in
      ap common_prefix parts
      ∙ common_of_ends (cut s) (cut t) (map cut middle) (subst (λ (us : List Suffix). T (is_sorted (slice_cmp nat_cmp) us)) parts (sorted_below g.path ss (T_from_true _ g.sorted)))
      ∙ ap₂ (λ (x y : List ℕ). common x y) (longer (item_path first) f.rest g.goes_on.0) (longer (item_path last) l.rest on_between.1.0)
      ∙ common_before (is_key first) a f.rest b l.rest ends_part f.ends
    where
      regrouped : (xs ys zs ws : List Suffix) → xs ++ (ys ++ (zs ++ ws)) ≡ (xs ++ (ys ++ zs)) ++ ws
      regrouped xs ys zs ws = sym (append_assoc xs (ys ++ zs) ws ∙ ap (λ (us : List Suffix). xs ++ us) (append_assoc ys zs ws))

  pub more_parts : Parts g (common a b)
  more_parts = record {
    shared = suffixes_share;
    goes_on = (first_on, all_joined (GoesOnFrom q) between (last ∷ []) between_on (last_on, tt));
    past = (first_past, all_joined (IsPastPath q) between (last ∷ []) (past_between between between_on (all_before_last between last r.1)) (last_past, tt));
    rises = r;
  }
