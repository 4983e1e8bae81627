-- Items that go on with one nibble, between others, are a group of their own.
use Rattle.std.proofs.Common.{◌≡◌, ℕ, suc, ◌+◌, Bool, true, false, cond, eqb, List, [], ◌∷◌, ◌++◌, length, drop, None, refl, ap, ap₂, subst, sym, ◌∙◌, append_assoc, length-append}
use Rattle.std.specs.Prelude.{◌||◌, is_some, option_and_then}
use Rattle.std.specs.List.{AllByRecursion, flat_map, list_any}
use Rattle.std.proofs.lemmas.List.Folds.{list_any-append}
use Rattle.trie_model.specs.Nodes.{PathNode}
use Rattle.trie_model.specs.Trie.{after_prefix}
use Rattle.trie_root.proofs.Prefixes.{after_prefix-append}
use Rattle.trie_root.proofs.Rows.{unlike}
use Rattle.trie_read.proofs.OneFed.{all_split}
use Rattle.trie_read.proofs.Ways.{follows}
use Rattle.trie_change.specs.Frontier.{IsHanging, IsItem, is_at_stub, is_under, suffixes_for, item_path}
use Rattle.trie_change.specs.Item.{Item}
use Rattle.trie_change.specs.Item as item
use Rattle.trie_change.specs.inner.Built.{GoesOnFrom, IsPastPath, ItemBranch, ItemGroup, ItemsRise, rank_after, rank_of}
use Rattle.trie_change.proofs.ItemPaths.{drop_itself, goes_from, rise_joined}
use Rattle.trie_change.proofs.ItemSuffixes.{AllGoOn, AllOff, AllOn, after_itself, path_on, run_whole}

-- ---- what is under the stubs of the others

off_stub : (q : List ℕ) (j : ℕ) (rest : List ℕ) (i : Item) → IsPastPath q i → (rank_after (length q) i ≡ suc j → ⊥) → is_at_stub (q ++ j ∷ rest) i ≡ false
off_stub q j rest (item.Entry e) past off = refl
off_stub q j rest (item.Stub s) past off =
    let k : ℕ = past.0 in
    let ns : List ℕ = past.1 in
    let next : drop (length q) s.path.items ≡ k ∷ ns = ap (λ (p : List ℕ). drop (length q) p) past.2 ∙ drop_itself q (k ∷ ns) in
    let differ : eqb k j ≡ false = unlike k j (λ e. off (ap rank_of next ∙ ap suc e)) in
    follows s.path.items (q ++ j ∷ rest)
    ∙ ap (λ (p : List ℕ). is_some (after_prefix p (q ++ j ∷ rest))) past.2
    ∙ ap is_some (after_prefix-append q (k ∷ ns) (q ++ j ∷ rest) ∙ ap (option_and_then (after_prefix (k ∷ ns))) (after_itself q (j ∷ rest)))
    ∙ ap (λ b. is_some (cond b (after_prefix ns rest) None)) differ

off_stubs : (q : List ℕ) (j : ℕ) (rest : List ℕ) (is : List Item) → AllByRecursion (IsPastPath q) is → AllOff q j is → list_any (is_at_stub (q ++ j ∷ rest)) is ≡ false
off_stubs q j rest [] p a = refl
off_stubs q j rest (i ∷ is) p a =
    let one : is_at_stub (q ++ j ∷ rest) i ≡ false = off_stub q j rest i p.0 a.0 in
    let others : list_any (is_at_stub (q ++ j ∷ rest)) is ≡ false = off_stubs q j rest is p.1 a.1 in
    rw (one, others)

-- ---- the group

-- items with the nibble, between others
pub record Run (items : List Item) (q : List ℕ) (j : ℕ) (run : List Item) : Type 0 where
  pub front : List Item
  pub back : List Item
  pub parts : items ≡ front ++ (run ++ back)
  pub before : AllOff q j front
  pub on : AllOn q j run
  pub after : AllOff q j back

-- what holds of all holds of the parts
pub three : (P : Item → Type 0) (items front run back : List Item) → items ≡ front ++ (run ++ back) → AllByRecursion P items
    → AllByRecursion P front × AllByRecursion P run × AllByRecursion P back
three P items front run back e a =
    let one = all_split P front (run ++ back) (subst (λ (is : List Item). AllByRecursion P is) e a) in
    let two = all_split P run back one.1 in
    (one.0, two.0, two.1)

pub run_goes_on : (q : List ℕ) (j : ℕ) (is : List Item) → AllGoOn q is → AllOn q j is → AllGoOn (q ++ j ∷ []) is
run_goes_on q j [] g a = tt
run_goes_on q j (i ∷ is) g a =
    let path = path_on q j i g.0 a.0 in
    (goes_from (q ++ j ∷ []) path.0 (item_path i) (path.1 ∙ sym (append_assoc q (j ∷ []) path.0)), run_goes_on q j is g.1 a.1)

pub run_rises : (items front run back : List Item) → items ≡ front ++ (run ++ back) → ItemsRise items → ItemsRise run
run_rises items front run back e r =
    (rise_joined run back (rise_joined front (run ++ back) (subst ItemsRise e r)).1).0

pub run_under : {at : ℕ} {items : List Item} (b : ItemBranch at items) (j : ℕ) (run : List Item) (r : Run items b.group.path j run) (n : PathNode) (rest : List ℕ)
    → n.path ≡ (b.group.path ++ j ∷ []) ++ rest → b.group.under n ≡ is_under run n
run_under {items = items} b j run r n rest e =
    let q : List ℕ = b.group.path in
    let path : n.path ≡ q ++ j ∷ rest = e ∙ append_assoc q (j ∷ []) rest in
    let past = three (IsPastPath q) items r.front run r.back r.parts b.past in
    let test : List ℕ → List Item → Bool = λ p is. list_any (is_at_stub p) is in
    let none : (is : List Item) → AllByRecursion (IsPastPath q) is → AllOff q j is → test n.path is ≡ false = λ is p a.
    ap (λ (k : List ℕ). test k is) path ∙ off_stubs q j rest is p a in
    b.group.same n (j ∷ rest) path
    ∙ ap (test n.path) r.parts
    ∙ list_any-append (is_at_stub n.path) r.front (run ++ r.back)
    ∙ ap₂ (λ (x y : Bool). x || y) (none r.front past.0 r.before) (list_any-append (is_at_stub n.path) run r.back ∙ ap (λ (y : Bool). test n.path run || y) (none r.back past.2 r.after) ∙ or_false (test n.path run))
  where
    or_false : (x : Bool) → (x || false) ≡ x
    or_false true = refl
    or_false false = refl

abbrev pub group_of_run : {at : ℕ} {items : List Item} (b : ItemBranch at items) (j : ℕ) (run : List Item) (end : ℕ) → end ≡ at + 1 → Run items b.group.path j run → ItemGroup end run
group_of_run {items = items} b j run end place r =
    let g = b.group in
    let q : List ℕ = g.path in
    let on = three (GoesOnFrom q) items r.front run r.back r.parts g.goes_on in
    let past = three (IsPastPath q) items r.front run r.back r.parts b.past in
    record {
      suffixes = g.suffixes;
      path = q ++ j ∷ [];
      under = g.under;
      sorted = g.sorted;
      place = length-append q (j ∷ []) ∙ ap (λ (n : ℕ). n + 1) g.place ∙ sym place;
      goes_on = run_goes_on q j run on.1 r.on;
      stubs = (three (IsItem g.suffixes) items r.front run r.back r.parts g.stubs).1;
      hanging = (three (IsHanging g.suffixes) items r.front run r.back r.parts g.hanging).1;
      whole = run_whole g.suffixes q j r.front run r.back on.0 on.1 on.2 past.0 past.2 r.before r.on r.after
          (ap (λ (is : List Item). flat_map (suffixes_for g.suffixes) is) (sym r.parts) ∙ g.whole);
      same = run_under b j run r;
      rise = λ _. run_rises items r.front run r.back r.parts b.rises;
    }
