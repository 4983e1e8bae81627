-- The suffixes that items stand for, below a path and a nibble.
use Rattle.std.proofs.Common.{◌≡◌, ℕ, suc, List, [], ◌∷◌, ◌++◌, length, map, drop, Some, refl, ap, ap₂, sym, ◌∙◌, append_assoc, true, eqb, eq-eqb, arith}
use Rattle.std.specs.List.{AllByRecursion, flat_map}
use Rattle.std.proofs.lemmas.List.{append-nil, map-append}
use Rattle.std.proofs.lemmas.List.Concat.{flat_map-append}
use Rattle.trie_model.specs.Trie.{Suffix, after_prefix, below, with_prefix}
use Rattle.trie_root.proofs.Fronts.{none_with_other}
use Rattle.trie_root.proofs.Prefixes.{below-append, begins_further, without}
use Rattle.trie_root.proofs.Rows.{joined}
use Rattle.trie_root.proofs.Stripped.{AllBegin}
use Rattle.trie_change.specs.Frontier.{suffixes_for, item_path}
use Rattle.trie_change.specs.Item.{Item}
use Rattle.trie_change.specs.Item as item
use Rattle.trie_change.specs.inner.Built.{GoesOnFrom, IsPastPath, rank_after, rank_of}
use Rattle.trie_change.proofs.ItemPaths.{drop_itself}

-- ---- prefixes put before and taken away

pub prefixes_joined : (p q : List ℕ) (ss : List Suffix) → with_prefix (p ++ q) ss ≡ with_prefix p (with_prefix q ss)
prefixes_joined p q [] = refl
prefixes_joined p q (s ∷ ss) = ap₂ (λ (ns : List ℕ) (ts : List Suffix). (ns, s.1) ∷ ts) (append_assoc p q s.0) (prefixes_joined p q ss)

pub after_itself : (p ks : List ℕ) → after_prefix p (p ++ ks) ≡ Some ks
after_itself [] ks = refl
after_itself (x ∷ p) ks = let same : eqb x x ≡ true = eq-eqb x x refl in rw same (after_itself p ks)

pub below_with : (p : List ℕ) (ss : List Suffix) → below p (with_prefix p ss) ≡ ss
below_with p [] = refl
below_with p (s ∷ ss) =
    let one : after_prefix p (p ++ s.0) ≡ Some s.0 = after_itself p s.0 in
    let rest : below p (with_prefix p ss) ≡ ss = below_with p ss in
    rw (one, rest)

pub without_with : (p : List ℕ) (ss : List Suffix) → map (without (length p)) (with_prefix p ss) ≡ ss
without_with p [] = refl
without_with p (s ∷ ss) = ap₂ (λ (ns : List ℕ) (ts : List Suffix). (ns, s.1) ∷ ts) (drop_itself p s.0) (without_with p ss)

-- the suffixes that go on with a path and a nibble, whole
abbrev pub all_with_path : List ℕ → List Suffix → List Suffix
all_with_path q ss = with_prefix q (below q ss)

pub with_joined : (q : List ℕ) (xs ys : List Suffix) → all_with_path q (xs ++ ys) ≡ all_with_path q xs ++ all_with_path q ys
with_joined q xs ys =
    ap (with_prefix q) (joined q xs ys) ∙ map-append (λ (s : Suffix). (q ++ s.0, s.1)) (below q xs) (below q ys)

-- of those that go on with a prefix, those that go on with more
with_more : (q r : List ℕ) (ss : List Suffix) → below (q ++ r) (with_prefix q ss) ≡ below r ss
with_more q r ss = below-append q r (with_prefix q ss) ∙ ap (below r) (below_with q ss)

-- ---- what an item stands for

-- after its path
abbrev rest_for : List Suffix → Item → List Suffix
rest_for suffixes (item.Entry e) = ([], e.value) ∷ []
rest_for suffixes (item.Stub s) = below s.path.items suffixes

pub suffixes_after : (ss : List Suffix) (i : Item) → suffixes_for ss i ≡ with_prefix (item_path i) (rest_for ss i)
suffixes_after ss (item.Entry e) = ap (λ (p : List ℕ). (p, e.value) ∷ []) (sym (append-nil e.path.items))
suffixes_after ss (item.Stub s) = refl

all_begin_with : (j : ℕ) (r : List ℕ) (ss : List Suffix) → AllBegin (j ∷ []) (with_prefix (j ∷ r) ss)
all_begin_with j r [] = tt
all_begin_with j r (s ∷ ss) = (begins_further j j [] (r ++ s.0) refl (record { rest = refl }), all_begin_with j r ss)

-- an item that goes on with a path and the nibble is whole among those that do
on_kept : (ss : List Suffix) (q : List ℕ) (j : ℕ) (r : List ℕ) (i : Item) → item_path i ≡ q ++ j ∷ r
    → all_with_path (q ++ j ∷ []) (suffixes_for ss i) ≡ suffixes_for ss i
on_kept ss q j r i e =
    let rest : List Suffix = rest_for ss i in
    let path : item_path i ≡ (q ++ j ∷ []) ++ r = e ∙ sym (append_assoc q (j ∷ []) r) in
    let is : suffixes_for ss i ≡ with_prefix (q ++ j ∷ []) (with_prefix r rest) =
    suffixes_after ss i ∙ ap (λ (p : List ℕ). with_prefix p rest) path ∙ prefixes_joined (q ++ j ∷ []) r rest in
    ap (all_with_path (q ++ j ∷ [])) is ∙ ap (with_prefix (q ++ j ∷ [])) (below_with (q ++ j ∷ []) (with_prefix r rest)) ∙ sym is

nothing_longer : (q ns : List ℕ) (n : ℕ) (path : List ℕ) → path ≡ q ++ n ∷ ns → path ≡ q ++ [] → ⊥
nothing_longer q ns n path e k =
    let same : n ∷ ns ≡ [] = sym (drop_itself q (n ∷ ns)) ∙ ap (λ (t : List ℕ). drop (length q) t) (sym e ∙ k) ∙ drop_itself q [] in cc

-- one that goes on with another nibble, or a key that ends at the path, is not among them
off_by : (ss : List Suffix) (q : List ℕ) (j : ℕ) (i : Item) (d : List ℕ) → IsPastPath q i → item_path i ≡ q ++ d → (rank_of d ≡ suc j → ⊥) → below (j ∷ []) (with_prefix d (rest_for ss i)) ≡ []
off_by ss q j (item.Entry e) [] past is off = refl
off_by ss q j (item.Stub s) [] past is off = absurd (nothing_longer q past.1 past.0 s.path.items past.2 is)
off_by ss q j i (k ∷ r) past is off = none_with_other k j (with_prefix (k ∷ r) (rest_for ss i)) (λ e. off (ap suc (sym e))) (all_begin_with k r (rest_for ss i))

off_dropped : (ss : List Suffix) (q : List ℕ) (j : ℕ) (i : Item) → IsPastPath q i → (d : List ℕ) → item_path i ≡ q ++ d → (rank_of d ≡ suc j → ⊥)
    → all_with_path (q ++ j ∷ []) (suffixes_for ss i) ≡ []
off_dropped ss q j i past d e off =
    let rest : List Suffix = rest_for ss i in
    let is : suffixes_for ss i ≡ with_prefix q (with_prefix d rest) = suffixes_after ss i ∙ ap (λ (p : List ℕ). with_prefix p rest) e ∙ prefixes_joined q d rest in
    ap (all_with_path (q ++ j ∷ [])) is ∙ ap (with_prefix (q ++ j ∷ [])) (with_more q (j ∷ []) (with_prefix d rest) ∙ off_by ss q j i d past e off)

-- ---- lists of items

pub rank_nibble : (d : List ℕ) (j : ℕ) → rank_of d ≡ suc j → (r : List ℕ) × (d ≡ j ∷ r)
rank_nibble [] j e = absurd (omega arith)
rank_nibble (n ∷ ns) j e = let same : n ≡ j = omega arith in (ns, ap (λ (k : ℕ). k ∷ ns) same)

-- items that go on from a path, of which those with the nibble, or those without it
abbrev pub AllGoOn : List ℕ → List Item → Type 0
AllGoOn q is = AllByRecursion (GoesOnFrom q) is

abbrev pub AllOn : List ℕ → ℕ → List Item → Type 0
AllOn q j is = AllByRecursion (λ i. rank_after (length q) i ≡ suc j) is

abbrev pub AllOff : List ℕ → ℕ → List Item → Type 0
AllOff q j is = AllByRecursion (λ i. rank_after (length q) i ≡ suc j → ⊥) is

-- the path of an item with the nibble
pub path_on : (q : List ℕ) (j : ℕ) (i : Item) → GoesOnFrom q i → rank_after (length q) i ≡ suc j → (r : List ℕ) × (item_path i ≡ q ++ j ∷ r)
path_on q j i g on = let next = rank_nibble (drop (length q) (item_path i)) j on in (next.0, g ∙ ap (λ (t : List ℕ). q ++ t) next.1)

stand_on : (ss : List Suffix) (q : List ℕ) (j : ℕ) (is : List Item) → AllGoOn q is → AllOn q j is
    → all_with_path (q ++ j ∷ []) (flat_map (suffixes_for ss) is) ≡ flat_map (suffixes_for ss) is
stand_on ss q j [] g a = refl
stand_on ss q j (i ∷ is) g a =
    let path = path_on q j i g.0 a.0 in
    with_joined (q ++ j ∷ []) (suffixes_for ss i) (flat_map (suffixes_for ss) is)
    ∙ ap₂ (λ (xs ys : List Suffix). xs ++ ys) (on_kept ss q j path.0 i path.1) (stand_on ss q j is g.1 a.1)

stand_off : (ss : List Suffix) (q : List ℕ) (j : ℕ) (is : List Item) → AllGoOn q is → AllByRecursion (IsPastPath q) is → AllOff q j is
    → all_with_path (q ++ j ∷ []) (flat_map (suffixes_for ss) is) ≡ []
stand_off ss q j [] g p a = refl
stand_off ss q j (i ∷ is) g p a =
    with_joined (q ++ j ∷ []) (suffixes_for ss i) (flat_map (suffixes_for ss) is)
    ∙ ap₂ (λ (xs ys : List Suffix). xs ++ ys) (off_dropped ss q j i p.0 (drop (length q) (item_path i)) g.0 a.0) (stand_off ss q j is g.1 p.1 a.1)

-- the items with the nibble, between others, stand for all suffixes that go on with the path and the nibble
pub run_whole : (ss : List Suffix) (q : List ℕ) (j : ℕ) (front run back : List Item) → AllGoOn q front → AllGoOn q run → AllGoOn q back
    → AllByRecursion (IsPastPath q) front → AllByRecursion (IsPastPath q) back → AllOff q j front → AllOn q j run → AllOff q j back
    → flat_map (suffixes_for ss) (front ++ (run ++ back)) ≡ with_prefix q (below q ss)
    → flat_map (suffixes_for ss) run ≡ with_prefix (q ++ j ∷ []) (below (q ++ j ∷ []) ss)
run_whole ss q j front run back gf gr gb pf pb f r b whole =
    let s : List Item → List Suffix = λ is. flat_map (suffixes_for ss) is in
    let all : List Suffix → List Suffix = λ ts. all_with_path (q ++ j ∷ []) ts in
    let parts : s (front ++ (run ++ back)) ≡ s front ++ (s run ++ s back) =
    flat_map-append (suffixes_for ss) front (run ++ back) ∙ ap (λ (ts : List Suffix). s front ++ ts) (flat_map-append (suffixes_for ss) run back) in
    let each : all (s front ++ (s run ++ s back)) ≡ s run =
    with_joined (q ++ j ∷ []) (s front) (s run ++ s back)
    ∙ ap₂ (λ (xs ys : List Suffix). xs ++ ys) (stand_off ss q j front gf pf f)
    (with_joined (q ++ j ∷ []) (s run) (s back) ∙ ap₂ (λ (xs ys : List Suffix). xs ++ ys) (stand_on ss q j run gr r) (stand_off ss q j back gb pb b) ∙ append-nil (s run)) in
    sym each ∙ ap all (sym parts ∙ whole)
    ∙ ap (with_prefix (q ++ j ∷ [])) (with_more q (j ∷ []) (below q ss) ∙ sym (below-append q (j ∷ []) ss))
