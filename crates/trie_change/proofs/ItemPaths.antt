-- Paths of items in their order: what they share, and with what nibbles they go on.
use Rattle.std.proofs.Common.{◌≡◌, ℕ, ◌≤◌, Bool, true, false, eqb, List, [], ◌∷◌, ◌++◌, length, drop, refl, ap, subst, sym, ◌∙◌, inl, inr, arith, eq-eqb, append_assoc}
use Rattle.std.specs.List.{AllByRecursion}
use Rattle.trie_model.specs.Trie.{common}
use Rattle.trie_root.proofs.Ends.{AtMost}
use Rattle.trie_root.proofs.Prefixes.{Begins, begins_further}
use Rattle.trie_root.proofs.Rows.{unlike}
use Rattle.trie_read.proofs.Ways.{put_back}
use Rattle.trie_change.specs.Item.{Item}
use Rattle.trie_change.specs.Item as item
use Rattle.trie_change.specs.inner.Built.{ItemBefore, ItemsRise, PathBefore, rank_of}
use Rattle.trie_change.specs.Frontier.{item_path}

pub drop_itself : (q r : List ℕ) → drop (length q) (q ++ r) ≡ r
drop_itself [] r = refl
drop_itself (x ∷ q) r = drop_itself q r

-- what follows a path is what is left without it
pub goes_from : (q r path : List ℕ) → path ≡ q ++ r → path ≡ q ++ drop (length q) path
goes_from q r path e = e ∙ ap (λ (t : List ℕ). q ++ t) (sym (ap (λ (t : List ℕ). drop (length q) t) e ∙ drop_itself q r))

-- ---- one path before another

pub before_both : (e : Bool) (p a b : List ℕ) → PathBefore e (p ++ a) (p ++ b) → PathBefore e a b
before_both e [] a b h = h
before_both e (x ∷ p) a b (inl less) = absurd (omega arith)
before_both e (x ∷ p) a b (inr h) = before_both e p a b h.1

-- after a prefix of both
pub before_after : (e : Bool) (p a b : List ℕ) → a ≡ p ++ drop (length p) a → b ≡ p ++ drop (length p) b → PathBefore e a b
    → PathBefore e (drop (length p) a) (drop (length p) b)
before_after e p a b h k r =
    before_both e p (drop (length p) a) (drop (length p) b)
    (subst (λ (t : List ℕ). PathBefore e t (p ++ drop (length p) b)) h (subst (λ (t : List ℕ). PathBefore e a t) k r))

at_most : (e : Bool) (a b : List ℕ) → PathBefore e a b → AtMost a b
at_most e [] b h = tt
at_most e (x ∷ a) [] h = absurd h
at_most e (x ∷ a) (y ∷ b) (inl h) = inl h
at_most e (x ∷ a) (y ∷ b) (inr h) = inr (h.0, at_most e a b h.1)

pub second_goes_on : (e : Bool) (a b : List ℕ) → PathBefore e a b → b ≡ [] → ⊥
second_goes_on e [] [] h k = h
second_goes_on e (x ∷ a) [] h k = h
second_goes_on e a (y ∷ b) h k = cc

pub stub_goes_on : (a b : List ℕ) → PathBefore false a b → a ≡ [] → ⊥
stub_goes_on [] [] h k = h
stub_goes_on [] (y ∷ b) h k = let no : false ≡ true = h in cc
stub_goes_on (x ∷ a) b h k = cc

pub rank_before : (e : Bool) (a b : List ℕ) → PathBefore e a b → rank_of a ≤ rank_of b
rank_before e [] b h = omega arith
rank_before e (x ∷ a) [] h = absurd h
rank_before e (x ∷ a) (y ∷ b) (inl h) = omega arith
rank_before e (x ∷ a) (y ∷ b) (inr h) = omega (arith, h.0)

-- what goes on from two shares what they share
pub common_before : (e : Bool) (a x b y : List ℕ) → PathBefore e a b → (e ≡ true → x ≡ []) → common (a ++ x) (b ++ y) ≡ common a b
common_before e [] x [] y h k = absurd h
common_before e [] x (n ∷ b) y h k = rw (k h)
common_before e (m ∷ a) x [] y h k = absurd h
common_before e (m ∷ a) x (n ∷ b) y (inl less) k = let other : eqb m n ≡ false = unlike m n (λ s. omega arith) in rw other
common_before e (m ∷ a) x (n ∷ b) y (inr h) k =
    let same : eqb m n ≡ true = eq-eqb m n h.0 in rw same (ap (λ (t : List ℕ). m ∷ t) (common_before e a x b y h.1 k))

-- a path between two has what they share
shared_between : (a m b : List ℕ) → AtMost a m → AtMost m b → Begins (common a b) m
shared_between [] m b h k = record { rest = refl }
shared_between (x ∷ a) [] b h k = absurd h
shared_between (x ∷ a) (y ∷ m) [] h k = absurd k
shared_between (x ∷ a) (y ∷ m) (z ∷ b) (inl h) (inl k) = let other : eqb x z ≡ false = unlike x z (λ s. omega arith) in rw other (record { rest = refl })
shared_between (x ∷ a) (y ∷ m) (z ∷ b) (inl h) (inr k) = let other : eqb x z ≡ false = unlike x z (λ s. omega (arith, k.0)) in rw other (record { rest = refl })
shared_between (x ∷ a) (y ∷ m) (z ∷ b) (inr h) (inl k) = let other : eqb x z ≡ false = unlike x z (λ s. omega (arith, h.0)) in rw other (record { rest = refl })
shared_between (x ∷ a) (y ∷ m) (z ∷ b) (inr h) (inr k) =
    let same : eqb x z ≡ true = eq-eqb x z (h.0 ∙ k.0) in
    rw same (begins_further x y (common a b) m h.0 (shared_between a m b h.1 k.1))

pub shared_before : (e f : Bool) (a m b : List ℕ) → PathBefore e a m → PathBefore f m b → Begins (common a b) m
shared_before e f a m b h k = shared_between a m b (at_most e a m h) (at_most f m b k)

-- a path that goes on with a prefix after another
pub goes_further : (p c path : List ℕ) → path ≡ p ++ drop (length p) path → Begins c (drop (length p) path) → path ≡ (p ++ c) ++ drop (length (p ++ c)) path
goes_further p c path e h =
    let rest : List ℕ = drop (length c) (drop (length p) path) in
    let both : c ++ rest ≡ drop (length p) path = put_back c (drop (length p) path) rest h.rest in
    goes_from (p ++ c) rest path (e ∙ ap (λ (t : List ℕ). p ++ t) (sym both) ∙ sym (append_assoc p c rest))

-- ---- items

abbrev pub is_key : Item → Bool
is_key (item.Entry e) = true
is_key (item.Stub s) = false

-- an item before another is so by paths
pub by_paths : (i j : Item) → ItemBefore i j → PathBefore (is_key i) (item_path i) (item_path j)
by_paths (item.Entry e) j h = h
by_paths (item.Stub s) j h = h

pub rise_joined : (is js : List Item) → ItemsRise (is ++ js) → ItemsRise is × ItemsRise js
rise_joined [] js r = (tt, r)
rise_joined (i ∷ is) js r =
    let rest : ItemsRise is × ItemsRise js = rise_joined is js r.1 in
    ((front (ItemBefore i) is js r.0, rest.0), rest.1)
  where
    front : (P : Item → Type 0) (xs ys : List Item) → AllByRecursion P (xs ++ ys) → AllByRecursion P xs
    front P [] ys a = tt
    front P (x ∷ xs) ys a = (a.0, front P xs ys a.1)
