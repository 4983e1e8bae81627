-- A state's keys above a key: the first of them, and the nibbles of those under a path.
use Rattle.std.proofs.Common.{◌≡◌, ℕ, ◌<◌, Bool, true, false, cond, List, [], ◌∷◌, ◌++◌, map, Option, Some, None, T, refl, ap, subst, sym, ◌∙◌, inl, inr}
use Rattle.std.specs.Prelude.{All, filter, find, is_some}
use Rattle.std.specs.List.{AllByRecursion, cons_option}
use Rattle.std.specs.Option.{option_map}
use Rattle.std.specs.Ordering.{nat_cmp, is_lt}
use Rattle.std.specs.Cmp.Lexicographic.{slice_cmp}
use Rattle.std.specs.FinMap.{entries, is_sorted}
use Rattle.std.proofs.lemmas.Cmp.{nat_list_cmp_total, tied_itself}
use Rattle.std.proofs.lemmas.List.Elements.{recursion_from_All}
use Rattle.sdb_base.specs.Nibbles.{nibbles_of}
use Rattle.trie_model.specs.Fetches.{keys_of_state, next_key}
use Rattle.trie_model.specs.State.{State}
use Rattle.trie_model.specs.Trie.{Suffix, after_prefix, below, suffixes_of}
use Rattle.trie_root.specs.Suffixes.{IsEntry}
use Rattle.trie_root.proofs.Ends.{below_all, first_of_and, second_of_and}
use Rattle.trie_root.proofs.ReadOffStates.{in_nibbles}
use Rattle.trie_read.specs.Searches.{keys_above}
use Rattle.trie_read.specs.inner.Parts.{is_above, key_of_nibbles, keys_under}
use Rattle.trie_read.proofs.AboveNibbles.{above_further, nibbles_above}
use Rattle.trie_read.proofs.Among.{Among, among_kept}
use Rattle.trie_read.proofs.KeysInNibbles.{kept_keys, made_again}
use Rattle.trie_read.proofs.Standing.{one_under}
use Rattle.trie_read.proofs.Ways.{put_back}

pub keys_of_search : (m : State) (key : List ℕ) → All IsEntry (entries m) → keys_under (is_above (nibbles_of key)) [] (suffixes_of m) ≡ keys_above m key
keys_of_search m key within = kept_keys (is_above (nibbles_of key)) (is_above key) (nibbles_above key) (entries m) (recursion_from_All IsEntry (entries m) within)

-- ---- the first of the keys above a key

abbrev pub head_of : List (List ℕ) → Option (List ℕ)
head_of [] = None
head_of (k ∷ ks) = Some k

first_found : (test : List ℕ → Bool) (ks : List (List ℕ)) → find test ks ≡ head_of (filter test ks)
first_found test [] = refl
first_found test (k ∷ ks) =
    elim (test k) as (λ b. cond b (Some k) (find test ks) ≡ head_of (cond b (k ∷ filter test ks) (filter test ks))) [ true ↦ refl | false ↦ first_found test ks ]

pub next_is_first : (m : State) (key : List ℕ) → next_key m key ≡ head_of (keys_above m key)
next_is_first m key = first_found (is_above key) (keys_of_state m)

-- ---- no key is there twice

not_above_itself : (k : List ℕ) → T (is_lt (slice_cmp nat_cmp k k)) → ⊥
not_above_itself k h = let no : T (is_lt (slice_cmp nat_cmp k k)) ≡ ⊥ = ap (λ o. T (is_lt o)) (tied_itself nat_list_cmp_total k) in subst (λ (X : Type 0). X) no h

all_lower : (k l : List ℕ) (es : List (List ℕ × List ℕ)) → T (below_all k es) → Among l (map (λ (e : List ℕ × List ℕ). e.0) es) → T (is_lt (slice_cmp nat_cmp k l))
all_lower k l [] b a = absurd a
all_lower k l (e ∷ es) b (inl same) = subst (λ (x : List ℕ). T (is_lt (slice_cmp nat_cmp k x))) same (first_of_and (is_lt (slice_cmp nat_cmp k e.0)) (below_all k es) b)
all_lower k l (e ∷ es) b (inr a) = all_lower k l es (second_of_and (is_lt (slice_cmp nat_cmp k e.0)) (below_all k es) b) a

tails_alike : (k l : List ℕ) (ks ls : List (List ℕ)) → k ∷ ks ≡ l ∷ ls → (k ≡ l) × (ks ≡ ls)
tails_alike k l ks ls e = (cc, cc)

pub once : (test : List ℕ → Bool) (es : List (List ℕ × List ℕ)) → T (is_sorted (slice_cmp nat_cmp) es) → (k : List ℕ) (ks : List (List ℕ))
    → filter test (map (λ (e : List ℕ × List ℕ). e.0) es) ≡ k ∷ ks → Among k ks → ⊥
once test [] s k ks e a = let no : [] ≡ k ∷ ks = e in absurd cc
once test (x ∷ es) s k ks e a =
    let others : List (List ℕ) = filter test (map (λ (y : List ℕ × List ℕ). y.0) es) in
    elim (test x.0) as (λ b. cond b (x.0 ∷ others) others ≡ k ∷ ks → ⊥) [
      | true ↦ λ h.
          let both : (x.0 ≡ k) × (others ≡ ks) = tails_alike x.0 k others ks h in
          let there : Among k others = subst (λ (ls : List (List ℕ)). Among k ls) (sym both.1) a in
          let lower : T (is_lt (slice_cmp nat_cmp x.0 k)) =
          all_lower x.0 k es (first_of_and (below_all x.0 es) (is_sorted (slice_cmp nat_cmp) es) s) (among_kept k test (map (λ (y : List ℕ × List ℕ). y.0) es) there).0 in
          not_above_itself k (subst (λ (l : List ℕ). T (is_lt (slice_cmp nat_cmp l k))) both.0 lower)
      | false ↦ λ h. once test es (second_of_and (below_all x.0 es) (is_sorted (slice_cmp nat_cmp) es) s) k ks h a
    ] e

-- ---- keys under a path

-- each begins with it, in nibbles
pub under_begins : (keeps : List ℕ → Bool) (p : List ℕ) (es : List (List ℕ × List ℕ)) → AllByRecursion IsEntry es
    → AllByRecursion (λ k. is_some (after_prefix p (nibbles_of k)) ≡ true) (keys_under keeps p (below p (map in_nibbles es)))
under_begins keeps p [] a = tt
under_begins keeps p ((k, v) ∷ es) a = one (after_prefix p (nibbles_of k)) refl (under_begins keeps p es a.1)
  where
    one : (r : Option (List ℕ)) → after_prefix p (nibbles_of k) ≡ r → AllByRecursion (λ k. is_some (after_prefix p (nibbles_of k)) ≡ true) (keys_under keeps p (below p (map in_nibbles es)))
        → AllByRecursion (λ k. is_some (after_prefix p (nibbles_of k)) ≡ true)
        (keys_under keeps p (cons_option (option_map (λ (s : List ℕ). (s, v)) r) (below p (map in_nibbles es))))
    one None e rest = rest
    one (Some s) e rest =
        let is : key_of_nibbles (p ++ s) ≡ k = ap key_of_nibbles (put_back p (nibbles_of k) s e) ∙ made_again k (recursion_from_All (λ b. b < 256) k a.0.key) in
        let here : is_some (after_prefix p (nibbles_of (key_of_nibbles (p ++ s)))) ≡ true = ap (λ (l : List ℕ). is_some (after_prefix p (nibbles_of l))) is ∙ ap is_some e in
        subst (λ (ks : List (List ℕ)). AllByRecursion (λ k. is_some (after_prefix p (nibbles_of k)) ≡ true) ks) (sym (one_under keeps p (s, v) (below p (map in_nibbles es))))
        (elim (keeps (p ++ s)) as (λ b. AllByRecursion (λ k. is_some (after_prefix p (nibbles_of k)) ≡ true)
        (cond b (key_of_nibbles (p ++ s) ∷ keys_under keeps p (below p (map in_nibbles es))) (keys_under keeps p (below p (map in_nibbles es))))) [
          | true ↦ (here, rest)
          | false ↦ rest
        ])

-- a key that begins with it is among them, if it is kept
pub among_under : (keeps : List ℕ → Bool) (p : List ℕ) (k : List ℕ) → keeps (nibbles_of k) ≡ true → is_some (after_prefix p (nibbles_of k)) ≡ true
    → (es : List (List ℕ × List ℕ)) → AllByRecursion IsEntry es → Among k (map (λ (e : List ℕ × List ℕ). e.0) es) → Among k (keys_under keeps p (below p (map in_nibbles es)))
among_under keeps p k kept on [] w a = absurd a
among_under keeps p k kept on ((l, v) ∷ es) w a = elim a [
  | inl same ↦ here (after_prefix p (nibbles_of l)) refl same
  | inr rest ↦ further (after_prefix p (nibbles_of l)) (among_under keeps p k kept on es w.1 rest)
]
  where
    others : List (List ℕ)
    others = keys_under keeps p (below p (map in_nibbles es))

    further : (r : Option (List ℕ)) → Among k (keys_under keeps p (below p (map in_nibbles es)))
        → Among k (keys_under keeps p (cons_option (option_map (λ (s : List ℕ). (s, v)) r) (below p (map in_nibbles es))))
    further None h = h
    further (Some s) h =
        subst (λ (ks : List (List ℕ)). Among k ks) (sym (one_under keeps p (s, v) (below p (map in_nibbles es))))
        (elim (keeps (p ++ s)) as (λ b. Among k (cond b (key_of_nibbles (p ++ s) ∷ keys_under keeps p (below p (map in_nibbles es))) (keys_under keeps p (below p (map in_nibbles es))))) [
          | true ↦ inr h
          | false ↦ h
        ])

    here : (r : Option (List ℕ)) → after_prefix p (nibbles_of l) ≡ r → l ≡ k
        → Among k (keys_under keeps p (cons_option (option_map (λ (s : List ℕ). (s, v)) r) (below p (map in_nibbles es))))
    here None e same =
        let no : false ≡ true = sym (ap (λ (x : List ℕ). is_some (after_prefix p (nibbles_of x))) (sym same) ∙ ap is_some e) ∙ on in absurd cc
    here (Some s) e same =
        let whole : p ++ s ≡ nibbles_of l = put_back p (nibbles_of l) s e in
        let is : key_of_nibbles (p ++ s) ≡ k = ap key_of_nibbles whole ∙ made_again l (recursion_from_All (λ b. b < 256) l w.0.key) ∙ same in
        let keep : keeps (p ++ s) ≡ true = ap keeps whole ∙ ap (λ (x : List ℕ). keeps (nibbles_of x)) same ∙ kept in
        subst (λ (ks : List (List ℕ)). Among k ks)
        (sym (one_under keeps p (s, v) (below p (map in_nibbles es)) ∙ ap (λ b. cond b (key_of_nibbles (p ++ s) ∷ keys_under keeps p (below p (map in_nibbles es))) (keys_under keeps p (below p (map in_nibbles es)))) keep))
        (inl is)

-- above the nibbles some are kept, if there are any
pub some_under : (q p : List ℕ) (us : List Suffix) → is_above q p ≡ true → (us ≡ [] → ⊥) → keys_under (is_above q) p us ≡ [] → ⊥
some_under q p [] h some e = some refl
some_under q p (s ∷ us) h some e =
    let first : key_of_nibbles (p ++ s.0) ∷ keys_under (is_above q) p us ≡ [] =
    sym (one_under (is_above q) p s us ∙ ap (λ b. cond b (key_of_nibbles (p ++ s.0) ∷ keys_under (is_above q) p us) (keys_under (is_above q) p us)) (above_further q p s.0 h)) ∙ e in cc
