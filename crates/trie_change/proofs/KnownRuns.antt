-- What is known, where siblings are gathered into a run.
use Rattle.std.proofs.Common.{◌≡◌, ℕ, ◌+◌, ◌≤◌, true, eqb, eq-eqb, List, [], ◌∷◌, ◌++◌, length, Option, Some, refl, ap, sym, ◌∙◌, arith, append_assoc, length-append}
use Rattle.std.proofs.Math.Dec.{leb}
use Rattle.std.proofs.lemmas.Bool.{le-leb}
use Rattle.trie_model.specs.Node.{Node}
use Rattle.trie_change.specs.declared.frontier.Sibling.{Sibling}
use Rattle.trie_change.specs.inner.Known.{Known, KnownNode, all_known, known_at, stub_known}
use Rattle.trie_change.specs.inner.Pieces.{sibling_items}

stub_within : (path hash : List ℕ) → length path ≤ 2048 → stub_known path hash ≡ KnownNode hash path ∷ []
stub_within path hash h = let within : leb (length path) 2048 ≡ true = le-leb (length path) 2048 h in rw within refl

hashed_known : (go : Node → List ℕ → List Known) (path hash : List ℕ) → length hash ≡ 32 → length path ≤ 2048 → known_at go path (Some hash) ≡ KnownNode hash path ∷ []
hashed_known go path hash len short = let same : eqb (length hash) 32 ≡ true = eq-eqb (length hash) 32 len in rw same (stub_within path hash short)

run_and_one : (end : List ℕ) (run : List Sibling) (s : Sibling) → all_known (sibling_items end (run ++ s ∷ [])) ≡ all_known (sibling_items end run) ++ KnownNode s.hash.0 (end ++ s.nibble ∷ []) ∷ []
run_and_one end [] s = refl
run_and_one end (x ∷ run) s = ap (λ (ks : List Known). KnownNode x.hash.0 (end ++ x.nibble ∷ []) ∷ ks) (run_and_one end run s)

-- a run with one sibling more has what there is at that child
pub sibling_known : (go : Node → List ℕ → List Known) (end : List ℕ) (run : List Sibling) (s : Sibling) (i : ℕ) (child : Option (List ℕ)) → s.nibble ≡ i → length end + 1 ≤ 2048
    → child ≡ Some s.hash.0 → length s.hash.0 ≡ 32
    → all_known (sibling_items end (run ++ s ∷ [])) ≡ all_known (sibling_items end run) ++ known_at go (end ++ i ∷ []) child
sibling_known go end run s i child at short is len =
    let whole : length (end ++ s.nibble ∷ []) ≤ 2048 = omega (arith, short, length-append end (s.nibble ∷ [])) in
    run_and_one end run s
    ∙ ap (λ (ks : List Known). all_known (sibling_items end run) ++ ks) (
    sym (hashed_known go (end ++ s.nibble ∷ []) s.hash.0 len whole)
    ∙ ap (λ (o : Option (List ℕ)). known_at go (end ++ s.nibble ∷ []) o) (sym is)
    ∙ ap (λ (n : ℕ). known_at go (end ++ n ∷ []) child) at
    )

-- ---- what there is so far, a run, and what is left

pub to_run : {X : Type 0} (before run here rest : List X) → before ++ ((run ++ here) ++ rest) ≡ before ++ (run ++ (here ++ rest))
to_run before run here rest = ap (λ xs. before ++ xs) (append_assoc run here rest)

pub after_run : {X : Type 0} (before run here after others rest : List X) → after ++ others ≡ (before ++ run) ++ here → after ++ (others ++ rest) ≡ before ++ (run ++ (here ++ rest))
after_run before run here after others rest e =
    sym (append_assoc after others rest) ∙ ap (λ xs. xs ++ rest) e ∙ append_assoc (before ++ run) here rest ∙ append_assoc before run (here ++ rest)
