-- How a run of siblings grows, off the way to the keys that are set.
use Rattle.std.proofs.Common.{◌≡◌, ℕ, ◌<◌, ◌≤◌, ◌+◌, false, List, [], ◌∷◌, ◌++◌, ap, ◌∙◌, inl, inr, arith}
use Rattle.std.specs.List.{AllByRecursion}
use Rattle.std.proofs.lemmas.Bool.{cases_lt}
use Rattle.trie_root.proofs.ShapesBytes.{all_joined}
use Rattle.trie_change.specs.declared.frontier.Sibling.{Sibling}
use Rattle.trie_change.specs.declared.settings.Setting.{Setting}
use Rattle.trie_change.specs.inner.InOrder.{begins_one}

-- no key that is set goes on after a path with a nibble from the one on, and before the other
abbrev pub AreUnset : List Setting → List ℕ → ℕ → ℕ → Type 0
AreUnset settings end from to = (n : ℕ) → from ≤ n → n < to → begins_one settings (end ++ n ∷ []) ≡ false

abbrev pub IsWithin : ℕ → ℕ → Sibling → Type 0
IsWithin from to s = (from ≤ s.nibble) × (s.nibble < to)

-- siblings by nibbles before one, among which are none that a key goes on with
pub record IsRun (settings : List Setting) (end : List ℕ) (to : ℕ) (nodes : List Sibling) : Type 0 where
  pub from : ℕ
  pub low : from ≤ to
  pub within : AllByRecursion (IsWithin from to) nodes
  pub unset : AreUnset settings end from to

-- ---- how a run grows

pub run_none : (settings : List Setting) (end : List ℕ) (to : ℕ) → IsRun settings end to []
run_none settings end to = record { from = to; low = omega arith; within = tt; unset = λ n low high. absurd (omega arith) }

wider : (from to : ℕ) (nodes : List Sibling) → AllByRecursion (IsWithin from to) nodes → AllByRecursion (IsWithin from (to + 1)) nodes
wider from to [] a = tt
wider from to (s ∷ nodes) a = ((a.0.0, omega arith), wider from to nodes a.1)

unset_longer : (settings : List Setting) (end : List ℕ) (from i : ℕ) → begins_one settings (end ++ i ∷ []) ≡ false → AreUnset settings end from i
    → AreUnset settings end from (i + 1)
unset_longer settings end from i off unset n low high = elim (cases_lt n i) [ inl less ↦ unset n low less | inr more ↦ here (omega arith) ]
  where
    here : n ≡ i → begins_one settings (end ++ n ∷ []) ≡ false
    here e = ap (λ (k : ℕ). begins_one settings (end ++ k ∷ [])) e ∙ off

-- a nibble that no key goes on with
pub run_longer : (settings : List Setting) (end : List ℕ) (i : ℕ) (nodes : List Sibling) → begins_one settings (end ++ i ∷ []) ≡ false → IsRun settings end i nodes
    → IsRun settings end (i + 1) nodes
run_longer settings end i nodes off r =
    record { from = r.from; low = omega (arith, r.low); within = wider r.from i nodes r.within; unset = unset_longer settings end r.from i off r.unset }

pub run_added : (settings : List Setting) (end : List ℕ) (i : ℕ) (nodes : List Sibling) (s : Sibling) → s.nibble ≡ i → begins_one settings (end ++ i ∷ []) ≡ false
    → IsRun settings end i nodes → IsRun settings end (i + 1) (nodes ++ s ∷ [])
run_added settings end i nodes s at off r =
    let low : r.from ≤ i = r.low in
    record {
      from = r.from;
      low = omega (arith, low);
      within = all_joined (IsWithin r.from (i + 1)) nodes (s ∷ []) (wider r.from i nodes r.within) ((omega (arith, at), omega (arith, at)), tt);
      unset = unset_longer settings end r.from i off r.unset;
    }
