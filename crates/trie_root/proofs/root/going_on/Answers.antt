use Rattle.std.proofs.Common.{◌≡◌, ℕ, ◌*◌, ◌≤◌, List, [], ◌∷◌, length, get_or, drop, ap, subst, arith}
use Rattle.std.proofs.lemmas.List.{take_rest}
use Rattle.std.proofs.lemmas.List.Elements.{All-head}
use Rattle.sdb_base.specs.declared.Pair.{Pair}
use Rattle.trie_root.specs.inner.Groups.{GoesOn, IsGroup, children_over, suffixes_from}
use Rattle.trie_root.proofs.OneNode.{all_go_on, others_go_on, same_children}
use Rattle.trie_root.proofs.root.going_on.Goals as goal

others : (at : ℕ) (pairs : List Pair) → 1 ≤ length pairs → IsGroup at pairs → GoesOn at (drop 1 pairs)
others at [] h r = absurd (omega arith)
others at (p ∷ ps) h r = others_go_on at p ps r

same : (at : ℕ) (pairs : List Pair) (p : Pair) → 1 ≤ length pairs → p ≡ get_or pairs 0 p → 2 * length p.key ≡ at
    → children_over (suffixes_from at (drop 1 pairs)) ≡ children_over (suffixes_from at pairs)
same at [] p h e k = absurd (omega arith)
same at (q ∷ qs) p h e k = same_children at q qs (subst (λ (x : Pair). 2 * length x.key ≡ at) e k)

longer : (at : ℕ) (pairs : List Pair) (p : Pair) → 1 ≤ length pairs → p ≡ get_or pairs 0 p → (2 * length p.key ≡ at → ⊥) → IsGroup at pairs
    → GoesOn at pairs
longer at [] p h e k r = absurd (omega arith)
longer at (q ∷ qs) p h e k r =
    let differ : 2 * length q.key ≡ at → ⊥ = subst (λ (x : Pair). 2 * length x.key ≡ at → ⊥) e k in
    let long : at ≤ 2 * length q.key = All-head (λ (x : Pair). at ≤ 2 * length x.key) q qs r.long in
    all_go_on at q qs r (omega arith)

pub returns-then-len-at-clause-on : goal.returns-then-len-at-clause-on
returns-then-len-at-clause-on c =
    rw (take_rest c.args.pairs.now 1) (others c.args.at c.args.pairs.now c.requires.some c.requires.group)

pub returns-then-len-at-clause-same : goal.returns-then-len-at-clause-same
returns-then-len-at-clause-same c =
    rw (take_rest c.args.pairs.now 1) (same c.args.at c.args.pairs.now c.index-pairs-0.result c.requires.some c.index-pairs-0.is
    (omega (arith, ap (λ (x : Pair). length x.key) c.index-pairs-0.is)))

pub returns-else-len-at-clause-on : goal.returns-else-len-at-clause-on
returns-else-len-at-clause-on c =
    longer c.args.at c.args.pairs.now c.index-pairs-0.result c.requires.some c.index-pairs-0.is
    (λ e. omega (arith, ap (λ (x : Pair). length x.key) c.index-pairs-0.is)) c.requires.group
