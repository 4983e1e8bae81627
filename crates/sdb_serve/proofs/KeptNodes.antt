-- What a commit of references leaves of the nodes that were kept.
use Rattle.std.proofs.Common.{◌≡◌, ℕ, Bool, true, false, cond, List, [], ◌∷◌, ◌++◌, Option, Some, None, refl, sym, ap, subst, ◌∙◌, inl, inr}
use Rattle.std.specs.Prelude.{Contains}
use Rattle.std.specs.Str.{bytes_eq}
use Rattle.std.proofs.lemmas.Cmp.{nat_list_eq_equiv}
use Rattle.sdb_base.specs.Content.{Counted, node_after, node_from, node_under, with_reference}
use Rattle.sdb_base.specs.Keeping.{Commits, HasShortKey, IsNodeAnswer, operations}
use Rattle.sdb_base.specs.declared.node.Node.{Node}
use Rattle.sdb_blake2.specs.Blake2b.{H}
use Rattle.sdb_base.proofs.Commits.{node_more}
use Rattle.std.specs.List.{AllByRecursion}
use Rattle.sdb_base.specs.declared.op.Op.{Op}
use Rattle.trie_read.proofs.Among.{Among, among_from}
use Rattle.sdb_serve.specs.BlockCommits.{reference_to, references_to}
use Rattle.sdb_serve.specs.inner.Kept.{IsKept}

-- bytes stay under a key
abbrev Stays : List ℕ → Option Counted → Type 0
Stays bytes now = (d : Counted) × (now ≡ Some d) × (d.bytes ≡ bytes)

one_stays : (t : Bool) (c : Counted) (bytes : List ℕ) → Stays c.bytes (cond t (with_reference bytes (Some c)) (Some c))
one_stays true c bytes = (_, refl, refl)
one_stays false c bytes = (c, refl, refl)

from_same : (key : List ℕ) (a b : Option Counted) (bytes : List ℕ) (ops : List Op) → a ≡ b → Stays bytes (node_from key b ops) → Stays bytes (node_from key a ops)
from_same key a b bytes ops e s = (s.0, ap (λ now. node_from key now ops) e ∙ s.1, s.2)

pub stays : (key : List ℕ) (c : Counted) (ns : List Node) → Stays c.bytes (node_from key (Some c) (references_to ns))
stays key c [] = (c, refl, refl)
stays key c (n ∷ ns) =
    let one = one_stays (bytes_eq n.hash.0 key) c n.bytes in
    let more = stays key one.0 ns in
    let all = from_same key (node_after key (Some c) (reference_to n)) (Some one.0) one.0.bytes (references_to ns) one.1 more in
    (all.0, all.1, all.2 ∙ one.2)

-- a node that gets a reference has bytes under its hash
with_some : (bytes : List ℕ) (now : Option Counted) → (d : Counted) × (with_reference bytes now ≡ Some d)
with_some bytes None = (_, refl)
with_some bytes (Some c) = (_, refl)

pub is_there : (n : Node) (now : Option Counted) (ns : List Node) → Among n ns → (d : Counted) × (node_from n.hash.0 now (references_to ns) ≡ Some d)
is_there n now [] a = absurd a
is_there n now (o ∷ ns) (inl e) =
    let there = with_some o.bytes now in
    let test : bytes_eq o.hash.0 n.hash.0 ≡ true = ap (λ (m : Node). bytes_eq m.hash.0 n.hash.0) e ∙ nat_list_eq_equiv.refl n.hash.0 in
    let first : node_after n.hash.0 now (reference_to o) ≡ Some there.0 = ap (λ t. cond t (with_reference o.bytes now) now) test ∙ there.1 in
    let more = stays n.hash.0 there.0 ns in
    (more.0, ap (λ s. node_from n.hash.0 s (references_to ns)) first ∙ more.1)
is_there n now (o ∷ ns) (inr a) = is_there n (node_after n.hash.0 now (reference_to o)) ns a

pub short_keys : (ns : List Node) → AllByRecursion HasShortKey (references_to ns)
short_keys [] = tt
short_keys (n ∷ ns) = (tt, short_keys ns)

-- Nodes were added by a commit: what was kept still is, and each of the nodes has bytes under its hash.
pub record AddsNodes (commits : Commits) (puts : List Node) : Type 0 where
  pub still : (key : List ℕ) (c : Counted) → node_under (operations commits) key ≡ Some c
      → (d : Counted) × (node_under (operations (commits ++ references_to puts ∷ [])) key ≡ Some d) × (d.bytes ≡ c.bytes)
  pub each : (n : Node) → Contains puts n → (d : Counted) × (node_under (operations (commits ++ references_to puts ∷ [])) n.hash.0 ≡ Some d)

pub adds_nodes : (commits : Commits) (puts : List Node) → AddsNodes commits puts
adds_nodes commits puts =
    let now : (key : List ℕ) → node_under (operations (commits ++ references_to puts ∷ [])) key ≡ node_from key (node_under (operations commits) key) (references_to puts) =
    λ key. sym (node_more commits (references_to puts) key) in
    record {
      still = λ key c e. let s = stays key c puts in (s.0, now key ∙ ap (λ o. node_from key o (references_to puts)) e ∙ s.1, s.2);
      each = λ n there. let s = is_there n (node_under (operations commits) n.hash.0) puts (among_from n puts there) in (s.0, now n.hash.0 ∙ s.1);
    }

-- what a keeper may answer for the hash of bytes that are kept
pub kept_answer : (commits : Commits) (bytes hash : List ℕ) (r : Option (List ℕ)) → IsKept commits bytes → hash ≡ H bytes
    → IsNodeAnswer commits hash (node_under (operations commits) hash) r → r ≡ Some bytes
kept_answer commits bytes hash r kept e answer =
    let there : node_under (operations commits) hash ≡ Some kept.0 = ap (node_under (operations commits)) e ∙ kept.1 in
    subst (λ (o : Option Counted). IsNodeAnswer commits hash o r) there answer ∙ ap Some kept.2
