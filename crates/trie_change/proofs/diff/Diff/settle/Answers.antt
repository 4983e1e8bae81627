use Rattle.std.proofs.Common.{◌≡◌, ℕ, true, List, ◌∷◌, ◌++◌, [], refl, ap, ap₂, sym, ◌∙◌}
use Rattle.std.specs.Str.{bytes_eq}
use Rattle.std.proofs.lemmas.List.{append-nil}
use Rattle.std.proofs.lemmas.Slice.Eq.{bytes_eq-Decides}
use Rattle.sdb_blake2.specs.Blake2b.{H}
use Rattle.sdb_base.specs.declared.node.Node.{Node}
use Rattle.trie_model.specs.Nodes.{PathNode}
use Rattle.trie_change.specs.Deltas.{hashed}
use Rattle.trie_change.specs.declared.diff.Diff.{Diff}
use Rattle.trie_change.proofs.FedNodes.{hash_of_last, kept_same, put_alone, put_changed}
use Rattle.trie_change.proofs.diff.Diff.settle.Goals as goal
use Rattle.trie_change.proofs.diff.Diff.settle.Goals.{in-None, in-Some+else-eq+in_ok-push-in-Some}

put_node : (h b : List ℕ) (n : PathNode) → h ≡ H b → n.bytes ≡ b → (let x : Node = record { hash = record { 0 = h }; bytes = b } in x) ≡ hashed n
put_node h b n e same = let hash : h ≡ H n.bytes = e ∙ ap H (sym same) in ap₂ (λ (x y : List ℕ). let z : Node = record { hash = record { 0 = x }; bytes = y } in z) hash (sym same)

pub returns-then-eq-clause-settled : goal.returns-then-eq-clause-settled
returns-then-eq-clause-settled c = λ k n path bytes is.
    let old = c.in-Some.old in
    let after = c.pop_at.new.self in
    let same : bytes_eq old.bytes c.args.bytes ≡ true = sym c.if-eq.ensures in (
      hash_of_last c.args.self.now after k n is old c.in-Some.ensures.fed ∙ ap H ((bytes_eq-Decides old.bytes c.args.bytes).0 same),
      kept_same c.args.self.now after k n is old c.in-Some.ensures.fed c.in-Some.ensures.puts c.in-Some.ensures.drops
          (ap (λ (x : List ℕ). bytes_eq old.path.items x) path ∙ c.in-Some.ensures.found) (ap (λ (x : List ℕ). bytes_eq old.bytes x) bytes ∙ same),
    )

pub returns-clause-settled : goal.returns-clause-settled
returns-clause-settled c = λ k n path bytes is.
    let before = c.args.self.now in
    let after : Diff = record { fed = c.match-pop_at.self.fed; puts = c.push-2.new.self; drops = c.match-pop_at.self.drops; spare = c.match-pop_at.self.spare } in
    let x : Node = record { hash = record { 0 = c.hash256.result }; bytes = c.args.bytes } in
    let hash : c.hash256.result ≡ H c.args.bytes = c.hash256.ensures ∙ ap H c.as_slice.ensures in
    let put : x ≡ hashed n = put_node c.hash256.result c.args.bytes n hash bytes in (
      hash,
      elim c.match-pop_at.branch [
        | in-None w ↦
            put_alone before after k n is x (ap (λ (d : Diff). d.fed.items) w.self-is ∙ sym (w.in-None.ensures.fed ∙ append-nil _))
            (c.in_ok-push.ensures.items ∙ ap (λ (xs : List Node). xs ++ x ∷ []) (ap (λ (d : Diff). d.puts.items) w.self-is ∙ ap (λ v. v.items) w.in-None.ensures.puts))
            (ap (λ (d : Diff). d.drops.items) w.self-is ∙ ap (λ v. v.items) w.in-None.ensures.drops) put
            (λ fs f e. ap (λ (q : List ℕ). bytes_eq f.path.items q) path ∙ w.in-None.ensures.none fs f refl e)
        | in-Some+else-eq+in_ok-push-in-Some w ↦
            let old = w.in-Some.old in
            put_changed before after k n is old (w.in-Some.ensures.fed ∙ ap (λ (d : Diff). d.fed.items ++ old ∷ []) (sym w.self-is)) x
            (c.in_ok-push.ensures.items ∙ ap (λ (xs : List Node). xs ++ x ∷ []) (ap (λ (d : Diff). d.puts.items) w.self-is ∙ ap (λ v. v.items) w.in-Some.ensures.puts))
            (ap (λ (d : Diff). d.drops.items) w.self-is ∙ w.in_ok-push-in-Some.ensures.items ∙ ap (λ v. v.items ++ old.hash ∷ []) w.in-Some.ensures.drops) put
            (ap (λ (q : List ℕ). bytes_eq old.path.items q) path ∙ w.in-Some.ensures.found)
            (ap (λ (q : List ℕ). bytes_eq old.bytes q) bytes ∙ sym w.if-eq.ensures)
      ],
    )
