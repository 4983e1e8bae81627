use Rattle.std.proofs.Common.{◌≡◌, ℕ, ◌+◌, ◌-◌, List, [], ◌∷◌, ◌++◌, get_or, Option, None, ap, sym, ◌∙◌, arith, append_assoc}
use Rattle.std.proofs.lemmas.List.{append-nil}
use Rattle.std.specs.List.{flat_map}
use Rattle.trie_codec.specs.Slices.{bytes_in}
use Rattle.trie_codec.specs.NodeParts.{child_bytes, node_of_ref}
use Rattle.trie_model.specs.Node.{Node}
use Rattle.trie_root.proofs.ReadOffNibbles.{from}
use Rattle.trie_change.specs.declared.settings.Setting.{Setting}
use Rattle.trie_change.specs.inner.Known.{Known, all_known, known_at, known_in, own_known}
use Rattle.trie_change.specs.inner.Pieces.{all_items}
use Rattle.trie_change.proofs.KnownSteps.{known_begin, known_none, one_child}
use Rattle.trie_change.proofs.expand.+expand.Goals as goal

pub put_items-returns-then-levels-eq0-clause-known : goal.put_items-returns-then-levels-eq0-clause-known
put_items-returns-then-levels-eq0-clause-known t c =
    let n : Node = node_of_ref c.args.node.now in
    sym (append-nil (all_known (all_items c.args.out.now.items))) ∙ ap (λ (ks : List Known). all_known (all_items c.args.out.now.items) ++ ks) (known_none n c.args.path.now)
    ∙ ap (λ (k : ℕ). all_known (all_items c.args.out.now.items) ++ known_in k n c.args.path.now) (sym c.if-levels-eq0.true)

pub put_items-loop-i-init : goal.put_items-loop-i-init
put_items-loop-i-init t c =
    let n : Node = node_of_ref c.args.node.now in
    let key : List ℕ = c.as_slice-key.result.now in
    let f : ℕ → List Known = λ i. known_at (known_in (c.args.levels - 1)) (key ++ i ∷ []) (get_or n.children i None) in
    let before : List Known = all_known (all_items c.args.out.now.items) in
    let own : List Known = own_known key (bytes_in c.value.result) in
    let known : all_known (all_items c.put_own.new.out.items) ++ flat_map f (from 0 16) ≡ before ++ known_in c.args.levels n c.args.path.now =
    ap (λ (ks : List Known). ks ++ flat_map f (from 0 16)) c.in_ok-put_own.ensures.known
    ∙ append_assoc before own (flat_map f (from 0 16))
    ∙ ap (λ (ks : List Known). before ++ ks)
    (known_begin c.args.levels n c.args.path.now key (bytes_in c.value.result) (omega arith) (c.as_slice-key.ensures ∙ c.in_ok-end.ensures) c.value.ensures.bytes) in
    record { known = known; apart = c.in_ok-put_own.ensures.apart }

pub put_items-loop-i-preserved : goal.put_items-loop-i-preserved
put_items-loop-i-preserved t c =
    let n : Node = node_of_ref c.args.node.now in
    let key : List ℕ = c.as_slice-key.result.now in
    let go : Node → List ℕ → List Known = known_in (c.args.levels - 1) in
    let f : ℕ → List Known = λ i. known_at go (key ++ i ∷ []) (get_or n.children i None) in
    let i : ℕ = c.loop-i.i in
    let before : List Known = all_known (all_items c.loop-i.out.items) in
    let here : List Known = known_at go (key ++ i ∷ []) (child_bytes c.child.result) in
    let rest : List Known = flat_map f (from (i + 1) (16 - (i + 1))) in
    let known : all_known (all_items c.put_child.new.out.items) ++ rest ≡ all_known (all_items c.args.out.now.items) ++ known_in c.args.levels n c.args.path.now =
    ap (λ (ks : List Known). ks ++ rest) c.in_ok-put_child.ensures.known
    ∙ append_assoc before here rest
    ∙ ap (λ (o : Option (List ℕ)). before ++ (known_at go (key ++ i ∷ []) o ++ rest)) (sym c.child.ensures.bytes)
    ∙ ap (λ (ks : List Known). before ++ ks) (sym (one_child f i c.loop-i-test.true))
    ∙ c.loop-i.invariant.known in
    record { known = known; apart = λ (settings : List Setting) a. c.in_ok-put_child.ensures.apart settings (c.loop-i.invariant.apart settings a) }
