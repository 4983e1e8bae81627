use Rattle.std.proofs.Common.{ℕ, ◌+◌, ◌-◌, List, [], ◌∷◌, ◌++◌, get_or, Option, None, Bool, ap, sym, ◌∙◌, arith, append_assoc}
use Rattle.std.proofs.lemmas.List.{append-nil}
use Rattle.std.specs.List.{flat_map}
use Rattle.trie_codec.specs.Slices.{bytes_in}
use Rattle.trie_codec.specs.NodeParts.{child_bytes, node_of_ref}
use Rattle.trie_model.specs.Node.{Node}
use Rattle.trie_root.proofs.ReadOffNibbles.{from}
use Rattle.trie_read.specs.inner.Parts.{Piece, child_parts, sought_paths, sought_keys, own_parts, parts_in, as_pieces}
use Rattle.trie_read.proofs.PartSteps.{one_child, parts_begin, parts_none}
use Rattle.trie_read.proofs.parts.+parts.Goals as goal

pub put_parts-returns-then-levels-eq0 : goal.put_parts-returns-then-levels-eq0
put_parts-returns-then-levels-eq0 t c =
    let keeps : List ℕ → Bool = sought_keys c.args.sought in
    let goes : List ℕ → Bool = sought_paths c.args.sought in
    let n : Node = node_of_ref c.args.node.now in
    sym (append-nil (as_pieces c.args.out.now.items)) ∙ ap (λ (ps : List Piece). as_pieces c.args.out.now.items ++ ps) (parts_none keeps goes n c.args.path.now)
    ∙ ap (λ (k : ℕ). as_pieces c.args.out.now.items ++ parts_in keeps goes k n c.args.path.now) (sym c.if-levels-eq0.true)

pub put_parts-loop-i-init : goal.put_parts-loop-i-init
put_parts-loop-i-init t c =
    let keeps : List ℕ → Bool = sought_keys c.args.sought in
    let goes : List ℕ → Bool = sought_paths c.args.sought in
    let n : Node = node_of_ref c.args.node.now in
    let key : List ℕ = c.as_slice-key.result.now in
    let f : ℕ → List Piece = λ i. child_parts goes (parts_in keeps goes (c.args.levels - 1)) (key ++ i ∷ []) (get_or n.children i None) in
    let before : List Piece = as_pieces c.args.out.now.items in
    let own : List Piece = own_parts keeps key (bytes_in c.value.result) in
    ap (λ (ps : List Piece). ps ++ flat_map f (from 0 16)) c.in_ok-put_own.ensures
    ∙ append_assoc before own (flat_map f (from 0 16))
    ∙ ap (λ (ps : List Piece). before ++ ps)
    (parts_begin keeps goes c.args.levels n c.args.path.now key (bytes_in c.value.result) (omega arith) (c.as_slice-key.ensures ∙ c.in_ok-end.ensures) c.value.ensures.bytes)

pub put_parts-loop-i-preserved : goal.put_parts-loop-i-preserved
put_parts-loop-i-preserved t c =
    let keeps : List ℕ → Bool = sought_keys c.args.sought in
    let goes : List ℕ → Bool = sought_paths c.args.sought in
    let n : Node = node_of_ref c.args.node.now in
    let key : List ℕ = c.as_slice-key.result.now in
    let go : Node → List ℕ → List Piece = parts_in keeps goes (c.args.levels - 1) in
    let f : ℕ → List Piece = λ i. child_parts goes go (key ++ i ∷ []) (get_or n.children i None) in
    let i : ℕ = c.loop-i.i in
    let before : List Piece = as_pieces c.loop-i.out.items in
    let here : List Piece = child_parts goes go (key ++ i ∷ []) (child_bytes c.child.result) in
    let rest : List Piece = flat_map f (from (i + 1) (16 - (i + 1))) in
    ap (λ (ps : List Piece). ps ++ rest) c.in_ok-put_child.ensures
    ∙ append_assoc before here rest
    ∙ ap (λ (o : Option (List ℕ)). before ++ (child_parts goes go (key ++ i ∷ []) o ++ rest)) (sym c.child.ensures.bytes)
    ∙ ap (λ (ps : List Piece). before ++ ps) (sym (one_child f i c.loop-i-test.true))
    ∙ c.loop-i.invariant
