use Rattle.std.proofs.Common.{rules, ◌≡◌, ℕ, false, ◌+◌, ◌-◌, ◌≤◌, List, [], ◌∷◌, Option, length, get_or, take, drop, replicate, All, Some, None, refl, sym, ap, subst, ◌∙◌, arith, take-append-drop}
use Rattle.std.specs.Prelude.{◌==◌, filter}
use Rattle.std.proofs.lemmas.List.{take_rest}
use Rattle.std.proofs.lemmas.Result.{IfOk-weaker, on_ok_weaker}
use Rattle.sdb_base.specs.declared.node.NodeHash.{NodeHash}
use Rattle.trie_model.specs.Nodes.{PathNode}
use Rattle.trie_model.specs.Node.{spelling}
use Rattle.trie_model.specs.Trie.{below, common}
use Rattle.trie_codec.specs.Parts.{node_with}
use Rattle.trie_change.specs.Frontier.{IsLimited}
use Rattle.trie_change.specs.declared.frontier.Piece.{Piece}
use Rattle.trie_change.specs.declared.frontier.Sibling.{Sibling}
use Rattle.trie_change.specs.declared.build.Made.{Made}
use Rattle.trie_change.specs.declared.build.Made.TheVariants as made
use Rattle.trie_change.specs.inner.Built.{IsMade, IsSpelled, ItemBranch, ItemGroup, is_made, made_of_group, node_of_group, nodes_below, nodes_from, values_below}
use Rattle.trie_change.specs.declared.diff.Diff.{Diff}
use Rattle.trie_change.specs.inner.Diffs.{AreShort, Comparison, IsComparison, after_nodes}
use Rattle.trie_change.specs.inner.Pieces.{all_items, piece_hash, piece_path, piece_value}
use Rattle.trie_change.proofs.ChildValues.{any_there, group_some, longer_path, value_there}
use Rattle.trie_change.proofs.FedNodes.{same_comparison}
use Rattle.trie_change.proofs.KeysAlone.{none_of_key}
use Rattle.trie_change.proofs.MadeGroups.{end_within}
use Rattle.trie_change.proofs.MadeValues.{stored_long, value_hashed}
use Rattle.trie_change.proofs.PieceGroups.{piece_kept, piece_path_taken, pieces_made}
use Rattle.trie_change.proofs.PieceItems.{some_items}
use Rattle.trie_change.proofs.PieceLimits.{limited_head, limited_parts, limited_path, limited_value}
use Rattle.trie_change.proofs.PieceRanks.{long_run}
use Rattle.trie_change.proofs.RunsOfItems.{IsPushed}
use Rattle.trie_change.proofs.PieceRuns.{all_have_come, are_here, are_left, none_are_coming}
use Rattle.trie_change.proofs.PieceSteps.{child_comes, hash_comes, none_comes}
use Rattle.trie_change.proofs.build.+nodes.Goals as goal
use Rattle.trie_change.proofs.build.+nodes.Goals.{put_children-in-Some, put_children-in-Some-2, put_children-in-None+in_ok-put_child-in-None}

some_pieces : (pieces : List Piece) → false ≡ (length pieces == 0) → 1 ≤ length pieces
some_pieces [] e = absurd cc
some_pieces (p ∷ ps) e = omega arith

pub put_child-returns-clause-child : goal.put_child-returns-clause-child
put_child-returns-clause-child t c = λ g k is.
    let at = c.args.at in
    let pieces = c.args.items.now in
    let first = c.index-items-0-2.result in
    let some : 1 ≤ length pieces = some_pieces pieces c.if-is_empty.ensures in
    let some_there : 1 ≤ length (all_items pieces) = some_items pieces some in
    let long : at ≤ length (piece_path first) = subst (λ (p : Piece). at ≤ length (piece_path p)) (sym c.index-items-0-2.is) (c.requires.long 0 first (omega arith)) in
    let n = node_of_group g in
    let there : below g.path g.suffixes ≡ [] → ⊥ = group_some at (all_items pieces) g c.requires.at some_there in
    let path : n.path ≡ c.path_before.result.now = piece_path_taken at pieces g first some c.index-items-0-2.is long ∙ sym c.path_before.ensures in
    on_ok_weaker c.put_value.result
    (λ out. (
      out.0 ∙ ap (λ (o : Option (List ℕ)). o ∷ c.args.children.now) (sym (value_there (below g.path g.suffixes) there)),
      subst (λ (ns : List PathNode). IsComparison c.put_value.new.diff (after_nodes k (filter (is_made g.under) ns)))
          (sym (any_there (nodes_from g.path) (below g.path g.suffixes) there)) out.1,
    ))
    (c.put_value.ensures.value n (made_of_group g) k path (longer_path at (all_items pieces) g c.requires.at) (c.in_ok-made.ensures.made g k is))

pub put_child-returns-in-Some-clause-child : goal.put_child-returns-in-Some-clause-child
put_child-returns-in-Some-clause-child t c = λ g k is.
    let at = c.args.at in
    let pieces = c.args.items.now in
    let first = c.index-items-0.result in
    let some : 1 ≤ length pieces = some_pieces pieces c.if-is_empty.ensures in
    let some_there : 1 ≤ length (all_items pieces) = some_items pieces some in
    let long : at ≤ length (piece_path first) = subst (λ (p : Piece). at ≤ length (piece_path p)) (sym c.index-items-0.is) (c.requires.long 0 first (omega arith)) in
    let n = node_of_group g in
    let there : below g.path g.suffixes ≡ [] → ⊥ = group_some at (all_items pieces) g c.requires.at some_there in
    let made = piece_kept at pieces g first c.in-Some.hash.now k c.args.diff.now some c.index-items-0.is long c.in-Some.ensures is in (
      c.put_hash.ensures.put
          ∙ ap (λ (v : List ℕ). Some v ∷ c.args.children.now) (made.0 ∙ sym (value_hashed n.bytes (stored_long n (longer_path at (all_items pieces) g c.requires.at) made.1)))
          ∙ ap (λ (o : Option (List ℕ)). o ∷ c.args.children.now) (sym (value_there (below g.path g.suffixes) there)),
      subst (λ (ns : List PathNode). IsComparison c.args.diff.now (after_nodes k (filter (is_made g.under) ns)))
          (sym (any_there (nodes_from g.path) (below g.path g.suffixes) there)) made.2,
    )

pub put_children-loop-count-init : goal.put_children-loop-count-init
put_children-loop-count-init t c =
    none_are_coming c.args.at c.args.items.now c.args.diff.now c.args.children.now c.requires.none c.requires.short c.requires.limited

nothing_left : (nodes : List Sibling) → length nodes ≡ 0 → nodes ≡ []
nothing_left [] e = refl
nothing_left (s ∷ nodes) e = absurd (omega (arith, e))

pub put_children-loop-count-preserved : goal.put_children-loop-count-preserved
put_children-loop-count-preserved t c =
    let rest = c.left_here.result.0.now in
    let nodes = c.left_here.result.1.now in
    let children = c.loop-count.children in
    let d = c.loop-count.diff in
    let left = are_left c.args.at c.args.items.now c.args.diff.now c.loop-count.count c.loop-count.rest.now c.loop-count.nodes.now children d c.loop-count.invariant rest nodes
    c.left_here.ensures.same c.left_here.ensures.front in
    elim c.match-split_last.branch [
      | put_children-in-Some w ↦
          let s = w.in-Some.last.now in
          are_here c.args.at c.args.items.now c.args.diff.now (c.loop-count.count + 1) rest w.in-Some.others.now w.put_hash.new.children d
          (hash_comes c.args.at c.args.items.now c.args.diff.now c.loop-count.count rest nodes children d left w.in-Some.others.now s w.put_hash.new.children
          c.loop-count-test.true w.in-Some.ensures.cases.0 w.if-last-count.true w.put_hash.ensures.short w.put_hash.ensures.put)
          c.match-split_last.rest.now c.match-split_last.nodes.now c.match-split_last.children c.match-split_last.diff
          (ap (λ r. r.now) (sym w.rest-is)) (ap (λ r. r.now) (sym w.nodes-is)) (sym w.children-is) (sym w.diff-is)
      | put_children-in-Some-2 w ↦
          let s = w.in-Some.last.now in
          are_here c.args.at c.args.items.now c.args.diff.now (c.loop-count.count + 1) rest nodes w.put_none.new.self d
          (none_comes c.args.at c.args.items.now c.args.diff.now c.loop-count.count rest nodes children d left w.in-Some.others.now s w.put_none.new.self
          c.loop-count-test.true w.in-Some.ensures.cases.0 w.if-last-count.false w.put_none.ensures)
          c.match-split_last.rest.now c.match-split_last.nodes.now c.match-split_last.children c.match-split_last.diff
          (ap (λ r. r.now) (sym w.rest-is)) (ap (λ r. r.now) (sym w.nodes-is)) (sym w.children-is) (sym w.diff-is)
      | put_children-in-None+in_ok-put_child-in-None w ↦
          let start = w.run_start-start.result in
          let out = w.in_ok-put_child-in-None.ensures in
          let run = w.run_start-start.ensures in
          are_here c.args.at c.args.items.now c.args.diff.now (c.loop-count.count + 1) (take start rest) nodes w.put_child.new.children w.put_child.new.diff
          (child_comes c.args.at c.args.items.now c.args.diff.now c.loop-count.count rest nodes children d left start w.put_child.new.children w.put_child.new.diff
          c.loop-count-test.true (nothing_left nodes w.in-None.ensures.cases) run.fits run.run run.other
          (λ p before whole. c.left_here.ensures.none p before (nothing_left nodes w.in-None.ensures.cases) whole)
          out.still_short out.one (out.fits left.fits)
          (subst (λ (ps : List Piece). IsPushed (c.args.at + 1) (all_items ps) children w.put_child.new.children d w.put_child.new.diff) (take_rest rest start) out.child))
          c.match-split_last.rest.now c.match-split_last.nodes.now c.match-split_last.children c.match-split_last.diff
          (ap (λ r. r.now) (sym w.rest-is)) (ap (λ r. r.now) (sym w.nodes-is)) (sym w.children-is) (sym w.diff-is)
    ]

pub put_children-put_child-requires : goal.put_children-put_child-requires
put_children-put_child-requires t c =
    let rest = c.left_here.result.0.now in
    let left = are_left c.args.at c.args.items.now c.args.diff.now c.loop-count.count c.loop-count.rest.now c.loop-count.nodes.now c.loop-count.children c.loop-count.diff
    c.loop-count.invariant rest c.left_here.result.1.now c.left_here.ensures.same c.left_here.ensures.front in
    let start = c.run_start-start.result in (
      search rules,
      (
        omega arith,
        (
          subst (λ (ps : List Piece). All IsLimited (all_items ps)) (sym (take_rest rest start)) (limited_parts (take start rest) (drop start rest) rest (take-append-drop start rest) left.limited).1,
          (
            subst (λ (ps : List Piece). All (λ (p : Piece). c.args.at + 1 ≤ length (piece_path p)) ps) (sym (take_rest rest start)) (long_run c.args.at (15 - c.loop-count.count) (drop start rest) c.run_start-start.ensures.run),
            (left.short, omega (arith, left.so_many, c.loop-count-test.true)),
          ),
        ),
      ),
    )

pub put_children-returns-clause-children : goal.put_children-returns-clause-children
put_children-returns-clause-children t c = λ b k is.
    let all = all_have_come c.args.at c.args.items.now c.args.diff.now c.loop-count.count c.loop-count.rest.now c.loop-count.nodes.now c.loop-count.children c.loop-count.diff
    c.loop-count.invariant (omega arith) b k is in
    all

pub made_of-returns-in-Some-clause-made : goal.made_of-returns-in-Some-clause-made
made_of-returns-in-Some-clause-made t c = λ g k is.
    let first = c.index-items-0.result in
    let long : c.args.at ≤ length (piece_path first) =
    subst (λ (p : Piece). c.args.at ≤ length (piece_path p)) (sym c.index-items-0.is) (c.requires.long 0 first (omega (arith, c.requires.some))) in
    piece_kept c.args.at c.args.items.now g first c.in-Some.hash.now k c.args.diff.now c.requires.some c.index-items-0.is long c.in-Some.ensures is

-- what the first and the last share ends within the first
ends_within : (at n : ℕ) (pieces : List Piece) (d : Piece) → 1 ≤ length pieces → All (λ (p : Piece). at ≤ length (piece_path p)) pieces
    → n ≡ length (common (drop at (piece_path (get_or pieces 0 d))) (drop at (piece_path (get_or pieces (length pieces - 1) d))))
    → at + n ≤ length (piece_path (get_or pieces 0 d))
ends_within at n pieces d some long e =
    omega (arith, e, end_within at (piece_path (get_or pieces 0 d)) (piece_path (get_or pieces (length pieces - 1) d)) (long 0 d (omega arith)))

first_short : (pieces : List Piece) (d : Piece) → 1 ≤ length pieces → All IsLimited (all_items pieces) → length (piece_path (get_or pieces 0 d)) ≤ 2048
first_short [] d some all = absurd (omega arith)
first_short (p ∷ ps) d some all = (limited_path p (limited_head (p ∷ ps) p some refl all)).short

pub made_of-overflow_add-end : goal.made_of-overflow_add-end
made_of-overflow_add-end t c =
    let d = c.index-items-0.result in
    let pieces = c.args.items.now in
    omega (arith, ends_within c.args.at c.shared_of_ends.result pieces d c.requires.some c.requires.long (c.shared_of_ends.ensures d), first_short pieces d c.requires.some c.requires.limited)

pub made_of-put_children-requires : goal.made_of-put_children-requires
made_of-put_children-requires t c =
    let d = c.index-items-0.result in
    let pieces = c.args.items.now in (
      search rules,
      (
        omega (arith, ends_within c.args.at c.shared_of_ends.result pieces d c.requires.some c.requires.long (c.shared_of_ends.ensures d), first_short pieces d c.requires.some c.requires.limited),
        (c.requires.limited, (subst (λ v. AreShort v.items) (sym c.no_children.ensures.puts) c.requires.short, c.in_ok-children.ensures.none)),
      ),
    )

pub made_of-made_node-requires-clause-limited : goal.made_of-made_node-requires-clause-limited
made_of-made_node-requires-clause-limited t c =
    limited_path c.index-items-0-2.result (limited_head c.args.items.now c.index-items-0-2.result c.requires.some c.index-items-0-2.is c.requires.limited)

pub made_of-made_node-requires-clause-value : goal.made_of-made_node-requires-clause-value
made_of-made_node-requires-clause-value t c =
    limited_value (c.args.at + c.shared_of_ends.result) c.index-items-0-2.result
    (limited_head c.args.items.now c.index-items-0-2.result c.requires.some c.index-items-0-2.is c.requires.limited)

pub made_of-made_node-requires-clause-end : goal.made_of-made_node-requires-clause-end
made_of-made_node-requires-clause-end t c =
    let d = c.index-items-0-2.result in
    subst (λ (p : Piece). c.args.at + c.shared_of_ends.result ≤ length (piece_path p)) (sym c.index-items-0-2.is)
    (ends_within c.args.at c.shared_of_ends.result c.args.items.now d c.requires.some c.requires.long (c.shared_of_ends.ensures d))

same_head : (pieces : List Piece) (p q : Piece) → 1 ≤ length pieces → p ≡ get_or pieces 0 p → q ≡ get_or pieces 0 q → p ≡ q
same_head [] p q some e f = absurd (omega arith)
same_head (x ∷ xs) p q some e f = e ∙ sym f

-- the node over all pieces, which are no stub at the path, is what was spelled
spelled_here : (at n : ℕ) (pieces : List Piece) (g : ItemGroup at (all_items pieces)) (first other : Piece) (children : List (Option (List ℕ))) (k : Comparison) (d : Diff)
    → 1 ≤ length pieces → other ≡ get_or pieces 0 other → first ≡ get_or pieces 0 first → All (λ (p : Piece). at ≤ length (piece_path p)) pieces → None ≡ piece_hash at other
    → n ≡ length (common (drop at (piece_path (get_or pieces 0 first))) (drop at (piece_path (get_or pieces (length pieces - 1) first))))
    → ((b : ItemBranch (at + n) (all_items pieces)) → (children ≡ values_below b.group.suffixes b.group.path)
    × IsComparison d (after_nodes k (filter (is_made b.group.under) (nodes_below b.group.suffixes b.group.path))))
    → (m : Made) → IsSpelled (spelling (node_with (take (at + n - at) (drop at (piece_path first))) (piece_value (at + n) first) children)) m
    → IsMade k (node_of_group g) (made_of_group g) d m
spelled_here at n pieces g first other children k d some is_other is long no_hash shares below_it (made.Kept h) spelled = absurd spelled
spelled_here at n pieces g first other children k d some is_other is long no_hash shares below_it (made.New b) spelled =
    let none : (h : NodeHash) → Some h ≡ piece_hash at first → ⊥ = λ h e.
    let both : None ≡ Some h = no_hash ∙ ap (piece_hash at) (same_head pieces other first some is_other is) ∙ sym e in cc in
    let shared : n ≡ length (common (drop at (piece_path first)) (drop at (piece_path (get_or pieces (length pieces - 1) first)))) =
    shares ∙ ap (λ (p : Piece). length (common (drop at (piece_path p)) (drop at (piece_path (get_or pieces (length pieces - 1) first))))) (sym is) in
    pieces_made at (at + n) pieces g first b children k d some is long none (ap (λ (m : ℕ). at + m) shared) below_it spelled

pub made_of-returns-clause-made : goal.made_of-returns-clause-made
made_of-returns-clause-made t c = λ g k is.
    let first = c.index-items-0-2.result in
    let begun = same_comparison c.args.diff.now c.no_children.new.self k c.no_children.ensures.fed c.no_children.ensures.puts c.no_children.ensures.drops is in
    let kept = c.keep_buffer.ensures in
    spelled_here c.args.at c.shared_of_ends.result c.args.items.now g first c.index-items-0.result c.put_children.new.children k c.keep_buffer.new.self
    c.requires.some c.index-items-0.is c.index-items-0-2.is c.requires.long c.in_default.ensures (c.shared_of_ends.ensures first)
    (λ b. (
      (c.in_ok-put_children.ensures.children b k begun).0,
      same_comparison c.put_children.new.diff c.keep_buffer.new.self (after_nodes k (filter (is_made b.group.under) (nodes_below b.group.suffixes b.group.path)))
          kept.fed kept.puts kept.drops (c.in_ok-put_children.ensures.children b k begun).1,
    )) c.in_ok-made.made c.in_ok-made.ensures.spelled

pub made_of-returns-then-is_key_alone-clause-made : goal.made_of-returns-then-is_key_alone-clause-made
made_of-returns-then-is_key_alone-clause-made t c = λ g k is.
    let first = c.index-items-0-then-is_key_alone.result in
    IfOk-weaker c.made_leaf.result _ _
    (spelled_here c.args.at c.shared_of_ends.result c.args.items.now g first c.index-items-0.result (replicate 16 None) k c.args.diff.now
    c.requires.some c.index-items-0.is c.index-items-0-then-is_key_alone.is c.requires.long c.in_default.ensures (c.shared_of_ends.ensures first)
    (λ b. none_of_key (c.args.at + c.shared_of_ends.result) c.args.items.now c.args.diff.now (c.is_key_alone.ensures c.if-is_key_alone.true) b k is))
    c.made_leaf.ensures.spelled

pub made_of-made_leaf-requires-clause-limited : goal.made_of-made_leaf-requires-clause-limited
made_of-made_leaf-requires-clause-limited t c =
    limited_path c.index-items-0-then-is_key_alone.result (limited_head c.args.items.now c.index-items-0-then-is_key_alone.result c.requires.some c.index-items-0-then-is_key_alone.is c.requires.limited)

pub made_of-made_leaf-requires-clause-value : goal.made_of-made_leaf-requires-clause-value
made_of-made_leaf-requires-clause-value t c =
    limited_value (c.args.at + c.shared_of_ends.result) c.index-items-0-then-is_key_alone.result
    (limited_head c.args.items.now c.index-items-0-then-is_key_alone.result c.requires.some c.index-items-0-then-is_key_alone.is c.requires.limited)

pub made_of-made_leaf-requires-clause-end : goal.made_of-made_leaf-requires-clause-end
made_of-made_leaf-requires-clause-end t c =
    let d = c.index-items-0-then-is_key_alone.result in
    subst (λ (p : Piece). c.args.at + c.shared_of_ends.result ≤ length (piece_path p)) (sym c.index-items-0-then-is_key_alone.is)
    (ends_within c.args.at c.shared_of_ends.result c.args.items.now d c.requires.some c.requires.long (c.shared_of_ends.ensures d))
