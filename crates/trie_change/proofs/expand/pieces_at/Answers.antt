use Rattle.std.proofs.Common.{◌≡◌, ℕ, zero, suc, ◌+◌, ◌-◌, List, [], ◌∷◌, ◌++◌, get_or, false, Option, None, Some, refl, ap, subst, sym, ◌∙◌, arith}
use Rattle.std.proofs.lemmas.List.{append-nil}
use Rattle.std.specs.List.{AllByRecursion, flat_map}
use Rattle.trie_codec.specs.Slices.{bytes_in}
use Rattle.trie_codec.specs.NodeParts.{child_bytes, node_of_ref}
use Rattle.trie_model.specs.Node.{Node, has_child}
use Rattle.trie_root.proofs.ReadOffNibbles.{from}
use Rattle.trie_read.proofs.Childless.{no_branch}
use Rattle.trie_change.specs.declared.frontier.Sibling.{Sibling}
use Rattle.trie_change.specs.declared.settings.Setting.{Setting}
use Rattle.trie_change.specs.inner.InOrder.{IsRising, begins_one}
use Rattle.trie_change.specs.inner.Known.{Known, all_known, known_at, known_in, own_known}
use Rattle.trie_change.specs.inner.Pieces.{IsAside, all_items, sibling_items}
use Rattle.trie_change.proofs.ApartRuns.{run_apart}
use Rattle.trie_change.proofs.KnownRuns.{after_run, sibling_known, to_run}
use Rattle.trie_change.proofs.KnownSteps.{known_begin, one_child}
use Rattle.trie_change.proofs.SiblingRuns.{IsRun, run_added, run_longer, run_none}
use Rattle.trie_change.proofs.expand.pieces_at.Goals as goal

pub loop-i-init : goal.loop-i-init
loop-i-init c =
    let n : Node = node_of_ref c.args.node.now in
    let end : List ℕ = c.args.end.now in
    let f : ℕ → List Known = λ i. known_at (known_in 32) (end ++ i ∷ []) (get_or n.children i None) in
    let own : List Known = own_known end (bytes_in c.value.result) in
    let none : all_known (sibling_items end c.new-run.result.items) ≡ [] = ap (λ (ss : List Sibling). all_known (sibling_items end ss)) c.new-run.ensures.items in
    let first : all_known (all_items c.put_own.new.out.items) ≡ own =
    c.in_ok-put_own.ensures.known ∙ ap (λ ps. all_known (all_items ps) ++ own) c.in_ok-pieces.ensures.items in
    record {
      known = λ path at.
          ap (λ (ks : List Known). ks ++ (all_known (sibling_items end c.new-run.result.items) ++ flat_map f (from 0 16))) first
          ∙ ap (λ (ks : List Known). own ++ (ks ++ flat_map f (from 0 16))) none
          ∙ known_begin 33 n path end (bytes_in c.value.result) (omega arith) at c.value.ensures.bytes;
      apart = λ rising. c.in_ok-put_own.ensures.apart c.args.settings.now (subst (λ ps. AllByRecursion (IsAside c.args.settings.now) ps) (sym c.in_ok-pieces.ensures.items) tt);
      run = λ rising. subst (λ (ss : List Sibling). IsRun c.args.settings.now end 0 ss) (sym c.new-run.ensures.items) (run_none c.args.settings.now end 0);
    }

pub loop-i-preserved-in-Some : goal.loop-i-preserved-in-Some
loop-i-preserved-in-Some c =
    let n : Node = node_of_ref c.args.node.now in
    let end : List ℕ = c.args.end.now in
    let i : ℕ = c.loop-i.i in
    let go : Node → List ℕ → List Known = known_in 32 in
    let f : ℕ → List Known = λ i. known_at go (end ++ i ∷ []) (get_or n.children i None) in
    let before : List Known = all_known (all_items c.loop-i.pieces.items) in
    let run : List Sibling = c.loop-i.run.items in
    let s : Sibling = record { nibble = i; hash = record { 0 = c.in-Some.hash.now } } in
    let rest : List Known = flat_map f (from (i + 1) (16 - (i + 1))) in
    let known : (path : List ℕ) → end ≡ path ++ n.partial → before ++ (all_known (sibling_items end c.push_sibling.new.run.items) ++ rest) ≡ known_in 33 n path = λ path at.
    ap (λ (ss : List Sibling). before ++ (all_known (sibling_items end ss) ++ rest)) (c.in_ok-push_sibling.ensures s refl refl)
    ∙ ap (λ (ks : List Known). before ++ (ks ++ rest))
    (sibling_known go end run s i (get_or n.children i None) refl c.in-Some.ensures.some.1 (c.child-child.ensures.bytes ∙ c.in-Some.ensures.some.2) c.in-Some.ensures.some.3)
    ∙ to_run before (all_known (sibling_items end run)) (f i) rest
    ∙ ap (λ (ks : List Known). before ++ (all_known (sibling_items end run) ++ ks)) (sym (one_child f i c.loop-i-test.true))
    ∙ c.loop-i.invariant.known path at in
    let off : IsRising c.args.settings.now → begins_one c.args.settings.now (end ++ i ∷ []) ≡ false =
    λ rising. sym (c.nibbles_set-set.ensures i rising c.loop-i-test.true) ∙ c.in-Some.ensures.some.0 in
    record {
      known = known;
      apart = c.loop-i.invariant.apart;
      run = λ rising. subst (λ (ss : List Sibling). IsRun c.args.settings.now end (i + 1) ss) (sym (c.in_ok-push_sibling.ensures s refl refl))
          (run_added c.args.settings.now end i run s refl (off rising) (c.loop-i.invariant.run rising));
    }

pub loop-i-preserved-in-None : goal.loop-i-preserved-in-None
loop-i-preserved-in-None c =
    let n : Node = node_of_ref c.args.node.now in
    let end : List ℕ = c.args.end.now in
    let i : ℕ = c.loop-i.i in
    let f : ℕ → List Known = λ i. known_at (known_in 32) (end ++ i ∷ []) (get_or n.children i None) in
    let settings : List Setting = c.args.settings.now in
    let before : List Known = all_known (all_items c.loop-i.pieces.items) in
    let run : List Sibling = c.loop-i.run.items in
    let rest : List Known = flat_map f (from (i + 1) (16 - (i + 1))) in
    let nothing : get_or n.children i None ≡ None = c.child-child.ensures.bytes ∙ ap child_bytes c.in-None.is in
    let known : (path : List ℕ) → end ≡ path ++ n.partial → before ++ (all_known (sibling_items end run) ++ rest) ≡ known_in 33 n path = λ path at.
    ap (λ (o : Option (List ℕ)). before ++ (all_known (sibling_items end run) ++ (known_at (known_in 32) (end ++ i ∷ []) o ++ rest))) (sym nothing)
    ∙ ap (λ (ks : List Known). before ++ (all_known (sibling_items end run) ++ ks)) (sym (one_child f i c.loop-i-test.true))
    ∙ c.loop-i.invariant.known path at in
    record {
      known = known;
      apart = c.loop-i.invariant.apart;
      run = λ rising. run_longer settings end i run (sym (c.nibbles_set-set.ensures i rising c.loop-i-test.true) ∙ c.if-not-is_set.true) (c.loop-i.invariant.run rising);
    }

pub loop-i-preserved : goal.loop-i-preserved
loop-i-preserved c =
    let n : Node = node_of_ref c.args.node.now in
    let end : List ℕ = c.args.end.now in
    let i : ℕ = c.loop-i.i in
    let go : Node → List ℕ → List Known = known_in 32 in
    let f : ℕ → List Known = λ i. known_at go (end ++ i ∷ []) (get_or n.children i None) in
    let settings : List Setting = c.args.settings.now in
    let before : List Known = all_known (all_items c.loop-i.pieces.items) in
    let run : List Sibling = c.loop-i.run.items in
    let after : List Known = all_known (all_items c.put_after_run.new.out.items) in
    let others : List Sibling = c.new-run-in-loop-i.result.items in
    let rest : List Known = flat_map f (from (i + 1) (16 - (i + 1))) in
    let none : others ≡ [] = c.new-run-in-loop-i.ensures.items in
    let run_ended : after ++ all_known (sibling_items end others) ≡ (before ++ all_known (sibling_items end run)) ++ known_at go (end ++ i ∷ []) (child_bytes c.child-child.result) =
    ap (λ (ss : List Sibling). after ++ all_known (sibling_items end ss)) none ∙ append-nil after ∙ c.in_ok-put_after_run.ensures.known in
    let known : (path : List ℕ) → end ≡ path ++ n.partial → after ++ (all_known (sibling_items end others) ++ rest) ≡ known_in 33 n path = λ path at.
    after_run before (all_known (sibling_items end run)) (known_at go (end ++ i ∷ []) (child_bytes c.child-child.result)) after (all_known (sibling_items end others)) rest
    run_ended
    ∙ ap (λ (o : Option (List ℕ)). before ++ (all_known (sibling_items end run) ++ (known_at go (end ++ i ∷ []) o ++ rest))) (sym c.child-child.ensures.bytes)
    ∙ ap (λ (ks : List Known). before ++ (all_known (sibling_items end run) ++ ks)) (sym (one_child f i c.loop-i-test.true))
    ∙ c.loop-i.invariant.known path at in
    record {
      known = known;
      apart = λ rising. c.in_ok-put_after_run.ensures.apart settings (run_apart settings end i run (c.loop-i.invariant.run rising)) (c.loop-i.invariant.apart rising);
      run = λ rising. subst (λ (ss : List Sibling). IsRun settings end (i + 1) ss) (sym none) (run_none settings end (i + 1));
    }

-- a node without children has its own key alone
childless : (f : ℕ → Option (List ℕ)) → ((i : ℕ) → f i ≡ None) → (end : List ℕ) (is : List ℕ) → flat_map (λ i. known_at (known_in 32) (end ++ i ∷ []) (f i)) is ≡ []
childless f none end [] = refl
childless f none end (i ∷ is) = ap (λ (o : Option (List ℕ)). known_at (known_in 32) (end ++ i ∷ []) o ++ flat_map (λ i. known_at (known_in 32) (end ++ i ∷ []) (f i)) is) (none i) ∙ childless f none end is

none_there : (cs : List (Option (List ℕ))) (i : ℕ) → has_child cs ≡ false → get_or cs i None ≡ None
none_there [] i e = refl
none_there (None ∷ cs) zero e = refl
none_there (None ∷ cs) (suc i) e = none_there cs i e
none_there (Some c ∷ cs) i e = absurd cc

pub returns-in_default-clause-known : goal.returns-in_default-clause-known
returns-in_default-clause-known c = λ path at.
    let n : Node = node_of_ref c.args.node.now in
    let end : List ℕ = c.args.end.now in
    let own : List Known = own_known end (bytes_in c.value.result) in
    let f : ℕ → List Known = λ i. known_at (known_in 32) (end ++ i ∷ []) (get_or n.children i None) in
    let nothing : flat_map f (from 0 16) ≡ [] =
    childless (λ i. get_or n.children i None) (λ i. none_there n.children i (no_branch (has_child n.children) n.value (λ e. c.in_default.not-Branch (c.kind.ensures ∙ e)))) end (from 0 16) in
    c.in_ok-put_own.ensures.known ∙ ap (λ ps. all_known (all_items ps) ++ own) c.in_ok-pieces.ensures.items
    ∙ sym (append-nil own) ∙ ap (λ (ks : List Known). own ++ ks) (sym nothing)
    ∙ known_begin 33 n path end (bytes_in c.value.result) (omega arith) at c.value.ensures.bytes

pub returns-in_default-clause-apart : goal.returns-in_default-clause-apart
returns-in_default-clause-apart c = λ rising.
    c.in_ok-put_own.ensures.apart c.args.settings.now (subst (λ ps. AllByRecursion (IsAside c.args.settings.now) ps) (sym c.in_ok-pieces.ensures.items) tt)

pub returns-clause-apart : goal.returns-clause-apart
returns-clause-apart c = λ rising.
    c.in_ok-put_run.ensures.apart c.args.settings.now
    (run_apart c.args.settings.now c.args.end.now c.loop-i.i c.loop-i.run.items (c.loop-i.invariant.run rising)) (c.loop-i.invariant.apart rising)
