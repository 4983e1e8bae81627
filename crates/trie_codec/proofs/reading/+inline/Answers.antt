use Rattle.std.proofs.Common.{◌≡◌, ◌<◌, ◌≤◌, ◌+◌, ◌∷◌, ◌++◌, [], List, ℕ, Option, None, get_or, length, length-set, map, take, set, Ok, drop, refl, sym, ap, ◌∙◌, arith}
use Rattle.std.proofs.lemmas.Result.{IfOk-weaker, err_from_is_err_and}
use Rattle.std.specs.List.{flat_map}
use Rattle.std.proofs.lemmas.List.{drop-map, map_push, take_all}
use Rattle.std.proofs.lemmas.List.Elements.{All-from_get_or}
use Rattle.std.proofs.lemmas.Grind.{take-set_at}
use Rattle.std.specs.Borrow.{Bor}
use Rattle.trie_model.specs.Node.{optional_string}
use Rattle.trie_codec.specs.Slices.{bytes_in}
use Rattle.trie_codec.specs.Places.{IsSliceOf}
use Rattle.trie_codec.specs.Reading.{first_children, reads_inline}
use Rattle.trie_codec.proofs.HashFirst.{hash_read, hash_took}
use Rattle.trie_codec.proofs.Children.{goes_on, ends, is_done}
use Rattle.trie_codec.proofs.Slices.{after_next, more_taken, none_from_next, none_borrowed, one_more_after, one_more_lent, same_after}
use Rattle.trie_codec.proofs.Places.{borrows_within, part_within, some_within}
use Rattle.trie_codec.proofs.Taken.{string_took}
use Rattle.trie_codec.proofs.reading.+inline.Goals as goal

pub read_child-returns-clause-child : goal.read_child-returns-clause-child
read_child-returns-clause-child t c = part_within c.args.bytes c.in_ok-len.rest c.in_ok-child.child (length c.in_ok-child.rest.now) c.in_ok-len.ensures.rest c.in_ok-child.ensures.front

pub read_child-returns-clause-rest : goal.read_child-returns-clause-rest
read_child-returns-clause-rest t c = part_within c.args.bytes c.in_ok-len.rest c.in_ok-child.rest 0 c.in_ok-len.ensures.rest c.in_ok-child.ensures.rest

pub read_child-returns-clause-took : goal.read_child-returns-clause-took
read_child-returns-clause-took t c =
    let all = All-from_get_or (λ b. b < 256) c.args.bytes.now 0 (λ k h. omega (arith, c.type_inv.bytes k)) in
    string_took (c.in_ok-len.len, c.in_ok-len.rest.now) c.args.bytes.now (c.in_ok-child.child.now, c.in_ok-child.rest.now) all c.in_ok-len.ensures.gives c.in_ok-child.ensures.gives

pub read_child-returns-then-bytes-clause-gives : goal.read_child-returns-then-bytes-clause-gives
read_child-returns-then-bytes-clause-gives t c = hash_read (reads_inline c.args.depth) c.args.bytes.now c.if-bytes-gt32.true c.if-bytes.true

pub read_child-returns-then-bytes-clause-took : goal.read_child-returns-then-bytes-clause-took
read_child-returns-then-bytes-clause-took t c = hash_took c.args.bytes.now c.if-bytes-gt32.true

pub read_children-returns-in_err-child-clause-gives : goal.read_children-returns-in_err-child-clause-gives
read_children-returns-in_err-child-clause-gives t c =
    let l = c.loop-i in
    let reads = reads_inline c.args.depth in
    let p = err_from_is_err_and c.from_residual.result c.from_residual.ensures.1 in
    rw (p.1, p.2) (ends reads (map bytes_in (take l.i l.children.found)) l.i l.bits l.children.rest.now c.in_err-child.field-0.0 (first_children reads 16 c.args.bits c.args.bytes.now) (omega arith) c.in_err-child.ensures.gives l.invariant.so_far)

pub read_children-loop-i-preserved : goal.read_children-loop-i-preserved
read_children-loop-i-preserved t c =
    let l = c.loop-i in
    let reads = reads_inline c.args.depth in
    let child = c.in_ok-child.child in
    let found = l.children.found in
    let after = length c.in_ok-child.rest.now in
    let within : l.i < length found = omega (arith, l.invariant.sixteen) in
    let taken : take (l.i + 1) (set found l.i child) ≡ take l.i found ++ child ∷ [] = take-set_at found l.i (l.i + 1) child refl (omega (arith, l.invariant.sixteen)) in
    let e : map bytes_in (take (l.i + 1) (set found l.i child)) ≡ map bytes_in (take l.i found) ++ bytes_in child ∷ [] = ap (map bytes_in) taken ∙ map_push bytes_in (take l.i found) child in record {
      sixteen = length-set found l.i child ∙ l.invariant.sixteen;
      none = none_from_next found l.i child l.invariant.none;
      lent = one_more_after (IsSliceOf c.args.bytes) found l.i child (length l.children.rest.now) after within l.invariant.none c.in_ok-child.ensures.took l.invariant.lent
          (some_within c.args.bytes l.children.rest child after l.invariant.rest c.in_ok-child.ensures.child);
      took = more_taken found l.i child (length c.args.bytes.now) (length l.children.rest.now) after within l.invariant.none c.in_ok-child.ensures.took l.invariant.took;
      small = one_more_lent (λ s. length s.now ≤ 32) found l.i child l.invariant.small c.in_ok-child.ensures.small;
      rest = part_within c.args.bytes l.children.rest c.in_ok-child.rest 0 l.invariant.rest c.in_ok-child.ensures.rest;
      so_far = rw e (goes_on reads (map bytes_in (take l.i found)) l.i l.bits l.children.rest.now (bytes_in child) c.in_ok-child.rest.now (first_children reads 16 c.args.bits c.args.bytes.now) (omega arith) c.in_ok-child.ensures.gives l.invariant.so_far);
    }

pub read_children-returns-clause-gives : goal.read_children-returns-clause-gives
read_children-returns-clause-gives t c =
    let l = c.loop-i in
    let reads = reads_inline c.args.depth in
    let found = l.children.found in
    let all : take l.i found ≡ found = take_all l.i found (omega (arith, l.invariant.sixteen)) in
    is_done reads (map bytes_in (take l.i found)) l.i l.bits l.children.rest.now (first_children reads 16 c.args.bits c.args.bytes.now) (omega arith) l.invariant.so_far
    ∙ ap (λ (cs : List (Option (Bor (List ℕ)))). Ok (map bytes_in cs, l.children.rest.now)) all

pub read_children-returns-clause-children : goal.read_children-returns-clause-children
read_children-returns-clause-children t c = after_next (IsSliceOf c.args.bytes) c.loop-i.children.found (length c.loop-i.children.rest.now) c.loop-i.invariant.lent

pub read_branch-returns-clause-parts : goal.read_branch-returns-clause-parts
read_branch-returns-clause-parts t c =
    let bytes = c.args.bytes in
    let bits = c.in_ok-bits in
    let value = c.in_ok-value in
    let found = c.in_ok-children in
    let cs = found.children.found in
    let rest = length found.children.rest.now in
    let after = part_within bytes bits.rest value.rest 0 bits.ensures.rest value.ensures.rest in
    let later : ℕ → ℕ = λ i. length (flat_map optional_string (map bytes_in (drop (i + 1) cs))) + rest in (
      same_after (IsSliceOf bytes) value.value (length value.rest.now) (length (flat_map optional_string (map bytes_in cs)) + rest) found.ensures.took
          (some_within bytes bits.rest value.value (length value.rest.now) bits.ensures.rest value.ensures.value),
      (λ i. same_after (IsSliceOf bytes) (get_or cs i None) (later i) (length (flat_map optional_string (drop (i + 1) (map bytes_in cs))) + rest)
          (ap (λ (l : List (Option (List ℕ))). length (flat_map optional_string l) + rest) (sym (drop-map bytes_in (i + 1) cs)))
          (some_within bytes value.rest (get_or cs i None) (later i) after (found.ensures.children i))),
    )

pub read_branch-returns-clause-rest : goal.read_branch-returns-clause-rest
read_branch-returns-clause-rest t c =
    let bytes = c.args.bytes in
    let bits = c.in_ok-bits in
    let value = c.in_ok-value in
    let found = c.in_ok-children in
    part_within bytes value.rest found.children.rest 0 (part_within bytes bits.rest value.rest 0 bits.ensures.rest value.ensures.rest) found.ensures.rest

pub read_node-returns-then-header-eq1-clause-parts : goal.read_node-returns-then-header-eq1-clause-parts
read_node-returns-then-header-eq1-clause-parts t c =
    let rest = c.in_ok-partial.rest in
    let after = part_within c.args.bytes c.in_ok-header.rest rest 0 c.in_ok-header.ensures.rest c.in_ok-partial.ensures.rest in
    IfOk-weaker c.read_leaf.result _ _ (λ x lends. borrows_within c.args.bytes rest x.0 (length x.1.now) after lends) c.read_leaf.ensures.parts

pub read_node-returns-then-header-eq1-clause-rest : goal.read_node-returns-then-header-eq1-clause-rest
read_node-returns-then-header-eq1-clause-rest t c =
    let rest = c.in_ok-partial.rest in
    let after = part_within c.args.bytes c.in_ok-header.rest rest 0 c.in_ok-header.ensures.rest c.in_ok-partial.ensures.rest in
    IfOk-weaker c.read_leaf.result _ _ (λ x part. part_within c.args.bytes rest x.1 0 after part) c.read_leaf.ensures.rest

pub read_node-returns-else-header-eq1-clause-parts : goal.read_node-returns-else-header-eq1-clause-parts
read_node-returns-else-header-eq1-clause-parts t c =
    let rest = c.in_ok-partial.rest in
    let after = part_within c.args.bytes c.in_ok-header.rest rest 0 c.in_ok-header.ensures.rest c.in_ok-partial.ensures.rest in
    IfOk-weaker c.read_branch.result _ _ (λ x lends. borrows_within c.args.bytes rest x.0 (length x.1.now) after lends) c.read_branch.ensures.parts

pub read_node-returns-else-header-eq1-clause-rest : goal.read_node-returns-else-header-eq1-clause-rest
read_node-returns-else-header-eq1-clause-rest t c =
    let rest = c.in_ok-partial.rest in
    let after = part_within c.args.bytes c.in_ok-header.rest rest 0 c.in_ok-header.ensures.rest c.in_ok-partial.ensures.rest in
    IfOk-weaker c.read_branch.result _ _ (λ x part. part_within c.args.bytes rest x.1 0 after part) c.read_branch.ensures.rest

pub read_node-invariant_of-empty-clause-small : goal.read_node-invariant_of-empty-clause-small
read_node-invariant_of-empty-clause-small t c = λ i. none_borrowed (λ s. length s.now ≤ 32) 16 i
