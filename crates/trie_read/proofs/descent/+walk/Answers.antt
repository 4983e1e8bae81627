use Rattle.std.proofs.Common.{◌≡◌, ℕ, ◌+◌, ◌-◌, ◌*◌, ◌≤◌, Some, None, true, false, length, drop, arith, ap, sym, ◌∙◌}
use Rattle.std.specs.Prelude.{is_some}
use Rattle.sdb_base.specs.Nibbles.{nibbles_of}
use Rattle.trie_model.specs.Trie.{after_prefix}
use Rattle.trie_codec.specs.NodeParts.{node_of_ref}
use Rattle.trie_root.proofs.Nibble.{length-nibbles_of}
use Rattle.trie_read.specs.inner.Descent.{Ended, way_down}
use Rattle.trie_read.proofs.Descents.{hashed_way, inline_err, inline_ok, on_child, way_ended, way_left, way_none}
use Rattle.trie_read.proofs.descent.+walk.Goals as goal
use Rattle.trie_read.proofs.descent.+walk.Goals.{then-levels-eq0-via-then-levels-eq0, then-levels-eq0-via-else-levels-eq0+then-not-goes_on}

pub returns-then-levels-eq0-clause-outcome : goal.returns-then-levels-eq0-clause-outcome
returns-then-levels-eq0-clause-outcome t c =
    let n = node_of_ref c.args.node.now in
    let ks = drop c.args.at (nibbles_of c.args.key.now) in
    elim c.then-levels-eq0.branch [
      | then-levels-eq0-via-then-levels-eq0 w ↦ way_none n ks ∙ ap (λ (k : ℕ). way_down k n ks) (sym w.if-levels-eq0.true)
      | then-levels-eq0-via-else-levels-eq0+then-not-goes_on w ↦ let off : is_some (after_prefix n.partial ks) ≡ false = cc (w.goes_on.ensures.follows, w.if-not-goes_on.true) in way_left c.args.levels n ks off
    ]

pub returns-then-end-key-clause-outcome : goal.returns-then-end-key-clause-outcome
returns-then-end-key-clause-outcome t c =
    let n = node_of_ref c.args.node.now in
    let ns = nibbles_of c.args.key.now in
    let on : is_some (after_prefix n.partial (drop c.args.at ns)) ≡ true = cc (c.goes_on.ensures.follows, c.if-not-goes_on.false) in
    ap Ended c.value.ensures.bytes ∙ way_ended c.args.levels n c.args.at ns (omega arith) on (omega (arith, length-nibbles_of c.args.key.now, c.partial_len.ensures))

pub returns-in-None-clause-outcome : goal.returns-in-None-clause-outcome
returns-in-None-clause-outcome t c =
    let n = node_of_ref c.args.node.now in
    let ns = nibbles_of c.args.key.now in
    let on : is_some (after_prefix n.partial (drop c.args.at ns)) ≡ true = cc (c.goes_on.ensures.follows, c.if-not-goes_on.false) in
    let fits : c.args.at + length n.partial ≤ 2 * length c.args.key.now = c.goes_on.ensures.fits c.if-not-goes_on.false in
    on_child c.args.levels n c.args.at (c.args.at + c.partial_len.result) ns c.nibble_at.result None (omega arith) on (ap (λ (k : ℕ). c.args.at + k) c.partial_len.ensures)
    (omega (arith, length-nibbles_of c.args.key.now, c.partial_len.ensures)) c.nibble_at.ensures.value c.in-None.ensures.bytes

pub returns-in-Hashed-clause-outcome : goal.returns-in-Hashed-clause-outcome
returns-in-Hashed-clause-outcome t c =
    let n = node_of_ref c.args.node.now in
    let ns = nibbles_of c.args.key.now in
    let on : is_some (after_prefix n.partial (drop c.args.at ns)) ≡ true = cc (c.goes_on.ensures.follows, c.if-not-goes_on.false) in
    let fits : c.args.at + length n.partial ≤ 2 * length c.args.key.now = c.goes_on.ensures.fits c.if-not-goes_on.false in
    hashed_way (way_down (c.args.levels - 1)) c.in-Hashed.hash.now (drop (c.args.at + c.partial_len.result + 1) ns) c.in-Hashed.ensures.borrowed.1
    ∙ on_child c.args.levels n c.args.at (c.args.at + c.partial_len.result) ns c.nibble_at.result (Some c.in-Hashed.hash.now) (omega arith) on (ap (λ (k : ℕ). c.args.at + k) c.partial_len.ensures)
    (omega (arith, length-nibbles_of c.args.key.now, c.partial_len.ensures)) c.nibble_at.ensures.value c.in-Hashed.ensures.bytes

pub returns-in-Ok-clause-outcome : goal.returns-in-Ok-clause-outcome
returns-in-Ok-clause-outcome t c =
    let n = node_of_ref c.args.node.now in
    let ns = nibbles_of c.args.key.now in
    let on : is_some (after_prefix n.partial (drop c.args.at ns)) ≡ true = cc (c.goes_on.ensures.follows, c.if-not-goes_on.false) in
    let fits : c.args.at + length n.partial ≤ 2 * length c.args.key.now = c.goes_on.ensures.fits c.if-not-goes_on.false in
    c.walk.ensures.outcome
    ∙ inline_ok (way_down (c.args.levels - 1)) c.in-Inline.bytes.now (drop (c.args.at + c.partial_len.result + 1) ns) (node_of_ref c.in-Ok.child) c.in-Inline.ensures.borrowed.1 c.in-Ok.ensures.found
    ∙ on_child c.args.levels n c.args.at (c.args.at + c.partial_len.result) ns c.nibble_at.result (Some c.in-Inline.bytes.now) (omega arith) on (ap (λ (k : ℕ). c.args.at + k) c.partial_len.ensures)
    (omega (arith, length-nibbles_of c.args.key.now, c.partial_len.ensures)) c.nibble_at.ensures.value c.in-Inline.ensures.bytes

pub returns-in-Err-clause-outcome : goal.returns-in-Err-clause-outcome
returns-in-Err-clause-outcome t c =
    let n = node_of_ref c.args.node.now in
    let ns = nibbles_of c.args.key.now in
    let on : is_some (after_prefix n.partial (drop c.args.at ns)) ≡ true = cc (c.goes_on.ensures.follows, c.if-not-goes_on.false) in
    let fits : c.args.at + length n.partial ≤ 2 * length c.args.key.now = c.goes_on.ensures.fits c.if-not-goes_on.false in
    inline_err (way_down (c.args.levels - 1)) c.in-Inline.bytes.now (drop (c.args.at + c.partial_len.result + 1) ns) c.in-Err.field-0 c.in-Inline.ensures.borrowed.1 c.in-Err.ensures.fault
    ∙ on_child c.args.levels n c.args.at (c.args.at + c.partial_len.result) ns c.nibble_at.result (Some c.in-Inline.bytes.now) (omega arith) on (ap (λ (k : ℕ). c.args.at + k) c.partial_len.ensures)
    (omega (arith, length-nibbles_of c.args.key.now, c.partial_len.ensures)) c.nibble_at.ensures.value c.in-Inline.ensures.bytes
