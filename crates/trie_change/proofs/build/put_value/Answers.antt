use Rattle.std.proofs.Common.{◌≤◌, ◌<◌, ℕ, List, ◌∷◌, Some, true, false, ap, length, subst, sym, ◌∙◌, arith}
use Rattle.sdb_blake2.specs.Blake2b.{H}
use Rattle.trie_change.specs.inner.Built.{IsMade}
use Rattle.trie_change.specs.inner.Diffs.{after_nodes}
use Rattle.trie_change.proofs.MadeValues.{come_with, long_stored, short_inline, stored_long, value_hashed, value_itself}
use Rattle.trie_change.proofs.build.put_value.Goals as goal

pub returns-then-len-lt-HASH_LEN-clause-value : goal.returns-then-len-lt-HASH_LEN-clause-value
returns-then-len-lt-HASH_LEN-clause-value c = λ n all k path below is.
    let made = subst (IsMade k n all c.args.diff.now) c.in-New.is is in
    let len : length n.bytes < 32 = omega (arith, ap length made.0) in (
      c.put.ensures
          ∙ ap (λ (v : List ℕ). Some v ∷ c.args.children.now) (c.as_slice.ensures ∙ made.0 ∙ sym (value_itself n.bytes len)),
      come_with k n all made.1 c.args.diff.now false (short_inline n below len) made.2 made.3,
    )

pub returns-in-Kept-clause-value : goal.returns-in-Kept-clause-value
returns-in-Kept-clause-value c = λ n all k path below is.
    let made = subst (IsMade k n all c.args.diff.now) c.in-Kept.is is in
    (c.put_hash.ensures.put ∙ ap (λ (v : List ℕ). Some v ∷ c.args.children.now) (made.0 ∙ sym (value_hashed n.bytes (stored_long n below made.1))), made.2)

pub returns-in_ok-hash-in-New-clause-value : goal.returns-in_ok-hash-in-New-clause-value
returns-in_ok-hash-in-New-clause-value c = λ n all k path below is.
    let made = subst (IsMade k n all c.args.diff.now) c.in-New.is is in
    let long : 32 ≤ length n.bytes = omega (arith, ap length made.0, c.len.ensures, c.if-len-lt-HASH_LEN.false) in
    let out = c.in_ok-hash-in-New.ensures.emitted (after_nodes k made.1) n path (sym made.0) made.3 in (
      c.put_hash-in-New.ensures.put ∙ ap (λ (v : List ℕ). Some v ∷ c.args.children.now) (out.0 ∙ ap H made.0 ∙ sym (value_hashed n.bytes long)),
      come_with k n all made.1 c.emit.new.self true (long_stored n long) made.2 out.1,
    )
