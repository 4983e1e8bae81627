use Rattle.std.proofs.Common.{◌≡◌, ◌<◌, ℕ, true, false, eqb, Some, length, drop, ap, arith, eq-eqb, inl, inr, length-drop}
use Rattle.std.proofs.lemmas.Bool.Decides.{eqb_tells}
use Rattle.sdb_base.specs.Nibbles.{nibbles_of}
use Rattle.trie_root.proofs.Nibble.{length-nibbles_of}
use Rattle.trie_root.proofs.root.value_ending_at.Goals as goal

pub returns-then-len-at : goal.returns-then-len-at
returns-then-len-at c =
    let ns = nibbles_of c.args.pair.now.key in
    let ends : eqb (length (drop c.args.at ns)) 0 ≡ true =
    eq-eqb _ _ (omega (arith, length-drop c.args.at ns, length-nibbles_of c.args.pair.now.key)) in
    rw ends (ap Some c.as_slice.ensures)

not_none : (n : ℕ) → 0 < n → eqb n 0 ≡ false
not_none n h = elim (eqb_tells n 0) [ inl t ↦ absurd (omega (arith, t.1)) | inr f ↦ f.0 ]

pub returns-else-len-at : goal.returns-else-len-at
returns-else-len-at c =
    let ns = nibbles_of c.args.pair.now.key in
    let on : eqb (length (drop c.args.at ns)) 0 ≡ false =
    not_none _ (omega (arith, length-drop c.args.at ns, length-nibbles_of c.args.pair.now.key)) in
    rw on
