use Rattle.std.proofs.Common.{◌+◌, ◌*◌, ◌/◌, ◌%◌, ◌∷◌, [], ◌++◌, get_or, set, take, ap, sym, refl, ◌∙◌, arith}
use Rattle.std.proofs.lemmas.Grind.{take-set_at}
use Rattle.std.proofs.lemmas.List.{length-set, take_all, take_more}
use Rattle.sdb_base.specs.Nibbles.{nibbles_of}
use Rattle.sdb_base.proofs.Halves.{nibbles_of-push}
use Rattle.trie_change.proofs.nibbles.nibbles_of_32.Goals as goal

pub loop-i-init : goal.loop-i-init
loop-i-init c = record { places = refl; items = refl }

pub loop-i-preserved : goal.loop-i-preserved
loop-i-preserved c =
    let i = c.loop-i.i in
    let key = c.args.key.now in
    let old = c.loop-i.nibbles in
    let b = get_or key i 0 in
    let half = set old (2 * i) (b / 16) in
    let places = c.loop-i.invariant.places in
    let test = c.loop-i-test.true in
    let half-places = length-set old (2 * i) (b / 16) ∙ places in
    record {
      places = length-set half (2 * i + 1) (b % 16) ∙ half-places;
      items =
          take-set_at half (2 * i + 1) (2 * (i + 1)) (b % 16) (omega (arith)) (omega (arith, test, half-places))
          ∙ ap (λ xs. xs ++ (b % 16) ∷ []) (take-set_at old (2 * i) (2 * i + 1) (b / 16) (omega (arith)) (omega (arith, test, places)))
          ∙ ap (λ xs. (xs ++ (b / 16) ∷ []) ++ (b % 16) ∷ []) c.loop-i.invariant.items
          ∙ sym (nibbles_of-push (take i key) b)
          ∙ ap nibbles_of (sym (take_more key i 0 (omega (arith, test, c.requires))));
    }

pub returns : goal.returns
returns c =
    let i = c.loop-i.i in
    let done = c.loop-i-test.false in
    sym (take_all (2 * i) c.loop-i.nibbles (omega (arith, done, c.loop-i.invariant.places)))
    ∙ c.loop-i.invariant.items
    ∙ ap nibbles_of (take_all i c.args.key.now (omega (arith, done, c.requires)))
