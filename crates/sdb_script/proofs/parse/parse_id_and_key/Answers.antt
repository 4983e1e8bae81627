use Rattle.std.proofs.Common.{◌≡◌, ◌∷◌, [], ℕ, List, Option, Bor, sym, ◌∙◌}
use Rattle.std.proofs.lemmas.Option.{MatchOption-at_some}
use Rattle.sdb_script.specs.inner.Reading.{words_left}
use Rattle.sdb_script.proofs.Longer.{asked_longer}
use Rattle.sdb_script.proofs.parse.parse_id_and_key.Goals as goal

-- the word that was read, and those after it
abbrev Next : Option (Bor (List ℕ)) → Bor (List ℕ) × Option (Bor (List ℕ)) → Type 0
Next words x = words_left words ≡ x.0.now ∷ words_left x.1

pub returns-then-is_some : goal.returns-then-is_some
returns-then-is_some c =
    let first = MatchOption-at_some (words_left c.args.words ≡ []) (Next c.args.words) (c.in_ok-id.id, c.in_ok-id.words) c.in_ok-id.ensures.ok_part c.next_word.ensures in
    let second = MatchOption-at_some (words_left c.in_ok-id.words ≡ []) (Next c.in_ok-id.words) (c.in_ok-key.key, c.in_ok-key.rest) c.in_ok-key.ensures.ok_part c.next_word-2.ensures in
    asked_longer c.in_ok-id.id.now c.in_ok-key.key.now c.in_ok-key.rest (words_left c.in_ok-id.words) (words_left c.args.words) (sym c.is_some.ensures ∙ c.if-is_some.true) first second
