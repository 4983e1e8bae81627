use Rattle.std.proofs.Common.{◌≡◌, ◌+◌, ◌-◌, ℕ, List, All, length, take, drop, sym, ap, subst}
use Rattle.std.proofs.lemmas.List.{take_rest}
use Rattle.pdb_record.specs.Scans.{Shows}
use Rattle.pdb_record.proofs.Grammar.{has_left, has_there, not_end}
use Rattle.pdb_record.proofs.scanner.Scanner.next.Goals as goal

-- what is left of bytes from a place on
abbrev rest_of : List ℕ → ℕ → List ℕ
rest_of bytes at = take (length bytes - at) (drop at bytes)

pub returns-then-is_end-clause-found : goal.returns-then-is_end-clause-found
returns-then-is_end-clause-found c x has =
    let left : List ℕ = rest_of c.args.self.now.bytes.now c.args.self.now.at in
    absurd (not_end left x (has_left c.args.self.now.bytes.now left c.args.self.now.at x (take_rest c.args.self.now.bytes.now c.args.self.now.at) has) c.if-is_end.ensures)

pub returns-in_default-clause-answer : goal.returns-in_default-clause-answer
returns-in_default-clause-answer c =
    let left : List ℕ = rest_of c.args.self.now.bytes.now c.args.self.now.at in
    let same : left ≡ drop c.args.self.now.at c.args.self.now.bytes.now = take_rest c.args.self.now.bytes.now c.args.self.now.at in (
      (λ x has. c.in_default.ensures.whole x (has_left c.args.self.now.bytes.now left c.args.self.now.at x same has)),
      (λ ended. c.if-is_end.ensures (subst (λ (bytes : List ℕ). All (λ b. b ≡ 0) (take 48 bytes)) (sym same) ended)),
    )

pub returns-in_default-clause-found : goal.returns-in_default-clause-found
returns-in_default-clause-found c x has =
    let left : List ℕ = rest_of c.args.self.now.bytes.now c.args.self.now.at in
    absurd (c.in_default.ensures.whole x (has_left c.args.self.now.bytes.now left c.args.self.now.at x (take_rest c.args.self.now.bytes.now c.args.self.now.at) has))

pub returns-in_default-clause-ended : goal.returns-in_default-clause-ended
returns-in_default-clause-ended c ended =
    absurd (c.if-is_end.ensures (subst (λ (bytes : List ℕ). All (λ b. b ≡ 0) (take 48 bytes)) (sym (take_rest c.args.self.now.bytes.now c.args.self.now.at)) ended))

pub returns-clause-ended : goal.returns-clause-ended
returns-clause-ended c ended =
    absurd (c.if-is_end.ensures (subst (λ (bytes : List ℕ). All (λ b. b ≡ 0) (take 48 bytes)) (sym (take_rest c.args.self.now.bytes.now c.args.self.now.at)) ended))

pub returns-clause-answer : goal.returns-clause-answer
returns-clause-answer c =
    let left : List ℕ = rest_of c.args.self.now.bytes.now c.args.self.now.at in
    let some = c.in-Some.ensures.some in
    (some.0, has_there c.args.self.now.bytes.now left c.args.self.now.at some.0 (take_rest c.args.self.now.bytes.now c.args.self.now.at) some.1, some.2)

pub returns-clause-found : goal.returns-clause-found
returns-clause-found c x has =
    let left : List ℕ = rest_of c.args.self.now.bytes.now c.args.self.now.at in
    let shows : Shows c.in-Some.found x
    = c.in-Some.ensures.whole x (has_left c.args.self.now.bytes.now left c.args.self.now.at x (take_rest c.args.self.now.bytes.now c.args.self.now.at) has) in
    (shows, ap (λ n. c.args.self.now.at + n) (c.len.ensures x shows))
