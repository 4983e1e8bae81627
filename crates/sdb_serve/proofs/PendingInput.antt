-- What is pending between two lines, and what was taken on top of it.
use Rattle.std.proofs.Common.{◌≡◌, ◌≢◌, ℕ, ◌+◌, ◌<◌, ◌≤◌, List, ◌∷◌, ◌++◌, length, refl, sym, ap, ◌∙◌, arith, inl, inr, None, append_assoc, length-append}
use Rattle.std.proofs.lemmas.Bool.{lt-ltb}
use Rattle.std.proofs.lemmas.List.Elements.{All-append}
use Rattle.sdb_script.specs.Grammar.{line_of, most_in_line}
use Rattle.sdb_serve.proofs.Lines.{first_feed}
use Rattle.sdb_serve.specs.Runs.{HasNoLineFeed, IsNear, most_taken}

pub near : (pending : List ℕ) → HasNoLineFeed pending → length pending ≤ most_in_line + most_taken → IsNear pending
near pending clear few = record { few = few; ahead = inl clear }

-- what was taken for which there is no memory has at most the next line and a chunk
pub near_taken : (pending taken : List ℕ) → HasNoLineFeed pending → length pending ≤ most_in_line → length taken ≤ most_taken
    → IsNear (pending ++ taken)
near_taken pending taken clear low few = record {
  few = omega (arith, length-append pending taken);
  ahead = elim (first_feed taken) [
    | inl none ↦ inl (All-append (λ (c : ℕ). c ≢ 10) pending taken clear none)
    | inr found ↦ inr (
      pending ++ found.0,
      found.1,
      record {
        parts = ap (λ (t : List ℕ). pending ++ t) found.3 ∙ sym (append_assoc pending found.0 (10 ∷ found.1));
        one_line = All-append (λ (c : ℕ). c ≢ 10) pending found.0 clear found.2;
      },
      omega (arith, ap length found.3, length-append found.0 (10 ∷ found.1)),
    )
  ];
}

pub too_long_line : (text : List ℕ) → most_in_line < length text → line_of text ≡ None
unfolding line_of
too_long_line text h = rw (lt-ltb _ _ h) refl
