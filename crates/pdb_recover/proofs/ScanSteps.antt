-- Steps of the scan of a log file.
use Rattle.std.proofs.Common.{◌≡◌, ◌⊎◌, inl, inr, ⊎_elim, ℕ, ◌+◌, ◌≤◌, ◌<◌, List, [], ◌∷◌, ◌++◌, Option, Some, None, length, refl, sym, ◌∙◌, ap, subst, arith, length-append}
use Rattle.std.specs.Prelude.{Contains, MatchOption}
use Rattle.pdb_disk.specs.Files.{FileBytes}
use Rattle.pdb_model.specs.Logs.{AreInARow, StandsWhole}
use Rattle.pdb_model.specs.Records.{Record, record_bytes}
use Rattle.pdb_record.specs.declared.heads.Head.{Head}
use Rattle.pdb_log.proofs.Members.{In, from_in, to_in}
use Rattle.pdb_recover.specs.Scanning.{HeaderGoesOn, HasScanned, IsFront}
use Rattle.pdb_recover.specs.declared.cursor.Cursor.{Cursor}
use Rattle.pdb_recover.specs.inner.ScanSteps.{Steps}
use Rattle.pdb_recover.proofs.ReadRecords.{Headed, no_record, record_head}

-- the header after a record, where it goes on with the numbers
abbrev pub IsNext : Option Head → ℕ → Option Head → Type 0
IsNext next number o = MatchOption o ((h : Head) → next ≡ Some h → h.number ≡ number + 1 → ⊥) (λ h. (next ≡ Some h) × (h.number ≡ number + 1))

pub scanned_more : (c : FileBytes) (cursor : Cursor) (n m : ℕ) → n ≤ m → HasScanned c cursor n → HasScanned c cursor m
scanned_more c cursor n m more h = record {
  first = h.first;
  before = h.before;
  row = h.row;
  below = λ r k. let l = h.below r k in omega (arith, l, more);
  next = h.next;
  front = h.front;
}

row_push : (c : FileBytes) (at n : ℕ) (rs : List Record) (p : ℕ) (r : Record) → AreInARow c at n rs p → StandsWhole c p r → r.number ≡ n + length rs
    → AreInARow c at n (rs ++ r ∷ []) (p + length (record_bytes r))
row_push c at n [] p r e w k = (omega (arith, k), subst (λ q. StandsWhole c q r) e w, ap (λ q. q + length (record_bytes r)) e)
row_push c at n (s ∷ rs) p r h w k = (h.0, h.1, row_push c (at + length (record_bytes s)) (n + 1) rs p r h.2 w (omega (arith, k)))

in_push : (rs : List Record) (r s : Record) → In (rs ++ r ∷ []) s → In rs s ⊎ (r ≡ s)
in_push [] r s i = ⊎_elim (λ e. inr e) (λ j. absurd j) i
in_push (t ∷ rs) r s i = ⊎_elim (λ e. inl (inl e)) (λ j. ⊎_elim (λ k. inl (inr k)) (λ e. inr e) (in_push rs r s j)) i

below_push : (rs : List Record) (r : Record) (m : ℕ) → ((s : Record) → Contains rs s → s.number < m) → r.number < m → (s : Record) → Contains (rs ++ r ∷ []) s → s.number < m
below_push rs r m below low s h = ⊎_elim
    (λ i. below s (from_in rs s i))
    (λ e. let k = ap (λ (t : Record). t.number) e in omega (arith, k, low))
    (in_push rs r s (to_in (rs ++ r ∷ []) s h))

front_push : (c : FileBytes) (rs : List Record) (r : Record) (o : Option Head) → IsFront c (rs ++ r ∷ []) o
front_push c [] r o = tt
front_push c (s ∷ rs) r o = tt

goes_on : (c : FileBytes) (at number n : ℕ) (next o : Option Head) → n ≡ number + 1 → Headed c at next → IsNext next number o → HeaderGoesOn c at n o
goes_on c at number n None None e is only = λ r w k. no_record c at is r w
goes_on c at number n (Some h) None e is only = λ r w k. only h refl (let l = ap (λ (x : Head). x.number) (record_head c at h is r w) in omega (arith, l, k, e))
goes_on c at number n next (Some g) e is only =
    let here : Headed c at (Some g) = subst (Headed c at) only.0 is in
    let k = only.1 in
    (omega (arith, k, e), λ r w. let l = ap (λ (x : Head). x.number) (record_head c at g here r w) in omega (arith, l, k, e))

-- where no record stands
pub steps_out : (c : FileBytes) (old new : Cursor) (n number : ℕ) → new.at ≡ old.at → new.head ≡ None → ((r : Record) → StandsWhole c old.at r → ⊥) → HasScanned c old n → Steps c new n number None
steps_out c old new n number at none shut h = (
  record {
    first = h.first;
    before = h.before;
    row = subst (AreInARow c 0 h.first h.before) (sym at) h.row;
    below = h.below;
    next = subst (HeaderGoesOn c new.at (h.first + length h.before)) (sym none) (λ r w k. shut r (subst (λ p. StandsWhole c p r) at w));
    front = subst (IsFront c h.before) (sym none) (by_before h.before h.row);
  },
  none,
)
  where
    by_before : (rs : List Record) → AreInARow c 0 h.first rs old.at → IsFront c rs None
    by_before [] e = λ r w. shut r (subst (λ p. StandsWhole c p r) (sym e) w)
    by_before (r ∷ rs) e = tt

-- past the record that stands
pub steps_on : (c : FileBytes) (old new : Cursor) (n : ℕ) (head : Head) (next : Option Head) (r : Record) (b : List ℕ) → old.head ≡ Some head → StandsWhole c old.at r → b ≡ record_bytes r
    → new.at ≡ old.at + length b → Headed c new.at next → IsNext next head.number new.head → HasScanned c old n → Steps c new n head.number (Some b)
steps_on c old new n head next r b is w bytes at headed only h =
    let goes : HeaderGoesOn c old.at (h.first + length h.before) (Some head) = subst (HeaderGoesOn c old.at (h.first + length h.before)) is h.next in
    let number = goes.1 r w in
    let same = goes.0 in
    let end : new.at ≡ old.at + length (record_bytes r) = at ∙ ap (λ (xs : List ℕ). old.at + length xs) bytes in (
      (r, record { number = h.first; before = h.before; end = old.at; row = h.row; next = number; whole = w }, number ∙ sym same, bytes),
      λ m more low. record {
        first = h.first;
        before = h.before ++ r ∷ [];
        row = subst (AreInARow c 0 h.first (h.before ++ r ∷ [])) (sym end) (row_push c 0 h.first h.before old.at r h.row w number);
        below = below_push h.before r m (λ s k. let l = h.below s k in omega (arith, l, more)) (omega (arith, number, same, low));
        next = goes_on c new.at head.number (h.first + length (h.before ++ r ∷ [])) next new.head
            (let long = length-append h.before (r ∷ []) in omega (arith, long, same)) headed only;
        front = front_push c h.before r new.head;
      },
    )
