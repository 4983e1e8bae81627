-- What the scan of a log file hasn't come to.
use Rattle.std.proofs.Common.{◌≡◌, ◌⊎◌, inl, inr, ⊎_elim, ℕ, suc, ◌+◌, ◌≤◌, ◌<◌, List, [], ◌∷◌, Option, Some, None, length, refl, sym, ap, subst, arith}
use Rattle.std.specs.Prelude.{IfSome}
use Rattle.pdb_disk.specs.Files.{FileBytes}
use Rattle.pdb_model.specs.Logs.{AreInARow, IsScanned, StandsWhole}
use Rattle.pdb_model.specs.Records.{Record, record_bytes}
use Rattle.pdb_record.specs.declared.heads.Head.{Head}
use Rattle.pdb_log.proofs.Bytes.{record_same}
use Rattle.pdb_log.proofs.Members.{In, from_in}
use Rattle.pdb_recover.specs.Scanning.{HeaderGoesOn, HasScanned, IsFront}
use Rattle.pdb_recover.specs.declared.cursor.Cursor.{Cursor}

-- a row goes on past another one's end to this record
record Past (c : FileBytes) (f g : ℕ) (rs : List Record) (p q : ℕ) (r : Record) : Type 0 where
  more : List Record
  row : AreInARow c p (g + length rs) more q
  number : r.number ≡ g + length rs + length more
  first : (rs ≡ []) ⊎ (f ≡ g)

-- two rows from one place: a record after the one is in the other, or past its end
past : (c : FileBytes) (at f g : ℕ) (rs ss : List Record) (p q : ℕ) (r : Record) → AreInARow c at f rs p → AreInARow c at g ss q → r.number ≡ g + length ss → StandsWhole c q r
    → In rs r ⊎ Past c f g rs p q r
past c at f g [] ss p q r one two k w = inr (record {
  more = ss;
  row = subst (λ a. AreInARow c a (g + 0) ss q) (sym one) (let e : g ≡ g + 0 = omega arith in subst (λ n. AreInARow c at n ss q) e two);
  number = omega (arith, k);
  first = inl refl;
})
past c at f g (t ∷ rs) [] p q r one two k w = inl (inl (record_same c at t r one.1.is w.is one.1.there (subst (λ a. StandsWhole c a r) two w).there))
past c at f g (t ∷ rs) (u ∷ ss) p q r one two k w =
    let same : t ≡ u = record_same c at t u one.1.is two.1.is one.1.there two.1.there in
    let place : at + length (record_bytes u) ≡ at + length (record_bytes t) = ap (λ (v : Record). at + length (record_bytes v)) (sym same) in
    let number = ap (λ (v : Record). v.number) same in
    let low = one.0 in
    let high = two.0 in
    ⊎_elim (λ i. inl (inr i))
    (λ h. inr (record {
      more = h.more;
      row = let e : g + 1 + length rs ≡ g + suc (length rs) = omega arith in subst (λ n. AreInARow c p n h.more q) e h.row;
      number = let m = h.number in omega (arith, m);
      first = inr (omega (arith, number, low, high));
    }))
    (past c (at + length (record_bytes t)) (f + 1) (g + 1) rs ss p q r one.2 (subst (λ a. AreInARow c a (g + 1) ss q) place two.2) (omega (arith, k)) w)

-- so past the end there stands a record with the number that comes next
next_stands : (c : FileBytes) (p n q : ℕ) (rs : List Record) (r : Record) → AreInARow c p n rs q → r.number ≡ n + length rs → StandsWhole c q r
    → (s : Record) × StandsWhole c p s × (s.number ≡ n) × (s.number ≤ r.number)
next_stands c p n q [] r e k w = (r, subst (λ a. StandsWhole c a r) e w, omega (arith, k), omega arith)
next_stands c p n q (s ∷ rs) r h k w = let e = h.0 in (s, h.1, e, omega (arith, e, k))

-- where nothing comes next, or a higher number, the scan of the file comes to no record of this one
pub none_comes : (c : FileBytes) (cursor : Cursor) (n : ℕ) → HasScanned c cursor n → IfSome cursor.head (λ h. n < h.number) → (r : Record) → IsScanned c r → r.number ≡ n → ⊥
none_comes c cursor n h high r k e = ⊎_elim
    (λ i. let l = h.below r (from_in h.before r i) in omega (arith, l, e))
    (λ past_end. let s = next_stands c cursor.at (k.number + length h.before) k.end past_end.more r past_end.row past_end.number k.whole in
    by_head cursor.head h.next h.front high past_end.first s.0 s.1 s.2 s.3)
    (past c 0 h.first k.number h.before k.before cursor.at k.end r h.row k.row k.next k.whole)
  where
    by_head : (o : Option Head) → HeaderGoesOn c cursor.at (h.first + length h.before) o → IsFront c h.before o → IfSome o (λ g. n < g.number)
        → (h.before ≡ []) ⊎ (h.first ≡ k.number) → (s : Record) → StandsWhole c cursor.at s → s.number ≡ k.number + length h.before → s.number ≤ r.number → ⊥
    by_head None next front high first s w number low = ⊎_elim
        (λ empty.
        let at_front : AreInARow c 0 h.first [] cursor.at = subst (λ rs. AreInARow c 0 h.first rs cursor.at) empty h.row in
        let shut : IsFront c [] None = subst (λ rs. IsFront c rs None) empty front in
        let here : StandsWhole c 0 s = subst (λ a. StandsWhole c a s) at_front w in
        shut s here)
        (λ f. next s w (omega (arith, number, f)))
        first
    by_head (Some g) next front high first s w number low = let a = next.1 s w in let b = next.0 in omega (arith, a, b, high, low, e)
