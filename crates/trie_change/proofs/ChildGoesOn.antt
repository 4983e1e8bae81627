-- Whether a path with one nibble more goes on with some nibbles.
use Rattle.std.proofs.Common.{◌≡◌, ℕ, ◌+◌, ◌<◌, ◌≤◌, Bool, true, false, List, [], ◌∷◌, ◌++◌, length, slice_index_or, refl, ap, sym, ◌∙◌, append_assoc, length-append, eqb-true, eq-eqb, arith}
use Rattle.std.specs.Prelude.{nat_eq}
use Rattle.std.specs.List.{starts_with}
use Rattle.std.proofs.lemmas.List.{append-nil}
use Rattle.trie_change.proofs.Disjoint.{goes_on_from}
use Rattle.trie_change.proofs.LongerPaths.{begins_longer}

to_false : (b : Bool) → (b ≡ true → ⊥) → false ≡ b
to_false true f = absurd (f refl)
to_false false f = refl

not_both : (b : Bool) → b ≡ true → b ≡ false → ⊥
not_both true e f = cc
not_both false e f = cc

none_left : {X : Type 0} (xs : List X) → length xs ≡ 0 → xs ≡ []
none_left [] e = refl
none_left (x ∷ xs) e = absurd (omega (arith, e))

-- nibbles that are longer than the front are all of the path, where it goes on with them
whole : (end : List ℕ) (n : ℕ) (ns : List ℕ) → length end < length ns → starts_with nat_eq (end ++ n ∷ []) ns ≡ true → end ++ n ∷ [] ≡ ns
whole end n ns long e =
    let on : (r : List ℕ) × (end ++ n ∷ [] ≡ ns ++ r) = goes_on_from (end ++ n ∷ []) ns e in
    let none : on.0 ≡ [] = none_left on.0 (omega (arith, long, ap length on.1, length-append end (n ∷ []), length-append ns on.0)) in
    on.1 ∙ ap (λ (r : List ℕ). ns ++ r) none ∙ append-nil ns

pub too_long : (end : List ℕ) (n : ℕ) (ns : List ℕ) → length end + 1 < length ns → false ≡ starts_with nat_eq (end ++ n ∷ []) ns
too_long end n ns long = to_false (starts_with nat_eq (end ++ n ∷ []) ns)
    (λ e. absurd (omega (arith, long, ap length (whole end n ns (omega (arith, long)) e), length-append end (n ∷ []))))

pub other_front : (end : List ℕ) (n : ℕ) (ns : List ℕ) → length end < length ns → starts_with nat_eq ns end ≡ false → false ≡ starts_with nat_eq (end ++ n ∷ []) ns
other_front end n ns long other = to_false (starts_with nat_eq (end ++ n ∷ []) ns)
    (λ e. not_both (starts_with nat_eq ns end) (begins_longer end (n ∷ []) ns (sym (whole end n ns long e))) other)

last_same : (end : List ℕ) (x y : ℕ) → end ++ x ∷ [] ≡ end ++ y ∷ [] → x ≡ y
last_same [] x y e = cc
last_same (z ∷ end) x y e = last_same end x y cc

at_last : (end : List ℕ) (x : ℕ) → slice_index_or (end ++ x ∷ []) (length end) 0 ≡ x
at_last [] x = refl
at_last (z ∷ end) x = at_last end x

by_last : (end : List ℕ) (n x : ℕ) (b : Bool) → nat_eq x n ≡ b → b ≡ starts_with nat_eq (end ++ n ∷ []) (end ++ x ∷ [])
by_last end n x true e =
    sym (begins_longer (end ++ x ∷ []) [] (end ++ n ∷ []) (ap (λ (y : ℕ). end ++ y ∷ []) (sym (eqb-true x n e)) ∙ sym (append-nil (end ++ x ∷ []))))
by_last end n x false e = to_false (starts_with nat_eq (end ++ n ∷ []) (end ++ x ∷ []))
    (λ f. not_both (nat_eq x n) (eq-eqb x n (sym (last_same end n x (whole end n (end ++ x ∷ []) (omega (arith, length-append end (x ∷ []))) f)))) e)

pub last_nibble : (end : List ℕ) (n : ℕ) (ns : List ℕ) → length ns ≤ length end + 1 → length end < length ns → starts_with nat_eq ns end ≡ true
    → nat_eq (slice_index_or ns (length end) 0) n ≡ starts_with nat_eq (end ++ n ∷ []) ns
last_nibble end n ns short long e =
    let on : (r : List ℕ) × (ns ≡ end ++ r) = goes_on_from ns end e in
    by_rest on.0 on.1 (omega (arith, short, long, ap length on.1, length-append end on.0))
  where
    by_rest : (r : List ℕ) → ns ≡ end ++ r → length r ≡ 1 → nat_eq (slice_index_or ns (length end) 0) n ≡ starts_with nat_eq (end ++ n ∷ []) ns
    by_rest [] f one = absurd (omega (arith, one))
    by_rest (x ∷ []) f one =
        ap (λ (ms : List ℕ). nat_eq (slice_index_or ms (length end) 0) n) f ∙ ap (λ (y : ℕ). nat_eq y n) (at_last end x)
        ∙ by_last end n x (nat_eq x n) refl ∙ ap (starts_with nat_eq (end ++ n ∷ [])) (sym f)
    by_rest (x ∷ (y ∷ r)) f one = absurd (omega (arith, one))

-- nibbles that are no longer than the front
pub front_alone : (end : List ℕ) (n : ℕ) (ns : List ℕ) → length ns ≤ length end → starts_with nat_eq end ns ≡ starts_with nat_eq (end ++ n ∷ []) ns
front_alone end n ns short = by_test (starts_with nat_eq end ns) refl
  where
    on_front : (end ns r : List ℕ) → length ns ≤ length end → end ++ n ∷ [] ≡ ns ++ r → (s : List ℕ) × (end ≡ ns ++ s)
    on_front end [] r le e = (end, refl)
    on_front [] (x ∷ ns) r le e = absurd (omega (arith, le))
    on_front (y ∷ end) (x ∷ ns) r le e =
        let more : (s : List ℕ) × (end ≡ ns ++ s) = on_front end ns r (omega (arith, le)) cc in
        let same : y ≡ x = cc in (more.0, ap (λ (z : ℕ). z ∷ end) same ∙ ap (λ (zs : List ℕ). x ∷ zs) more.1)

    by_test : (b : Bool) → starts_with nat_eq end ns ≡ b → b ≡ starts_with nat_eq (end ++ n ∷ []) ns
    by_test true e =
        let on : (r : List ℕ) × (end ≡ ns ++ r) = goes_on_from end ns e in
        sym (begins_longer ns (on.0 ++ n ∷ []) (end ++ n ∷ []) (ap (λ (z : List ℕ). z ++ n ∷ []) on.1 ∙ append_assoc ns on.0 (n ∷ [])))
    by_test false e = to_false (starts_with nat_eq (end ++ n ∷ []) ns)
        (λ f. let on : (r : List ℕ) × (end ++ n ∷ [] ≡ ns ++ r) = goes_on_from (end ++ n ∷ []) ns f in
        let back : (s : List ℕ) × (end ≡ ns ++ s) = on_front end ns on.0 short on.1 in
        not_both (starts_with nat_eq end ns) (begins_longer ns back.0 end back.1) e)
