-- A body of whole cells is spelled by one list of puts.
use Rattle.std.proofs.Common.{◌≡◌, ◌+◌, ◌*◌, ◌<◌, ◌≤◌, ℕ, List, [], ◌∷◌, ◌++◌, length, take, drop, All, refl, sym, ap, ap₂, ◌∙◌, arith, append_assoc, append-nil, length-append}
use Rattle.std.proofs.lemmas.List.{take_at, drop_at, length_push}
use Rattle.std.proofs.lemmas.List.Elements.{All-head, All-nil, All-push, All-tail}
use Rattle.pdb_cells.specs.Puts.{IsWholeCell}
use Rattle.pdb_cells.specs.declared.Put.{Put}
use Rattle.pdb_model.specs.Records.{body_bytes, put_bytes}
use Rattle.pdb_record.proofs.Bodies.{body-append}
use Rattle.pdb_record.proofs.FirstPuts.{one_name, same_size, small_file}

-- what comes after a put of so many bytes
pub after_put : (bytes rest : List ℕ) (p : Put) (n : ℕ) → bytes ≡ put_bytes p ++ rest → n ≡ length p.bytes → drop (10 + n) bytes ≡ rest
after_put bytes rest p n is len =
    let whole : length (put_bytes p) ≡ 10 + n = omega arith in
    ap (drop (10 + n)) is ∙ drop_at (put_bytes p) rest (10 + n) whole

pub same_first : (p q : Put) (a b : List ℕ) → IsWholeCell p → IsWholeCell q → put_bytes p ++ a ≡ put_bytes q ++ b → (p ≡ q) × (a ≡ b)
same_first p q a b whole other is =
    let small : p.name.file < 66 = small_file p.name.file _ whole.0 in
    let name : p.name ≡ q.name = one_name (put_bytes p ++ a) b p.name q refl is other (omega arith) (omega (arith, whole.1)) in
    let size : length p.bytes ≡ length q.bytes = same_size p.name q (length p.bytes) name whole.0 other in
    let bytes : p.bytes ≡ q.bytes = sym (take_at p.bytes a (length p.bytes) refl) ∙ (ap (λ t. take (length p.bytes) (drop 10 t)) is ∙ take_at q.bytes b (length p.bytes) (sym size)) in
    let rest : a ≡ b = sym (drop_at p.bytes a (length p.bytes) refl) ∙ (ap (λ t. drop (length p.bytes) (drop 10 t)) is ∙ drop_at q.bytes b (length p.bytes) (sym size)) in
    ((λ i. record { name = name i; bytes = bytes i }), rest)

-- the puts that come after these
pub record Later (seen puts : List Put) (bytes : List ℕ) : Type 0 where
  pub later : List Put
  pub is : puts ≡ seen ++ later
  pub left : bytes ≡ body_bytes later
  pub whole : All IsWholeCell later

not_empty : (p : Put) (b : List ℕ) → put_bytes p ++ b ≡ [] → ⊥
not_empty p b e = cc

pub later_of : (seen puts : List Put) (left : List ℕ) → All IsWholeCell seen → All IsWholeCell puts → body_bytes puts ≡ body_bytes seen ++ left → Later seen puts left
later_of [] puts left here whole is = record { later = puts; is = refl; left = sym is; whole = whole }
later_of (s ∷ ss) [] left here whole is = absurd (not_empty s (body_bytes ss ++ left) (sym (is ∙ append_assoc (put_bytes s) (body_bytes ss) left)))
later_of (s ∷ ss) (p ∷ ps) left here whole is =
    let first = same_first p s (body_bytes ps) (body_bytes ss ++ left) (All-head IsWholeCell p ps whole) (All-head IsWholeCell s ss here) (is ∙ append_assoc (put_bytes s) (body_bytes ss) left) in
    let more : Later ss ps left = later_of ss ps left (All-tail IsWholeCell s ss here) (All-tail IsWholeCell p ps whole) first.1 in
    record { later = more.later; is = ap₂ (λ (q : Put) (qs : List Put). q ∷ qs) first.0 more.is; left = more.left; whole = more.whole }

-- no bytes are left just where no puts are
pub none_left : (ps : List Put) → body_bytes ps ≡ [] → ps ≡ []
none_left [] e = refl
none_left (p ∷ ps) e = absurd (not_empty p (body_bytes ps) e)

-- each put takes ten bytes at least
pub ten_each : (ps : List Put) → 10 * length ps ≤ length (body_bytes ps)
ten_each [] = omega arith
ten_each (p ∷ ps) = omega (arith, ten_each ps, length-append (put_bytes p) (body_bytes ps))

-- a body's first put, and those after it
pub record Begins (puts : List Put) (p : Put) (rest : List ℕ) : Type 0 where
  pub others : List Put
  pub is : puts ≡ p ∷ others
  pub left : rest ≡ body_bytes others
  pub whole : All IsWholeCell others

pub begins_with : (puts : List Put) (p : Put) (rest : List ℕ) → All IsWholeCell puts → IsWholeCell p → body_bytes puts ≡ put_bytes p ++ rest → Begins puts p rest
begins_with [] p rest all whole is = absurd (not_empty p rest (sym is))
begins_with (q ∷ qs) p rest all whole is =
    let first = same_first q p (body_bytes qs) rest (All-head IsWholeCell q qs all) whole is in
    record { others = qs; is = ap (λ (r : Put). r ∷ qs) first.0; left = sym first.1; whole = All-tail IsWholeCell q qs all }

-- no put of a whole cell comes next
abbrev pub Stops : List ℕ → Type 0
Stops bytes = (p : Put) (qs : List Put) → bytes ≡ body_bytes (p ∷ qs) → All IsWholeCell (p ∷ qs) → ⊥

pub stopped : (ps : List Put) (bytes : List ℕ) → Stops bytes → bytes ≡ body_bytes ps → All IsWholeCell ps → ps ≡ []
stopped [] bytes stops is whole = refl
stopped (p ∷ ps) bytes stops is whole = absurd (stops p ps is whole)

-- so many puts are read, and these bytes are left
pub record Counted (body bytes : List ℕ) (count : ℕ) : Type 0 where
  pub seen : List Put
  pub is : body ≡ body_bytes seen ++ bytes
  pub whole : All IsWholeCell seen
  pub number : count ≡ length seen

body-push : (ps : List Put) (p : Put) → body_bytes (ps ++ p ∷ []) ≡ body_bytes ps ++ put_bytes p
body-push ps p = body-append ps (p ∷ []) ∙ ap (λ t. body_bytes ps ++ t) (append-nil (put_bytes p))

pub counted_none : (body : List ℕ) → Counted body body 0
counted_none body = record { seen = []; is = refl; whole = All-nil IsWholeCell; number = refl }

pub counted_more : (body bytes next : List ℕ) (count : ℕ) (p : Put) → Counted body bytes count → IsWholeCell p → bytes ≡ put_bytes p ++ next → Counted body next (count + 1)
counted_more body bytes next count p so_far whole is = record {
  seen = so_far.seen ++ p ∷ [];
  is = so_far.is ∙ (ap (λ t. body_bytes so_far.seen ++ t) is ∙ (sym (append_assoc (body_bytes so_far.seen) (put_bytes p) next) ∙ ap (λ t. t ++ next) (sym (body-push so_far.seen p))));
  whole = All-push IsWholeCell so_far.seen p so_far.whole whole;
  number = ap (λ n. n + 1) so_far.number ∙ sym (length_push so_far.seen p);
}

pub counted_bound : (body bytes : List ℕ) (count : ℕ) → Counted body bytes count → 10 * count ≤ length body
counted_bound body bytes count so_far =
    omega (arith, ten_each so_far.seen, ap length so_far.is, length-append (body_bytes so_far.seen) bytes, so_far.number)

-- where no put comes next, all are read
pub counted_all : (body bytes : List ℕ) (count : ℕ) (ps : List Put) → Counted body bytes count → Stops bytes → body ≡ body_bytes ps → All IsWholeCell ps
    → (bytes ≡ []) × (count ≡ length ps)
counted_all body bytes count ps so_far stops is whole =
    let later : Later so_far.seen ps bytes = later_of so_far.seen ps bytes so_far.whole whole (sym is ∙ so_far.is) in
    let none : later.later ≡ [] = stopped later.later bytes stops later.left later.whole in
    (later.left ∙ ap body_bytes none, so_far.number ∙ ap length (sym (append-nil so_far.seen) ∙ (ap (λ t. so_far.seen ++ t) (sym none) ∙ sym later.is)))
