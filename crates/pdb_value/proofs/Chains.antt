-- Further parts that follow one another.
use Rattle.std.proofs.Common.{◌≡◌, ◌≢◌, ◌⊎◌, ◌+◌, ◌-◌, ◌/◌, ◌<◌, ◌≤◌, ℕ, List, [], ◌∷◌, ◌++◌, length, take, drop, replicate, min, refl, sym, ap, subst, ◌∙◌, arith, inl, inr, length-append, length-drop}
use Rattle.std.proofs.lemmas.List.{append-nil, length-take, nil_from_length, take-append-drop}
use Rattle.std.proofs.Math.Seq.{take-append_seam, drop-append_seam}
use Rattle.pdb_cells.specs.Content.{Content}
use Rattle.pdb_model.specs.Breaks.{IsNoPart, part_len}
use Rattle.pdb_model.specs.Slots.{IsPart}
use Rattle.pdb_model.specs.Tables.{first}
use Rattle.pdb_model.specs.Tiers.{in_part, parts_tier}
use Rattle.pdb_value.specs.Values.{AreFurtherParts}
use Rattle.pdb_value.specs.inner.Parts.{IsBrokenPart, IsPartAfter}
use Rattle.pdb_value.specs.Faults.{FaultSays, NoCell, NoTier}
use Rattle.pdb_value.specs.declared.fault.ValueFault.{ValueFault}
use Rattle.pdb_value.specs.declared.fault.ValueFault.TheVariants.{Damaged, Disk, OutOfMemory, TierFull}
use Rattle.pdb_model.specs.Files.{table_cells}
use Rattle.pdb_value.proofs.Layouts.{one_part, part_fields}
use Rattle.pdb_value.specs.inner.Fields.{linked_bytes}
use Rattle.std.proofs.lemmas.Bool.{cases_lt}

no_bytes : (xs : List ℕ) → length xs ≡ 0 → xs ≡ []
no_bytes [] e = refl
no_bytes (x ∷ xs) e = absurd (omega arith)

pub short_take : (xs : List ℕ) (n : ℕ) → length xs ≤ n → take n xs ≡ xs
short_take xs n short =
    sym (append-nil (take n xs)) ∙ (ap (λ d. take n xs ++ d) (sym (nil_from_length (drop n xs) (let l = length-drop n xs in omega arith))) ∙ take-append-drop n xs)

-- a part's bytes before those of the others
pub part_before : (bytes tail : List ℕ) (left : ℕ) → length bytes ≡ part_len left → length tail ≡ left - length bytes → (take in_part (bytes ++ tail) ≡ bytes) × (drop in_part (bytes ++ tail) ≡ tail)
part_before bytes tail left b t = elim (cases_lt in_part left) [
  | inl far ↦
      let n : in_part ≡ length bytes = omega arith in
      (ap (λ k. take k (bytes ++ tail)) n ∙ take-append_seam bytes tail, ap (λ k. drop k (bytes ++ tail)) n ∙ drop-append_seam bytes tail)
  | inr near ↦
      let none : tail ≡ [] = nil_from_length tail (omega arith) in
      let all : bytes ++ tail ≡ bytes = ap (λ t. bytes ++ t) none ∙ append-nil bytes in
      (ap (take in_part) all ∙ short_take bytes in_part (omega arith), ap (drop in_part) all ∙ (nil_from_length (drop in_part bytes) (let l = length-drop in_part bytes in omega arith) ∙ sym none))
]

-- a part before the others
pub part_added : (end : ℕ) (cells : ℕ → List ℕ) (s next : ℕ) (rest bytes tail : List ℕ) (left : ℕ) → 1 ≤ left → 1 ≤ s → s ≤ end → IsPart (cells s) next bytes
    → length bytes ≡ part_len left → length tail ≡ left - length bytes → first rest ≡ next → AreFurtherParts end cells rest tail → AreFurtherParts end cells (s ∷ rest) (bytes ++ tail)
part_added end cells s next rest bytes tail left some from to part b t f are =
    let cut = part_before bytes tail left b t in
    (let n = length-append bytes tail in omega arith, from, to, subst (IsPart (cells s) (first rest)) (sym cut.0) (subst (λ n. IsPart (cells s) n bytes) (sym f) part), subst (AreFurtherParts end cells rest) (sym cut.1) are)

-- the first of the parts, and those behind it
pub record HasPart (end : ℕ) (cells : ℕ → List ℕ) (s left : ℕ) (parts bytes : List ℕ) : Type 0 where
  pub rest : List ℕ
  pub is : parts ≡ s ∷ rest
  pub from : 1 ≤ s
  pub to : s ≤ end
  pub part : IsPart (cells s) (first rest) (take in_part bytes)
  pub len : length (take in_part bytes) ≡ part_len left
  pub next : IsPartAfter left end (first rest)
  pub others : AreFurtherParts end cells rest (drop in_part bytes)

next_of : (end : ℕ) (cells : ℕ → List ℕ) (rest bytes : List ℕ) (left : ℕ) → length bytes ≡ left → AreFurtherParts end cells rest (drop in_part bytes) → IsPartAfter left end (first rest)
next_of end cells [] bytes left len are = record {
  last = λ _. refl;
  more = λ far. let n = ap length are in let m = length-drop in_part bytes in omega arith;
  within = omega arith;
}
next_of end cells (s ∷ rest) bytes left len are = record {
  last = λ near. let m = length-drop in_part bytes in let some = are.0 in omega arith;
  more = λ _. are.1;
  within = are.2;
}

pub has_part : (end : ℕ) (cells : ℕ → List ℕ) (s left : ℕ) (parts bytes : List ℕ) → AreFurtherParts end cells parts bytes → first parts ≡ s → length bytes ≡ left → 1 ≤ left → HasPart end cells s left parts bytes
has_part end cells s left [] bytes are f len some = let n = ap length are in absurd (omega arith)
has_part end cells s left (r ∷ rest) bytes are f len some = record {
  rest = rest;
  is = ap (λ k. k ∷ rest) f;
  from = subst (λ k. 1 ≤ k) f are.1;
  to = subst (λ k. k ≤ end) f are.2;
  part = subst (λ k. IsPart (cells k) (first rest) (take in_part bytes)) f are.3;
  len = let n = length-take in_part bytes in omega arith;
  next = next_of end cells rest bytes left len are.4;
  others = are.4;
}

-- the part that is needed is there
pub part_stands : (end : ℕ) (cells : ℕ → List ℕ) (s left : ℕ) (parts bytes : List ℕ) → HasPart end cells s left parts bytes → IsNoPart left end (cells s) → ⊥
part_stands end cells s left parts bytes has none =
    let next = has.next in
    elim (none (first has.rest) (take in_part bytes) has.part) [
      | inl a ↦ a has.len
      | inr b ↦ elim b [
        | inl d ↦ d.1 (next.last d.0)
        | inr e ↦ elim e [
          | inl f ↦ let some = next.more f.0 in omega (arith, f.1)
          | inr g ↦ let near = next.within in omega arith
        ]
      ]
    ]

-- two ways to say the further parts from a slot on are one
pub same_parts : (end : ℕ) (cells : ℕ → List ℕ) (parts parts' bytes bytes' : List ℕ) → AreFurtherParts end cells parts bytes → AreFurtherParts end cells parts' bytes' → first parts ≡ first parts' → length bytes ≡ length bytes' → bytes ≡ bytes'
same_parts end cells [] parts' bytes bytes' a b f n = let z = ap length a in a ∙ sym (no_bytes bytes' (omega arith))
same_parts end cells (s ∷ rest) [] bytes bytes' a b f n = let z = ap length b in no_bytes bytes (omega arith) ∙ sym b
same_parts end cells (s ∷ rest) (r ∷ more) bytes bytes' a b f n =
    let one = one_part (cells s) (take in_part bytes) (take in_part bytes') (first rest) (first more) a.3 (subst (λ k. IsPart (cells k) (first more) (take in_part bytes')) (sym f) b.3) in
    let tail = same_parts end cells rest more (drop in_part bytes) (drop in_part bytes') a.4 b.4 one.next_is (let p = length-drop in_part bytes in let q = length-drop in_part bytes' in omega arith) in
    sym (take-append-drop in_part bytes) ∙ (ap (λ x. x ++ drop in_part bytes) one.value_is ∙ (ap (λ x. take in_part bytes' ++ x) tail ∙ take-append-drop in_part bytes'))

pub not_next : (left end next : ℕ) → (IsPartAfter left end next → ⊥)
    → ((left ≤ in_part) × (next ≢ 0)) ⊎ (((in_part < left) × (next ≡ 0)) ⊎ (end < next))
not_next left end next none =
    elim (cases_lt in_part left) [
      | inl far ↦ elim (cases_lt 0 next) [
        | inl some ↦ elim (cases_lt end next) [
          | inl above ↦ inr (inr above)
          | inr within ↦ absurd (none (record { last = λ near. absurd (omega arith); more = λ _. some; within = within }))
        ]
        | inr zero ↦ inr (inl (far, omega arith))
      ]
      | inr near ↦ inl (near, λ e. none (record { last = λ _. e; more = λ far. absurd (omega arith); within = omega arith }))
    ]

-- a slot with another part is not the one that is needed
pub no_part : (left end : ℕ) (cell value : List ℕ) (next : ℕ) → IsPart cell next value → (length value ≢ part_len left) ⊎ (IsPartAfter left end next → ⊥) → IsNoPart left end cell
no_part left end cell value next part wrong n bytes other =
    let same = one_part cell value bytes next n part other in
    elim wrong [
      | inl a ↦ inl (λ e. a (ap length same.value_is ∙ e))
      | inr b ↦ inr (subst (λ k. ((left ≤ in_part) × (k ≢ 0)) ⊎ (((in_part < left) × (k ≡ 0)) ⊎ (end < k))) same.next_is (not_next left end next b))
    ]

behind : (len next : ℕ) (rest : List ℕ) → drop 8 (linked_bytes 3 len next rest) ≡ rest
unfolding linked_bytes
behind len next rest = refl

-- the bytes of a part lie behind its fields
pub part_value : (cell value : List ℕ) (next n : ℕ) → IsPart cell next value → n ≡ length value → take n (drop 8 cell) ≡ value
part_value cell value next n part e =
    ap (λ x. take n (drop 8 x)) (part.spelled ∙ part_fields 4096 value next) ∙ (ap (take n) (behind (length value) next (value ++ replicate (4096 - (8 + length value)) 0))
    ∙ (ap (λ k. take k (value ++ replicate (4096 - (8 + length value)) 0)) e ∙ take-append_seam value _))

pub one_fewer : (left here : ℕ) → 1 ≤ left → here ≡ min left 4088 → (left - here + 4087) / 4088 + 1 ≤ (left + 4087) / 4088
one_fewer left here some e = omega arith

pub value_read : (cell d : List ℕ) (left here : ℕ) → d ≡ cell → here ≡ min left 4088 → take (8 + here - 8) (drop 8 d) ≡ take (part_len left) (drop 8 cell)
value_read cell d left here e h = ap (λ x. take (8 + here - 8) (drop 8 x)) e ∙ ap (λ k. take k (drop 8 cell)) (let q : 8 + here - 8 ≡ part_len left = omega arith in q)

pub value_len : (cell : List ℕ) (left : ℕ) → length cell ≡ 4096 → length (take (part_len left) (drop 8 cell)) ≡ part_len left
value_len cell left e = let a = length-take (part_len left) (drop 8 cell) in let b = length-drop 8 cell in omega arith

-- no fault names a cell where the part that is needed is there
pub part_sound : (cells : Content) (column end s left : ℕ) (parts bytes : List ℕ) (e : ValueFault) → HasPart end (table_cells cells column parts_tier) s left parts bytes
    → FaultSays (IsBrokenPart cells column s left end) NoTier e → FaultSays NoCell NoTier e
part_sound cells column end s left parts bytes OutOfMemory has h = tt
part_sound cells column end s left parts bytes Disk has h = tt
part_sound cells column end s left parts bytes (Damaged file cell) has h = part_stands end (table_cells cells column parts_tier) s left parts bytes has h.2
part_sound cells column end s left parts bytes (TierFull tier) has h = h
