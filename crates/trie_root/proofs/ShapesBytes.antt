-- A node's spelling is of bytes.
use Rattle.std.proofs.Common.{◌≡◌, ℕ, ◌-◌, ◌/◌, ◌%◌, ◌<◌, ◌≤◌, ◌^◌, Bool, true, false, eqb, ltb, zero, suc, List, [], ◌∷◌, ◌++◌, length, replicate, Option, Some, None, inl, inr, arith, w16}
use Rattle.std.specs.Int.{to_le_bytes}
use Rattle.std.specs.List.{AllByRecursion, flat_map}
use Rattle.std.proofs.lemmas.Bool.Decides.{eqb_tells, leb_tells}
use Rattle.std.proofs.lemmas.List.Elements.{recursion_from_All}
use Rattle.sdb_scale.specs.Compact.{Mode, one, two, four, mode_limit, mode_of, spelled_in, compact}
use Rattle.sdb_scale.proofs.Spellings.{fits_mode}
use Rattle.trie_model.specs.Nibbles.{packed, paired}
use Rattle.trie_model.specs.Node.{Node, IsText, bitmap, branch_kind, has_child, header, optional_string, spelled, spelling}

abbrev pub AreBytes : List ℕ → Type 0
AreBytes bs = AllByRecursion (λ b. b < 256) bs

pub all_joined : {X : Type 0} (P : X → Type 0) (xs ys : List X) → AllByRecursion P xs → AllByRecursion P ys → AllByRecursion P (xs ++ ys)
all_joined P [] ys a b = b
all_joined P (x ∷ xs) ys a b = (a.0, all_joined P xs ys a.1 b)

pub joined : (xs ys : List ℕ) → AreBytes xs → AreBytes ys → AreBytes (xs ++ ys)
joined xs ys a b = all_joined (λ b. b < 256) xs ys a b

full_bytes : (n : ℕ) → AreBytes (replicate n 255)
full_bytes zero = tt
full_bytes (suc n) = (omega arith, full_bytes n)

header_bytes : (kind n : ℕ) → kind ≤ 3 → AreBytes (header kind n)
header_bytes kind n h =
    elim (leb_tells (suc n) 63) [
      | inl t ↦ let e : ltb n 63 ≡ true = t.0 in let few : n < 63 = t.1 in rw e (omega arith, tt)
      | inr f ↦ let e : ltb n 63 ≡ false = f.0 in
          rw e (omega arith, joined (replicate ((n - 63) / 255) 255) (((n - 63) % 255) ∷ []) (full_bytes ((n - 63) / 255)) (omega arith, tt))
    ]

paired_bytes : (ns : List ℕ) → AllByRecursion (λ n. n < 16) ns → AreBytes (paired ns)
paired_bytes [] a = tt
paired_bytes (n ∷ []) a = let small : n < 16 = a.0 in (omega arith, tt)
paired_bytes (n ∷ (k ∷ ns)) a =
    let high : n < 16 = a.0 in let low : k < 16 = a.1.0 in (omega arith, paired_bytes ns a.1.1)

packed_bytes : (ns : List ℕ) → AllByRecursion (λ n. n < 16) ns → AreBytes (packed ns)
packed_bytes ns a =
    elim (eqb_tells (length ns % 2) 0) [
      | inl t ↦ let e : eqb (length ns % 2) 0 ≡ true = t.0 in rw e (paired_bytes ns a)
      | inr f ↦ let e : eqb (length ns % 2) 0 ≡ false = f.0 in rw e (paired_bytes (0 ∷ ns) (omega arith, a))
    ]

two_bytes : (n : ℕ) → AreBytes (to_le_bytes w16 n)
two_bytes n = omega arith

spelled_in_bytes : (m : Mode) (n : ℕ) → n < mode_limit m → AreBytes (spelled_in m n)
spelled_in_bytes one n h = omega arith
spelled_in_bytes two n h = omega arith
spelled_in_bytes four n h = omega arith

compact_bytes : (n : ℕ) → n < 2 ^ 30 → AreBytes (compact n)
unfolding compact
compact_bytes n h = spelled_in_bytes (mode_of n) n (fits_mode n h)

optional_bytes : (o : Option (List ℕ)) → IsText o → AreBytes (optional_string o)
optional_bytes None t = tt
optional_bytes (Some s) t = joined (compact (length s)) s (compact_bytes (length s) t.0) (recursion_from_All (λ b. b < 256) s t.1)

children_bytes : (cs : List (Option (List ℕ))) → AllByRecursion IsText cs → AreBytes (flat_map optional_string cs)
children_bytes [] a = tt
children_bytes (c ∷ cs) a = joined (optional_string c) (flat_map optional_string cs) (optional_bytes c a.0) (children_bytes cs a.1)

branch_kind_small : (v : Option (List ℕ)) → branch_kind v ≤ 3
branch_kind_small None = omega arith
branch_kind_small (Some v) = omega arith

spelled_bytes : (b : Bool) (v : Option (List ℕ)) (n : Node) → IsText v → AllByRecursion (λ n. n < 16) n.partial → AllByRecursion IsText n.children
    → AreBytes (spelled b v n)
spelled_bytes false None n t p c = (omega arith, tt)
spelled_bytes false (Some v) n t p c =
    joined (header 1 (length n.partial)) _ (header_bytes 1 (length n.partial) (omega arith))
    (joined (packed n.partial) _ (packed_bytes n.partial p) (optional_bytes (Some v) t))
spelled_bytes true v n t p c =
    joined (header (branch_kind v) (length n.partial)) _ (header_bytes (branch_kind v) (length n.partial) (branch_kind_small v))
    (joined (packed n.partial) _ (packed_bytes n.partial p)
    (joined (to_le_bytes w16 (bitmap n.children)) _ (two_bytes (bitmap n.children))
    (joined (optional_string v) _ (optional_bytes v t) (children_bytes n.children c))))

pub spelling_bytes : (n : Node) → IsText n.value → AllByRecursion (λ n. n < 16) n.partial → AllByRecursion IsText n.children → AreBytes (spelling n)
unfolding spelling
spelling_bytes n t p c = spelled_bytes (has_child n.children) n.value n t p c
