-- How many bytes a node takes at least: a byte spells two nibbles at most.
use Rattle.std.proofs.Common.{◌≡◌, ℕ, zero, suc, ◌+◌, ◌*◌, ◌/◌, ◌%◌, ◌-◌, ◌≤◌, Bool, true, false, cond, eqb, List, [], ◌∷◌, ◌++◌, length, replicate, get_or, Option, Some, None, refl, ap, inl, inr, arith, length-append, w16}
use Rattle.std.specs.Prelude.{count_by, is_some, nat_lt}
use Rattle.std.specs.Int.{to_le_bytes}
use Rattle.std.specs.List.{flat_map, list_any}
use Rattle.trie_model.specs.Nibbles.{packed, paired}
use Rattle.trie_model.specs.Node.{IsShaped, Node, bitmap, branch_kind, has_child, header, optional_string, spelled, spelling}

-- the bytes of a part that need not be there
abbrev pub size : Option (List ℕ) → ℕ
size None = 0
size (Some s) = length s

long_paired : (ns : List ℕ) → length ns ≤ 2 * length (paired ns)
long_paired [] = omega arith
long_paired (n ∷ []) = omega arith
long_paired (n ∷ (k ∷ ns)) = omega (arith, long_paired ns)

long_packed : (ns : List ℕ) → length ns ≤ 2 * length (packed ns)
long_packed ns = by_parity (eqb (length ns % 2) 0)
  where
    by_parity : (b : Bool) → length ns ≤ 2 * length (cond b (paired ns) (paired (0 ∷ ns)))
    by_parity true = long_paired ns
    by_parity false = omega (arith, long_paired (0 ∷ ns))

long_header : (kind n : ℕ) → 1 ≤ length (header kind n)
long_header kind n = by_length (nat_lt n 63)
  where
    by_length : (b : Bool) → 1 ≤ length (cond b ((64 * kind + n) ∷ []) ((64 * kind + 63) ∷ (replicate ((n - 63) / 255) 255 ++ ((n - 63) % 255) ∷ [])))
    by_length true = omega arith
    by_length false = omega arith

no_shorter : (front s : List ℕ) → length s ≤ length (front ++ s)
no_shorter front s = omega (arith, length-append front s)

long_string : (c : Option (List ℕ)) → size c ≤ length (optional_string c)
long_string None = omega arith
long_string (Some s) = no_shorter _ s

long_children : (cs : List (Option (List ℕ))) (i : ℕ) → size (get_or cs i None) ≤ length (flat_map optional_string cs)
long_children [] i = omega arith
long_children (c ∷ cs) zero = omega (arith, long_string c, length-append (optional_string c) (flat_map optional_string cs))
long_children (c ∷ cs) (suc i) = omega (arith, long_children cs i, length-append (optional_string c) (flat_map optional_string cs))

long_leaf : (v : List ℕ) (n : Node) → length n.partial + 2 * length v + 2 ≤ 2 * length (spelled false (Some v) n)
long_leaf v n =
    omega (
      arith,
      length-append (header 1 (length n.partial)) (packed n.partial ++ optional_string (Some v)),
      length-append (packed n.partial) (optional_string (Some v)),
      long_header 1 (length n.partial),
      long_packed n.partial,
      long_string (Some v),
    )

long_branch : (v : Option (List ℕ)) (n : Node)
    → length n.partial + 2 * size v + 2 * length (flat_map optional_string n.children) + 2 ≤ 2 * length (spelled true v n)
long_branch v n =
    let rest : List ℕ = optional_string v ++ flat_map optional_string n.children in
    let bits : List ℕ = to_le_bytes w16 (bitmap n.children) in
    omega (
      arith,
      length-append (header (branch_kind v) (length n.partial)) (packed n.partial ++ (bits ++ rest)),
      length-append (packed n.partial) (bits ++ rest),
      length-append bits rest,
      length-append (optional_string v) (flat_map optional_string n.children),
      long_header (branch_kind v) (length n.partial),
      long_packed n.partial,
      long_string v,
    )

none_counted : (cs : List (Option (List ℕ))) → list_any is_some cs ≡ false → count_by is_some cs ≡ 0
none_counted [] e = refl
none_counted (None ∷ cs) e = none_counted cs e
none_counted (Some c ∷ cs) e = absurd cc

-- a node with neither a child nor a value is that of the empty trie
no_partial : (n : Node) → IsShaped n → n.value ≡ None → has_child n.children ≡ false → length n.partial ≡ 0
no_partial n (inl e) none childless = ap (λ (m : Node). length m.partial) e
no_partial n (inr h) none childless =
    let some : 1 ≤ count_by is_some n.children + cond (is_some n.value) 1 0 = h.0 in
    absurd (omega (arith, some, none_counted n.children childless, ap {B = ℕ} (λ (v : Option (List ℕ)). cond (is_some v) 1 0) none))

-- the bytes that a node takes beside those of its children
abbrev pub HasRoom : Node → Type 0
HasRoom n = length n.partial + 2 * size n.value + 2 ≤ 2 * length (spelling n)

pub has_room : (n : Node) → IsShaped n → HasRoom n
unfolding spelling
has_room n shaped = by_parts (has_child n.children) n.value refl refl
  where
    by_parts : (b : Bool) (v : Option (List ℕ)) → has_child n.children ≡ b → n.value ≡ v → length n.partial + 2 * size v + 2 ≤ 2 * length (spelled b v n)
    by_parts false None childless none = omega (arith, no_partial n shaped none childless)
    by_parts false (Some v) childless is = long_leaf v n
    by_parts true v some is = omega (arith, long_branch v n)

pub room_for_child : (n : Node) → has_child n.children ≡ true → (i : ℕ) → length n.partial + 2 * size (get_or n.children i None) + 2 ≤ 2 * length (spelling n)
unfolding spelling
room_for_child n some i = rw some (omega (arith, long_branch n.value n, long_children n.children i))
