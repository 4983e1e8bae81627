-- A node within the limits has not too long a spelling.
use Rattle.std.proofs.Common.{◌≡◌, ℕ, ◌+◌, ◌-◌, ◌*◌, ◌/◌, ◌%◌, ◌^◌, ◌<◌, ◌≤◌, Bool, true, false, cond, eqb, List, [], ◌∷◌, ◌++◌, length, replicate, Option, Some, None, ap, arith, length-append, length-drop, length-take, drop, take, w16, w32, Result, Ok, Err}
use Rattle.std.specs.Prelude.{◌==◌, IfSome, nat_lt}
use Rattle.std.specs.Int.{from_le_bytes, to_le_bytes}
use Rattle.std.specs.List.{AllByRecursion, flat_map}
use Rattle.std.proofs.lemmas.List.{length-replicate}
use Rattle.trie_codec.specs.declared.fault.CodecFault.{CodecFault}
use Rattle.trie_codec.specs.declared.fault.CodecFault.TheVariants.{BadLength, Short}
use Rattle.trie_codec.specs.Reading.{◌>>=◌, first_bytes, first_length, shortest}
use Rattle.trie_codec.proofs.Lengths.{length_read}
use Rattle.trie_model.specs.Nibbles.{packed, paired}
use Rattle.trie_model.specs.Node.{Node, bitmap, branch_kind, has_child, header, optional_string, spelled, spelling}
use Rattle.trie_change.specs.Frontier.{IsLimited, item_path}
use Rattle.trie_change.specs.Item.{Item}
use Rattle.trie_change.specs.Item as item
use Rattle.trie_change.specs.inner.Built.{IsShortValue, value_after}
use Rattle.trie_change.specs.inner.Diffs.{most_in_node}

second : (x y : ℕ × List ℕ) → ◌≡◌ {A = Result (ℕ × List ℕ) CodecFault} (Ok x) (Ok y) → x.1 ≡ y.1
second x y e = let same : x ≡ y = cc in ap (λ p. p.1) same

-- what is read as a length took at most four bytes
abbrev front : ℕ → List ℕ → Bool → Result (List ℕ × List ℕ) CodecFault
front k bytes b = cond b (Err Short) (Ok (take k bytes, drop k bytes))

from_front : (k least : ℕ) (g : List ℕ → ℕ) (bytes rest : List ℕ) (n : ℕ) → k ≤ 4 → (first_bytes k bytes >>= λ f. shortest least (g f.0) f.1) ≡ Ok (n, rest)
    → length bytes ≤ 4 + length rest
from_front k least g bytes rest n h e = by_room (nat_lt (length bytes) k) e
  where
    by_size : (c : Bool) → ◌≡◌ {A = Result (ℕ × List ℕ) CodecFault} (cond c (Err BadLength) (Ok (g (take k bytes), drop k bytes))) (Ok (n, rest)) → length bytes ≤ 4 + length rest
    by_size true e = absurd cc
    by_size false e = let same : drop k bytes ≡ rest = second (g (take k bytes), drop k bytes) (n, rest) e in omega (arith, length-drop k bytes, ap length same)

    by_room : (b : Bool) → ◌≡◌ {A = Result (ℕ × List ℕ) CodecFault} (front k bytes b >>= λ f. shortest least (g f.0) f.1) (Ok (n, rest)) → length bytes ≤ 4 + length rest
    by_room true e = absurd cc
    by_room false e = by_size (nat_lt (g (take k bytes)) least) e

took : (bytes rest : List ℕ) (n : ℕ) → first_length bytes ≡ Ok (n, rest) → length bytes ≤ 4 + length rest
unfolding first_length
took [] rest n e = absurd cc
took (b ∷ bs) rest n e = by_mode (b % 4 == 0) (b % 4 == 1) (b % 4 == 2) e
  where
    by_mode : (x y z : Bool) → ◌≡◌ {A = Result (ℕ × List ℕ) CodecFault} (cond x (Ok (b / 4, bs))
        (cond y (first_bytes 2 (b ∷ bs) >>= λ f. shortest 64 (from_le_bytes w16 f.0 / 4) f.1)
        (cond z (first_bytes 4 (b ∷ bs) >>= λ f. shortest 16384 (from_le_bytes w32 f.0 / 4) f.1) (Err BadLength)))) (Ok (n, rest)) → length (b ∷ bs) ≤ 4 + length rest
    by_mode true y z e = let same : bs ≡ rest = second (b / 4, bs) (n, rest) e in omega (arith, ap length same)
    by_mode false true z e = from_front 2 64 (λ f. from_le_bytes w16 f / 4) (b ∷ bs) rest n (omega arith) e
    by_mode false false true e = from_front 4 16384 (λ f. from_le_bytes w32 f / 4) (b ∷ bs) rest n (omega arith) e
    by_mode false false false e = absurd cc

pub short_string : (s : List ℕ) → length s < 2 ^ 30 → length (optional_string (Some s)) ≤ 4 + length s
short_string s h = took (optional_string (Some s)) s (length s) (length_read (length s) s h)

short_paired : (ns : List ℕ) → length (paired ns) ≤ length ns
short_paired [] = omega arith
short_paired (n ∷ []) = omega arith
short_paired (n ∷ (k ∷ ns)) = omega (arith, short_paired ns)

short_packed : (ns : List ℕ) → length (packed ns) ≤ length ns + 1
short_packed ns = by_parity (eqb (length ns % 2) 0)
  where
    by_parity : (b : Bool) → length (cond b (paired ns) (paired (0 ∷ ns))) ≤ length ns + 1
    by_parity true = omega (arith, short_paired ns)
    by_parity false = omega (arith, short_paired (0 ∷ ns))

short_header : (kind n : ℕ) → n ≤ 2048 → length (header kind n) ≤ 10
short_header kind n h = by_length (nat_lt n 63)
  where
    by_length : (b : Bool) → length (cond b ((64 * kind + n) ∷ []) ((64 * kind + 63) ∷ (replicate ((n - 63) / 255) 255 ++ ((n - 63) % 255) ∷ []))) ≤ 10
    by_length true = omega arith
    by_length false =
        let rest : List ℕ = replicate ((n - 63) / 255) 255 in
        omega (arith, length-append rest (((n - 63) % 255) ∷ []), length-replicate {A = ℕ} ((n - 63) / 255) 255)

short_children : (cs : List (Option (List ℕ))) → AllByRecursion (λ c. IfSome c IsShortValue) cs → length (flat_map optional_string cs) ≤ 36 * length cs
short_children [] a = omega arith
short_children (None ∷ cs) a = omega (arith, short_children cs a.1)
short_children (Some c ∷ cs) a =
    omega (arith, a.0, short_children cs a.1, short_string c (omega (arith, a.0)), length-append (optional_string (Some c)) (flat_map optional_string cs))

-- parts that are short: at most 2,048 nibbles, a value of at most 4,194,304 bytes, and Merkle values of at most 32
short_spelled : (branch : Bool) (v : Option (List ℕ)) (n : Node) → length n.partial ≤ 2048 → IfSome v (λ value. length value ≤ 4194304)
    → length n.children ≡ 16 → AllByRecursion (λ c. IfSome c IsShortValue) n.children → length (spelled branch v n) ≤ most_in_node
short_spelled false None n p h s a = omega arith
short_spelled false (Some v) n p h s a =
    omega (
      arith,
      h,
      length-append (header 1 (length n.partial)) (packed n.partial ++ optional_string (Some v)),
      length-append (packed n.partial) (optional_string (Some v)),
      short_header 1 (length n.partial) p,
      short_packed n.partial,
      short_string v (omega (arith, h)),
    )
short_spelled true v n p h s a =
    let rest : List ℕ = optional_string v ++ flat_map optional_string n.children in
    let bits : List ℕ = to_le_bytes w16 (bitmap n.children) in
    omega (
      arith,
      length-append (header (branch_kind v) (length n.partial)) (packed n.partial ++ (bits ++ rest)),
      length-append (packed n.partial) (bits ++ rest),
      length-append bits rest,
      length-append (optional_string v) (flat_map optional_string n.children),
      short_header (branch_kind v) (length n.partial) p,
      short_packed n.partial,
      short_value v h,
      short_children n.children a,
    )
  where
    short_value : (v : Option (List ℕ)) → IfSome v (λ value. length value ≤ 4194304) → length (optional_string v) ≤ 4 + 4194304
    short_value None h = omega arith
    short_value (Some x) h = omega (arith, h, short_string x (omega (arith, h)))

pub short_spelling : (n : Node) → length n.partial ≤ 2048 → IfSome n.value (λ value. length value ≤ 4194304)
    → length n.children ≡ 16 → AllByRecursion (λ c. IfSome c IsShortValue) n.children → length (spelling n) ≤ most_in_node
unfolding spelling
short_spelling n p h s a = short_spelled (has_child n.children) n.value n p h s a

pub short_part : (k at : ℕ) (ns : List ℕ) → length ns ≤ 2048 → length (take k (drop at ns)) ≤ 2048
short_part k at ns h = simp (length-take, length-drop) (omega arith)

pub short_value_after : (end : ℕ) (i : Item) → IsLimited i → IfSome (value_after end i) (λ value. length value ≤ 4194304)
short_value_after end (item.Entry e) h = at_end (length e.path.items == end)
  where
    at_end : (b : Bool) → IfSome (cond b (Some e.value) None) (λ value. length value ≤ 4194304)
    at_end true = h.1
    at_end false = tt
short_value_after end (item.Stub s) h = tt

pub short_path : (i : Item) → IsLimited i → length (item_path i) ≤ 2048
short_path (item.Entry e) h = h.0.short
short_path (item.Stub s) h = h.short
