-- What the readers of slots find is what a layout says.
use Rattle.std.proofs.Common.{◌≡◌, ◌+◌, ◌-◌, ◌^◌, ◌<◌, ◌≤◌, ℕ, List, ◌++◌, length, take, drop, replicate, refl, sym, ap, ◌∙◌, arith, append_assoc, length-append}
use Rattle.std.specs.Int.{w16, w32, w64, to_le_bytes, from_le_bytes}
use Rattle.std.proofs.lemmas.Nat.{from_le_bytes-to_le_bytes_2, from_le_bytes-to_le_bytes_4, from_le_bytes-to_le_bytes_8}
use Rattle.std.proofs.lemmas.List.{length-replicate}
use Rattle.std.proofs.Math.Seq.{take-append_seam, drop-append_seam}
use Rattle.pdb_model.specs.Slots.{IsFree, IsHeadOfParts, IsPart, IsWhole, free_bytes, head_bytes, padded, part_bytes, whole_bytes}
use Rattle.pdb_model.specs.Tiers.{in_head, parts_tier, slot_size, tier_of}
use Rattle.pdb_value.specs.inner.Fields.{counted_bytes, linked_bytes}

-- ---- two parts of one list, cut at one place

pub same_front : (a b c d : List ℕ) → length a ≡ length b → a ++ c ≡ b ++ d → a ≡ b
same_front a b c d n e = sym (take-append_seam a c) ∙ ap (take (length a)) e ∙ ap (λ k. take k (b ++ d)) n ∙ take-append_seam b d

pub same_back : (a b c d : List ℕ) → length a ≡ length b → a ++ c ≡ b ++ d → c ≡ d
same_back a b c d n e = sym (drop-append_seam a c) ∙ ap (drop (length a)) e ∙ ap (λ k. drop k (b ++ d)) n ∙ drop-append_seam b d

pub zeros_only : (xs : List ℕ) (n : ℕ) → xs ≡ replicate n 0 → xs ≡ replicate (length xs) 0
zeros_only xs n e = e ∙ ap (λ k. replicate k 0) (sym (length-replicate n 0) ∙ sym (ap length e))

-- ---- the first fields

pub record SameCounted (kind kind' len len' count count' : ℕ) (rest rest' : List ℕ) : Type 0 where
  pub kind_is : kind ≡ kind'
  pub len_is : len ≡ len'
  pub count_is : count ≡ count'
  pub rest_is : rest ≡ rest'

pub same_counted : (kind kind' len len' count count' : ℕ) (rest rest' : List ℕ) → len < 2 ^ 16 → len' < 2 ^ 16 → count < 2 ^ 64 → count' < 2 ^ 64
    → counted_bytes kind len count rest ≡ counted_bytes kind' len' count' rest' → SameCounted kind kind' len len' count count' rest rest'
unfolding counted_bytes
same_counted kind kind' len len' count count' rest rest' l l' n n' e = record {
  kind_is = cc;
  len_is = sym (from_le_bytes-to_le_bytes_2 len l) ∙ ap (λ xs. from_le_bytes w16 (take 2 (drop 2 xs))) e ∙ from_le_bytes-to_le_bytes_2 len' l';
  count_is = sym (from_le_bytes-to_le_bytes_8 count n) ∙ ap (λ xs. from_le_bytes w64 (take 8 (drop 4 xs))) e ∙ from_le_bytes-to_le_bytes_8 count' n';
  rest_is = ap (λ xs. drop 12 xs) e;
}

pub record SameLinked (kind kind' len len' next next' : ℕ) (rest rest' : List ℕ) : Type 0 where
  pub kind_is : kind ≡ kind'
  pub len_is : len ≡ len'
  pub next_is : next ≡ next'
  pub rest_is : rest ≡ rest'

pub same_linked : (kind kind' len len' next next' : ℕ) (rest rest' : List ℕ) → len < 2 ^ 16 → len' < 2 ^ 16 → next < 2 ^ 32 → next' < 2 ^ 32
    → linked_bytes kind len next rest ≡ linked_bytes kind' len' next' rest' → SameLinked kind kind' len len' next next' rest rest'
unfolding linked_bytes
same_linked kind kind' len len' next next' rest rest' l l' n n' e = record {
  kind_is = cc;
  len_is = sym (from_le_bytes-to_le_bytes_2 len l) ∙ ap (λ xs. from_le_bytes w16 (take 2 (drop 2 xs))) e ∙ from_le_bytes-to_le_bytes_2 len' l';
  next_is = sym (from_le_bytes-to_le_bytes_4 next n) ∙ ap (λ xs. from_le_bytes w32 (take 4 (drop 4 xs))) e ∙ from_le_bytes-to_le_bytes_4 next' n';
  rest_is = ap (λ xs. drop 8 xs) e;
}

-- ---- the layouts by their first fields

whole_len : (key value : List ℕ) (count : ℕ) → length key ≡ 32 → length (whole_bytes key count value) ≡ 44 + length value
unfolding whole_bytes
whole_len key value count e = let l = length-append key value in omega arith

whole_front : (key value zeros : List ℕ) (count : ℕ) → whole_bytes key count value ++ zeros ≡ counted_bytes 1 (length value) count ((key ++ value) ++ zeros)
unfolding whole_bytes counted_bytes
whole_front key value zeros count = refl

pub whole_fields : (size : ℕ) (key value : List ℕ) (count : ℕ) → length key ≡ 32
    → padded size (whole_bytes key count value) ≡ counted_bytes 1 (length value) count (key ++ (value ++ replicate (size - (44 + length value)) 0))
whole_fields size key value count e =
    ap (λ n. whole_bytes key count value ++ replicate (size - n) 0) (whole_len key value count e)
    ∙ (whole_front key value _ count ∙ ap (counted_bytes 1 (length value) count) (append_assoc key value (replicate (size - (44 + length value)) 0)))

pub head_fields : (key value : List ℕ) (count whole next : ℕ)
    → head_bytes key count whole next value ≡ counted_bytes 2 in_head count (key ++ (to_le_bytes w32 whole ++ (to_le_bytes w32 next ++ value)))
unfolding head_bytes counted_bytes
head_fields key value count whole next = refl

part_len : (value : List ℕ) (next : ℕ) → length (part_bytes next value) ≡ 8 + length value
unfolding part_bytes
part_len value next = omega arith

part_front : (value zeros : List ℕ) (next : ℕ) → part_bytes next value ++ zeros ≡ linked_bytes 3 (length value) next (value ++ zeros)
unfolding part_bytes linked_bytes
part_front value zeros next = refl

pub part_fields : (size : ℕ) (value : List ℕ) (next : ℕ)
    → padded size (part_bytes next value) ≡ linked_bytes 3 (length value) next (value ++ replicate (size - (8 + length value)) 0)
part_fields size value next = ap (λ n. part_bytes next value ++ replicate (size - n) 0) (part_len value next) ∙ part_front value _ next

pub free_fields : (size next : ℕ) → padded size (free_bytes next) ≡ linked_bytes 4 0 next (replicate (size - 8) 0)
unfolding free_bytes linked_bytes
free_fields size next = refl

-- ---- what is read is what is spelled, and the other way

pub free_read : (tier : ℕ) (cell rest : List ℕ) (kind len next n : ℕ) → cell ≡ linked_bytes kind len next rest → len < 2 ^ 16 → next < 2 ^ 32
    → IsFree tier cell n → SameLinked kind 4 len 0 next n rest (replicate (slot_size tier - 8) 0)
free_read tier cell rest kind len next n e l small free =
    same_linked kind 4 len 0 next n rest _ l (omega arith) small free.narrow (sym e ∙ (free.spelled ∙ free_fields (slot_size tier) n))

pub free_made : (tier : ℕ) (cell rest : List ℕ) (kind len next : ℕ) → cell ≡ linked_bytes kind len next rest → kind ≡ 4 → len ≡ 0 → next < 2 ^ 32
    → rest ≡ replicate (length rest) 0 → length rest + 8 ≡ length cell → length cell ≡ slot_size tier → IsFree tier cell next
free_made tier cell rest kind len next e k l small zeros n size = record {
  spelled = e ∙ (ap (λ k. linked_bytes k len next rest) k ∙ (ap (λ k. linked_bytes 4 k next rest) l ∙ (ap (linked_bytes 4 0 next)
      (zeros ∙ ap (λ k. replicate k 0) (let q : length rest ≡ slot_size tier - 8 = omega arith in q)) ∙ sym (free_fields (slot_size tier) next))));
  narrow = small;
}

pub part_read : (cell rest value : List ℕ) (kind len next n : ℕ) → cell ≡ linked_bytes kind len next rest → len < 2 ^ 16 → next < 2 ^ 32
    → IsPart cell n value → SameLinked kind 3 len (length value) next n rest (value ++ replicate (slot_size parts_tier - (8 + length value)) 0)
part_read cell rest value kind len next n e l small part =
    let fits = part.fits in
    same_linked kind 3 len (length value) next n rest _ l (omega arith) small part.narrow (sym e ∙ (part.spelled ∙ part_fields (slot_size parts_tier) value n))

pub part_made : (cell rest value zeros : List ℕ) (kind len next : ℕ) → cell ≡ linked_bytes kind len next rest → kind ≡ 3 → len ≡ length value → len ≤ 4088
    → next < 2 ^ 32 → value ++ zeros ≡ rest → zeros ≡ replicate (length zeros) 0 → length rest + 8 ≡ length cell → length cell ≡ 4096 → IsPart cell next value
part_made cell rest value zeros kind len next e k l fits small parts is n size =
    let q : length zeros ≡ 4096 - (8 + length value) = let a = length-append value zeros in let b = ap length parts in omega arith in
    record {
      spelled = e ∙ (ap (λ k. linked_bytes k len next rest) k ∙ (ap (λ k. linked_bytes 3 k next rest) l ∙ (ap (linked_bytes 3 (length value) next)
          (sym parts ∙ ap (λ z. value ++ z) (is ∙ ap (λ k. replicate k 0) q)) ∙ sym (part_fields 4096 value next))));
      fits = omega arith;
      narrow = small;
    }

pub whole_read : (tier : ℕ) (cell rest key value : List ℕ) (kind len count n : ℕ) → cell ≡ counted_bytes kind len count rest → len < 2 ^ 16 → count < 2 ^ 64
    → length value < 2 ^ 16 → IsWhole tier cell key n value
    → SameCounted kind 1 len (length value) count n rest (key ++ (value ++ replicate (slot_size tier - (44 + length value)) 0))
whole_read tier cell rest key value kind len count n e l small fits whole =
    same_counted kind 1 len (length value) count n rest _ l fits small whole.counted.narrow (sym e ∙ (whole.spelled ∙ whole_fields (slot_size tier) key value n whole.counted.key_len))

pub whole_made : (tier : ℕ) (cell rest key value more zeros : List ℕ) (kind len count : ℕ) → cell ≡ counted_bytes kind len count rest → kind ≡ 1 → len ≡ length value
    → length key ≡ 32 → 1 ≤ count → count < 2 ^ 64 → tier ≡ tier_of len → tier < parts_tier
    → key ++ more ≡ rest → value ++ zeros ≡ more → zeros ≡ replicate (length zeros) 0 → length rest + 12 ≡ length cell → length cell ≡ slot_size tier → IsWhole tier cell key count value
whole_made tier cell rest key value more zeros kind len count e k l k32 some small lowest below all tail is n size =
    let q : length zeros ≡ slot_size tier - (44 + length value) = let a = length-append value zeros in let b = ap length tail in let d = length-append key more in let f = ap length all in omega arith in
    record {
      spelled = e ∙ (ap (λ k. counted_bytes k len count rest) k ∙ (ap (λ k. counted_bytes 1 k count rest) l ∙ (ap (counted_bytes 1 (length value) count)
          (sym all ∙ ap (λ z. key ++ z) (sym tail ∙ ap (λ z. value ++ z) (is ∙ ap (λ k. replicate k 0) q))) ∙ sym (whole_fields (slot_size tier) key value count k32))));
      counted = record { key_len = k32; some = some; narrow = small };
      lowest = lowest ∙ ap tier_of l;
      not_parts = below;
    }

pub head_read : (cell rest key value : List ℕ) (kind len count n whole next : ℕ) → cell ≡ counted_bytes kind len count rest → len < 2 ^ 16 → count < 2 ^ 64
    → IsHeadOfParts cell key n whole next value → SameCounted kind 2 len 4044 count n rest (key ++ (to_le_bytes w32 whole ++ (to_le_bytes w32 next ++ value)))
head_read cell rest key value kind len count n whole next e l small head =
    same_counted kind 2 len 4044 count n rest _ l (omega arith) small head.counted.narrow (sym e ∙ (head.spelled ∙ head_fields key value n whole next))

pub head_made : (cell rest key value more last : List ℕ) (kind len count whole next : ℕ) → cell ≡ counted_bytes kind len count rest → kind ≡ 2 → len ≡ 4044
    → length key ≡ 32 → 1 ≤ count → count < 2 ^ 64 → tier_of whole ≡ 15 → whole ≤ 8388608 → next < 2 ^ 32 → length value ≡ 4044
    → key ++ more ≡ rest → more ≡ to_le_bytes w32 whole ++ last → last ≡ to_le_bytes w32 next ++ value → IsHeadOfParts cell key count whole next value
head_made cell rest key value more last kind len count whole next e k l k32 some small long most narrow full all front back = record {
  spelled = e ∙ (ap (λ k. counted_bytes k len count rest) k ∙ (ap (λ k. counted_bytes 2 k count rest) l ∙ (ap (counted_bytes 2 4044 count)
      (sym all ∙ ap (λ z. key ++ z) (front ∙ ap (λ z. to_le_bytes w32 whole ++ z) back)) ∙ sym (head_fields key value count whole next))));
  counted = record { key_len = k32; some = some; narrow = small };
  full = full;
  long = long;
  not_too_long = most;
  narrow = narrow;
}

-- the whole length and the next slot that a head says
pub record SameLinks (whole whole' next next' : ℕ) (value value' : List ℕ) : Type 0 where
  pub whole_is : whole ≡ whole'
  pub next_is : next ≡ next'
  pub value_is : value ≡ value'

pub same_links : (whole whole' next next' : ℕ) (value value' : List ℕ) → whole < 2 ^ 32 → whole' < 2 ^ 32 → next < 2 ^ 32 → next' < 2 ^ 32
    → to_le_bytes w32 whole ++ (to_le_bytes w32 next ++ value) ≡ to_le_bytes w32 whole' ++ (to_le_bytes w32 next' ++ value') → SameLinks whole whole' next next' value value'
same_links whole whole' next next' value value' a a' b b' e = record {
  whole_is = sym (from_le_bytes-to_le_bytes_4 whole a) ∙ ap (λ xs. from_le_bytes w32 (take 4 xs)) e ∙ from_le_bytes-to_le_bytes_4 whole' a';
  next_is = sym (from_le_bytes-to_le_bytes_4 next b) ∙ ap (λ xs. from_le_bytes w32 (take 4 (drop 4 xs))) e ∙ from_le_bytes-to_le_bytes_4 next' b';
  value_is = ap (λ xs. drop 8 xs) e;
}

-- ---- a cell spells one thing of a kind

pub one_next : (tier : ℕ) (cell : List ℕ) (n m : ℕ) → IsFree tier cell n → IsFree tier cell m → n ≡ m
one_next tier cell n m a b = (free_read tier cell _ 4 0 n m (a.spelled ∙ free_fields (slot_size tier) n) (omega arith) a.narrow b).next_is

pub record SamePart (next next' : ℕ) (value value' : List ℕ) : Type 0 where
  pub next_is : next ≡ next'
  pub value_is : value ≡ value'

pub one_part : (cell value value' : List ℕ) (n m : ℕ) → IsPart cell n value → IsPart cell m value' → SamePart n m value value'
one_part cell value value' n m a b =
    let fits : length value ≤ 4088 = a.fits in
    let same = part_read cell _ value' 3 (length value) n m (a.spelled ∙ part_fields (slot_size parts_tier) value n) (omega arith) a.narrow b in
    record { next_is = same.next_is; value_is = same_front value value' _ _ same.len_is same.rest_is }

pub record SameWhole (key key' : List ℕ) (count count' : ℕ) (value value' : List ℕ) : Type 0 where
  pub key_is : key ≡ key'
  pub count_is : count ≡ count'
  pub value_is : value ≡ value'

pub one_whole : (tier : ℕ) (cell key key' value value' : List ℕ) (n m : ℕ) → length value < 2 ^ 16 → length value' < 2 ^ 16
    → IsWhole tier cell key n value → IsWhole tier cell key' m value' → SameWhole key key' n m value value'
one_whole tier cell key key' value value' n m fits fits' a b =
    let same = whole_read tier cell _ key' value' 1 (length value) n m (a.spelled ∙ whole_fields (slot_size tier) key value n a.counted.key_len) fits a.counted.narrow fits' b in
    let tail = same_back key key' _ _ (a.counted.key_len ∙ sym b.counted.key_len) same.rest_is in
    record {
      key_is = same_front key key' _ _ (a.counted.key_len ∙ sym b.counted.key_len) same.rest_is;
      count_is = same.count_is;
      value_is = same_front value value' _ _ same.len_is tail;
    }

pub record SameHead (key key' : List ℕ) (count count' whole whole' next next' : ℕ) (value value' : List ℕ) : Type 0 where
  pub key_is : key ≡ key'
  pub count_is : count ≡ count'
  pub links : SameLinks whole whole' next next' value value'

pub one_head : (cell key key' value value' : List ℕ) (n m whole whole' next next' : ℕ)
    → IsHeadOfParts cell key n whole next value → IsHeadOfParts cell key' m whole' next' value' → SameHead key key' n m whole whole' next next' value value'
one_head cell key key' value value' n m whole whole' next next' a b =
    let same = head_read cell _ key' value' 2 4044 n m whole' next' (a.spelled ∙ head_fields key value n whole next) (omega arith) a.counted.narrow b in
    let tail = same_back key key' _ _ (a.counted.key_len ∙ sym b.counted.key_len) same.rest_is in
    let w : whole ≤ 8388608 = a.not_too_long in
    let w' : whole' ≤ 8388608 = b.not_too_long in
    record {
      key_is = same_front key key' _ _ (a.counted.key_len ∙ sym b.counted.key_len) same.rest_is;
      count_is = same.count_is;
      links = same_links whole whole' next next' value value' (omega arith) (omega arith) a.narrow b.narrow tail;
    }
