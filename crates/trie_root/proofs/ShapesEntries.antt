-- The entries of a state that are within their limits are suffixes within theirs.
use Rattle.std.proofs.Common.{◌≡◌, ℕ, ◌*◌, ◌<◌, List, [], ◌∷◌, length, map, refl, arith}
use Rattle.std.specs.List.{AllByRecursion}
use Rattle.std.proofs.lemmas.List.Elements.{All-from_recursion, recursion_from_All}
use Rattle.sdb_base.specs.Nibbles.{nibbles_of}
use Rattle.trie_root.specs.Suffixes.{IsEntry, IsSuffix}
use Rattle.trie_root.proofs.ReadOffStates.{in_nibbles, nibbles_small}

length-nibbles : (bs : List ℕ) → length (nibbles_of bs) ≡ 2 * length bs
length-nibbles [] = refl
length-nibbles (b ∷ bs) = omega (arith, length-nibbles bs)

suffix_of_entry : (e : List ℕ × List ℕ) → IsEntry e → IsSuffix (in_nibbles e)
suffix_of_entry e h = record {
  nibbles = All-from_recursion (λ n. n < 16) (nibbles_of e.0) (nibbles_small e.0 (recursion_from_All (λ b. b < 256) e.0 h.key));
  few = omega (arith, length-nibbles e.0, h.within.short_key);
  bytes = h.value;
  short = h.within.short_value;
}

pub suffixes_of_entries : (es : List (List ℕ × List ℕ)) → AllByRecursion IsEntry es → AllByRecursion IsSuffix (map in_nibbles es)
suffixes_of_entries [] a = tt
suffixes_of_entries (e ∷ es) a = (suffix_of_entry e a.0, suffixes_of_entries es a.1)
