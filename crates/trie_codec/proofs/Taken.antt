-- How many bytes a byte string took.
use Rattle.std.proofs.Common.{◌≡◌, ℕ, ◌+◌, List, length, Ok, ap, ◌∙◌, length-append}
use Rattle.sdb_scale.specs.Compact.{string}
use Rattle.trie_codec.specs.Reading.{first_bytes, first_length}
use Rattle.trie_codec.proofs.ReadSteps.{AreBytes}
use Rattle.trie_codec.proofs.ReadString.{length_read, string_taken}

pub string_took : (n : ℕ × List ℕ) (bytes : List ℕ) (x : List ℕ × List ℕ) → AreBytes bytes → first_length bytes ≡ Ok n → first_bytes n.0 n.1 ≡ Ok x
    → length bytes ≡ length (string x.0) + length x.1
string_took n bytes x all found take = ap length (string_taken n bytes x all (length_read bytes n all found) take).spelled ∙ length-append (string x.0) x.1
