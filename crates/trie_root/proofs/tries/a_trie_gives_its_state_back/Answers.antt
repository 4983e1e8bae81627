use Rattle.std.proofs.Common.{ℕ, ◌<◌, List, All, arith}
use Rattle.std.specs.FinMap.{entries}
use Rattle.std.specs.List.{AllByRecursion}
use Rattle.std.proofs.lemmas.Float.{T_from_true}
use Rattle.std.proofs.lemmas.List.Elements.{All-weaker, recursion_from_All}
use Rattle.trie_model.specs.Trie.{Suffix, levels_of, suffixes_of}
use Rattle.trie_root.proofs.ReadOff.{read_off_all}
use Rattle.trie_root.proofs.ReadOffNibbles.{InNibbles}
use Rattle.trie_root.proofs.ReadOffStates.{all_in_nibbles, suffixes_sorted}
use Rattle.trie_root.proofs.tries.a_trie_gives_its_state_back.Goals as goal

pub returns-clause-suffixes : goal.returns-clause-suffixes
returns-clause-suffixes c = λ suffixes sorted nibbles.
    read_off_all (levels_of suffixes) suffixes (omega arith) (T_from_true _ sorted)
    (recursion_from_All InNibbles suffixes
    (All-weaker (λ (s : Suffix). All (λ n. n < 16) s.0) InNibbles (λ s h. recursion_from_All (λ n. n < 16) s.0 h) suffixes nibbles))

pub returns-clause-state : goal.returns-clause-state
returns-clause-state c = λ m bytes.
    read_off_all (levels_of (suffixes_of m)) (suffixes_of m) (omega arith) (suffixes_sorted m)
    (all_in_nibbles (entries m) (recursion_from_All (λ (e : List ℕ × List ℕ). AllByRecursion (λ b. b < 256) e.0) (entries m)
    (All-weaker (λ (e : List ℕ × List ℕ). All (λ b. b < 256) e.0) (λ (e : List ℕ × List ℕ). AllByRecursion (λ b. b < 256) e.0)
    (λ e h. recursion_from_All (λ b. b < 256) e.0 h) (entries m) bytes)))
