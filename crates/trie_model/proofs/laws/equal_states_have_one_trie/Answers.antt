use Rattle.std.proofs.Common.{ap}
use Rattle.std.specs.FinMap.{nat_cmp-IsAntisymmetric, same_map, slice_cmp-IsAntisymmetric}
use Rattle.std.proofs.lemmas.Cmp.{nat_list_cmp_total}
use Rattle.trie_model.specs.Trie.{root_node}
use Rattle.trie_model.proofs.laws.equal_states_have_one_trie.Goals as goal

pub returns : goal.returns
returns c = λ m n alike. ap root_node (same_map nat_list_cmp_total (slice_cmp-IsAntisymmetric nat_cmp-IsAntisymmetric) m n alike)
