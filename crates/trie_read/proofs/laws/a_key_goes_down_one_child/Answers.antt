use Rattle.trie_read.proofs.Ways.{way_ends, way_goes_on}
use Rattle.trie_read.proofs.laws.a_key_goes_down_one_child.Goals as goal

pub returns : goal.returns
returns c = record {
  ends = λ depth path rest suffixes e. way_ends depth path rest suffixes e;
  goes_on = λ depth path rest suffixes nibble left small e. way_goes_on depth path rest suffixes nibble left small e;
}
