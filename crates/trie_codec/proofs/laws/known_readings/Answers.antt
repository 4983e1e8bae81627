use Rattle.std.proofs.Common.{refl}
use Rattle.trie_codec.specs.Reading.{first_children, first_count, first_header, first_length, first_node, node_of_bytes, first_partial, reads_inline, first_string}
use Rattle.trie_codec.proofs.laws.known_readings.Goals as goal

pub returns-clause-short : goal.returns-clause-short
unfolding first_children first_count first_header first_length first_node node_of_bytes first_partial reads_inline first_string
returns-clause-short c = refl

pub returns-clause-header : goal.returns-clause-header
unfolding first_children first_count first_header first_length first_node node_of_bytes first_partial reads_inline first_string
returns-clause-header c = refl

pub returns-clause-padding : goal.returns-clause-padding
unfolding first_children first_count first_header first_length first_node node_of_bytes first_partial reads_inline first_string
returns-clause-padding c = refl

pub returns-clause-long_length : goal.returns-clause-long_length
unfolding first_children first_count first_header first_length first_node node_of_bytes first_partial reads_inline first_string
returns-clause-long_length c = refl

pub returns-clause-bitmap : goal.returns-clause-bitmap
unfolding first_children first_count first_header first_length first_node node_of_bytes first_partial reads_inline first_string
returns-clause-bitmap c = refl

pub returns-clause-trailing : goal.returns-clause-trailing
unfolding first_children first_count first_header first_length first_node node_of_bytes first_partial reads_inline first_string
returns-clause-trailing c = refl

pub returns-clause-child : goal.returns-clause-child
unfolding first_children first_count first_header first_length first_node node_of_bytes first_partial reads_inline first_string
returns-clause-child c = refl

pub returns-clause-empty : goal.returns-clause-empty
unfolding first_children first_count first_header first_length first_node node_of_bytes first_partial reads_inline first_string
returns-clause-empty c = refl

pub returns-clause-leaf : goal.returns-clause-leaf
unfolding first_children first_count first_header first_length first_node node_of_bytes first_partial reads_inline first_string
returns-clause-leaf c = refl

pub returns-clause-branch : goal.returns-clause-branch
unfolding first_children first_count first_header first_length first_node node_of_bytes first_partial reads_inline first_string
returns-clause-branch c = refl
