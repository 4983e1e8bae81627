-- What an answer unfolds to compute the lines of literal texts.
use Rattle.std.specs.Prelude.{⊤}
use Rattle.hex.specs.Hex.{decode_pairs, encode_with}
use Rattle.sdb_script.specs.Grammar.{line_of, is_blank, new_line, genesis_line, import_line, id_and_key, root_line, stage_line, line_of_words, changes_of, each_change}
use Rattle.sdb_script.specs.Numbers.{digits_value, number_spelled}
use Rattle.sdb_script.specs.Words.{id_of, bytes_of, change_of}

unfoldable pub script_on_literals : ⊤
unfolding decode_pairs encode_with line_of is_blank new_line genesis_line import_line id_and_key root_line stage_line line_of_words changes_of each_change digits_value number_spelled id_of bytes_of change_of
script_on_literals = tt
