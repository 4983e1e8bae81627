-- What single words spell: ids, keys, values and changes.
use Rattle.std.specs.Prelude.{ℕ, ◌-◌, ◌==◌, ◌&&◌, nat_le, Bool, List, [], ◌∷◌, ◌++◌, length, replicate, codes, if◌then◌else◌, Option, Some, None, option_and_then}
use Rattle.std.specs.Option.{option_map}
use Rattle.std.specs.Result.{result_ok}
use Rattle.std.specs.List.{after_first, before_first, list_any}
use Rattle.std.specs.Str.{bytes_eq}
use Rattle.hex.specs.Hex.{decode_of}
use Rattle.sdb_base.specs.declared.BlockId.{BlockId}
use Rattle.sdb_base.specs.declared.Change.{Change}
use Rattle.sdb_script.specs.declared.stage.Stage.{Stage}
use Rattle.sdb_script.specs.declared.stage.Stage.TheVariants.{Log, Flush, Enact, Clean, Grow}
pub use Rattle.sdb_model.specs.Limits.{most_in_key, most_in_value}

-- an id of at most 32 bytes, with zero bytes before it
abbrev pub padded_id : List ℕ → BlockId
padded_id bytes = record { 0 = replicate (32 - length bytes) 0 ++ bytes }

-- an id: 2 to 64 hexadecimal digits, an even number of them
unfoldable pub id_of : List ℕ → Option BlockId
id_of word = option_and_then (λ bytes. if nat_le 1 (length bytes) && nat_le (length bytes) 32 then Some (padded_id bytes) else None)
    (result_ok (decode_of word))

-- a key or a value of at most `most` bytes: two digits for each byte, or `-` for no bytes
unfoldable pub bytes_of : ℕ → List ℕ → Option (List ℕ)
bytes_of most word =
    if bytes_eq word (45 ∷ []) then Some []
    else option_and_then (λ bytes. if nat_le 1 (length bytes) && nat_le (length bytes) most then Some bytes else None)
    (result_ok (decode_of word))

abbrev pub is_equals : ℕ → Bool
is_equals c = c == 61

abbrev pub is_exclamation : ℕ → Bool
is_exclamation c = c == 33

abbrev pub change_to : List ℕ → Option (List ℕ) → Change
change_to key value = record { trie = []; key = key; value = value }

-- `KEY=VALUE`
abbrev pub setting_of : List ℕ → Option Change
setting_of word =
    option_and_then (λ key. option_map (λ value. change_to key (Some value)) (bytes_of most_in_value (after_first is_equals word)))
    (bytes_of most_in_key (before_first is_equals word))

-- `KEY!`
abbrev pub deletion_of : List ℕ → Option Change
deletion_of word =
    if list_any is_exclamation word && (length (after_first is_exclamation word) == 0)
    then option_map (λ key. change_to key None) (bytes_of most_in_key (before_first is_exclamation word))
    else None

-- a change: it sets a key to a value, or deletes it
unfoldable pub change_of : List ℕ → Option Change
change_of word = if list_any is_equals word then setting_of word else deletion_of word

-- the stage that the word names
abbrev pub stage_of : List ℕ → Option Stage
stage_of word =
    if bytes_eq word (codes "log") then Some Log
    else if bytes_eq word (codes "flush") then Some Flush
    else if bytes_eq word (codes "enact") then Some Enact
    else if bytes_eq word (codes "clean") then Some Clean
    else if bytes_eq word (codes "grow") then Some Grow
    else None
