-- What readers answer, by the definition of what they read.
use Rattle.std.specs.Prelude.{◌≡◌, Result, Ok, Err}
use Rattle.trie_codec.specs.declared.fault.CodecFault.{CodecFault}

-- what a function returned, seen by view, is what reading gives
abbrev pub Reads : {X Y : Type 0} → (X → Y) → Result X CodecFault → Result Y CodecFault → Type 0
Reads view (Ok x) read = read ≡ Ok (view x)
Reads view (Err f) read = read ≡ Err f
