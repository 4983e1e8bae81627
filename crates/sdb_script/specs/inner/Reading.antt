-- What the readers of parts of a line answer, by the definitions of those parts.
use Rattle.std.specs.Prelude.{◌≡◌, ℕ, List, [], Option, Some, None, Result, Ok, Err}
use Rattle.std.specs.Borrow.{Bor}
use Rattle.sdb_script.specs.declared.line.LineFault.{LineFault}
use Rattle.sdb_script.specs.declared.line.LineFault.TheVariants.{NotInGrammar, OutOfMemory}
use Rattle.hex.specs.declared.error.FromHexError.{FromHexError}
use Rattle.hex.specs.declared.error.FromHexError.TheVariants as hex_errors
use Rattle.sdb_script.specs.Grammar.{words_of}

-- a reader answered what its definition gives, unless memory ran out
abbrev pub IsParsed : {X : Type 0} → Result X LineFault → Option X → Type 0
IsParsed (Ok x) given = given ≡ Some x
IsParsed (Err NotInGrammar) given = given ≡ None
IsParsed (Err OutOfMemory) given = Unit {0}

-- why a word of digits gave no bytes
abbrev pub fault_of : FromHexError → LineFault
fault_of hex_errors.OutOfMemory = OutOfMemory
fault_of _ = NotInGrammar

-- the words that are left: none, or those of the rest of the line
abbrev pub words_left : Option (Bor (List ℕ)) → List (List ℕ)
words_left None = []
words_left (Some rest) = words_of rest.now
