-- What a queue says of a plain key after the operations that are logged.
use Rattle.std.proofs.Common.{◌≡◌, ℕ, Bool, true, false, if◌then◌else◌, List, [], ◌∷◌, Option, Some, None, refl, ◌∙◌}
use Rattle.std.specs.Option.{option_or}
use Rattle.std.specs.Str.{bytes_eq}
use Rattle.sdb_base.specs.Content.{Counted, meta_after, meta_from}
use Rattle.sdb_base.specs.declared.op.Op.{Op}
use Rattle.sdb_base.specs.declared.op.Op.TheVariants.{AddRef, DropRef, Put, Erase}
use Rattle.pdb_overlay.specs.Lending.{Bytes, Erased, Said, newest_said, says}

-- what column 1 holds under a key after operations that say this of it
abbrev pub by_said : Option Said → Option Counted → Option Counted
by_said None now = now
by_said (Some (Bytes bytes)) now = Some (record { count = 1; bytes = bytes })
by_said (Some Erased) now = None

said_by_one : (key : List ℕ) (op : Op) (now : Option Counted) → meta_after key now op ≡ by_said (says 1 key op) now
said_by_one key (AddRef k bytes) now = refl
said_by_one key (DropRef k) now = refl
said_by_one key (Put k bytes) now = by_test (bytes_eq k key)
  where
    by_test : (b : Bool) → (if b then Some (record { count = 1; bytes = bytes }) else now) ≡ by_said (if b then Some (Bytes bytes) else None) now
    by_test true = refl
    by_test false = refl
said_by_one key (Erase k) now = by_test (bytes_eq k key)
  where
    by_test : (b : Bool) → (if b then None else now) ≡ by_said (if b then Some Erased else None) now
    by_test true = refl
    by_test false = refl

said_later : (key : List ℕ) (op : Op) (now : Option Counted) (s : Option Said) → by_said s (meta_after key now op) ≡ by_said (option_or s (says 1 key op)) now
said_later key op now None = said_by_one key op now
said_later key op now (Some (Bytes bytes)) = refl
said_later key op now (Some Erased) = refl

pub said_of_meta : (key : List ℕ) (ops : List Op) (now : Option Counted) → meta_from key now ops ≡ by_said (newest_said 1 key ops) now
said_of_meta key [] now = refl
said_of_meta key (op ∷ ops) now = said_of_meta key ops (meta_after key now op) ∙ said_later key op now (newest_said 1 key ops)
