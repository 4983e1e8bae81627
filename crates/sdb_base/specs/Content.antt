-- What a database's columns hold after operations. Column 0 has nodes by their hashes and counts them; column 1 has bytes
-- by plain keys.
use Rattle.std.specs.Prelude.{ℕ, ◌+◌, ◌-◌, ◌^◌, ◌==◌, List, [], ◌∷◌, Option, Some, None, if◌then◌else◌}
use Rattle.std.specs.Str.{bytes_eq}
use Rattle.sdb_base.specs.declared.op.Op.{Op}
use Rattle.sdb_base.specs.declared.op.Op.TheVariants.{AddRef, DropRef, Put, Erase}

-- what a column holds under a key
pub record Counted : Type 0 where
  pub count : ℕ
  pub bytes : List ℕ

-- a count of 2^64 - 1 never changes
abbrev pub count_up : ℕ → ℕ
count_up n = if n == 2 ^ 64 - 1 then n else n + 1

abbrev pub count_down : ℕ → ℕ
count_down n = if n == 2 ^ 64 - 1 then n else n - 1

-- one reference more: to these bytes where there were none, else to those that are there
abbrev pub with_reference : List ℕ → Option Counted → Option Counted
with_reference bytes None = Some (record { count = 1; bytes = bytes })
with_reference bytes (Some c) = Some (record { count = count_up c.count; bytes = c.bytes })

-- one reference fewer: the last one removes the key
abbrev pub without_reference : Option Counted → Option Counted
without_reference None = None
without_reference (Some c) = if c.count == 1 then None else Some (record { count = count_down c.count; bytes = c.bytes })

-- what column 0 holds under a key after an operation
abbrev pub node_after : List ℕ → Option Counted → Op → Option Counted
node_after key now (AddRef k bytes) = if bytes_eq k.0 key then with_reference bytes now else now
node_after key now (DropRef k) = if bytes_eq k.0 key then without_reference now else now
node_after key now (Put k bytes) = now
node_after key now (Erase k) = now

-- what column 1 holds under a key after an operation
abbrev pub meta_after : List ℕ → Option Counted → Op → Option Counted
meta_after key now (AddRef k bytes) = now
meta_after key now (DropRef k) = now
meta_after key now (Put k bytes) = if bytes_eq k key then Some (record { count = 1; bytes = bytes }) else now
meta_after key now (Erase k) = if bytes_eq k key then None else now

-- what column 0 holds under a key after operations, if it held this before
abbrev pub node_from : List ℕ → Option Counted → List Op → Option Counted
node_from key now [] = now
node_from key now (op ∷ ops) = node_from key (node_after key now op) ops

abbrev pub meta_from : List ℕ → Option Counted → List Op → Option Counted
meta_from key now [] = now
meta_from key now (op ∷ ops) = meta_from key (meta_after key now op) ops

-- what the columns hold under a key after these operations
abbrev pub node_under : List Op → List ℕ → Option Counted
node_under ops key = node_from key None ops

abbrev pub meta_under : List Op → List ℕ → Option Counted
meta_under ops key = meta_from key None ops
