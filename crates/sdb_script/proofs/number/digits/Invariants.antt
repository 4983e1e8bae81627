use Rattle.std.proofs.Common.{◌≡◌, ◌≤◌, drop}
use Rattle.sdb_script.specs.Numbers.{digits_value}
use Rattle.sdb_script.proofs.number.digits.Given as goal

-- the digits so far gave `value`
abbrev pub invariant-loop-digit : goal.invariant-loop-digit
invariant-loop-digit l = record {
  within : l.value ≤ l.high;
  same : digits_value 0 l.word ≡ digits_value l.value (drop l.digit-index l.word);
}
