use Rattle.std.proofs.Common.{◌≡◌, ◌+◌, ◌≤◌, length}
use Rattle.sdb_script.specs.Grammar.{each_change}
use Rattle.sdb_script.specs.inner.Reading.{words_left}
use Rattle.sdb_script.proofs.Changing.{with_front}
use Rattle.sdb_script.proofs.changes.parse_changes.Given as goal

-- the changes so far and those of the words left are those of all words
abbrev pub invariant-words : goal.invariant-words
invariant-words l = record {
  few : length l.changes ≤ 65536;
  all : length l.changes + length (words_left l.rest) ≡ length (words_left l.fn.words);
  same : with_front l.changes (each_change (words_left l.rest)) ≡ each_change (words_left l.fn.words);
}

abbrev pub decreases-words : goal.decreases-words
decreases-words l = length (words_left l.rest)
