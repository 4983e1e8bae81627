use Rattle.std.proofs.Common.{◌≡◌, ◌<◌, ◌++◌, ◌∷◌, [], ℕ, false, length, slice_index_or, drop, take}
use Rattle.trie_change.specs.inner.InOrder.{begins_one}
use Rattle.trie_change.proofs.settings.nibbles_set.Given as goal

-- those that were passed go on after the path with the nibbles that are noted
abbrev pub invariant-loop-setting : goal.invariant-loop-setting
invariant-loop-setting l = record {
  len : length l.set ≡ 16;
  noted : (n : ℕ) → n < 16 → slice_index_or l.set n false ≡ begins_one (take l.setting-index (drop l.first l.settings)) (l.end ++ n ∷ []);
}
