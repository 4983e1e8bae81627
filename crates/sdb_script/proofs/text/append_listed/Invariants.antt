use Rattle.std.proofs.Common.{◌≡◌, ◌++◌, codes, take}
use Rattle.sdb_script.specs.Texts.{keys_text}
use Rattle.sdb_script.proofs.text.append_listed.Given as goal

-- the keys so far are written
abbrev pub invariant-loop-key : goal.invariant-loop-key
invariant-loop-key l = l.out.items ≡ (l.fn.out.items ++ codes "list") ++ keys_text (take l.key-index l.keys)
