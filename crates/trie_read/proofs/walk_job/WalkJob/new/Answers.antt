use Rattle.std.proofs.Common.{Some, ap, refl, ◌∙◌}
use Rattle.sdb_base.specs.Nibbles.{nibbles_of}
use Rattle.trie_read.proofs.WalkStages.{first_walked}
use Rattle.trie_read.proofs.walk_job.WalkJob.new.Goals as goal

pub returns : goal.returns
returns c = λ m within root.
    first_walked
    (record { alloc = c.args.alloc; prefix = c.in_ok-prefix.prefix; wanted = Some (record { hash = c.args.root; path = c.new-path.result }); found = c.new.result; later = c.new-2.result })
    m c.args.prefix (record { hash = c.args.root; path = c.new-path.result }) within
    (c.in_ok-prefix.ensures ∙ ap nibbles_of c.as_slice.ensures) refl c.new.ensures c.new-2.ensures root c.new-path.ensures.items
