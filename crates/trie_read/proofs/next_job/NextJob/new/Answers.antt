use Rattle.std.proofs.Common.{Some, None, ap, refl, ◌∙◌}
use Rattle.sdb_base.specs.Nibbles.{nibbles_of}
use Rattle.trie_read.proofs.SearchBegins.{first_sought}
use Rattle.trie_read.proofs.next_job.NextJob.new.Goals as goal

pub returns : goal.returns
returns c = λ m within root.
    first_sought
    (record { alloc = c.args.alloc; key = c.in_ok-key.key; wanted = Some (record { hash = c.args.root; path = c.new-path.result }); nearest = None })
    m c.args.key (record { hash = c.args.root; path = c.new-path.result }) within
    (c.in_ok-key.ensures ∙ ap nibbles_of c.as_slice.ensures) refl refl root c.new-path.ensures.items
