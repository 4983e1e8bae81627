use Rattle.std.proofs.Common.{◌∙◌, Some, ap, sym}
use Rattle.trie_read.specs.declared.parts.Part.{Part}
use Rattle.trie_read.proofs.SearchEnds.{all_searched, key_behind}
use Rattle.trie_read.proofs.next_job.NextJob.answer.Goals as goal

pub returns-in-Some-Key : goal.returns-in-Some-Key
returns-in-Some-Key c = λ m key w.
    sym (ap key_behind c.in-Some-Key.is ∙ ap (λ (p : Part). key_behind (Some p)) c.in-Some-Key.field-0-is) ∙ all_searched c.args.self m key w

pub returns : goal.returns
returns c = λ m key w. sym (ap key_behind c.in-None.is) ∙ all_searched c.args.self m key w
