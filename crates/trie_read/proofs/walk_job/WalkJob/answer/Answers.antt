use Rattle.trie_read.proofs.WalkStages.{all_walked}
use Rattle.trie_read.proofs.walk_job.WalkJob.answer.Goals as goal

pub returns : goal.returns
returns c = all_walked c.args.self
