use Rattle.std.proofs.Common.{Some, None, ap, refl}
use Rattle.trie_read.proofs.NextStage.{first_stage}
use Rattle.trie_read.proofs.read_job.ReadJob.new.Goals as goal

pub returns : goal.returns
returns c = λ m within root. record {
  within = within;
  key = refl;
  stage = first_stage (record { alloc = c.args.alloc; key = c.args.key; at = 0; wanted = Some c.args.root; value = None; fits = _ }) m (ap Some root) refl;
}
