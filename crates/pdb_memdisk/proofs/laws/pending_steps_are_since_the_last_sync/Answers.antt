use Rattle.pdb_memdisk.proofs.Now.{pending_now}
use Rattle.pdb_memdisk.proofs.laws.pending_steps_are_since_the_last_sync.Goals as goal

pub returns : goal.returns
returns c = pending_now c.args._disk.now
