use Rattle.trie_change.proofs.Put.{put_is_new}
use Rattle.trie_change.proofs.laws.what_is_put_is_new_at_its_path.Goals as goal

pub returns : goal.returns
returns c = put_is_new
