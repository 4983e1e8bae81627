use Rattle.pdb_disk.proofs.Images.{begins_image, settles_image}
use Rattle.pdb_disk.proofs.laws.what_is_read_is_an_image.Goals as goal

pub returns-clause-begun : goal.returns-clause-begun
returns-clause-begun c = begins_image

pub returns-clause-synced : goal.returns-clause-synced
returns-clause-synced c = settles_image
