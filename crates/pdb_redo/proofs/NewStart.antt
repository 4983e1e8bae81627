-- Where no crash leaves a whole gate, the gate's file never has one.
use Rattle.std.proofs.Common.{zero, suc, refl}
use Rattle.pdb_disk.specs.Files.{FileBytes, Files, Image, IsFileImage, IsImage}
use Rattle.pdb_model.specs.Logs.{gate_file}
use Rattle.pdb_redo.specs.Creating.{HasNoGate}
use Rattle.pdb_redo.specs.inner.Creation.{NeverHasGate}

abbrev with_gate_file : Files → FileBytes → Image
with_gate_file fs c zero = c
with_gate_file fs c (suc j) = (fs (suc j)).kept

is_image : (fs : Files) (c : FileBytes) → IsFileImage (fs gate_file) c → IsImage fs (with_gate_file fs c)
is_image fs c image zero = image
is_image fs c image (suc j) = λ i spared. refl

pub never_at_first : (fs : Files) → ((x : Image) → IsImage fs x → HasNoGate x) → NeverHasGate fs
never_at_first fs none c image g has = none (with_gate_file fs c) (is_image fs c image) g has
