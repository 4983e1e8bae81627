-- The bytes of files in memory, as contents of a disk's files.
use Rattle.std.specs.Prelude.{ℕ, ◌==◌, if◌then◌else◌, List, [], get_or}
use Rattle.pdb_disk.specs.Files.{FileBytes, Image, Files, Step, done, settled}

-- these bytes, and zeros past them
abbrev pub content_of : List ℕ → FileBytes
content_of bytes = λ i. get_or bytes i 0

-- the files of these bytes by their numbers, and empty ones past them
abbrev pub image_of : List (List ℕ) → Image
image_of files = λ j. content_of (get_or files j [])

-- all files after a step on one of them that was done whole
abbrev pub changed : Image → ℕ → Step → Image
changed x file s = λ j. if j == file then done (x j) s else x j

-- files of these contents, all of them synced
abbrev pub all_settled : Image → Files
all_settled x = λ j. settled (x j)
