-- What the header of a file says of one of its chunks.
-- From: this project.
use Rattle.std.specs.Prelude.{◌≡◌, ◌≢◌, ℕ, Option, Some, None}
use Rattle.page_tags.specs.Headers.{Fields, is_present}
use Rattle.page_tags.specs.declared.header.ObjectKind.TheVariants as kinds
use Rattle.volume_terms.specs.Sizes.{Sizes}
use Rattle.flash_tree.specs.Tree.{NewestMap, HasHeader}
use Rattle.salvage.specs.declared.reading.FileChunk.{FileChunk}

-- the header is of a file of this length, and says whether the chunk is present
pub record IsChunkOf (reported : FileChunk) (f : Fields) (chunk : ℕ) : Type 0 where
  pub kind : f.kind ≡ kinds.File
  pub length_is : reported.length ≡ f.length
  pub present : reported.present ≡ is_present f.bits chunk

-- what the header of a file says of a chunk, or that no header of a file reads
abbrev pub SaysChunk : Sizes → NewestMap → ℕ → ℕ → Option FileChunk → Type 0
SaysChunk z m o chunk None = (f : Fields) → HasHeader z m o f → f.kind ≢ kinds.File
SaysChunk z m o chunk (Some reported) = (f : Fields) × HasHeader z m o f × IsChunkOf reported f chunk
