-- What the numbers of a volume in a program represent.
use Rattle.volume_terms.specs.Sizes.{Sizes}
use Rattle.volume_terms.specs.declared.sizes.VolumeSizes.{VolumeSizes}

-- the numbers of a volume
abbrev pub sizes_of : VolumeSizes → Sizes
sizes_of z = record { page_bytes = z.page_bytes; block_pages = z.block_pages; blocks = z.blocks; spare_blocks = z.spare_blocks }
