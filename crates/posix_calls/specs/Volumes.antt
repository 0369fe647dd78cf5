-- What a mounted volume is.
use Rattle.nand_model.specs.declared.nand.Nand.{Ghosts}
use Rattle.nand_model.specs.declared.trusted_nand.TrustedNand.{TrustedNand}
use Rattle.page_store.specs.declared.flash_pages.FlashPages.{FlashPages}
use Rattle.posix_calls.specs.declared.page_volume.PageVolume.{PageVolume}
use Rattle.posix_calls.specs.declared.volume.Volume.{Volume}

-- the volume over the pages of its device, which is trusted or not
abbrev pub over_pages : {N : Type 0} {trusted : Ghosts (TrustedNand N)} → Volume N trusted → PageVolume (FlashPages (TrustedNand N) trusted)
over_pages v = v.volume
