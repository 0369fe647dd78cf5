use Rattle.pages.specs.Maps.{has}
use Rattle.salvage.proofs.Named.{has_slots}
use Rattle.salvage.proofs.Seeing.{single}
use Rattle.salvage.proofs.law.a_listing_has_the_slots_that_read.Goals as goal

pub returns : goal.returns
returns c = λ z m d count listing within_limit read. has_slots z within_limit (has m) (single m) d count listing read
