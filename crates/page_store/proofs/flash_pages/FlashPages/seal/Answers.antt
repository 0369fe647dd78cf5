use Rattle.std.proofs.Common.{ap, refl}
use Rattle.flash_tree.specs.Places.{numbers_of}
use Rattle.page_store.specs.Newest.{seen_pages}
use Rattle.page_store.specs.NewestParts.{device_of, index_of, page_of}
use Rattle.page_store.proofs.FlashSealed.{sealed_reading}
use Rattle.page_store.proofs.flash_pages.FlashPages.seal.Goals as goal

pub returns-in-ReadOnly-clause-seals : goal.returns-in-ReadOnly-clause-seals
returns-in-ReadOnly-clause-seals g c =
    let s = c.in-ReadOnly.pages.value in
    let p = record (seen_pages (g.N.Nand.state (device_of s.pages)) (index_of s.pages) (page_of s.pages)) { checkpoint = s.checkpoint } in
    rw c.in-ReadOnly.is (sealed_reading p (numbers_of s.greatest) s.spare s.most s.refused_change (g.N.Nand.state c.into_device.result) s.worn s.numbers s.carrying refl (ap g.N.Nand.state (rw c.into_inner-in-ReadOnly.ensures at c.into_device.ensures)))

pub returns-in-Store-clause-seals : goal.returns-in-Store-clause-seals
returns-in-Store-clause-seals g c = rw c.in-Store.is (rw c.into_inner.ensures at c.seal.ensures.seals)

pub returns-in-Store-clause-costs : goal.returns-in-Store-clause-costs
returns-in-Store-clause-costs g c = rw c.in-Store.is (rw c.into_inner.ensures at c.seal.ensures.costs)
