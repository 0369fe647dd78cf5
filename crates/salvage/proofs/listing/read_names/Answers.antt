use Rattle.std.proofs.Common.{None, Some, subst}
use Rattle.pages.specs.Maps.{PageMap, has}
use Rattle.pages.specs.State.{PagesState}
use Rattle.salvage.specs.SeenBy.{seen_by}
use Rattle.salvage.specs.Reported.{ListsSlots, SaysInfo}
use Rattle.salvage.proofs.Named.{directory_of, no_directory}
use Rattle.salvage.proofs.Seeing.{page_size, single, still_seen}
use Rattle.salvage.proofs.listing.read_names.Goals as goal

pub returns-in_default-clause-lists : goal.returns-in_default-clause-lists
returns-in_default-clause-lists g c = λ z is f h directory.
    let old : PagesState = seen_by c.args.pages.now in
    let says : SaysInfo z (has old.present) c.args.directory None = rw c.in_default.is at c.in_ok-info.ensures.info z is in
    says f h

pub returns-in-File-clause-lists : goal.returns-in-File-clause-lists
returns-in-File-clause-lists g c = λ z is.
    let old : PagesState = seen_by c.args.pages.now in
    let size = page_size z (g.N.Nand.state c.args.pages.now.device) c.args.pages.now.index c.args.pages.now.page.items is in
    let says : SaysInfo z (has old.present) c.args.directory (Some c.in-Some.info) = rw c.in-Some.is at c.in_ok-info.ensures.info z is in
    no_directory z (has old.present) c.args.directory c.in-Some.info says size.most (single old.present) c.in-File.is

pub returns-in_ok-listing-in-Directory-clause-lists : goal.returns-in_ok-listing-in-Directory-clause-lists
returns-in_ok-listing-in-Directory-clause-lists g c = λ z is.
    let old : PagesState = seen_by c.args.pages.now in
    let mid : PagesState = seen_by c.read_info.new.pages in
    let lookups = c.read_info.ensures.lookups in
    let info = c.in-Some.info in
    let listing = c.in_ok-listing-in-Directory.listing in
    let says : SaysInfo z (has old.present) c.args.directory (Some info) = rw c.in-Some.is at c.in_ok-info.ensures.info z is in
    let slots = c.in_ok-listing-in-Directory.ensures.lists z (still_seen z old mid lookups is) in
    directory_of z (has old.present) c.args.directory info says listing c.in-Directory.is (subst (λ (m : PageMap). ListsSlots z (has m) c.args.directory info.length listing) lookups.present slots)
