use Rattle.std.proofs.Common.{refl, inl}
use Rattle.flash_tree.specs.Places.{numbers_of}
use Rattle.page_store.specs.Newest.{seen_pages}
use Rattle.page_store.proofs.Keeping.{goes_on, keeps_all}
use Rattle.page_store.proofs.read_only.ReadOnlyPagesPageStore.commit.Goals as goal

pub returns-clause-committed : goal.returns-clause-committed
returns-clause-committed g c = λ sound.
    let self = c.args.self.now in
    inl (keeps_all (record (seen_pages (g.N.Nand.state self.pages.device) self.pages.index self.pages.page.items) { checkpoint = self.checkpoint }) (numbers_of self.greatest) self.spare self.most self.refused_change self.worn self.numbers self.carrying refl)

pub returns-clause-makes : goal.returns-clause-makes
returns-clause-makes g c = λ sound.
    let self = c.args.self.now in
    record { sound = sound; present = λ o k. refl; committed = keeps_all (record (seen_pages (g.N.Nand.state self.pages.device) self.pages.index self.pages.page.items) { checkpoint = self.checkpoint }) (numbers_of self.greatest) self.spare self.most self.refused_change self.worn self.numbers self.carrying refl }

pub returns-clause-goes_on : goal.returns-clause-goes_on
returns-clause-goes_on g c =
    let self = c.args.self.now in
    goes_on (record (seen_pages (g.N.Nand.state self.pages.device) self.pages.index self.pages.page.items) { checkpoint = self.checkpoint }) (numbers_of self.greatest) self.spare self.most self.refused_change self.refused_change

pub returns-in_err-check_unchanged-clause-goes_on : goal.returns-in_err-check_unchanged-clause-goes_on
returns-in_err-check_unchanged-clause-goes_on g c =
    let self = c.args.self.now in
    goes_on (record (seen_pages (g.N.Nand.state self.pages.device) self.pages.index self.pages.page.items) { checkpoint = self.checkpoint }) (numbers_of self.greatest) self.spare self.most self.refused_change self.refused_change
