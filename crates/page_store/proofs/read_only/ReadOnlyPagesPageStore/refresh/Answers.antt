use Rattle.std.proofs.Common.{refl, true, arith}
use Rattle.flash_tree.specs.Places.{numbers_of}
use Rattle.page_store.specs.Newest.{seen_pages}
use Rattle.page_store.specs.ReadOnly.{only_read}
use Rattle.page_store.proofs.Keeping.{costs_nothing, goes_on, keeps_all, worn_reported}
use Rattle.page_store.proofs.Reported.{not_sound}
use Rattle.page_store.proofs.read_only.ReadOnlyPagesPageStore.refresh.Goals as goal

pub returns : goal.returns
returns g c =
    let self = c.args.self.now in
    let d = g.N.Nand.state self.pages.device in
    let p = record (seen_pages d self.pages.index self.pages.page.items) { checkpoint = self.checkpoint } in
    let n = numbers_of self.greatest in
    record {
      goes_on = goes_on p n self.spare self.most self.refused_change true;
      commits = refl;
      in_buffer = refl;
      lent = refl;
      power = tt;
      stops = not_sound p.sound true refl;
      costs = costs_nothing (only_read p n self.spare self.most self.refused_change);
      reads = omega arith;
      ends = λ sound. record {
        committed = keeps_all p n self.spare self.most true self.worn self.numbers self.carrying refl;
        done = tt;
        cause = worn_reported d n self.spare self.worn;
        idle = λ none. refl;
      };
    }
