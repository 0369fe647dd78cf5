use Rattle.std.proofs.Common.{◌≡◌, ◌∙◌, Some, None, sym, ap, subst}
use Rattle.std.specs.FinMap as map
use Rattle.std.specs.Ordering.{nat_cmp}
use Rattle.name_index.specs.declared.index.NameIndex.{NameIndex}
use Rattle.paged_objects.specs.Naming.{HasNames}
use Rattle.object_store.specs.Reported.{table_sizes, Reports}
use Rattle.object_store.specs.declared.table.ObjectTable.{ObjectTable}
use Rattle.paged_objects.specs.Representing.{PagesRepresent, Shown}
use Rattle.pages.specs.State.{PagesState}
use Rattle.posix_calls.proofs.page_volume.PageVolume.new.Goals as goal

pub returns-clause-at : goal.returns-clause-at
returns-clause-at g c tree has =
    let state = g.P.Pages.state in
    let stored = has.stored in
    let worn = has.worn in
    let shown = has.shown in
    let z = table_sizes c.args.objects.table in
    let made = c.over.ensures in
    let pages : state c.over.result.store.pages ≡ state c.args.objects.pages = ap (λ o. state o.pages) made.0 in
    let table : c.over.result.store.table ≡ c.args.objects.table = ap (λ o. o.table) made.0 in
    let names : c.over.result.store.names ≡ c.args.objects.names = ap (λ o. o.names) made.0 in
    record {
      numbers = stored.numbers;
      sizes = ap table_sizes table;
      represents = subst (λ (p : PagesState). PagesRepresent z p tree) (sym pages) stored.represents;
      reports = subst (λ (t : ObjectTable). Reports t tree) (sym table) stored.reports;
      hashes = subst (λ (x : NameIndex). HasNames x z (state c.over.result.store.pages).present tree) (sym names)
          (subst (λ (p : PagesState). HasNames c.args.objects.names z p.present tree) (sym pages) stored.hashes);
      handles = made.1 ∙ c.requires;
      sound = stored.sound;
      worn = ap (λ (p : PagesState). p.worn) pages ∙ worn ∙ sym made.2;
      within_limit = λ writes. g.met.P.PageStore.within_limit c.over.result.store.pages (ap (λ (p : PagesState). p.sound) pages ∙ stored.represents.sound) (ap (λ (p : PagesState). p.worn) pages ∙ worn ∙ sym made.2 ∙ writes);
      reading = λ only fd handle is. let two : None ≡ Some handle = sym (map.get-empty nat_cmp fd) ∙ is in absurd cc;
      named = λ only. (shown (sym made.2 ∙ only)).named;
      shown = λ only. subst (λ (p : PagesState). Shown z p tree) (sym pages) (shown (sym made.2 ∙ only)).shown;
    }
