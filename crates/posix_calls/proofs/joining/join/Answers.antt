use Rattle.std.proofs.Common.{sym, ap, subst}
use Rattle.volume_terms.specs.Sizes.{Sizes, IsSizes}
use Rattle.paged_objects.specs.Naming.{HasNames}
use Rattle.object_store.specs.Reported.{table_sizes}
use Rattle.posix_calls.specs.PageVolumes.{IsStored}
use Rattle.paged_objects.specs.Representing.{PagesRepresent, Shown}
use Rattle.posix_calls.proofs.Mounting.{sound_at, refers_to}
use Rattle.posix_calls.proofs.joining.join.Goals as goal

pub returns-clause-tree : goal.returns-clause-tree
returns-clause-tree g c tree are =
    let state = g.P.Pages.state in
    let objects = c.args.objects in
    let p = state objects.pages in
    let same = are.sizes in
    let mounted = are.mounted in
    let z = sym same in
    let stored : IsStored state objects tree = record {
      numbers = subst IsSizes z mounted.can.numbers;
      represents = subst (λ (k : Sizes). PagesRepresent k p tree) z mounted.represents;
      reports = mounted.reports;
      hashes = subst (λ (k : Sizes). HasNames objects.names k p.present tree) z (λ d dir. mounted.covers d dir.0 dir.1 dir.2);
      sound = sound_at p objects.table objects.names tree same mounted;
    } in
    refers_to state p (table_sizes objects.table) tree c.new.result objects.table objects.names same mounted (ap state c.new.ensures.pages)
    (c.new.ensures.at tree (record { stored = stored; worn = are.worn; shown = λ _. record { named = mounted.settles; shown = subst (λ (k : Sizes). Shown k p tree) z mounted.shown } }))
