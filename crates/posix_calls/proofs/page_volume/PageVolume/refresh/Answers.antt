use Rattle.std.proofs.Common.{◌∙◌, ap, sym, subst, Ok, Err}
use Rattle.object_commands.specs.declared.volume.Volume.{Volume}
use Rattle.paged_objects.specs.declared.store.PagedObjects.{PagedObjects}
use Rattle.pages.specs.Refreshing.{Refreshes}
use Rattle.posix_calls.specs.Refreshing.{IsRefreshed}
use Rattle.posix_calls.proofs.Refreshed.{ended, refreshed, stays_read_only, stays_stopped}
use Rattle.posix_profile.specs.declared.reply.Errno.TheVariants as errors
use Rattle.posix_calls.proofs.page_volume.PageVolume.refresh.Goals as goal

pub returns-then-stopped : goal.returns-then-stopped
returns-then-stopped g c = stays_stopped g.P.Pages.state c.args.block c.args.self.now (sym c.stopped.ensures ∙ c.if-stopped.true)

pub returns-then-read_only : goal.returns-then-read_only
returns-then-read_only g c = stays_read_only g.P.Pages.state c.args.block c.args.self.now (sym c.stopped.ensures ∙ c.if-stopped.false) (sym c.read_only.ensures ∙ c.if-read_only.true)

pub returns-in-Ok : goal.returns-in-Ok
returns-in-Ok g c =
    let store = c.refresh-refreshed.new.self in
    let lent = c.store_mut.ensures.store in
    let e = c.in-Ok.ensures in
    refreshed g.P.Pages.state g.met.P.PageStore.within_limit c.args.block c.args.self.now store (sym c.stopped.ensures ∙ c.if-stopped.false) (sym c.read_only.ensures ∙ c.if-read_only.false)
    (e.table ∙ ap (λ (s : PagedObjects g.row.P.Denot). s.table) lent) (e.names ∙ ap (λ (s : PagedObjects g.row.P.Denot). s.names) lent)
    (subst (λ (s : PagedObjects g.row.P.Denot). Refreshes c.args.block (g.P.Pages.state s.pages) (g.P.Pages.state store.pages) (Ok c.in-Ok.field-0)) lent e.pages)

pub returns-in-Err : goal.returns-in-Err
returns-in-Err g c =
    let store = c.refresh-refreshed.new.self in
    let lent = c.store_mut.ensures.store in
    let e = c.in-Err.ensures in
    subst (λ (v : Volume (PagedObjects g.row.P.Denot)). IsRefreshed g.P.Pages.state c.args.block c.args.self.now (Err errors.EIO) (record { volume = v })) (sym c.stop.ensures)
    (ended g.P.Pages.state g.met.P.PageStore.within_limit c.args.block c.args.self.now store (sym c.stopped.ensures ∙ c.if-stopped.false) (sym c.read_only.ensures ∙ c.if-read_only.false)
    (e.table ∙ ap (λ (s : PagedObjects g.row.P.Denot). s.table) lent) (e.names ∙ ap (λ (s : PagedObjects g.row.P.Denot). s.names) lent) c.in-Err.field-0
    (subst (λ (s : PagedObjects g.row.P.Denot). Refreshes c.args.block (g.P.Pages.state s.pages) (g.P.Pages.state store.pages) (Err c.in-Err.field-0)) lent e.pages))
