use Rattle.std.proofs.Common.{refl, ◌∙◌}
use Rattle.pages.specs.State.{PagesState}
use Rattle.paged_objects.specs.Faults.{fault_of}
use Rattle.paged_objects.specs.Parts.{state_of}
use Rattle.paged_objects.specs.laws.Showing.{holds_in}
use Rattle.paged_objects.proofs.Ends.{read_fault}
use Rattle.paged_objects.proofs.Meant.{has_objects, read_faults}
use Rattle.paged_objects.specs.declared.store.PagedObjects.{PagedObjects}
use Rattle.paged_objects.proofs.store.PagedObjectsObjectStore.names.Goals as goal

pub returns-in-Err-clause-lookups : goal.returns-in-Err-clause-lookups
returns-in-Err-clause-lookups g c = λ z objects has is.
    let p : PagesState = g.P.Pages.state c.args.self.now.pages in
    let q : PagesState = g.P.Pages.state c.names.new.pages in
    let mine = has_objects (state_of g.P.Pages.state) c.args.self.now z objects has in
    rw c.fault_of.ensures (read_faults {S = PagedObjects g.row.P.Denot} (state_of g.P.Pages.state) c.args.self.now
    (record { alloc = c.args.self.now.alloc; pages = c.names.new.pages; table = c.args.self.now.table; names = c.args.self.now.names }) (fault_of c.in-Err.fault) c.names.ensures.lookups refl refl
    (read_fault q c.in-Err.fault (g.met.P.PageStore.lost c.names.new.pages (c.names.ensures.lookups.sound ∙ mine.pages.represents.sound)) (c.in-Err.ensures.fault _ objects (holds_in _ p objects mine.pages.represents) is)))

pub returns-in-Ok-clause-lookups : goal.returns-in-Ok-clause-lookups
returns-in-Ok-clause-lookups g c = λ z objects has is.
    let p : PagesState = g.P.Pages.state c.args.self.now.pages in
    let mine = has_objects (state_of g.P.Pages.state) c.args.self.now z objects has in
    c.in-Ok.ensures.found _ objects (holds_in _ p objects mine.pages.represents) is
