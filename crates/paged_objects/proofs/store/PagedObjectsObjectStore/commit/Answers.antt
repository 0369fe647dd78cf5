use Rattle.std.proofs.Common.{refl}
use Rattle.std.proofs.lemmas.Result.{on_ok_weaker}
use Rattle.paged_objects.specs.Parts.{state_of}
use Rattle.paged_objects.proofs.Meant.{has_objects, commits}
use Rattle.paged_objects.specs.declared.store.PagedObjects.{PagedObjects}
use Rattle.paged_objects.proofs.store.PagedObjectsObjectStore.commit.Goals as goal

pub returns-clause-commits : goal.returns-clause-commits
returns-clause-commits g c = λ z objects has.
    let mine = has_objects (state_of g.P.Pages.state) c.args.self.now z objects has in
    let sound = mine.pages.represents.sound in
    let r = c.commit.result in
    let makes = c.commit.ensures.makes sound in
    commits {S = PagedObjects g.row.P.Denot} (state_of g.P.Pages.state) c.args.self.now
    (record { alloc = c.args.self.now.alloc; pages = c.commit.new.self; table = c.args.self.now.table; names = c.args.self.now.names }) objects c.commit.result mine refl refl c.commit.ensures.goes_on
    (on_ok_weaker r (λ is _. is.sound) makes) (on_ok_weaker r (λ is. is.present) makes) (c.commit.ensures.committed sound) (on_ok_weaker r (λ is. is.committed) makes) (c.commit.ensures.fault sound)
