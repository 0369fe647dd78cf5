use Rattle.std.specs.Prelude.{not}
use Rattle.std.specs.FinMap as map
use Rattle.std.proofs.Common.{ap}
use Rattle.std.proofs.lemmas.Result.{on_ok_weaker}
use Rattle.object_store.specs.Changes.{made}
use Rattle.object_store.specs.declared.change.ObjectChange.TheVariants as changes
use Rattle.object_store.specs.Reported.{table_sizes}
use Rattle.paged_objects.specs.Parts.{state_of}
use Rattle.paged_objects.proofs.Meant.{has_objects, can_make, applied, forgets}
use Rattle.paged_objects.specs.declared.store.PagedObjects.{PagedObjects}
use Rattle.paged_objects.proofs.store.PagedObjectsObjectStore.apply.Goals as goal

pub returns-in-Forget-clause-applies : goal.returns-in-Forget-clause-applies
returns-in-Forget-clause-applies g c = λ z objects has make.
    let mine = has_objects (state_of g.P.Pages.state) c.args.self.now z objects has in
    rw c.in-Forget.is (applied {S = PagedObjects g.row.P.Denot} (state_of g.P.Pages.state) c.args.self.now
    (record { alloc = c.args.self.now.alloc; pages = c.forget.new.pages; table = c.forget.new.table; names = c.forget.new.names }) objects (map.remove objects c.in-Forget.number) c.forget.result c.forget.ensures.goes_on c.forget.ensures.sizes
    (c.forget.ensures.makes objects mine (can_make z (table_sizes c.args.self.now.table) objects (changes.Forget c.in-Forget.number) has.sizes (rw c.in-Forget.is at make))))

pub returns-in_default : goal.returns-in_default
returns-in_default g c = record {
  lasts = (c.make.ensures.goes_on, c.make.ensures.sizes);
  power = on_ok_weaker c.make.result (ap not) c.make.ensures.power;
  leaves = λ none. let it = forgets c.args.change.now none in absurd (c.in_default.not-Forget it.0 it.1);
  applies = λ z objects has make.
      let mine = has_objects (state_of g.P.Pages.state) c.args.self.now z objects has in
      applied {S = PagedObjects g.row.P.Denot} (state_of g.P.Pages.state) c.args.self.now
      (record { alloc = c.args.self.now.alloc; pages = c.make.new.pages; table = c.make.new.table; names = c.make.new.names }) objects (made objects c.args.change.now) c.make.result c.make.ensures.goes_on c.make.ensures.sizes
      (c.make.ensures.makes objects mine (can_make z (table_sizes c.args.self.now.table) objects c.args.change.now has.sizes make));
  refused = c.make.ensures.refused;
  memory = λ none is. let it = forgets c.args.change.now none in absurd (c.in_default.not-Forget it.0 it.1);
}
