use Rattle.std.proofs.Common.{sym, subst}
use Rattle.volume_terms.specs.Sizes.{Sizes}
use Rattle.object_store.specs.TableFacts.{bare_facts}
use Rattle.object_store.specs.Totaled.{sizes_in, FreshObject}
use Rattle.object_store.specs.declared.table_facts.ObjectFacts.{ObjectFacts}
use Rattle.object_store.proofs.Building.{counts_same, on_err, bare_facts_are}
use Rattle.object_store.proofs.table_builder.TableBuilder.insert.Goals as goal

pub returns-in_err-make_room-clause-same : goal.returns-in_err-make_room-clause-same
returns-in_err-make_room-clause-same c = λ objects builds. on_err _ _ (counts_same c.args.self.now.totaled c.make_room.new.self objects c.make_room.ensures.same builds)

pub returns-clause-inserts : goal.returns-clause-inserts
returns-clause-inserts c = λ objects x builds bare come.
    let both = bare_facts_are objects c.args.number c.args.moment c.args.length c.args.kind x come.free come.unnamed bare in
    let same = c.make_room.ensures.same in
    c.add.ensures.counts objects x (counts_same c.args.self.now.totaled c.make_room.new.self objects same builds)
    (subst (λ (f : ObjectFacts). FreshObject (sizes_in c.make_room.new.self) objects c.args.number x f) (sym c.bare.ensures)
    (subst (λ (z : Sizes). FreshObject z objects c.args.number x (bare_facts c.args.kind c.args.moment c.args.length)) (sym same.sizes)
    (record { free = come.free; unnamed = come.unnamed; blank = both.0; facts = both.1; countable = come.countable })))
