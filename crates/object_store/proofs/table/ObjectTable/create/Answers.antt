use Rattle.std.proofs.Common.{sym, subst}
use Rattle.std.specs.FinMap as map
use Rattle.volume_terms.specs.Sizes.{Sizes}
use Rattle.posix_profile.specs.Changes.{with_name}
use Rattle.object_store.specs.Changes.{empty_object}
use Rattle.object_store.specs.Totaled.{Counts, FreshObject, GetsName}
use Rattle.object_store.specs.Taken.{taken_in}
use Rattle.object_store.specs.Reported.{reported, table_sizes}
use Rattle.object_store.specs.declared.table_facts.ObjectFacts.{ObjectFacts}
use Rattle.object_store.proofs.Applying.{create_fresh, create_named}
use Rattle.object_store.proofs.Free.{next_is_new}
use Rattle.object_store.proofs.table.ObjectTable.create.Goals as goal

pub returns-clause-reports : goal.returns-clause-reports
returns-clause-reports c = λ objects name reports can gets.
    let new = next_is_new objects (reported c.args.self.now) c.add_object-number.result reports.each (c.add_object-number.ensures.least (taken_in c.args.self.now.totaled.facts) c.args.self.now.free) in
    let fresh = create_fresh (table_sizes c.args.self.now) objects can c.add_object-number.result c.args.moment c.args.directory name c.args.kind new gets in
    let named = create_named (table_sizes c.args.self.now) objects can c.add_object-number.result c.args.moment c.args.directory name c.args.kind new gets in
    let mid = c.add_object-number.ensures.counts objects (empty_object c.args.kind c.args.moment) reports
    (subst (λ (f : ObjectFacts). FreshObject (table_sizes c.args.self.now) objects c.add_object-number.result (empty_object c.args.kind c.args.moment) f) (sym c.fresh-facts.ensures) fresh) in
    let done = c.add_name.ensures.reports (map.insert objects c.add_object-number.result (empty_object c.args.kind c.args.moment)) name mid
    (subst (λ (z : Sizes). GetsName z (map.insert objects c.add_object-number.result (empty_object c.args.kind c.args.moment)) c.args.moment c.args.directory name c.add_object-number.result) (sym c.add_object-number.ensures.size) named) in
    subst (λ k. Counts c.add_name.new.self.totaled (with_name (map.insert objects k (empty_object c.args.kind c.args.moment)) c.args.moment c.args.directory name k)) new done
