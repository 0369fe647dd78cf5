use Rattle.std.proofs.Common.{sym, subst}
use Rattle.posix_profile.specs.declared.reply.Kind.{Kind}
use Rattle.object_store.specs.TableFacts.{entry_added}
use Rattle.object_store.specs.Totaled.{reported_at, Edits}
use Rattle.object_store.proofs.Edits.{add_counts}
use Rattle.object_store.proofs.Reporting.{kind_facts}
use Rattle.object_store.proofs.counted_facts.CountedFacts.add_name.Goals as goal

pub returns-in-Some-clause-counts : goal.returns-in-Some-clause-counts
returns-in-Some-clause-counts c = λ objects name counts gets.
    let there = kind_facts (reported_at c.args.self.now c.args.number) c.in-Some.child c.in-Some.ensures in
    add_counts c.args.self.now c.edit.new.self c.edit-in-Some.new.self objects c.args.moment c.args.directory c.args.number name there.0 counts gets there.1
    (subst (λ (kind : Kind). Edits c.args.self.now c.edit.new.self c.args.directory (entry_added kind c.args.moment)) (sym there.2) c.edit.ensures) c.edit-in-Some.ensures
