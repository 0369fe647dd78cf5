use Rattle.std.proofs.Common.{sym, subst}
use Rattle.paged_objects.specs.Changing.{IsStale, HasLeft}
use Rattle.name_index.specs.Hashes.{fnv1a}
use Rattle.paged_objects.proofs.Dropped.{stale_dropped}
use Rattle.paged_objects.proofs.dropping.drop_name.Goals as goal

pub returns-in-Some : goal.returns-in-Some
returns-in-Some c = λ z m objects names reports left.
    let d = c.args.entry.directory in
    let gone : IsStale z m objects d (fnv1a c.args.entry.name.now) c.in-Some.left.slot = subst (HasLeft z m objects d (fnv1a c.args.entry.name.now)) c.in-Some.is left in
    let stale = subst (λ h. IsStale z m objects d h c.in-Some.left.slot) (sym c.name_hash-hash.ensures) gone in
    c.drop_behind-in-Some.ensures z m objects
    (stale_dropped c.drop_behind.new.names c.remove.new.self z m objects d c.name_hash-hash.result c.in-Some.left.slot c.remove.ensures stale (c.drop_behind.ensures z m objects names reports)) reports

pub returns-in_default : goal.returns-in_default
returns-in_default c = λ z m objects names reports left. c.drop_behind.ensures z m objects names reports
