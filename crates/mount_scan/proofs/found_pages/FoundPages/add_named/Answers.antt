use Rattle.std.proofs.Common.{sym, subst, ◌+◌, take}
use Rattle.std.proofs.lemmas.List.{get_or_default}
use Rattle.mount_scan.specs.Copies.{pages_named}
use Rattle.mount_scan.specs.Keys.{ThinsFound}
use Rattle.mount_scan.specs.Listed.{listed}
use Rattle.mount_scan.proofs.NamedPages.{named_skip, named_next}
use Rattle.mount_scan.proofs.found_pages.FoundPages.add_named.Goals.{in-Some+in_ok-add, in_default}
use Rattle.mount_scan.proofs.found_pages.FoundPages.add_named.Goals as goal

pub loop-entry-preserved : goal.loop-entry-preserved
loop-entry-preserved c =
    let xs = c.args.entries.now in
    let n = c.loop-entry.entry-index in
    let at = get_or_default xs n _ _ c.loop-entry-test.true in
    elim c.match-of.branch [
      | in-Some+in_ok-add w ↦ subst (λ s. ThinsFound (take (n + 1) (pages_named c.args.seq xs)) (listed c.args.self.now) (listed s)) (sym w.self-is) (named_next c.args.seq xs n _ c.loop-entry-test.true at _ _ _ _ w.in-Some.copy c.page_named.ensures w.in-Some.ensures.copy c.loop-entry.invariant w.in_ok-add.ensures)
      | in_default w ↦ subst (λ s. ThinsFound (take (n + 1) (pages_named c.args.seq xs)) (listed c.args.self.now) (listed s)) (sym w.self-is) (named_skip c.args.seq xs n _ c.loop-entry-test.true at _ (listed c.args.self.now) (listed c.loop-entry.self) c.page_named.ensures w.in_default.ensures.none c.loop-entry.invariant)
    ]
