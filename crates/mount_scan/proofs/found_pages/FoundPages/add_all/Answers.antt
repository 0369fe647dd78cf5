use Rattle.std.proofs.Common.{sym, subst, ◌+◌, take}
use Rattle.std.proofs.lemmas.List.{get_or_default}
use Rattle.mount_scan.specs.Keys.{ThinsFound}
use Rattle.mount_scan.specs.Listed.{listed}
use Rattle.mount_scan.proofs.Thinning.{found_skip, found_next}
use Rattle.mount_scan.proofs.found_pages.FoundPages.add_all.Goals.{in-Some+in_ok-add, in_default}
use Rattle.mount_scan.proofs.found_pages.FoundPages.add_all.Goals as goal

pub loop-page-preserved : goal.loop-page-preserved
loop-page-preserved c =
    let xs = c.args.found.now in
    let n = c.loop-page.page-index in
    let at = get_or_default xs n _ _ c.loop-page-test.true in
    elim c.match-of.branch [
      | in-Some+in_ok-add w ↦ subst (λ s. ThinsFound (take (n + 1) xs) (listed c.args.self.now) (listed s)) (sym w.self-is) (found_next xs _ _ _ n _ c.loop-page-test.true at w.in-Some.copy w.in-Some.ensures.copy c.loop-page.invariant w.in_ok-add.ensures)
      | in_default w ↦ subst (λ s. ThinsFound (take (n + 1) xs) (listed c.args.self.now) (listed s)) (sym w.self-is) (found_skip xs _ (listed c.loop-page.self) (listed c.loop-page.self) n _ c.loop-page-test.true at w.in_default.ensures.none c.loop-page.invariant)
    ]
