use Rattle.std.proofs.Common.{◌≡◌, length, subst, arith}
use Rattle.mount_scan.specs.Runs.{AddsCounted}
use Rattle.mount_scan.proofs.group.add_counted.Goals as goal

pub returns : goal.returns
returns c =
    let tags = c.args.tags.now in
    let all : c.loop-page.page ≡ length tags = omega (arith, c.loop-page-test.false, c.loop-page.auto.page-end) in
    subst (λ n. AddsCounted c.args.block tags n c.args.valid_pages.now.items c.loop-page.valid_pages.items) all c.loop-page.invariant.added
