use Rattle.mount_scan.proofs.WrittenTags.{passed_behind, passed_more, passed_none}
use Rattle.mount_scan.proofs.written.read_written_tags.Goals.{then-end+in_ok-push, else-end+in_ok-end}
use Rattle.mount_scan.proofs.written.read_written_tags.Goals as goal

pub loop-page-init : goal.loop-page-init
loop-page-init g c = passed_none (g.N.Nand.state c.args.device.now) c.args.block _ c.clear.ensures.items

pub loop-page-preserved : goal.loop-page-preserved
loop-page-preserved g c = elim c.if-end.branch [
  | then-end+in_ok-push w ↦ rw (w.device-is, w.tags-is, w.end-is) (passed_behind (g.N.Nand.state c.args.device.now) _ c.args.block c.loop-page.page c.loop-page.end _ _ w.if-end.true w.in_ok-push.ensures.items c.loop-page.invariant)
  | else-end+in_ok-end w ↦
      let only = c.loop-page.invariant.read.only in
      rw (w.device-is, w.tags-is, w.end-is)
      (passed_more (g.N.Nand.state c.args.device.now) _ _ c.args.block c.loop-page.page c.loop-page.end w.in_ok-end.end _ _ w.if-end.false w.in_ok-end.ensures.reads w.in_ok-end.ensures.pushes c.loop-page.invariant)
]
