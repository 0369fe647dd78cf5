use Rattle.std.proofs.Common.{ap, arith}
use Rattle.nand_model.specs.declared.geometry.Geometry.{Geometry}
use Rattle.mount_scan.proofs.BestCandidate.{none_version, none_room, none_pages}
use Rattle.mount_scan.proofs.checkpoint_search.read_candidate.Goals.{then-tag-via-then-tag, then-tag-via-else-tag+then-tag-pages}
use Rattle.mount_scan.proofs.checkpoint_search.read_candidate.Goals as goal

pub returns-then-tag-clause-none : goal.returns-then-tag-clause-none
returns-then-tag-clause-none g c = elim c.then-tag.branch [
  | then-tag-via-then-tag w ↦ none_version (g.N.Nand.state c.args.device.now) c.args.candidate w.if-tag.true
  | then-tag-via-else-tag+then-tag-pages w ↦ none_room (g.N.Nand.state c.args.device.now) c.args.candidate (g.met.N.Nand.within c.args.device.now)
      (omega (arith, w.if-tag-pages.true, w.pages.ensures, ap (λ (x : Geometry). x.pages) c.geometry-geometry.ensures))
]

pub returns-then-not-branch-clause-none : goal.returns-then-not-branch-clause-none
returns-then-not-branch-clause-none g c = none_pages (g.N.Nand.state c.args.device.now) c.args.candidate (c.in_ok-read_pages.ensures.none c.if-not-branch.true)
