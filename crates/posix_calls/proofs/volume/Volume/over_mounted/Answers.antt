use Rattle.std.proofs.Common.{ap, subst, ◌∙◌}
use Rattle.nand_model.specs.Calls.{Device}
use Rattle.nand_model.specs.Changes.{OnlyReads}
use Rattle.nand_model.specs.TrustedParts.{inner_of}
use Rattle.posix_calls.proofs.Mounting.{over_given}
use Rattle.posix_calls.proofs.volume.Volume.over_mounted.Goals as goal

pub returns-in-Ok-clause-over : goal.returns-in-Ok-clause-over
returns-in-Ok-clause-over g c =
    let o = c.new-objects.ensures in
    let v = c.join-volume.ensures in
    over_given _ c.args.mounted c.new-objects.result c.join-volume.result o.pages o.table o.names v.same v.goes_on v.read_only v.tree

pub returns-in-Err-clause-back : goal.returns-in-Err-clause-back
returns-in-Err-clause-back g c =
    let there = ap g.N.Nand.state (c.into_inner.ensures.inner ∙ ap inner_of c.into_device.ensures.device) in
    subst (λ (k : Device). OnlyReads k (g.N.Nand.state c.unmounted.result.0)) there c.unmounted.ensures.reads
