use Rattle.std.proofs.Common.{Option, subst}
use Rattle.std.specs.Prelude.{ℕ, IfSome}
use Rattle.nand_model.specs.declared.geometry.Geometry.{Geometry}
use Rattle.block_state.specs.TableOf.{table}
use Rattle.flash_log.specs.SummarySource.{CanSummarize}
use Rattle.flash_log.specs.declared.summary_source.SummarySource.{SummarySource}
use Rattle.log_tests.proofs.volumes.Volume.summarize.Goals as goal

pub write_checkpoint-requires-clause-source : goal.write_checkpoint-requires-clause-source
write_checkpoint-requires-clause-source g c =
    let n : ℕ = (table c.args.self.now.blocks).next_group in
    let can = c.new-source.ensures.can n c.args.self.now.can_write.numbers.0 in
    let some = subst (λ (found : Option SummarySource). IfSome found (λ (s : SummarySource). CanSummarize s c.geometry-2.result n)) c.expect-source.ensures can in
    subst (λ (h : Geometry). CanSummarize c.expect-source.result h n) c.geometry-2.ensures some
