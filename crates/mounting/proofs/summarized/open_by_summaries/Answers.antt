use Rattle.nand_model.specs.TrustedParts.{inner_of}
use Rattle.mounting.proofs.Noting.{ok_map, since_before, true_after}
use Rattle.mounting.proofs.ReadsTree.{reads_needed}
use Rattle.mounting.proofs.summarized.open_by_summaries.Goals as goal

pub returns-in-Ok-clause-read : goal.returns-in-Ok-clause-read
returns-in-Ok-clause-read g c = ok_map c.go_by_summaries.result (λ named since. since_before _ _ _ _ c.in-Ok.ensures.reads c.in-Ok.ensures.power since) c.go_by_summaries.ensures.read

pub returns-in-Ok-clause-within_limit : goal.returns-in-Ok-clause-within_limit
returns-in-Ok-clause-within_limit g c = λ is.
    ok_map c.go_by_summaries.result
    (λ named within_limit. reads_needed (g.N.Nand.state c.args.device) (g.N.Nand.state c.open_summarized.new.device) (g.N.Nand.state (inner_of named.value.on.device)) named.value.on.spare named.value.on.tree c.in-Ok.ensures.reads is.0
    c.in-Ok.ensures.within_limit within_limit)
    (c.go_by_summaries.ensures.within_limit (true_after (g.N.Nand.state c.args.device) (g.N.Nand.state c.open_summarized.new.device) c.in-Ok.ensures.reads is).0)
