use Rattle.std.proofs.Common.{sym, ◌∙◌}
use Rattle.std.proofs.lemmas.Bool.{false≢true}
use Rattle.mount_scan.proofs.CheckpointCandidates.{stays_ordinary, stays_lesser, takes_greater}
use Rattle.mount_scan.proofs.checkpoint_candidate.better.Goals as goal

pub returns-then-not-begins_checkpoint-clause-greatest : goal.returns-then-not-begins_checkpoint-clause-greatest
returns-then-not-begins_checkpoint-clause-greatest c flash is were =
    stays_ordinary flash c.args.block c.args.best c.args.tag (λ begins. false≢true (sym c.if-not-begins_checkpoint.true ∙ c.begins_checkpoint.ensures.1 begins)) is were

pub returns-then-is_above-clause-greatest : goal.returns-then-is_above-clause-greatest
returns-then-is_above-clause-greatest c flash is were =
    takes_greater flash c.args.block c.args.best c.args.tag (c.begins_checkpoint.ensures.0 c.if-not-begins_checkpoint.false) (c.is_above.ensures.0 c.if-is_above.true) is were

pub returns-else-is_above-clause-greatest : goal.returns-else-is_above-clause-greatest
returns-else-is_above-clause-greatest c flash is were =
    stays_lesser flash c.args.block c.args.best c.args.tag (λ above. false≢true (sym c.if-is_above.false ∙ c.is_above.ensures.1 above)) is were
