use Rattle.std.proofs.Common.{◌∙◌, le-ltb}
use Rattle.std.proofs.lemmas.Bool.{lt-ltb}
use Rattle.command_plans.specs.laws.Plan.{refused, passed, passed_all}
use Rattle.object_commands.proofs.reporting.seek_to.Goals as goal

pub returns-then-target-gt-OFFSET_LIMIT-clause-plans : goal.returns-then-target-gt-OFFSET_LIMIT-clause-plans
returns-then-target-gt-OFFSET_LIMIT-clause-plans c z s small = refused s _ _ _ _ (lt-ltb _ _ c.if-target-gt-OFFSET_LIMIT.true)

pub returns-clause-plans : goal.returns-clause-plans
returns-clause-plans c z s small = record {
  means = passed_all s _ ∙ passed s _ _ _ _ (le-ltb _ _ c.if-target-gt-OFFSET_LIMIT.false);
  can = tt;
  range = small;
  suits = tt;
}
