use Rattle.std.proofs.Common.{◌≡◌, ◌≤◌, ℕ, length, OnOk, subst}
use Rattle.plain_volume.specs.Runs.{RunsPlain}
use Rattle.plain_volume.specs.Representing.{view_of}
use Rattle.plain_volume.specs.Views.{PlainView}
use Rattle.plain_volume.proofs.Plain.{run_plain, runs_plain}
use Rattle.plain_volume.proofs.volume.PlainVolume.run.Goals as goal

pub invariant_of-self : goal.invariant_of-self
invariant_of-self c =
    let runs = c.run.ensures.runs in
    run_plain c.args.commands.now runs.0 c.args.replies.now.items c.run.new.replies.items c.self.inside.volume c.run.new.self c.self.invariant runs.3

pub returns-clause-runs : goal.returns-clause-runs
returns-clause-runs c =
    let runs = c.run.ensures.runs in
    subst (λ (v : PlainView). (n : ℕ) × (n ≤ length c.args.commands.now) × OnOk c.run.result (n ≡ length c.args.commands.now)
    × RunsPlain v (view_of c.run.new.self) c.args.commands.now n c.args.replies.now.items c.run.new.replies.items) c.self.view_is
    (runs.0, runs.1, runs.2, runs_plain c.args.commands.now runs.0 c.args.replies.now.items c.run.new.replies.items c.self.inside.volume c.run.new.self c.self.invariant runs.3)
