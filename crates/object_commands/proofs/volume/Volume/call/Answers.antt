use Rattle.std.proofs.Common.{subst}
use Rattle.object_commands.specs.Serving.{IsServed}
use Rattle.object_commands.proofs.volume.Volume.call.Goals as goal

pub returns : goal.returns
returns g c = subst (λ k. IsServed g.S.ObjectStore.meaning c.args.self.now k c.ask.result c.ask.new.self) c.as_request.ensures c.ask.ensures
