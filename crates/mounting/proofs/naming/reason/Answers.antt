use Rattle.mounting.proofs.FaultReasons.{reason_reported}
use Rattle.mounting.proofs.naming.reason.Goals as goal

pub returns-then-has_power-clause-why : goal.returns-then-has_power-clause-why
returns-then-has_power-clause-why g c =
    reason_reported (g.N.Nand.state c.args.device.now) (g.N.Nand.state c.has_power.new.device) c.args.fault c.has_power.result c.has_power.ensures.reads c.has_power.ensures.power c.if-has_power.true c.requires
