use Rattle.std.proofs.Common.{refl}
use Rattle.nand_model.proofs.trusted_nand.TrustedNand.into_inner.Goals as goal

pub returns-clause-state : goal.returns-clause-state
returns-clause-state g c = (c.args.self.trust.reported, refl)
