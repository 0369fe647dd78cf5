-- A device in memory that no fuse and no list makes fail.
use Rattle.std.specs.Prelude.{◌≡◌, None, []}
use Rattle.nand_model.specs.Plans.{Plan}

-- no call is cut or fails
pub record IsQuiet (plan : Plan) : Type 0 where
  pub fuse : plan.fuse ≡ None
  pub failures : plan.failures ≡ []
