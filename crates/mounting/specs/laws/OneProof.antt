-- There is at most one proof that an index keeps newest pages where it is trusted, so that it can be held as a fact.
use Rattle.std.specs.Prelude.{Bool}
use Rattle.nand_model.specs.Calls.{Device}
use Rattle.chunk_index.specs.declared.index.Index.{Index}
use Rattle.chunk_index.specs.Maps.{committed_pages}
use Rattle.flash_log.specs.laws.OneProof.{are_committed_prop}
use Rattle.mounting.specs.Lending.{TrustsCommitted}

pub trusts_prop : (d : Device) (reported : Bool) (x : Index) → IsProp (TrustsCommitted d reported x)
trusts_prop d reported x a b = λ k both. are_committed_prop d.flash (committed_pages x) (a both) (b both) k
