use Rattle.nand_model.specs.laws.Changes.{only_reads-read, only_reads_on}
use Rattle.nand_model.proofs.law.reads_change_nothing.Goals as goal

pub returns : goal.returns
returns c = record { one = only_reads-read; more = only_reads_on }
