use Rattle.flash_log.specs.laws.SummarySource.{written_whole}
use Rattle.flash_log.proofs.summary_source.a_written_summary_is_whole.Goals as goal

pub returns : goal.returns
returns c = written_whole
