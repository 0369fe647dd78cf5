use Rattle.nand_model.specs.MemoryState.{device}
use Rattle.mount_scan.specs.laws.CheckpointReads.{firsts_read}
use Rattle.store_tests.proofs.summaries.scan_by.Goals as goal

pub scan_summaries-requires : goal.scan_summaries-requires
scan_summaries-requires c =
    firsts_read (device c.args.nand.now) (device c.find_checkpoint.new.device) c.in_ok-search.search.firsts c.find_checkpoint.ensures.reads.only c.in_ok-search.ensures.firsts
