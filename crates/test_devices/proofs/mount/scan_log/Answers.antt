use Rattle.std.proofs.Common.{refl, ◌∙◌, arith}
use Rattle.mount_scan.specs.Listed.{listed}
use Rattle.nand_model.specs.MemoryState.{device}
use Rattle.test_devices.proofs.Mounting.{above_read, all_committed, ready_counted, reports_read, is_scanned}
use Rattle.test_devices.proofs.mount.scan_log.Goals as goal

pub table_of-requires-clause-above : goal.table_of-requires-clause-above
table_of-requires-clause-above c honest = above_read (device c.args.nand.now) (device c.scan_newest.new.device) _ c.scan_newest.ensures.reads.only refl (c.in_ok-found.ensures.numbers refl)

pub returns-clause-scanned : goal.returns-clause-scanned
returns-clause-scanned c =
    is_scanned (device c.scan_newest.new.device) _ c.in_ok-index.index (listed c.in_ok-found.found.newest) (record {
      honest = refl;
      can_write = ready_counted _ _ _ _ _ c.in_ok-index.ensures.counts c.in_ok-blocks.ensures.can_write;
      reports = reports_read (device c.args.nand.now) _ _ c.scan_newest.ensures.reads.only refl c.in_ok-found.ensures.newest;
      indexes = c.in_ok-index.ensures.indexes;
      counts = c.in_ok-index.ensures.agree;
      closed = c.in_ok-index.ensures.counts.open_block ∙ c.in_ok-blocks.ensures.open;
      limits = (
        omega (arith, c.in_ok-index.ensures.counts.next_group, c.in_ok-blocks.ensures.group, c.if-found-ge-NUMBER_END.false),
        omega (arith, c.in_ok-index.ensures.counts.next_seq, c.in_ok-blocks.ensures.seq, c.if-found-ge-NUMBER_END-2.false),
      );
    })

pub returns-clause-all : goal.returns-clause-all
returns-clause-all c =
    all_committed (device c.scan_newest.new.device) (listed c.in_ok-found.found.newest) c.in_ok-index.index refl
    (reports_read (device c.args.nand.now) _ _ c.scan_newest.ensures.reads.only refl c.in_ok-found.ensures.newest) c.in_ok-index.ensures.indexes
