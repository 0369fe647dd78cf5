use Rattle.mount_scan.proofs.BestCandidate.{none_best, few_read, lies_first}
use Rattle.mount_scan.proofs.checkpoint_search.find_checkpoint.Goals as goal

pub returns-in_err-checkpoint-clause-reads_bounded : goal.returns-in_err-checkpoint-clause-reads_bounded
returns-in_err-checkpoint-clause-reads_bounded g c =
    few_read (g.N.Nand.state c.args.device.now) (g.N.Nand.state c.read_first_pages.new.device) (g.N.Nand.state c.read_best.new.device) c.in_ok-firsts.field-0.best (g.met.N.Nand.within c.args.device.now)
    c.in_ok-firsts.ensures.firsts.best c.in_ok-firsts.ensures.reads.most c.in_err-checkpoint.ensures.reads_bounded

pub returns-clause-reads_bounded : goal.returns-clause-reads_bounded
returns-clause-reads_bounded g c =
    few_read (g.N.Nand.state c.args.device.now) (g.N.Nand.state c.read_first_pages.new.device) (g.N.Nand.state c.read_best.new.device) c.in_ok-firsts.field-0.best (g.met.N.Nand.within c.args.device.now)
    c.in_ok-firsts.ensures.firsts.best c.in_ok-firsts.ensures.reads.most c.in_ok-checkpoint.ensures.reads_bounded

pub returns-clause-none : goal.returns-clause-none
returns-clause-none g c =
    none_best (g.N.Nand.state c.args.device.now) (g.N.Nand.state c.read_first_pages.new.device) c.in_ok-firsts.field-0.best c.in_ok-checkpoint.checkpoint c.in_ok-firsts.ensures.reads.only (g.met.N.Nand.within c.args.device.now)
    c.in_ok-firsts.ensures.firsts.best c.in_ok-checkpoint.ensures.none

pub returns-clause-first : goal.returns-clause-first
returns-clause-first g c =
    lies_first (g.N.Nand.state c.args.device.now) c.in_ok-firsts.field-0.best c.in_ok-checkpoint.checkpoint c.in_ok-firsts.ensures.firsts.best c.in_ok-checkpoint.ensures.of
