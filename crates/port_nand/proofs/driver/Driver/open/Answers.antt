use Rattle.port_nand.proofs.Opened.{opened}
use Rattle.port_nand.proofs.driver.Driver.open.Goals as goal

pub returns-clause-asks : goal.returns-clause-asks
returns-clause-asks g c = opened _ _ _ _ _ _ _ c.read-answer.ensures c.in_ok-geometry.ensures.answer c.in_ok-geometry.ensures.sizes
    c.in_ok-read_marks.ensures.geometry c.in_ok-read_marks.ensures.asks
