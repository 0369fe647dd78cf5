use Rattle.std.proofs.Common.{◌&&◌, true, ap}
use Rattle.mounting.proofs.Answering.{MapsAnswer, fault_answered}
use Rattle.mounting.proofs.FaultReasons.{tree_reason}
use Rattle.mounting.proofs.reading.read_tree.Goals as goal

pub unmounted-requires : goal.unmounted-requires
unmounted-requires g c =
    let law = c.a_map_of_the_newest_pages_answers.ensures in
    let laws : MapsAnswer = record { no_volume = law.no_volume; root = law.root; tree = law.tree } in
    let d = g.N.Nand.state c.args.device in
    let back = g.N.Nand.state c.in-Err.device in
    tree_reason back c.in-Err.fault c.tree_fault.result c.tree_fault.ensures
    (fault_answered laws d back c.args.index.now c.in-Err.fault c.in-Err.ensures.back
    (λ honest. c.the_opened_pages_are_the_newest.ensures.pages d c.requires.0 c.args.index.now c.requires.1 c.requires.2 honest) c.in-Err.ensures.fault c.in-Err.ensures.why)

pub returns-in-Ok-clause-names : goal.returns-in-Ok-clause-names
returns-in-Ok-clause-names g c = λ honest. c.in-Ok.ensures.names (ap (λ h. h && true) honest)
