use Rattle.std.proofs.Common.{◌∙◌, sym, ap, subst, length}
use Rattle.std.proofs.lemmas.Bool.{false≢true}
use Rattle.nand_model.specs.Calls.{Device}
use Rattle.mount_scan.specs.Keys.{ThinsFound}
use Rattle.mount_scan.specs.Listed.{listed}
use Rattle.surviving_pages.specs.Surviving.{IsSurvivor}
use Rattle.surviving_pages.specs.Tagged.{ListsSurvivors, AddsLost}
use Rattle.surviving_pages.proofs.Latest.{lie_on, latest_on}
use Rattle.surviving_pages.proofs.LostPlaces.{lost_on, lost_block}
use Rattle.surviving_pages.proofs.Tagged.{survivors_lie, survivors_latest}
use Rattle.surviving_pages.proofs.scan.add_block.Goals as goal

pub returns-then-is_bad-clause-placed : goal.returns-then-is_bad-clause-placed
returns-then-is_bad-clause-placed g c = lie_on _ c.args.block _

pub returns-then-is_bad-clause-latest : goal.returns-then-is_bad-clause-latest
returns-then-is_bad-clause-latest g c = λ honest.
    let old : Device = g.N.Nand.state c.args.device.now in
    latest_on (IsSurvivor old.flash) c.args.block _ (λ s is here. false≢true (sym is.good ∙ ap old.flash.bad here ∙ sym c.if-is_bad.ensures))

pub returns-clause-placed : goal.returns-clause-placed
returns-clause-placed g c =
    survivors_lie (g.N.Nand.state c.args.device.now) c.args.block _ c.in_ok-read_tags.ensures.len _
    (subst (λ xs. ListsSurvivors c.args.block xs (length xs) c.list_survivors.new.survivors.items) c.deref.ensures.value c.in_ok-list_survivors.ensures) _ _
    (subst (λ xs. ThinsFound xs (listed c.args.found.now) (listed c.add_all.new.self)) c.deref-2.ensures.value c.in_ok-add_all.ensures)

pub returns-clause-latest : goal.returns-clause-latest
returns-clause-latest g c = λ honest.
    survivors_latest (g.N.Nand.state c.args.device.now) c.args.block _ c.in_ok-read_tags.ensures.len _
    (subst (λ xs. ListsSurvivors c.args.block xs (length xs) c.list_survivors.new.survivors.items) c.deref.ensures.value c.in_ok-list_survivors.ensures) _ _
    (subst (λ xs. ThinsFound xs (listed c.args.found.now) (listed c.add_all.new.self)) c.deref-2.ensures.value c.in_ok-add_all.ensures)
    (g.met.N.Nand.within c.args.device.now) (c.in_ok-read_tags.ensures.tags honest) (sym c.if-is_bad.ensures) c.requires

pub returns-then-is_bad-clause-lost : goal.returns-then-is_bad-clause-lost
returns-then-is_bad-clause-lost g c = λ honest. lost_on (g.N.Nand.state c.args.device.now).flash c.args.block _ (sym c.if-is_bad.ensures)

pub returns-clause-lost : goal.returns-clause-lost
returns-clause-lost g c = λ honest.
    let old : Device = g.N.Nand.state c.args.device.now in
    lost_block old.flash c.args.block old.geometry.pages old.geometry.blocks _ (g.met.N.Nand.within c.args.device.now) c.in_ok-read_tags.ensures.len
    (c.in_ok-read_tags.ensures.tags honest) (sym c.if-is_bad.ensures) _ _
    (subst (λ xs. AddsLost c.args.block xs c.args.lost.now.items c.list_lost.new.lost.items) c.deref-3.ensures.value c.in_ok-list_lost.ensures)
