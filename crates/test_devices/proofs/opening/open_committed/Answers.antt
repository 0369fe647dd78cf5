use Rattle.std.proofs.Common.{refl}
use Rattle.flash_log.specs.laws.Mountable.{mountable_unknown}
use Rattle.test_devices.proofs.opening.open_committed.Goals as goal

pub new-requires : goal.new-requires
new-requires g c = λ κs within.
    let d = g.N.Nand.state c.open_noted.new.device in
    let opened = c.forget.ensures d c.in_ok-opened.ensures.opened in
    let may = c.if-not-may_be_consistent.ensures in
    (within, (may.can_write refl d opened, (may.consistent refl d opened, mountable_unknown _ _)))

pub new-requires-2-clause-committed : goal.new-requires-2-clause-committed
new-requires-2-clause-committed g c = let made = c.in-Ok.ensures in rw (made.device, made.tables.1) ((c.forget.ensures (g.N.Nand.state c.open_noted.new.device) c.in_ok-opened.ensures.opened).newest)

pub new-requires-2-clause-within_limit : goal.new-requires-2-clause-within_limit
new-requires-2-clause-within_limit g c = let made = c.in-Ok.ensures in rw (made.tables.0, made.spare) (c.if-not-may_be_consistent.ensures.within_limit refl)

pub new-requires-2-clause-free : goal.new-requires-2-clause-free
new-requires-2-clause-free g c = let made = c.in-Ok.ensures in rw (made.tables.0, made.spare) (c.if-not-may_be_consistent.ensures.free refl)

pub new-requires-2-clause-none : goal.new-requires-2-clause-none
new-requires-2-clause-none g c = let made = c.in-Ok.ensures in rw made.tables.1 ((c.forget.ensures (g.N.Nand.state c.open_noted.new.device) c.in_ok-opened.ensures.opened).unbuffered)
