use Rattle.std.proofs.Common.{arith}
use Rattle.command_tests.proofs.Fuses.{unread_before}
use Rattle.command_tests.proofs.fuse.FusedStoreObjectStore.find.Goals as goal

pub returns-in-DoneAndLost-clause-lookups : goal.returns-in-DoneAndLost-clause-lookups
returns-in-DoneAndLost-clause-lookups g c z objects has there =
    let spent = (c.next_call.ensures.done c.in-DoneAndLost.is).0 in (
      unread_before g.S.ObjectStore.meaning g.met.S.ObjectStore.lawful c.next_call.new.self.calls c.args.self.now.inner c.next_call.new.self.inner spent c.next_call.ensures.same.0,
      record { calls_fall = omega (arith, spent); fate = c.next_call.ensures.same.1 },
    )

pub returns-in-NotDone-clause-lookups : goal.returns-in-NotDone-clause-lookups
returns-in-NotDone-clause-lookups g c z objects has there =
    let spent = (c.next_call.ensures.not_done c.in-NotDone.is).0 in (
      unread_before g.S.ObjectStore.meaning g.met.S.ObjectStore.lawful c.next_call.new.self.calls c.args.self.now.inner c.next_call.new.self.inner spent c.next_call.ensures.same.0,
      record { calls_fall = omega (arith, spent); fate = c.next_call.ensures.same.1 },
    )
