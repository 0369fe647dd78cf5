use Rattle.std.proofs.Common.{refl, ap, w64}
use Rattle.std.specs.Prelude.{Ok}
use Rattle.std.proofs.lemmas.Int.{to_z-of_z}
use Rattle.posix_profile.specs.HandleSteps.{seek_step, truncate_step}
use Rattle.posix_profile.specs.Requests.{command_of, stamped_of}
use Rattle.posix_profile.specs.Steps.{step_at}
use Rattle.object_commands.proofs.Ending.{plans_step}
use Rattle.command_plans.specs.laws.Plan.{plans_of, power_of}
use Rattle.object_commands.proofs.volume.plan.Goals as goal

pub returns-in-Open-clause-plans : goal.returns-in-Open-clause-plans
unfolding step_at
returns-in-Open-clause-plans g c z s holds same =
    let m = g.S.ObjectStore.meaning in
    let stamped = stamped_of c.args.issued.now in
    plans_step m z c.args.read_only s stamped _ _ c.args.store.now c.open.new.store (ap command_of c.in-Open.is) refl c.open.result (c.open.ensures.plans z s holds same)

pub returns-in-Close-clause-plans : goal.returns-in-Close-clause-plans
unfolding step_at
returns-in-Close-clause-plans g c z s holds same =
    let m = g.S.ObjectStore.meaning in
    let stamped = stamped_of c.args.issued.now in
    plans_step m z c.args.read_only s stamped _ _ c.args.store.now c.args.store.now (ap command_of c.in-Close.is) refl
    c.hand_on.result (plans_of m z _ s _ _ c.args.store.now c.args.store.now (refl) c.close.result c.hand_on.result c.hand_on.ensures (c.close.ensures.plans z s holds same))

pub returns-in-Read-clause-plans : goal.returns-in-Read-clause-plans
unfolding step_at
returns-in-Read-clause-plans g c z s holds same =
    let m = g.S.ObjectStore.meaning in
    let stamped = stamped_of c.args.issued.now in
    plans_step m z c.args.read_only s stamped _ _ c.args.store.now c.read.new.store (ap command_of c.in-Read.is) (refl)
    c.read.result (c.read.ensures.plans z s holds same)

pub returns-in-Write-clause-plans : goal.returns-in-Write-clause-plans
unfolding step_at
returns-in-Write-clause-plans g c z s holds same =
    let m = g.S.ObjectStore.meaning in
    let stamped = stamped_of c.args.issued.now in
    plans_step m z c.args.read_only s stamped _ _ c.args.store.now c.args.store.now (ap command_of c.in-Write.is) refl
    c.hand_on-in-Write.result (plans_of m z _ s _ _ c.args.store.now c.args.store.now refl c.write.result c.hand_on-in-Write.result c.hand_on-in-Write.ensures (c.write.ensures z s holds same))

pub returns-in-Seek-clause-plans : goal.returns-in-Seek-clause-plans
unfolding step_at
returns-in-Seek-clause-plans g c z s holds same =
    let m = g.S.ObjectStore.meaning in
    let stamped = stamped_of c.args.issued.now in
    plans_step m z c.args.read_only s stamped _ _ c.args.store.now c.args.store.now (ap command_of c.in-Seek.is) refl
    c.hand_on-in-Seek.result (plans_of m z _ s _ _ c.args.store.now c.args.store.now (ap (λ n. seek_step s c.in-Seek.fd n c.in-Seek.whence) c.signed.ensures.value) c.seek.result c.hand_on-in-Seek.result c.hand_on-in-Seek.ensures (rw (to_z-of_z w64 c.signed.result c.signed.ensures.range) at (c.seek.ensures.plans z s holds same)))

pub returns-in-Truncate-clause-plans : goal.returns-in-Truncate-clause-plans
unfolding step_at
returns-in-Truncate-clause-plans g c z s holds same =
    let m = g.S.ObjectStore.meaning in
    let stamped = stamped_of c.args.issued.now in
    plans_step m z c.args.read_only s stamped _ _ c.args.store.now c.args.store.now (ap command_of c.in-Truncate.is) refl
    c.hand_on-in-Truncate.result (plans_of m z _ s _ _ c.args.store.now c.args.store.now (ap (truncate_step z stamped.moment s c.in-Truncate.fd) c.signed-in-Truncate.ensures.value) c.truncate.result c.hand_on-in-Truncate.result c.hand_on-in-Truncate.ensures (rw (to_z-of_z w64 c.signed-in-Truncate.result c.signed-in-Truncate.ensures.range) at (c.truncate.ensures z s holds same)))

pub returns-in-Fsync-clause-plans : goal.returns-in-Fsync-clause-plans
unfolding step_at
returns-in-Fsync-clause-plans g c z s holds same =
    let m = g.S.ObjectStore.meaning in
    let stamped = stamped_of c.args.issued.now in
    plans_step m z c.args.read_only s stamped _ _ c.args.store.now c.args.store.now (ap command_of c.in-Fsync.is) refl
    c.hand_on-in-Fsync.result (plans_of m z _ s _ _ c.args.store.now c.args.store.now (refl) c.fsync.result c.hand_on-in-Fsync.result c.hand_on-in-Fsync.ensures (c.fsync.ensures.plans z s same))

pub returns-in-Sync-clause-plans : goal.returns-in-Sync-clause-plans
unfolding step_at
returns-in-Sync-clause-plans g c z s holds same =
    let m = g.S.ObjectStore.meaning in
    let stamped = stamped_of c.args.issued.now in
    plans_step m z c.args.read_only s stamped _ _ c.args.store.now c.args.store.now (ap command_of c.in-Sync.is) refl (Ok c.sync.result) (c.sync.ensures.plans z s)

pub returns-in-Stat-clause-plans : goal.returns-in-Stat-clause-plans
unfolding step_at
returns-in-Stat-clause-plans g c z s holds same =
    let m = g.S.ObjectStore.meaning in
    let stamped = stamped_of c.args.issued.now in
    plans_step m z c.args.read_only s stamped _ _ c.args.store.now c.stat.new.store (ap command_of c.in-Stat.is) refl
    c.stat.result (c.stat.ensures.plans z s holds)

pub returns-in-Mkdir-clause-plans : goal.returns-in-Mkdir-clause-plans
unfolding step_at
returns-in-Mkdir-clause-plans g c z s holds same =
    let m = g.S.ObjectStore.meaning in
    let stamped = stamped_of c.args.issued.now in
    plans_step m z c.args.read_only s stamped _ _ c.args.store.now c.mkdir.new.store (ap command_of c.in-Mkdir.is) refl
    c.mkdir.result (c.mkdir.ensures.plans z s holds)

pub returns-in-Rmdir-clause-plans : goal.returns-in-Rmdir-clause-plans
unfolding step_at
returns-in-Rmdir-clause-plans g c z s holds same =
    let m = g.S.ObjectStore.meaning in
    let stamped = stamped_of c.args.issued.now in
    plans_step m z c.args.read_only s stamped _ _ c.args.store.now c.rmdir.new.store (ap command_of c.in-Rmdir.is) refl
    c.rmdir.result (c.rmdir.ensures.plans z s holds same)

pub returns-in-Link-clause-plans : goal.returns-in-Link-clause-plans
unfolding step_at
returns-in-Link-clause-plans g c z s holds same =
    let m = g.S.ObjectStore.meaning in
    let stamped = stamped_of c.args.issued.now in
    plans_step m z c.args.read_only s stamped _ _ c.args.store.now c.link.new.store (ap command_of c.in-Link.is) refl
    c.link.result (c.link.ensures.plans z s holds)

pub returns-in-Unlink-clause-plans : goal.returns-in-Unlink-clause-plans
unfolding step_at
returns-in-Unlink-clause-plans g c z s holds same =
    let m = g.S.ObjectStore.meaning in
    let stamped = stamped_of c.args.issued.now in
    plans_step m z c.args.read_only s stamped _ _ c.args.store.now c.unlink.new.store (ap command_of c.in-Unlink.is) refl
    c.unlink.result (c.unlink.ensures.plans z s holds same)

pub returns-in-List-clause-plans : goal.returns-in-List-clause-plans
unfolding step_at
returns-in-List-clause-plans g c z s holds same =
    let m = g.S.ObjectStore.meaning in
    let stamped = stamped_of c.args.issued.now in
    plans_step m z c.args.read_only s stamped _ _ c.args.store.now c.list.new.store (ap command_of c.in-List.is) refl
    c.list.result (c.list.ensures.plans z s holds)

pub returns-in-Space-clause-plans : goal.returns-in-Space-clause-plans
unfolding step_at
returns-in-Space-clause-plans g c z s holds same =
    let m = g.S.ObjectStore.meaning in
    let stamped = stamped_of c.args.issued.now in
    plans_step m z c.args.read_only s stamped _ _ c.args.store.now c.args.store.now (ap command_of c.in-Space.is) refl (Ok c.space.result) (c.space.ensures.plans z s holds)

pub returns-in-Rename-clause-plans : goal.returns-in-Rename-clause-plans
unfolding step_at
returns-in-Rename-clause-plans g c z s holds same =
    let m = g.S.ObjectStore.meaning in
    let stamped = stamped_of c.args.issued.now in
    plans_step m z c.args.read_only s stamped _ _ c.args.store.now c.rename.new.store (ap command_of c.in-Rename.is) refl c.rename.result (c.rename.ensures.plans z s holds same)

pub returns-in-Close-clause-power : goal.returns-in-Close-clause-power
returns-in-Close-clause-power g c = power_of g.S.ObjectStore.meaning c.args.store.now c.args.store.now refl c.close.result c.hand_on.result c.hand_on.ensures

pub returns-in-Write-clause-power : goal.returns-in-Write-clause-power
returns-in-Write-clause-power g c = power_of g.S.ObjectStore.meaning c.args.store.now c.args.store.now refl c.write.result c.hand_on-in-Write.result c.hand_on-in-Write.ensures

pub returns-in-Seek-clause-power : goal.returns-in-Seek-clause-power
returns-in-Seek-clause-power g c = power_of g.S.ObjectStore.meaning c.args.store.now c.args.store.now refl c.seek.result c.hand_on-in-Seek.result c.hand_on-in-Seek.ensures

pub returns-in-Truncate-clause-power : goal.returns-in-Truncate-clause-power
returns-in-Truncate-clause-power g c = power_of g.S.ObjectStore.meaning c.args.store.now c.args.store.now refl c.truncate.result c.hand_on-in-Truncate.result c.hand_on-in-Truncate.ensures

pub returns-in-Fsync-clause-power : goal.returns-in-Fsync-clause-power
returns-in-Fsync-clause-power g c = power_of g.S.ObjectStore.meaning c.args.store.now c.args.store.now refl c.fsync.result c.hand_on-in-Fsync.result c.hand_on-in-Fsync.ensures
