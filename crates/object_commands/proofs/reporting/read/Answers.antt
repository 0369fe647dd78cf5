use Rattle.std.proofs.Common.{◌≡◌, ◌∙◌, length, take, ap, sym, arith, rules}
use Rattle.std.proofs.lemmas.List.{length-take-le, places, with_items_is}
use Rattle.std.specs.Vec.{with_items}
use Rattle.std.proofs.lemmas.Result.{err_from_is_err_and}
use Rattle.volume_terms.specs.declared.fault.StoreFault.TheVariants as faults
use Rattle.object_store.specs.Facts.{bytes_from}
use Rattle.object_store.specs.declared.refusal.Refusal.TheVariants as refusals
use Rattle.command_plans.specs.Classes.{Reporting}
use Rattle.command_plans.specs.Tables.{handle_of}
use Rattle.command_plans.specs.laws.Plan.{plans_err, plans_fault}
use Rattle.object_commands.proofs.Reading.{bytes_in_room, read_plan}
use Rattle.object_commands.proofs.reporting.read.Goals as goal

pub returns-in_err-description-clause-plans : goal.returns-in_err-description-clause-plans
returns-in_err-description-clause-plans g c z s holds same =
    let p = err_from_is_err_and c.from_residual.result c.from_residual.ensures.1 in
    plans_err g.S.ObjectStore.meaning z Reporting s _ c.args.store.now c.args.store.now c.from_residual.result p.0 (refusals.Error c.in_err-description.field-0.0) p.1 p.2
    (c.in_err-description.ensures z s holds same c.args.count)

pub returns-in_err-bytes-clause-plans : goal.returns-in_err-bytes-clause-plans
returns-in_err-bytes-clause-plans g c z s holds same =
    let p = err_from_is_err_and c.from_residual-in_err-bytes.result c.from_residual-in_err-bytes.ensures.1 in
    plans_err g.S.ObjectStore.meaning z Reporting s _ c.args.store.now c.args.store.now c.from_residual-in_err-bytes.result p.0 (refusals.Fault faults.NoMemory) p.1 p.2
    (g.met.S.ObjectStore.lawful.reads_nothing c.args.store.now)

pub returns-in_err-read-clause-plans : goal.returns-in_err-read-clause-plans
returns-in_err-read-clause-plans g c z s holds same =
    let law = g.met.S.ObjectStore.lawful in
    let m = g.S.ObjectStore.meaning in
    let p = err_from_is_err_and c.from_residual-in_err-read.result c.from_residual-in_err-read.ensures.1 in
    let is = c.in_ok-description.ensures z s holds same in
    plans_fault m law z Reporting s _ c.args.store.now c.args.store.now c.read_into.new.self c.from_residual-in_err-read.result p.0 c.in_err-read.field-0.0 p.1 p.2 (law.reads_nothing c.args.store.now)
    (c.in_err-read.ensures.lookups z s.objects holds.has is.file)

pub returns-clause-plans : goal.returns-clause-plans
returns-clause-plans g c z s holds same =
    let d = c.in_ok-description.description in
    let is = c.in_ok-description.ensures z s holds same in
    let room : length c.deref_mut.result.now ≡ length (bytes_from s.objects d.object d.offset c.args.count) =
    ap length c.deref_mut.ensures.value ∙ c.in_ok-bytes.ensures z s.objects holds.has in
    let items : (with_items c.in_ok-bytes.bytes c.read_into.new.buffer).items ≡ c.read_into.new.buffer = with_items_is c.in_ok-bytes.bytes c.read_into.new.buffer (search (rules, places)) in
    let reported : take c.in_ok-read.read c.read_into.new.buffer ≡ bytes_from s.objects d.object d.offset (length c.deref_mut.result.now) = c.in_ok-read.ensures.lookups z s.objects holds.has is.file in
    let bytes : c.new.result ≡ bytes_from s.objects d.object d.offset c.args.count =
    c.new.ensures ∙ c.truncate.ensures.items ∙ ap (take c.in_ok-read.read) items ∙ reported ∙ bytes_in_room s.objects d.object d.offset c.args.count (length c.deref_mut.result.now) room in
    let within_limit : c.in_ok-read.read ≡ length (take c.in_ok-read.read c.read_into.new.buffer) = sym (length-take-le c.in_ok-read.read c.read_into.new.buffer (omega (arith, c.in_ok-read.ensures.count, c.in_ok-read.ensures.size))) in
    let count : c.in_ok-read.read ≡ length (bytes_from s.objects d.object d.offset c.args.count) = within_limit ∙ ap length (reported ∙ bytes_in_room s.objects d.object d.offset c.args.count (length c.deref_mut.result.now) room) in
    read_plan z s c.args.fd c.args.count d c.in_ok-read.read c.new.result c.moved.result (holds.sound.well_formed.handles c.args.fd (handle_of d) is.represents) is c.ranges.count.fits count bytes c.moved.ensures
