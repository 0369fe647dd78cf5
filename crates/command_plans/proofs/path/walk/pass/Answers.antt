use Rattle.std.proofs.Common.{◌∙◌, sym}
use Rattle.command_plans.specs.Paths.{component_of}
use Rattle.command_plans.proofs.Walks.{lead_directory, passes_on}
use Rattle.object_store.specs.laws.Store.{has_on}
use Rattle.command_plans.proofs.path.walk.pass.Goals as goal

pub returns-else-is_file-clause-passes : goal.returns-else-is_file-clause-passes
returns-else-is_file-clause-passes g c z objects has dir =
    let reported = rw c.in-Ok-Some.field-0-is at (c.in-Ok-Some.ensures.lookups z objects has dir) in
    let here = has_on g.S.ObjectStore.meaning g.met.S.ObjectStore.lawful z objects c.args.store.now c.leads_to.new.store c.leads_to.ensures.reads has in
    let no' = sym (c.is_file.ensures z objects here) ∙ c.if-is_file.false in
    (lead_directory z objects has.forest c.args.directory dir (component_of c.args.part) c.in-Ok-Some.number reported no', λ on. passes_on objects c.in-Ok-Some.number _ on reported no')
