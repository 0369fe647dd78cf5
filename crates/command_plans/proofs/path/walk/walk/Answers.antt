use Rattle.std.proofs.Common.{refl, ◌∙◌, map as list_map, ap}
use Rattle.std.proofs.lemmas.Result.{err_from_is_err_and}
use Rattle.std.proofs.lemmas.List.{drop_all}
use Rattle.posix_profile.specs.Paths.{component}
use Rattle.object_store.specs.laws.Store.{has_on}
use Rattle.command_plans.specs.Paths.{last_of}
use Rattle.command_plans.proofs.Walks.{drop_at, some_at, going_start, walk_more, walk_err, walk_done, leads_same}
use Rattle.command_plans.proofs.path.walk.walk.Goals as goal

pub loop-part-init : goal.loop-part-init
loop-part-init g c = record {
  reads = g.met.S.ObjectStore.lawful.reads_nothing c.args.store.now;
  power = refl;
  there = λ z objects has. has.forest.root;
  goes = λ z objects has. going_start objects c.args.slash_follows _;
}

pub returns-in_err-directory-clause-leads : goal.returns-in_err-directory-clause-leads
returns-in_err-directory-clause-leads g c z objects has =
    let law = g.met.S.ObjectStore.lawful in
    let m = g.S.ObjectStore.meaning in
    let p = err_from_is_err_and c.from_residual.result c.from_residual.ensures.1 in
    let here = ap (list_map (λ part. component part.now)) (some_at c.args.parts.now c.loop-part.part-index c.loop-part-test.true).1 in
    walk_err m law objects c.args.store.now c.loop-part.store c.step_on.new.store c.args.slash_follows c.loop-part.directory (last_of c.loop-part.last) _ _ _ _
    c.loop-part.invariant.reads here (c.loop-part.invariant.goes z objects has)
    c.from_residual.result p.0 c.in_err-directory.field-0.0 p.1 p.2
    (c.in_err-directory.ensures.passes z objects (has_on m law z objects _ _ c.loop-part.invariant.reads has) (c.loop-part.invariant.there z objects has))

pub loop-part-preserved : goal.loop-part-preserved
loop-part-preserved g c =
    let law = g.met.S.ObjectStore.lawful in
    let m = g.S.ObjectStore.meaning in
    let here = ap (list_map (λ part. component part.now)) (drop_at c.args.parts.now c.loop-part.part-index _ c.loop-part-test.true) in
    record {
      reads = law.reads_on _ _ _ c.loop-part.invariant.reads c.step_on.ensures.reads;
      power = c.in_ok-directory.ensures.power ∙ c.loop-part.invariant.power;
      there = λ z objects has. (c.in_ok-directory.ensures.passes z objects (has_on m law z objects _ _ c.loop-part.invariant.reads has) (c.loop-part.invariant.there z objects has)).0;
      goes = λ z objects has. walk_more objects c.args.slash_follows c.loop-part.directory c.in_ok-directory.directory (last_of c.loop-part.last) _ _ _ _ _ here c.part_of.ensures (c.loop-part.invariant.goes z objects has)
          (c.in_ok-directory.ensures.passes z objects (has_on m law z objects _ _ c.loop-part.invariant.reads has) (c.loop-part.invariant.there z objects has)).1;
    }

pub returns-in-Some-clause-leads : goal.returns-in-Some-clause-leads
returns-in-Some-clause-leads g c z objects has =
    let law = g.met.S.ObjectStore.lawful in
    let m = g.S.ObjectStore.meaning in
    leads_same m law c.args.store.now c.loop-part.store c.arrive.new.store _ _ c.loop-part.invariant.reads
    (walk_done objects c.args.slash_follows c.loop-part.directory (last_of c.loop-part.last) _ _ _ (ap (list_map (λ part. component part.now)) (drop_all c.loop-part.part-index c.args.parts.now c.loop-part-test.false)) (ap last_of c.in-Some.is) (c.loop-part.invariant.goes z objects has))
    c.arrive.result
    (c.arrive.ensures.leads z objects (has_on m law z objects _ _ c.loop-part.invariant.reads has) (c.loop-part.invariant.there z objects has))
