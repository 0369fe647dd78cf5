use Rattle.std.proofs.Common.{rules, List, length, refl, sym, ◌∙◌, ap, subst, arith}
use Rattle.std.specs.Vec.Iter.{into_iter_items}
use Rattle.flash_tree.specs.declared.place.FreshPage.{FreshPage}
use Rattle.page_store.specs.BufferOf.{contents, bytes_of_page}
use Rattle.page_store.specs.Buffering.{with_new}
use Rattle.page_store.proofs.Putting.{PuttingAll, putting_starts, putting_more, first_prepared, first_sized, first_fits}
use Rattle.page_store.proofs.buffer.Buffer.put_all.Goals as goal

pub loop-page-init : goal.loop-page-init
loop-page-init c = record {
  putting = subst (λ (xs : List FreshPage). PuttingAll (with_new c.args.index.now (contents c.args.self.now) c.args.pages.items) (bytes_of_page c.args.self.now) c.args.pages.items xs c.args.index.now c.args.index.now (contents c.args.self.now) (contents c.args.self.now))
      (sym (c.into_iter-page-iterator.ensures.into_iter_gives).0)
      (putting_starts (with_new c.args.index.now (contents c.args.self.now) c.args.pages.items) (bytes_of_page c.args.self.now) c.args.pages.items c.args.index.now (contents c.args.self.now) c.requires.buffers c.requires.prepared c.requires.size c.requires.apart (omega arith));
  sizes = (refl, refl);
  len = search rules;
}

pub put-requires-clause-prepared : goal.put-requires-clause-prepared
put-requires-clause-prepared c =
    let step = rw c.in-Some.is at c.next.ensures.steps in
    let putting = subst (λ (xs : List FreshPage). PuttingAll (with_new c.args.index.now (contents c.args.self.now) c.args.pages.items) (bytes_of_page c.args.self.now) c.args.pages.items xs c.args.index.now c.loop-page.index (contents c.args.self.now) (contents c.loop-page.self)) step.0 c.loop-page.invariant.putting in
    first_prepared _ _ _ _ _ _ _ _ _ putting

pub put-requires-clause-size : goal.put-requires-clause-size
put-requires-clause-size c =
    let step = rw c.in-Some.is at c.next.ensures.steps in
    let putting = subst (λ (xs : List FreshPage). PuttingAll (with_new c.args.index.now (contents c.args.self.now) c.args.pages.items) (bytes_of_page c.args.self.now) c.args.pages.items xs c.args.index.now c.loop-page.index (contents c.args.self.now) (contents c.loop-page.self)) step.0 c.loop-page.invariant.putting in
    first_sized _ _ _ _ _ _ _ _ _ putting ∙ sym c.loop-page.invariant.sizes.1

pub put-requires-clause-room : goal.put-requires-clause-room
put-requires-clause-room c =
    let step = rw c.in-Some.is at c.next.ensures.steps in
    let putting = subst (λ (xs : List FreshPage). PuttingAll (with_new c.args.index.now (contents c.args.self.now) c.args.pages.items) (bytes_of_page c.args.self.now) c.args.pages.items xs c.args.index.now c.loop-page.index (contents c.args.self.now) (contents c.loop-page.self)) step.0 c.loop-page.invariant.putting in
    omega (arith, first_fits _ _ _ _ _ _ _ _ _ putting, c.requires.room, c.loop-page.invariant.sizes.0)

pub loop-page-preserved : goal.loop-page-preserved
loop-page-preserved c =
    let step = rw c.in-Some.is at c.next.ensures.steps in
    let putting = subst (λ (xs : List FreshPage). PuttingAll (with_new c.args.index.now (contents c.args.self.now) c.args.pages.items) (bytes_of_page c.args.self.now) c.args.pages.items xs c.args.index.now c.loop-page.index (contents c.args.self.now) (contents c.loop-page.self)) step.0 c.loop-page.invariant.putting in
    record {
      putting = putting_more (with_new c.args.index.now (contents c.args.self.now) c.args.pages.items) (bytes_of_page c.args.self.now) c.args.pages.items (into_iter_items c.next.new.self) c.in-Some.page c.args.index.now c.loop-page.index c.put.new.index (contents c.args.self.now) (contents c.loop-page.self) (contents c.put.new.self)
          putting c.put.ensures.buffers c.put.ensures.committed c.put.ensures.prepared c.put.ensures.puts;
      sizes = (c.put.ensures.sizes.0 ∙ c.loop-page.invariant.sizes.0, c.put.ensures.sizes.1 ∙ c.loop-page.invariant.sizes.1);
      len = omega (arith, step.1, ap length step.0, c.loop-page.invariant.len);
    }
