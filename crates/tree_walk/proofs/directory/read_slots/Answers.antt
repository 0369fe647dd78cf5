use Rattle.std.proofs.Common.{◌≡◌, ◌≤◌, ◌<◌, ◌+◌, ◌-◌, ◌*◌, ◌/◌, ◌∙◌, ℕ, List, min, refl, sym, ap, subst, arith, rules}
use Rattle.std.proofs.lemmas.Result.{err_from_is_err_and}
use Rattle.std.specs.Int.{div_ceil}
use Rattle.volume_terms.specs.Sizes.{page_slots}
use Rattle.pages.specs.Maps.{PageMap}
use Rattle.pages.specs.State.{PagesState}
use Rattle.pages.specs.laws.State.{finds_none, finds_on}
use Rattle.tree_walk.proofs.Reporting.{reports_as}
use Rattle.tree_walk.specs.Hashes.{HoldsEach}
use Rattle.tree_walk.specs.Broken.{IsBrokenIn}
use Rattle.tree_walk.specs.SlotLists.{BreaksUpTo, HasSlots}
use Rattle.tree_walk.proofs.Hashing.{has_hashes}
use Rattle.tree_walk.proofs.SlotSteps.{no_slots}
use Rattle.tree_walk.proofs.SlotPages.{IsChunk, is_chunk, all_chunks}
use Rattle.tree_walk.proofs.directory.read_slots.Goals as goal

pub loop-chunk-init : goal.loop-chunk-init
loop-chunk-init g c = record {
  lookups = finds_none (g.P.Pages.state c.args.pages.now);
  power = refl;
  issued = omega arith;
  slots = λ sound z size.
      let old : PagesState = g.P.Pages.state c.args.pages.now in
      subst (λ k. HasSlots z old.present c.args.directory k c.no_slots-seen.result) (let zero_is : 0 ≡ min c.args.length (0 * page_slots z) = grind arith in zero_is)
      (no_slots z old.present c.args.directory c.no_slots-seen.result c.no_slots-seen.ensures.names c.no_slots-seen.ensures.objects c.no_slots-seen.ensures.hashes);
}

pub loop-chunk-preserved : goal.loop-chunk-preserved
loop-chunk-preserved g c = record {
  lookups = finds_on _ _ _ c.loop-chunk.invariant.lookups c.take_chunk.ensures.lookups;
  power = c.in_ok-take_chunk.ensures.power ∙ c.loop-chunk.invariant.power;
  issued = omega (arith, c.loop-chunk.invariant.issued, c.take_chunk.ensures.issued);
  slots = λ sound z size.
      let old : PagesState = g.P.Pages.state c.args.pages.now in
      let lookups = c.loop-chunk.invariant.lookups in
      let n : ℕ = c.from-slots.result in
      let slots : n ≡ page_slots z = c.from-slots.ensures ∙ ap (λ k. k / 272) (c.page_bytes.ensures.bytes ∙ sym size) in
      let some : 1 ≤ n = omega (arith, c.page_bytes.ensures.least, c.from-slots.ensures) in
      let less : c.loop-chunk.chunk < div_ceil c.args.length n = subst (λ k. c.loop-chunk.chunk < k) c.div_ceil-chunk-end.ensures c.loop-chunk-test.true in
      let within_limit : c.min-count.result ≡ min n (c.args.length - c.loop-chunk.chunk * n) = search rules in
      let is = subst (λ k. IsChunk c.args.length k c.loop-chunk.chunk c.min-count.result) slots (is_chunk c.args.length n c.loop-chunk.chunk c.min-count.result some less within_limit) in
      let first = subst (λ (m : PageMap). HasSlots z m c.args.directory (c.loop-chunk.chunk * page_slots z) c.loop-chunk.seen) (sym lookups.present)
      (subst (λ k. HasSlots z old.present c.args.directory k c.loop-chunk.seen) is.start (c.loop-chunk.invariant.slots sound z size)) in
      let reported = c.in_ok-take_chunk.ensures.reported (lookups.sound ∙ sound) z (size ∙ sym lookups.page_bytes) first in
      subst (λ k. HasSlots z old.present c.args.directory k c.take_chunk.new.seen) is.end
      (subst (λ (m : PageMap). HasSlots z m c.args.directory (c.loop-chunk.chunk * page_slots z + c.min-count.result) c.take_chunk.new.seen) lookups.present reported);
}

pub returns-in_err-take_chunk-clause-issued : goal.returns-in_err-take_chunk-clause-issued
returns-in_err-take_chunk-clause-issued g c = λ z size.
    let n : ℕ = c.from-slots.result in
    let slots : n ≡ page_slots z = c.from-slots.ensures ∙ ap (λ k. k / 272) (c.page_bytes.ensures.bytes ∙ sym size) in
    let most : c.div_ceil-chunk-end.result ≡ div_ceil c.args.length (page_slots z) = c.div_ceil-chunk-end.ensures ∙ ap (λ k. div_ceil c.args.length k) slots in
    more_asked _ _ _ _ _ _ c.loop-chunk.invariant.issued c.take_chunk.ensures.issued c.loop-chunk-test.true most
  where
    more_asked : (old now new chunk said most : ℕ) → now ≤ old + chunk → new ≤ now + 1 → chunk < said → said ≡ most → new ≤ old + most
    more_asked old now new chunk said most a b less is = omega (arith, a, b, less, is)

pub returns-in_err-take_chunk-clause-fault : goal.returns-in_err-take_chunk-clause-fault
returns-in_err-take_chunk-clause-fault g c = λ sound z size.
    let old : PagesState = g.P.Pages.state c.args.pages.now in
    let lookups = c.loop-chunk.invariant.lookups in
    let n : ℕ = c.from-slots.result in
    let slots : n ≡ page_slots z = c.from-slots.ensures ∙ ap (λ k. k / 272) (c.page_bytes.ensures.bytes ∙ sym size) in
    let some : 1 ≤ n = omega (arith, c.page_bytes.ensures.least, c.from-slots.ensures) in
    let less : c.loop-chunk.chunk < div_ceil c.args.length n = subst (λ k. c.loop-chunk.chunk < k) c.div_ceil-chunk-end.ensures c.loop-chunk-test.true in
    let within_limit : c.min-count.result ≡ min n (c.args.length - c.loop-chunk.chunk * n) = search rules in
    let is = subst (λ k. IsChunk c.args.length k c.loop-chunk.chunk c.min-count.result) slots (is_chunk c.args.length n c.loop-chunk.chunk c.min-count.result some less within_limit) in
    let first = subst (λ (m : PageMap). HasSlots z m c.args.directory (c.loop-chunk.chunk * page_slots z) c.loop-chunk.seen) (sym lookups.present)
    (subst (λ k. HasSlots z old.present c.args.directory k c.loop-chunk.seen) is.start (c.loop-chunk.invariant.slots sound z size)) in
    let p = err_from_is_err_and c.from_residual.result c.from_residual.ensures.1 in
    rw (p.1, p.2) (reports_as (BreaksUpTo z (g.P.Pages.state c.loop-chunk.pages).present (record { directory = c.args.directory; number = c.loop-chunk.chunk }) c.min-count.result) (IsBrokenIn z old.present c.args.directory c.args.length)
    (λ broken lacks. subst (λ (m : PageMap). IsBrokenIn z m c.args.directory c.args.length broken) lookups.present (lacks c.args.length is.most)) (g.P.Pages.state c.take_chunk.new.pages) _
    (c.in_err-take_chunk.ensures.fault (lookups.sound ∙ sound) z (size ∙ sym lookups.page_bytes) is.some first))

pub returns-clause-issued : goal.returns-clause-issued
returns-clause-issued g c = λ z size.
    let n : ℕ = c.from-slots.result in
    let slots : n ≡ page_slots z = c.from-slots.ensures ∙ ap (λ k. k / 272) (c.page_bytes.ensures.bytes ∙ sym size) in
    let most : c.div_ceil-chunk-end.result ≡ div_ceil c.args.length (page_slots z) = c.div_ceil-chunk-end.ensures ∙ ap (λ k. div_ceil c.args.length k) slots in
    all_asked _ _ _ _ _ c.loop-chunk.invariant.issued (search rules) most
  where
    all_asked : (old now chunk said most : ℕ) → now ≤ old + chunk → chunk ≤ said → said ≡ most → now ≤ old + most
    all_asked old now chunk said most a less is = omega (arith, a, less, is)

pub returns-clause-reported : goal.returns-clause-reported
returns-clause-reported g c = λ sound z size.
    let old : PagesState = g.P.Pages.state c.args.pages.now in
    let n : ℕ = c.from-slots.result in
    let slots : n ≡ page_slots z = c.from-slots.ensures ∙ ap (λ k. k / 272) (c.page_bytes.ensures.bytes ∙ sym size) in
    let some : 1 ≤ n = omega (arith, c.page_bytes.ensures.least, c.from-slots.ensures) in
    let more : div_ceil c.args.length n ≤ c.loop-chunk.chunk = subst (λ k. k ≤ c.loop-chunk.chunk) c.div_ceil-chunk-end.ensures c.loop-chunk-test.false in
    let all : min c.args.length (c.loop-chunk.chunk * page_slots z) ≡ c.args.length = subst (λ k. min c.args.length (c.loop-chunk.chunk * k) ≡ c.args.length) slots (all_chunks c.args.length n c.loop-chunk.chunk some more) in
    let h = subst (λ k. HasSlots z old.present c.args.directory k c.loop-chunk.seen) all (c.loop-chunk.invariant.slots sound z size) in
    (h.slots, h.are, h.objects)

pub returns-clause-hashes : goal.returns-clause-hashes
returns-clause-hashes g c = λ sound z size.
    let old : PagesState = g.P.Pages.state c.args.pages.now in
    let n : ℕ = c.from-slots.result in
    let slots : n ≡ page_slots z = c.from-slots.ensures ∙ ap (λ k. k / 272) (c.page_bytes.ensures.bytes ∙ sym size) in
    let some : 1 ≤ n = omega (arith, c.page_bytes.ensures.least, c.from-slots.ensures) in
    let more : div_ceil c.args.length n ≤ c.loop-chunk.chunk = subst (λ k. k ≤ c.loop-chunk.chunk) c.div_ceil-chunk-end.ensures c.loop-chunk-test.false in
    let all : min c.args.length (c.loop-chunk.chunk * page_slots z) ≡ c.args.length = subst (λ k. min c.args.length (c.loop-chunk.chunk * k) ≡ c.args.length) slots (all_chunks c.args.length n c.loop-chunk.chunk some more) in
    let h = subst (λ k. HasSlots z old.present c.args.directory k c.loop-chunk.seen) all (c.loop-chunk.invariant.slots sound z size) in
    let each = subst (λ (hs : List ℕ). HoldsEach c.add_hashes.new.names c.args.directory c.args.length hs) c.deref.ensures.value c.in_ok-add_hashes.ensures.there in
    let within_limit : z.page_bytes ≤ 4096 = omega (arith, size, c.page_bytes.ensures.bytes, c.page_bytes.ensures.most) in
    has_hashes z old.present c.args.directory c.args.length c.loop-chunk.seen c.add_hashes.new.names within_limit h each
