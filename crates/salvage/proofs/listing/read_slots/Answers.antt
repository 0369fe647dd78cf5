use Rattle.std.proofs.Common.{◌≡◌, ◌≤◌, ◌<◌, ◌+◌, ◌-◌, ◌*◌, ◌/◌, ◌∙◌, ℕ, min, refl, sym, ap, subst, arith, rules}
use Rattle.std.specs.Int.{div_ceil}
use Rattle.volume_terms.specs.Sizes.{page_slots}
use Rattle.pages.specs.Maps.{PageMap, has}
use Rattle.pages.specs.State.{PagesState}
use Rattle.pages.specs.laws.State.{finds_none, finds_on}
use Rattle.salvage.specs.SeenBy.{seen_by}
use Rattle.salvage.specs.Reported.{ListsSlots, pairs_in}
use Rattle.salvage.proofs.Chunking.{IsChunk, is_chunk, all_chunks}
use Rattle.salvage.proofs.Seeing.{still_seen}
use Rattle.salvage.proofs.Slots.{none_yet}
use Rattle.salvage.proofs.listing.read_slots.Goals as goal

pub loop-chunk-init : goal.loop-chunk-init
loop-chunk-init g c = record {
  lookups = finds_none (seen_by c.args.pages.now);
  lost = omega arith;
  slots = λ z is.
      let old : PagesState = seen_by c.args.pages.now in
      let zero_is : 0 ≡ min c.args.length (0 * page_slots z) = grind arith in
      none_yet z (has old.present) c.args.directory _ _ _ zero_is (ap pairs_in c.new.ensures.items) refl;
}

pub loop-chunk-preserved : goal.loop-chunk-preserved
loop-chunk-preserved g c = record {
  lookups = finds_on _ _ _ c.loop-chunk.invariant.lookups c.read_chunk.ensures.lookups;
  lost =
      let n : ℕ = c.from-slots.result in
      let some : 1 ≤ n = omega (arith, c.page_bytes.ensures.least, c.from-slots.ensures) in
      let less : c.loop-chunk.chunk < div_ceil c.args.length n = subst (λ k. c.loop-chunk.chunk < k) c.div_ceil-chunk-end.ensures c.loop-chunk-test.true in
      let within_limit : c.min-count.result ≡ min n (c.args.length - c.loop-chunk.chunk * n) = search rules in
      let is = is_chunk c.args.length n c.loop-chunk.chunk c.min-count.result some less within_limit in
      let before = c.loop-chunk.invariant.lost in
      let more = c.in_ok-read_chunk.ensures.lost in
      omega (arith, before, more, is.start, is.end);
  slots = λ z seen.
      let old : PagesState = seen_by c.args.pages.now in
      let now : PagesState = seen_by c.loop-chunk.pages in
      let lookups = c.loop-chunk.invariant.lookups in
      let n : ℕ = c.from-slots.result in
      let slots : n ≡ page_slots z = c.from-slots.ensures ∙ ap (λ k. k / 272) (c.page_bytes.ensures.bytes ∙ sym seen.size) in
      let some : 1 ≤ n = omega (arith, c.page_bytes.ensures.least, c.from-slots.ensures) in
      let less : c.loop-chunk.chunk < div_ceil c.args.length n = subst (λ k. c.loop-chunk.chunk < k) c.div_ceil-chunk-end.ensures c.loop-chunk-test.true in
      let within_limit : c.min-count.result ≡ min n (c.args.length - c.loop-chunk.chunk * n) = search rules in
      let is = subst (λ k. IsChunk c.args.length k c.loop-chunk.chunk c.min-count.result) slots (is_chunk c.args.length n c.loop-chunk.chunk c.min-count.result some less within_limit) in
      let first = subst (λ (m : PageMap). ListsSlots z (has m) c.args.directory (c.loop-chunk.chunk * page_slots z) c.loop-chunk.listing) (sym lookups.present)
      (subst (λ k. ListsSlots z (has old.present) c.args.directory k c.loop-chunk.listing) is.start (c.loop-chunk.invariant.slots z seen)) in
      let reported = c.in_ok-read_chunk.ensures.lists z (still_seen z old now lookups seen) first in
      subst (λ k. ListsSlots z (has old.present) c.args.directory k c.read_chunk.new.listing) is.end
      (subst (λ (m : PageMap). ListsSlots z (has m) c.args.directory (c.loop-chunk.chunk * page_slots z + c.min-count.result) c.read_chunk.new.listing) lookups.present reported);
}

pub returns-clause-lists : goal.returns-clause-lists
returns-clause-lists g c = λ z seen.
    let old : PagesState = seen_by c.args.pages.now in
    let n : ℕ = c.from-slots.result in
    let slots : n ≡ page_slots z = c.from-slots.ensures ∙ ap (λ k. k / 272) (c.page_bytes.ensures.bytes ∙ sym seen.size) in
    let some : 1 ≤ n = omega (arith, c.page_bytes.ensures.least, c.from-slots.ensures) in
    let more : div_ceil c.args.length n ≤ c.loop-chunk.chunk = subst (λ k. k ≤ c.loop-chunk.chunk) c.div_ceil-chunk-end.ensures c.loop-chunk-test.false in
    let all : min c.args.length (c.loop-chunk.chunk * page_slots z) ≡ c.args.length = subst (λ k. min c.args.length (c.loop-chunk.chunk * k) ≡ c.args.length) slots (all_chunks c.args.length n c.loop-chunk.chunk some more) in
    subst (λ k. ListsSlots z (has old.present) c.args.directory k c.loop-chunk.listing) all (c.loop-chunk.invariant.slots z seen)

pub returns-in_err-read_chunk-clause-lookups : goal.returns-in_err-read_chunk-clause-lookups
returns-in_err-read_chunk-clause-lookups g c = finds_on _ _ _ c.loop-chunk.invariant.lookups c.read_chunk.ensures.lookups
