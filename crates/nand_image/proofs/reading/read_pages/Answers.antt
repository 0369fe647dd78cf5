use Rattle.std.proofs.Common.{◌≡◌, ◌<◌, ◌+◌, ◌*◌, ◌/◌, ◌%◌, ℕ, length, ap, subst, sym, ◌∙◌, arith}
use Rattle.std.proofs.Math.Nat.{div-lt_iff_lt-mul, mod-lt}
use Rattle.std.proofs.lemmas.Result.{err_from_is_err_and}
use Rattle.nand_model.specs.MemoryState.{device}
use Rattle.nand_model.specs.Putting.{PutsPage}
use Rattle.nand_model.specs.declared.geometry.Geometry.{Geometry}
use Rattle.nand_image.specs.Images.{page_in}
use Rattle.nand_image.proofs.Puts.{pages_more}
use Rattle.nand_image.proofs.Slots.{pages_step, pages_short}
use Rattle.nand_image.proofs.reading.read_pages.Goals as goal

pub read_slot-requires : goal.read_slot-requires
read_slot-requires g c =
    let same = c.loop-place.invariant.puts.rests.geometry in
    let per : ℕ = c.pages-pages.result in
    let place : ℕ = c.loop-place.place in
    let some : 0 < per = omega (arith, c.pages-pages.ensures, c.geometry-geometry.result.least_pages) in
    let blocks : c.blocks-2.result ≡ c.loop-place.memory.geometry.blocks = c.blocks-2.ensures ∙ ap (λ (x : Geometry). x.blocks) (c.geometry-geometry.ensures ∙ sym same) in
    let pages : per ≡ c.loop-place.memory.geometry.pages = c.pages-pages.ensures ∙ ap (λ (x : Geometry). x.pages) (c.geometry-geometry.ensures ∙ sym same) in
    let row : place / per < c.blocks-2.result = (div-lt_iff_lt-mul {k = per} {x = place} {y = c.blocks-2.result} some).1 c.loop-place-test.true in
    record {
      block = subst (λ n. place / per < n) blocks row;
      page = subst (λ n. place % per < n) pages (mod-lt place some);
      size = c.loop-place.auto.slot ∙ c.requires ∙ ap (λ (x : Geometry). 49 + x.bytes) (sym same);
    }

pub returns-in_err-read_slot-clause-fault : goal.returns-in_err-read_slot-clause-fault
returns-in_err-read_slot-clause-fault g c =
    let p = err_from_is_err_and c.from_residual.result c.from_residual.ensures.1 in
    let geometry : Geometry = c.args.memory.now.geometry in
    let blocks : c.blocks-2.result ≡ geometry.blocks = c.blocks-2.ensures ∙ ap (λ (x : Geometry). x.blocks) c.geometry-geometry.ensures in
    let pages : c.pages-pages.result ≡ geometry.pages = c.pages-pages.ensures ∙ ap (λ (x : Geometry). x.pages) c.geometry-geometry.ensures in
    let less : c.loop-place.place < geometry.blocks * geometry.pages =
    subst (λ n. c.loop-place.place < n * geometry.pages) blocks (subst (λ n. c.loop-place.place < c.blocks-2.result * n) pages c.loop-place-test.true) in
    rw (p.1, p.2) (pages_short c.in_err-read_slot.field-0.0 geometry.bytes geometry.pages c.loop-place.place (geometry.blocks * geometry.pages) (length c.loop-place.slot)
    (g.F.Read.remaining c.args.file.now) (g.F.Read.remaining c.loop-place.file) (device c.loop-place.memory).flash.page
    less (c.loop-place.auto.slot ∙ c.requires) c.loop-place.invariant.pages c.in_err-read_slot.ensures.fault)

pub loop-place-preserved : goal.loop-place-preserved
loop-place-preserved g c =
    let so_far = c.loop-place.invariant in
    let geometry : Geometry = c.args.memory.now.geometry in
    let place : ℕ = c.loop-place.place in
    let slot = c.read_slot.new.slot in
    let first = device c.args.memory.now in
    let mid = device c.loop-place.memory in
    let new = device c.read_slot.new.memory in
    let pages : c.pages-pages.result ≡ geometry.pages = c.pages-pages.ensures ∙ ap (λ (x : Geometry). x.pages) c.geometry-geometry.ensures in
    let bytes : c.loop-place.memory.geometry.bytes ≡ geometry.bytes = ap (λ (x : Geometry). x.bytes) so_far.puts.rests.geometry in
    let put = subst (λ n. PutsPage (place / geometry.pages) (place % geometry.pages) (page_in n slot) mid new) bytes
    (subst (λ n. PutsPage (place / n) (place % n) (page_in c.loop-place.memory.geometry.bytes slot) mid new) pages c.in_ok-read_slot.ensures.puts) in
    let wide : length slot ≡ 49 + geometry.bytes = c.read_slot.auto.slot ∙ c.loop-place.auto.slot ∙ c.requires in
    record {
      puts = pages_more (place / geometry.pages) (place % geometry.pages) (page_in geometry.bytes slot) first mid new so_far.puts put;
      plan = c.in_ok-read_slot.ensures.plan ∙ so_far.plan;
      pages = pages_step geometry.bytes geometry.pages place (g.F.Read.remaining c.args.file.now) (g.F.Read.remaining c.loop-place.file) (g.F.Read.remaining c.read_slot.new.file)
          slot mid new wide so_far.pages c.in_ok-read_slot.ensures.whole put;
    }
