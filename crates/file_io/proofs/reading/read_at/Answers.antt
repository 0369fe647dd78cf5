use Rattle.std.proofs.Common.{◌≡◌, ◌<◌, ◌≤◌, ◌+◌, ◌-◌, ◌*◌, ◌/◌, ◌∙◌, ℕ, List, refl, ap, sym, subst, take, drop, length, min, arith}
use Rattle.pages.specs.State.{PagesState}
use Rattle.std.proofs.lemmas.List.{length-drop, length-take}
use lib.Seq.{take_at}
use Rattle.std.proofs.lemmas.Result.{err_from_is_err_and}
use Rattle.pages.specs.laws.State.{finds_on}
use Rattle.file_io.specs.Chunks.{overwritten}
use Rattle.file_io.specs.Parts.{part_from, part_of}
use Rattle.file_io.proofs.FilePages.{later, only_later}
use Rattle.file_io.proofs.Ranges.{with_front, next_part, begins_before, ends_behind, ends_at, range_end, read_none, read_all, asked_for, chunks_order}
use Rattle.pages.specs.Maps.{PageMap}
use Rattle.file_io.specs.Chunks.{one_page}
use Rattle.pages.specs.laws.Faults.{lacks_on}
use Rattle.file_io.proofs.Holes.{count_next, counted_for}
use Rattle.file_io.proofs.reading.read_at.Goals as goal

pub returns-then-end-offset-clause-read : goal.returns-then-end-offset-clause-read
returns-then-end-offset-clause-read g c = λ z moment all f only same.
    let n : ℕ = length c.args.buffer.now in
    let end : c.min-end.result ≡ min c.args.len (c.args.offset + n) =
    range_end c.args.offset n c.args.len c.min-end.result (c.min-end.ensures ∙ ap (min c.args.len) c.saturating_add.ensures) c.ranges.len.fits in
    read_none c.args.offset n c.min-end.result all (subst (λ m. c.min-end.result ≡ min m (c.args.offset + n)) same end) c.if-end-offset.true

pub returns-then-end-offset-clause-count : goal.returns-then-end-offset-clause-count
returns-then-end-offset-clause-count g c =
    let n : ℕ = length c.args.buffer.now in
    let end : c.min-end.result ≡ min c.args.len (c.args.offset + n) =
    range_end c.args.offset n c.args.len c.min-end.result (c.min-end.ensures ∙ ap (min c.args.len) c.saturating_add.ensures) c.ranges.len.fits in
    omega (arith, end, c.if-end-offset.true)

pub loop-index-preserved : goal.loop-index-preserved
loop-index-preserved g c =
    let d : ℕ = c.from-page_bytes.result in
    let old : PagesState = g.P.Pages.state c.args.pages.now in
    let now : PagesState = g.P.Pages.state c.loop-index.pages in
    let size : d ≡ now.page_bytes = c.from-page_bytes.ensures ∙ c.page_bytes.ensures.bytes ∙ sym c.loop-index.invariant.lookups.page_bytes in
    let some : 1 ≤ d = omega (arith, c.from-page_bytes.ensures, c.page_bytes.ensures.least) in
    let low : c.args.offset / d ≤ c.loop-index.index = c.loop-index.auto.index in
    record {
      lookups = finds_on _ _ _ c.loop-index.invariant.lookups c.read_part.ensures.looks.lookups;
      power = c.in_ok-read_part.ensures.looks.power ∙ c.loop-index.invariant.power;
      issued = omega (arith, low, c.loop-index.invariant.issued, c.read_part.ensures.issued);
      holes = λ sound.
          let committed : now.present ≡ old.present = c.loop-index.invariant.lookups.present in
          count_next old.present c.args.object (c.args.offset / d) c.loop-index.index old.issued now.issued (g.P.Pages.state c.read_part.new.pages).issued low (c.loop-index.invariant.holes sound)
          (subst (λ (m : PageMap). (g.P.Pages.state c.read_part.new.pages).issued ≤ now.issued + one_page (m c.args.object (1 + c.loop-index.index))) committed (c.read_part.ensures.holes (c.loop-index.invariant.lookups.sound ∙ sound)));
      size = c.read_part.ensures.size ∙ c.loop-index.invariant.size;
      rest = c.read_part.ensures.rest ∙ c.loop-index.invariant.rest;
      read = λ z moment all f only same.
          let end : c.min-end.result ≤ c.args.len = omega (arith, c.min-end.ensures) in
          let within : c.min-end.result ≤ length all = omega (arith, end, same) in
          let begins : c.loop-index.index * d < c.min-end.result = begins_before d c.loop-index.index c.min-end.result (omega (arith, c.if-end-offset.false)) c.loop-index-test.true in
          let ends : c.args.offset < c.loop-index.index * d + d = ends_behind d c.loop-index.index c.args.offset some low in
          let put = c.in_ok-read_part.ensures.part z moment all (later old now z c.args.object moment all c.loop-index.invariant.lookups f) (only_later old now c.args.object f.reads.fields c.loop-index.invariant.lookups only) within in
          next_part d c.loop-index.index (c.loop-index.index + 1) c.args.offset c.min-end.result all c.args.buffer.now c.loop-index.buffer c.read_part.new.buffer refl c.if-end-offset.false begins ends within
          (c.loop-index.invariant.read z moment all f only same)
          (subst (λ m. c.read_part.new.buffer ≡ overwritten c.loop-index.buffer (part_from m c.loop-index.index c.args.offset - c.args.offset) (part_of m c.loop-index.index c.args.offset c.min-end.result all))
          (sym (size ∙ c.loop-index.invariant.lookups.page_bytes ∙ sym f.size)) put);
    }

pub returns-clause-read : goal.returns-clause-read
returns-clause-read g c = λ z moment all f only same.
    let d : ℕ = c.from-page_bytes.result in
    let n : ℕ = length c.args.buffer.now in
    let end : c.min-end.result ≡ min c.args.len (c.args.offset + n) =
    range_end c.args.offset n c.args.len c.min-end.result (c.min-end.ensures ∙ ap (min c.args.len) c.saturating_add.ensures) c.ranges.len.fits in
    let some : 1 ≤ d = omega (arith, c.from-page_bytes.ensures, c.page_bytes.ensures.least) in
    let full : c.min-end.result ≤ c.loop-index.index * d = ends_at d c.loop-index.index c.min-end.result some c.loop-index-test.false in
    let whole : min c.min-end.result (c.loop-index.index * d) ≡ c.min-end.result = omega (arith, full) in
    let bytes : List ℕ = take n (drop c.args.offset all) in
    let held : c.loop-index.buffer ≡ with_front c.args.buffer.now bytes =
    c.loop-index.invariant.read z moment all f only same
    ∙ ap (with_front c.args.buffer.now) (ap (λ m. take (m - c.args.offset) (drop c.args.offset all)) whole
    ∙ read_all c.args.offset n c.min-end.result all (subst (λ m. c.min-end.result ≡ min m (c.args.offset + n)) same end) c.if-end-offset.false) in
    let count : length bytes ≡ c.min-end.result - c.args.offset =
    omega (arith, length-take n (drop c.args.offset all), length-drop c.args.offset all, end, same, c.if-end-offset.false) in
    ap (take (c.min-end.result - c.args.offset)) held ∙ take_at bytes (drop (length bytes) c.args.buffer.now) (c.min-end.result - c.args.offset) count

pub returns-clause-count : goal.returns-clause-count
returns-clause-count g c =
    let n : ℕ = length c.args.buffer.now in
    let end : c.min-end.result ≡ min c.args.len (c.args.offset + n) =
    range_end c.args.offset n c.args.len c.min-end.result (c.min-end.ensures ∙ ap (min c.args.len) c.saturating_add.ensures) c.ranges.len.fits in
    omega (arith, end, c.if-end-offset.false)

pub returns-in_err-read_part-clause-looks : goal.returns-in_err-read_part-clause-looks
returns-in_err-read_part-clause-looks g c =
    let p = err_from_is_err_and c.from_residual.result c.from_residual.ensures.1 in
    rw (p.1, p.2) (record {
      lookups = finds_on _ _ _ c.loop-index.invariant.lookups c.read_part.ensures.looks.lookups;
      power = tt;
      why = lacks_on (g.P.Pages.state c.args.pages.now) (g.P.Pages.state c.loop-index.pages) (g.P.Pages.state c.read_part.new.pages) c.in_err-read_part.field-0.0 c.loop-index.invariant.lookups.refused
          c.in_err-read_part.ensures.looks.why;
    })

pub returns-in_err-read_part-clause-issued : goal.returns-in_err-read_part-clause-issued
returns-in_err-read_part-clause-issued g c =
    let d : ℕ = c.from-page_bytes.result in
    let old : PagesState = g.P.Pages.state c.args.pages.now in
    let size : d ≡ old.page_bytes = c.from-page_bytes.ensures ∙ c.page_bytes.ensures.bytes in
    let end : c.min-end.result ≡ min c.args.len (c.args.offset + (length c.args.buffer.now)) =
    range_end c.args.offset (length c.args.buffer.now) c.args.len c.min-end.result (c.min-end.ensures ∙ ap (min c.args.len) c.saturating_add.ensures) c.ranges.len.fits in
    let low : c.args.offset / d ≤ c.loop-index.index = c.loop-index.auto.index in
    let up : c.loop-index.index < (c.min-end.result - 1) / d + 1 = c.loop-index-test.true in
    asked_for d old.page_bytes c.args.offset (length c.args.buffer.now) c.args.len c.min-end.result old.issued (c.loop-index.index + 1 - c.args.offset / d) (g.P.Pages.state c.read_part.new.pages).issued size end c.if-end-offset.false
    (omega (arith, low, c.loop-index.invariant.issued, c.read_part.ensures.issued)) (omega (arith, up))

pub returns-clause-issued : goal.returns-clause-issued
returns-clause-issued g c =
    let d : ℕ = c.from-page_bytes.result in
    let old : PagesState = g.P.Pages.state c.args.pages.now in
    let size : d ≡ old.page_bytes = c.from-page_bytes.ensures ∙ c.page_bytes.ensures.bytes in
    let end : c.min-end.result ≡ min c.args.len (c.args.offset + (length c.args.buffer.now)) =
    range_end c.args.offset (length c.args.buffer.now) c.args.len c.min-end.result (c.min-end.ensures ∙ ap (min c.args.len) c.saturating_add.ensures) c.ranges.len.fits in
    let order : c.args.offset / d ≤ (c.min-end.result - 1) / d + 1 = chunks_order d c.args.offset c.min-end.result c.if-end-offset.false in
    let up : c.loop-index.index ≤ (c.min-end.result - 1) / d + 1 = c.loop-index.auto.index-end order in
    asked_for d old.page_bytes c.args.offset (length c.args.buffer.now) c.args.len c.min-end.result old.issued (c.loop-index.index - c.args.offset / d) (g.P.Pages.state c.loop-index.pages).issued size end c.if-end-offset.false
    c.loop-index.invariant.issued (omega (arith, up))

pub returns-in_err-read_part-clause-holes : goal.returns-in_err-read_part-clause-holes
returns-in_err-read_part-clause-holes g c = λ sound.
    let d : ℕ = c.from-page_bytes.result in
    let old : PagesState = g.P.Pages.state c.args.pages.now in
    let now : PagesState = g.P.Pages.state c.loop-index.pages in
    let new : ℕ = (g.P.Pages.state c.read_part.new.pages).issued in
    let size : d ≡ old.page_bytes = c.from-page_bytes.ensures ∙ c.page_bytes.ensures.bytes in
    let end : c.min-end.result ≡ min c.args.len (c.args.offset + (length c.args.buffer.now)) =
    range_end c.args.offset (length c.args.buffer.now) c.args.len c.min-end.result (c.min-end.ensures ∙ ap (min c.args.len) c.saturating_add.ensures) c.ranges.len.fits in
    let low : c.args.offset / d ≤ c.loop-index.index = c.loop-index.auto.index in
    let up : c.loop-index.index < (c.min-end.result - 1) / d + 1 = c.loop-index-test.true in
    let n : ℕ = c.loop-index.index + 1 - c.args.offset / d in
    let committed : now.present ≡ old.present = c.loop-index.invariant.lookups.present in
    let one : new ≤ now.issued + one_page (old.present c.args.object (1 + c.loop-index.index)) =
    subst (λ (m : PageMap). new ≤ now.issued + one_page (m c.args.object (1 + c.loop-index.index))) committed (c.read_part.ensures.holes (c.loop-index.invariant.lookups.sound ∙ sound)) in
    counted_for d old.page_bytes c.args.offset (length c.args.buffer.now) c.args.len c.min-end.result n old.present c.args.object old.issued new size end c.if-end-offset.false
    (count_next old.present c.args.object (c.args.offset / d) c.loop-index.index old.issued now.issued new low (c.loop-index.invariant.holes sound) one) (omega (arith, up))

pub returns-clause-holes : goal.returns-clause-holes
returns-clause-holes g c = λ sound.
    let d : ℕ = c.from-page_bytes.result in
    let old : PagesState = g.P.Pages.state c.args.pages.now in
    let size : d ≡ old.page_bytes = c.from-page_bytes.ensures ∙ c.page_bytes.ensures.bytes in
    let end : c.min-end.result ≡ min c.args.len (c.args.offset + (length c.args.buffer.now)) =
    range_end c.args.offset (length c.args.buffer.now) c.args.len c.min-end.result (c.min-end.ensures ∙ ap (min c.args.len) c.saturating_add.ensures) c.ranges.len.fits in
    let order : c.args.offset / d ≤ (c.min-end.result - 1) / d + 1 = chunks_order d c.args.offset c.min-end.result c.if-end-offset.false in
    let up : c.loop-index.index ≤ (c.min-end.result - 1) / d + 1 = c.loop-index.auto.index-end order in
    counted_for d old.page_bytes c.args.offset (length c.args.buffer.now) c.args.len c.min-end.result (c.loop-index.index - c.args.offset / d) old.present c.args.object old.issued (g.P.Pages.state c.loop-index.pages).issued size end c.if-end-offset.false
    (c.loop-index.invariant.holes sound) (omega (arith, up))
