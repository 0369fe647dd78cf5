use Rattle.std.proofs.Common.{◌≡◌, ◌+◌, ◌-◌, ◌/◌, ◌%◌, ◌∙◌, ℕ, List, false, true, None, Some, length, take, drop, refl, sym, ap, rules}
use Rattle.pages.specs.Maps.{PageMap, has}
use Rattle.pages.specs.State.{PagesState}
use Rattle.salvage.specs.Chunks.{SaysChunk}
use Rattle.salvage.specs.SeenBy.{seen_by}
use Rattle.salvage.proofs.Parts.{place_is, reads_none, reads_zeros, reads_page, loses_page}
use Rattle.salvage.proofs.Seeing.{still_seen}
use Rattle.salvage.proofs.reading.read_part.Goals as goal

pub returns-in_default-clause-reads : goal.returns-in_default-clause-reads
returns-in_default-clause-reads g c = λ z is.
    let old : PagesState = seen_by c.args.pages.now in
    let says : SaysChunk z (has old.present) c.args.file (1 + c.args.offset / c.from-page_bytes.result) None = rw c.in_default.is at c.in_ok-reported.ensures.says z is in
    says

pub returns-then-bytes-eq0-clause-reads : goal.returns-then-bytes-eq0-clause-reads
returns-then-bytes-eq0-clause-reads g c = λ z is.
    let old : PagesState = seen_by c.args.pages.now in
    let reported = c.in-Some.reported in
    let offset : ℕ = c.args.offset in
    let d : ℕ = c.from-page_bytes.result in
    let bytes : ℕ = c.min-bytes.result in
    let says : SaysChunk z (has old.present) c.args.file (1 + offset / d) (Some reported) = rw c.in-Some.is at c.in_ok-reported.ensures.says z is in
    let size : d ≡ z.page_bytes = c.from-page_bytes.ensures ∙ c.page_bytes.ensures.bytes ∙ sym is.size in
    let at = place_is z says.0 offset d reported.length c.saturating_sub.result bytes size says.2.length_is c.saturating_sub.ensures c.min-bytes.ensures in
    (says.0, says.1, says.2.kind, reads_none z old.present c.args.file says.0 offset (1 + offset / d) (offset % d) bytes at c.args.buffer.now c.if-bytes-eq0.true)

pub returns-then-not-reported-clause-reads : goal.returns-then-not-reported-clause-reads
returns-then-not-reported-clause-reads g c = λ z is.
    let old : PagesState = seen_by c.args.pages.now in
    let reported = c.in-Some.reported in
    let offset : ℕ = c.args.offset in
    let d : ℕ = c.from-page_bytes.result in
    let bytes : ℕ = c.min-bytes.result in
    let clears = c.clear_front-count.ensures in
    let says : SaysChunk z (has old.present) c.args.file (1 + offset / d) (Some reported) = rw c.in-Some.is at c.in_ok-reported.ensures.says z is in
    let size : d ≡ z.page_bytes = c.from-page_bytes.ensures ∙ c.page_bytes.ensures.bytes ∙ sym is.size in
    let at = place_is z says.0 offset d reported.length c.saturating_sub.result bytes size says.2.length_is c.saturating_sub.ensures c.min-bytes.ensures in
    let absent : reported.present ≡ false = search rules in (
      says.0,
      says.1,
      says.2.kind,
      reads_zeros z old.present c.args.file says.0 offset (1 + offset / d) (offset % d) bytes at c.clear_front-count.result c.args.buffer.now c.clear_front-count.new.buffer
          (sym says.2.present ∙ absent) clears.count clears.size clears.zeros,
    )

pub returns-in-Present-clause-reads : goal.returns-in-Present-clause-reads
returns-in-Present-clause-reads g c = λ z is.
    let old : PagesState = seen_by c.args.pages.now in
    let mid : PagesState = seen_by c.find_chunk.new.pages in
    let lookups = c.find_chunk.ensures.lookups in
    let reported = c.in-Some.reported in
    let offset : ℕ = c.args.offset in
    let d : ℕ = c.from-page_bytes.result in
    let chunk : ℕ = 1 + offset / d in
    let bytes : ℕ = c.min-bytes.result in
    let page : List ℕ = c.page-page.result.now in
    let part : List ℕ = take (offset % d + bytes - offset % d) (drop (offset % d) page) in
    let copies = c.copy_front-count.ensures in
    let says : SaysChunk z (has old.present) c.args.file chunk (Some reported) = rw c.in-Some.is at c.in_ok-reported.ensures.says z is in
    let size : d ≡ z.page_bytes = c.from-page_bytes.ensures ∙ c.page_bytes.ensures.bytes ∙ sym is.size in
    let at = place_is z says.0 offset d reported.length c.saturating_sub.result bytes size says.2.length_is c.saturating_sub.ensures c.min-bytes.ensures in
    let present : reported.present ≡ true = search rules in
    let seen = still_seen z old mid lookups is in
    let found = rw c.in-Present.is at c.in_ok-look.ensures.page seen.sound in
    let there : old.present c.args.file chunk ≡ Some page = ap (λ (m : PageMap). m c.args.file chunk) (sym lookups.present) ∙ found ∙ ap Some (sym c.page-page.ensures.bytes) in
    let long : length page ≡ z.page_bytes = c.page-page.ensures.size ∙ c.look.ensures.lookups.page_bytes ∙ sym seen.size in (
      says.0,
      says.1,
      says.2.kind,
      reads_page z old.present c.args.file says.0 offset chunk (offset % d) bytes at c.copy_front-count.result page part c.args.buffer.now c.copy_front-count.new.buffer
          (sym says.2.present ∙ present) there long refl copies.count copies.size copies.bytes,
    )

pub returns-in-Absent-clause-reads : goal.returns-in-Absent-clause-reads
returns-in-Absent-clause-reads g c = λ z is.
    let old : PagesState = seen_by c.args.pages.now in
    let mid : PagesState = seen_by c.find_chunk.new.pages in
    let lookups = c.find_chunk.ensures.lookups in
    let reported = c.in-Some.reported in
    let offset : ℕ = c.args.offset in
    let d : ℕ = c.from-page_bytes.result in
    let chunk : ℕ = 1 + offset / d in
    let bytes : ℕ = c.min-bytes.result in
    let says : SaysChunk z (has old.present) c.args.file chunk (Some reported) = rw c.in-Some.is at c.in_ok-reported.ensures.says z is in
    let size : d ≡ z.page_bytes = c.from-page_bytes.ensures ∙ c.page_bytes.ensures.bytes ∙ sym is.size in
    let at = place_is z says.0 offset d reported.length c.saturating_sub.result bytes size says.2.length_is c.saturating_sub.ensures c.min-bytes.ensures in
    let present : reported.present ≡ true = search rules in
    let seen = still_seen z old mid lookups is in
    let found = rw c.in-Absent.is at c.in_ok-look.ensures.page seen.sound in
    let none : old.present c.args.file chunk ≡ None = ap (λ (m : PageMap). m c.args.file chunk) (sym lookups.present) ∙ found in
    (says.0, says.1, says.2.kind, loses_page z old.present c.args.file says.0 offset chunk (offset % d) bytes at (sym says.2.present ∙ present) none c.if-bytes-eq0.false)
