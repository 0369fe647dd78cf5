use Rattle.std.proofs.Common.{◌≡◌, ◌≤◌, ◌+◌, ◌*◌, length, length-take, ℕ, List, sym, ap, ◌∙◌, arith}
use Rattle.std.proofs.Math.Nat.{mul-le-mul_right}
use Rattle.std.proofs.lemmas.Bool.{false≢true}
use Rattle.volume_terms.specs.Rounding.{ceiling}
use Rattle.page_tags.specs.declared.summary_head.SummaryHead.{SummaryHead}
use Rattle.mount_scan.proofs.SummaryBytes.{one_head, has_room}
use Rattle.mount_scan.proofs.block_summary.contents.head_of.Goals.{else-head-blocks-via-then-head-blocks+then-head-pages+else-take_pages, else-head-blocks-via-then-head-blocks+else-head-pages, else-head-blocks-via-else-head-blocks}
use Rattle.mount_scan.proofs.block_summary.contents.head_of.Goals as goal

-- a page or more has a head
head_within : (d count : ℕ) (bytes : List ℕ) → 512 ≤ d → 1 ≤ count → length bytes ≡ count * d → 32 ≤ length bytes
head_within d count bytes least some len = let le : 1 * d ≤ count * d = mul-le-mul_right d some in omega (arith, le, least, len)

pub slice_bounds-decode_summary_head-end : goal.slice_bounds-decode_summary_head-end
slice_bounds-decode_summary_head-end c =
    omega (arith, length-take 32 c.args.bytes.now, head_within c.args.geometry.now.bytes c.args.count c.args.bytes.now c.args.geometry.now.least_bytes c.requires.not_empty c.requires.size)

pub decode_summary_head-requires : goal.decode_summary_head-requires
decode_summary_head-requires c = omega (arith, length-take 32 c.args.bytes.now, head_within c.args.geometry.now.bytes c.args.count c.args.bytes.now c.args.geometry.now.least_bytes c.requires.not_empty c.requires.size)

pub returns-then-take_pages-clause-room : goal.returns-then-take_pages-clause-room
returns-then-take_pages-clause-room c =
    has_room (32 * (1 + c.in_ok-head.head.entries)) c.args.geometry.now.bytes c.args.count (length c.args.bytes.now) (omega (arith, c.args.geometry.now.least_bytes)) (c.take_pages.ensures.0 c.if-take_pages.true)
    c.requires.size

pub returns-else-head-blocks-clause-none : goal.returns-else-head-blocks-clause-none
returns-else-head-blocks-clause-none c head begins =
    let same : c.in_ok-head.head ≡ head = one_head c.in_ok-head.head head c.in_ok-head.ensures.valid begins.valid (sym c.in_ok-head.ensures.found ∙ begins.said) in
    elim c.else-head-blocks.branch [
      | else-head-blocks-via-then-head-blocks+then-head-pages+else-take_pages w ↦ false≢true (sym w.if-take_pages.false ∙ w.take_pages.ensures.1 (begins.size ∙ ap (λ (h : SummaryHead). ceiling (32 * (1 + h.entries)) c.args.geometry.now.bytes) (sym same)))
      | else-head-blocks-via-then-head-blocks+else-head-pages w ↦ absurd (omega (arith, w.if-head-pages.false, w.pages.ensures, begins.within_limit, ap (λ (h : SummaryHead). h.entries) same))
      | else-head-blocks-via-else-head-blocks w ↦ absurd (omega (arith, w.if-head-blocks.false, c.blocks-2.ensures, begins.block, ap (λ (h : SummaryHead). h.block) same))
    ]
