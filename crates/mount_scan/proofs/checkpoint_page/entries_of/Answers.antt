use Rattle.std.proofs.Common.{◌≡◌, ◌+◌, ◌*◌, length, sym, ap, ◌∙◌, arith, length-take}
use Rattle.std.proofs.lemmas.Bool.{false≢true}
use Rattle.volume_terms.specs.Rounding.{ceiling}
use Rattle.mount_scan.proofs.CheckpointPages.{few_entries, one_number}
use Rattle.mount_scan.proofs.checkpoint_page.entries_of.Goals as goal

pub slice_bounds-decode_check_head-end : goal.slice_bounds-decode_check_head-end
slice_bounds-decode_check_head-end c = omega (arith, length-take 32 c.args.page.now, c.requires.size.least)

pub decode_check_head-requires : goal.decode_check_head-requires
decode_check_head-requires c = omega (arith, length-take 32 c.args.page.now, c.requires.size.least)

pub returns-else-take_pages-clause-none : goal.returns-else-take_pages-clause-none
returns-else-take_pages-clause-none c n is head =
    let within_limit = few_entries n (length c.args.page.now) c.args.count c.requires.size c.requires.count is in
    let same : n ≡ c.in_ok-n.n = one_number n c.in_ok-n.n (omega (arith, within_limit)) (omega arith) (sym head ∙ c.in_ok-n.ensures.found) in
    false≢true (sym c.if-take_pages.false ∙ c.take_pages.ensures.1 (is ∙ ap (λ k. ceiling (32 * (1 + k)) (length c.args.page.now)) same))
