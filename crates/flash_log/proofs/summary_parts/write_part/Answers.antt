use Rattle.std.proofs.Common.{◌<◌, ◌-◌, length, refl, sym, ◌∙◌, arith}
use Rattle.std.proofs.lemmas.Bool.{ltb-true, ltb-false}
use Rattle.std.proofs.lemmas.Option.{slice_get_past, slice_get_read}
use Rattle.flash_log.proofs.SummaryRows.{head_is, entry_is, zeros_are}
use Rattle.flash_log.proofs.summary_parts.write_part.Goals as goal

pub returns-then-k-eq0 : goal.returns-then-k-eq0
returns-then-k-eq0 c size fits = c.encode_summary_head.ensures ∙ head_is size c.args.head.now c.args.entries.now c.args.k c.if-k-eq0.true

pub returns-in-Some : goal.returns-in-Some
returns-in-Some c size fits =
    let es = c.args.entries.now in
    let e = c.in-Some.entry.now in
    let lt : c.args.k - 1 < length es = ltb-true _ _ (sym c.in-Some.ensures.lookup.0) in
    c.encode_check_entry.ensures ∙ entry_is size c.args.head.now es c.args.k (c.args.k - 1) e (omega arith) (slice_get_read es (length es) (c.args.k - 1) e refl lt (c.in-Some.ensures.lookup.4 (omega arith) e))

pub returns-in-None : goal.returns-in-None
returns-in-None c size fits =
    let es = c.args.entries.now in
    c.copy_from_slice.ensures.after
    ∙ zeros_are size c.args.head.now es c.args.k (c.args.k - 1) (omega arith) (slice_get_past es (c.args.k - 1) (ltb-false _ _ (sym c.in-None.ensures.lookup.0))) (omega (arith, fits))
