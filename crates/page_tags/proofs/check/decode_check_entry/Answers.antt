use Rattle.std.proofs.Common.{◌≡◌, ap, sym, ◌∙◌, arith}
use Rattle.page_tags.specs.Checks.{check_entry_bytes, check_entry_in}
use Rattle.page_tags.specs.laws.Check.{entry_read, entry_said}
use Rattle.page_tags.proofs.check.decode_check_entry.Goals as goal

pub returns-clause-encoded : goal.returns-clause-encoded
returns-clause-encoded c e valid same =
    let said : record { object = c.u64_at.result; chunk = c.u64_at-2.result; version = c.u64_at-3.result; block = c.u32_at.result; page = c.u32_at-2.result } ≡ check_entry_in c.args.bytes.now =
    λ i. record { object = c.u64_at.ensures i; chunk = c.u64_at-2.ensures i; version = c.u64_at-3.ensures i; block = c.u32_at.ensures i; page = c.u32_at-2.ensures i } in
    said ∙ ap check_entry_in same ∙ entry_read e valid

pub returns-clause-said : goal.returns-clause-said
returns-clause-said c =
    let said : record { object = c.u64_at.result; chunk = c.u64_at-2.result; version = c.u64_at-3.result; block = c.u32_at.result; page = c.u32_at-2.result } ≡ check_entry_in c.args.bytes.now =
    λ i. record { object = c.u64_at.ensures i; chunk = c.u64_at-2.ensures i; version = c.u64_at-3.ensures i; block = c.u32_at.ensures i; page = c.u32_at-2.ensures i } in
    sym (entry_said c.args.bytes.now c.requires (λ i. let byte = c.type_inv.bytes i in omega arith)) ∙ ap check_entry_bytes (sym said)
