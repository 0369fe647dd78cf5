use Rattle.std.proofs.Common.{◌≡◌, ◌∙◌, ◌-◌, ◌+◌, Some, sym, ap, arith, not}
use Rattle.std.specs.FinMap as map
use Rattle.volume_terms.specs.laws.List.{find_hit, find_step}
use Rattle.command_plans.specs.Tables.{handles_in}
use Rattle.command_plans.proofs.Descriptors.{end_closed}
use Rattle.command_plans.proofs.table.DescriptorTable.free.Goals as goal

pub returns-then-is_closed : goal.returns-then-is_closed
returns-then-is_closed c =
    let more : 64 - c.loop-fd.fd ≡ (64 - (c.loop-fd.fd + 1)) + 1 = omega arith in
    sym (find_hit (λ n. not (map.contains_key (handles_in c.args.self.now) n)) c.loop-fd.fd _ _ more (sym c.is_closed.ensures ∙ c.if-is_closed.true)) ∙ c.loop-fd.invariant

pub loop-fd-preserved : goal.loop-fd-preserved
loop-fd-preserved c =
    let more : 64 - c.loop-fd.fd ≡ (64 - (c.loop-fd.fd + 1)) + 1 = omega arith in
    find_step (λ n. not (map.contains_key (handles_in c.args.self.now) n)) c.loop-fd.fd _ _ more (sym c.is_closed.ensures ∙ c.if-is_closed.false) ∙ c.loop-fd.invariant

pub returns-then-self-lt-DESCRIPTORS : goal.returns-then-self-lt-DESCRIPTORS
returns-then-self-lt-DESCRIPTORS c =
    let end : c.loop-fd.fd ≡ c.args.self.now.end = omega arith in
    let more : 64 - c.loop-fd.fd ≡ (64 - (c.loop-fd.fd + 1)) + 1 = omega arith in
    ap Some (sym end) ∙ sym (find_hit (λ n. not (map.contains_key (handles_in c.args.self.now) n)) c.loop-fd.fd _ _ more (end_closed c.args.self.now c.loop-fd.fd end)) ∙ c.loop-fd.invariant
