use Rattle.std.proofs.Common.{ap, sym, ◌∙◌}
use Rattle.std.specs.FinMap as map
use Rattle.std.proofs.lemmas.Bool.Decides.{Decides-at, Decides-eqb}
use Rattle.name_map.specs.laws.NameEntries.{len_entries}
use Rattle.plain_volume.proofs.Alike.{entries_decide}
use Rattle.plain_volume.proofs.state.same.same_entries.Goals as goal

pub returns-then-len : goal.returns-then-len
returns-then-len c = Decides-at c.eq.result _ c.eq.ensures (entries_decide c.args.entries.now c.args.others.now c.len.ensures.ordered c.len-2.ensures.ordered)

pub returns-else-len : goal.returns-else-len
returns-else-len c = (
  λ so. absurd (c.if-len.false ((Decides-eqb c.len.result c.len-2.result).0 so)),
  λ e. absurd (c.if-len.false
      (c.len.ensures.len ∙ sym (len_entries c.args.entries.now c.len.ensures.ordered) ∙ ap map.len e ∙ len_entries c.args.others.now c.len-2.ensures.ordered ∙ sym c.len-2.ensures.len)),
)
