use Rattle.std.proofs.Common.{◌∙◌, ℕ, List, Option, Some, None, sym, ap, cond, nat_eq}
use Rattle.std.specs.Option.{option_or}
use Rattle.plain_volume.specs.Items.{item_of, reported_of}
use Rattle.image_tools.specs.Folders.{held_by, first_path}
use Rattle.image_tools.proofs.Reading.{first_path_more}
use Rattle.image_tools.proofs.unpacking.entry_after.Goals as goal

pub returns : goal.returns
returns c = λ items knows.
    let entry = c.args.entry in
    let held = c.node_of-node.ensures ∙ ap (held_by (reported_of entry.content)) (c.in_ok-first.ensures.first ∙ knows entry.info.object) in (
      λ i. record { path = entry.name.path.items; moment = entry.info.moment; held = held i },
      λ number. c.in_ok-first.ensures.notes number ∙ ap (λ (k : Option (List ℕ)). option_or k (cond (nat_eq entry.info.object number) (Some c.deref.result.now) None)) (knows number)
          ∙ ap (λ (p : List ℕ). option_or (first_path items number) (cond (nat_eq entry.info.object number) (Some p) None)) c.deref.ensures.value ∙ sym (first_path_more items (item_of entry) number),
    )
