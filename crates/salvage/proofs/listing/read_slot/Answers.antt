use Rattle.std.proofs.Common.{◌≡◌, refl, inl, rules}
use Rattle.page_tags.specs.SlotEntry.{entry_of}
use Rattle.page_tags.specs.Slots.{Entry}
use Rattle.salvage.specs.declared.reported.SalvagedName.{SalvagedName}
use Rattle.salvage.proofs.Slots.{pair_more}
use Rattle.salvage.proofs.listing.read_slot.Goals as goal

pub returns-in_ok-push-in-Some : goal.returns-in_ok-push-in-Some
returns-in_ok-push-in-Some c =
    let found = rw c.in-Some.is at c.decode_tree_slot.ensures.found in
    let e : Entry = entry_of c.in-Some.slot in
    let name : c.in_ok-name-in-Some.name.items ≡ e.name = search rules in
    let new : SalvagedName = record { name = c.in_ok-name-in-Some.name; object = c.in-Some.slot.object } in
    inl (
      e,
      record {
        valid = found.0;
        are = found.1;
        pairs = pair_more c.args.listing.now.names.items c.push.new.self.items new e.name c.in_ok-push-in-Some.ensures.items name;
        lost = refl;
      },
    )
