-- What a `Slot` says, without where its name lies.
use Rattle.page_tags.specs.declared.slot.Slot.{Slot}
use Rattle.page_tags.specs.Slots.{Entry}

-- the object and the name itself
abbrev pub entry_of : Slot → Entry
entry_of s = record { object = s.object; name = s.name.now }
