-- What packed facts mean.
use Rattle.std.specs.Prelude.{ℕ, if◌then◌else◌, Bool, Option, Some, None}
use Rattle.object_store.specs.declared.table_facts.ObjectFacts.{ObjectFacts}
use Rattle.object_store.specs.declared.packed_facts.PackedFacts.TheInside.{Inside}

-- the number, if it says that there is one
abbrev pub where_said : Bool → ℕ → Option ℕ
where_said there n = if there then Some n else None

-- the facts that are packed, if there are any
abbrev pub unpacked : Inside → Option ObjectFacts
unpacked a = if a.is_there then Some (record { kind = a.kind; moment = a.moment; links = a.links; size = a.size; parent = where_said a.has_parent a.parent }) else None
