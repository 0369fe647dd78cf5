use Rattle.std.proofs.Common.{◌≡◌, ◌∙◌, Ok, Some, None, refl, w32, w64}
use Rattle.std.proofs.lemmas.Int.{to_z-of_z}
use Rattle.salvage.specs.StateOf.{state}
use Rattle.salvage.specs.declared.reported.Part.TheVariants as parts
use Rattle.flash_c.specs.Salvaging.{read_of}
use Rattle.flash_c.proofs.Salvages.{read_ends}
use Rattle.flash_c.proofs.asking.read_left.Goals as goal

pub returns-in-Ok-Some-Bytes : goal.returns-in-Ok-Some-Bytes
returns-in-Ok-Some-Bytes g c =
    let e = c.read_at.ensures in
    let reported : c.read_at.result ≡ Ok (Some (parts.Bytes c.in-Ok-Some-Bytes.count)) =
    (let i = c.in-Ok-Some-Bytes.is in let j = c.in-Ok-Some-Bytes.field-0-is in let k = c.in-Ok-Some-Bytes.field-0-0-is in let l = c.in-Ok-Some-Bytes.count-is in cc) in (
      c.read_at.result,
      state c.read_at.new.self,
      record { lookups = e.lookups; says = e.reads; why = e.fault },
      record { size = e.size; rest = e.rest; stays = e.stays },
      read_ends (read_of c.args.file c.args.offset c.args.buffer.now _ c.read_at.new.buffer) _ _ _ _ reported (refl, to_z-of_z w64 c.signed.result (search (c.signed.type_inv)) ∙ c.signed.ensures),
    )

pub returns-in-Ok-Some-Lost : goal.returns-in-Ok-Some-Lost
returns-in-Ok-Some-Lost g c =
    let e = c.read_at.ensures in
    let reported : c.read_at.result ≡ Ok (Some (parts.Lost c.in-Ok-Some-Lost.field-0-0-0)) =
    (let i = c.in-Ok-Some-Lost.is in let j = c.in-Ok-Some-Lost.field-0-is in let k = c.in-Ok-Some-Lost.field-0-0-is in cc) in (
      c.read_at.result,
      state c.read_at.new.self,
      record { lookups = e.lookups; says = e.reads; why = e.fault },
      record { size = e.size; rest = e.rest; stays = e.stays },
      read_ends (read_of c.args.file c.args.offset c.args.buffer.now _ c.read_at.new.buffer) _ _ _ _ reported (refl, refl),
    )

pub returns-in-Ok-None : goal.returns-in-Ok-None
returns-in-Ok-None g c =
    let e = c.read_at.ensures in let m = c.missing.ensures in
    let reported : c.read_at.result ≡ Ok None = (let a = c.in-Ok-None.is in let b = c.in-Ok-None.field-0-is in cc) in (
      c.read_at.result,
      state c.read_at.new.self,
      record { lookups = e.lookups; says = e.reads; why = e.fault },
      record { size = e.size; rest = e.rest; stays = e.stays },
      read_ends (read_of c.args.file c.args.offset c.args.buffer.now _ c.read_at.new.buffer) _ _ _ _ reported (
        m.0,
        m.1,
        to_z-of_z w64 c.from.result (search (c.from.type_inv)) ∙ c.from.ensures ∙ to_z-of_z w32 c.missing.result (search (c.missing.type_inv)) ∙ m.2,
      ),
    )

pub returns-in-Err : goal.returns-in-Err
returns-in-Err g c = let e = c.read_at.ensures in (
  c.read_at.result,
  state c.read_at.new.self,
  record { lookups = e.lookups; says = e.reads; why = e.fault },
  record { size = e.size; rest = e.rest; stays = e.stays },
  read_ends (read_of c.args.file c.args.offset c.args.buffer.now _ c.read_at.new.buffer) _ _ _ _ c.in-Err.is (
    refl,
    to_z-of_z w64 c.from-in-Err.result (search (c.from-in-Err.type_inv)) ∙ c.from-in-Err.ensures
        ∙ to_z-of_z w32 c.salvage_number.result (search (c.salvage_number.type_inv)) ∙ c.salvage_number.ensures.number,
  ),
)
