use Rattle.std.proofs.Common.{◌≡◌, ◌∙◌, List, ℕ, length, Ok, Some, None, ap, refl, w32, w64}
use Rattle.std.proofs.lemmas.Int.{to_z-of_z}
use Rattle.salvage.specs.StateOf.{state}
use Rattle.salvage.specs.declared.reported.SalvagedName.{SalvagedName}
use Rattle.flash_c.specs.Filling.{filled, filled_number}
use Rattle.flash_c.specs.Numbers.{no_room}
use Rattle.flash_c.specs.Salvaged.{listing_bytes}
use Rattle.flash_c.proofs.Salvages.{list_ends}
use Rattle.flash_c.proofs.asking.list_left.Goals as goal

pub returns-in-Ok-Some : goal.returns-in-Ok-Some
returns-in-Ok-Some g c =
    let ensured = c.list.ensures in
    let reported : c.list.result ≡ Ok (Some c.in-Ok-Some.listing) =
    (let a = c.in-Ok-Some.is in let b = c.in-Ok-Some.field-0-is in let d = c.in-Ok-Some.listing-is in cc) in (
      c.list.result,
      state c.list.new.self,
      record { lookups = ensured.lookups; says = ensured.lists; why = ensured.fault },
      list_ends _ _ _ _ _ reported (
        refl,
        to_z-of_z w64 c.put_listing.result (search (c.put_listing.type_inv)) ∙ c.put_listing.ensures.number
            ∙ ap (λ (names : List SalvagedName). filled_number (length c.args.buffer.now) no_room (listing_bytes names)) c.deref.ensures.value,
        ap (λ (buffer : List ℕ). (buffer, c.in-Ok-Some.listing.lost))
            (c.put_listing.ensures.bytes ∙ ap (λ (names : List SalvagedName). filled c.args.buffer.now (listing_bytes names)) c.deref.ensures.value),
      ),
    )

pub returns-in-Ok-None : goal.returns-in-Ok-None
returns-in-Ok-None g c =
    let ensured = c.list.ensures in let m = c.missing.ensures in
    let reported : c.list.result ≡ Ok None = (let a = c.in-Ok-None.is in let b = c.in-Ok-None.field-0-is in cc) in (
      c.list.result,
      state c.list.new.self,
      record { lookups = ensured.lookups; says = ensured.lists; why = ensured.fault },
      list_ends _ _ _ _ _ reported (
        (
          m.0,
          m.1,
          to_z-of_z w64 c.from.result (search (c.from.type_inv)) ∙ c.from.ensures ∙ to_z-of_z w32 c.missing.result (search (c.missing.type_inv)) ∙ m.2,
        ),
        refl,
      ),
    )

pub returns-in-Err : goal.returns-in-Err
returns-in-Err g c = let ensured = c.list.ensures in (
  c.list.result,
  state c.list.new.self,
  record { lookups = ensured.lookups; says = ensured.lists; why = ensured.fault },
  list_ends _ _ _ _ _ c.in-Err.is (
    refl,
    to_z-of_z w64 c.from-in-Err.result (search (c.from-in-Err.type_inv)) ∙ c.from-in-Err.ensures
        ∙ to_z-of_z w32 c.salvage_number.result (search (c.salvage_number.type_inv)) ∙ c.salvage_number.ensures.number,
    refl,
  ),
)
