use Rattle.std.proofs.Common.{◌<◌, sym, length, arith}
use Rattle.std.proofs.lemmas.List.{get_or-map, length-map}
use Rattle.surviving_pages.specs.declared.survivors.LostPlace.{LostPlace}
use Rattle.flash_c.specs.Salvaged.{place_of, places_of}
use Rattle.flash_c.proofs.Fronts.{one_more}
use Rattle.flash_c.proofs.salvaged.put_places.Goals as goal

pub loop-i-preserved : goal.loop-i-preserved
loop-i-preserved c =
    let none : LostPlace = record { block = 0; page = 0 } in
    let lt : c.loop-i.i < length c.args.lost.now = grind arith in
    let less : c.loop-i.i < length c.args.places.now = grind arith in
    one_more (places_of c.args.lost.now) c.args.places.now c.loop-i.places c.loop-i.i (place_of none) _ (omega (arith, lt, length-map c.args.lost.now place_of)) less c.loop-i.invariant
    (sym (get_or-map place_of c.args.lost.now c.loop-i.i none (place_of none) lt))
