use Rattle.std.proofs.Common.{◌≡◌, ◌<◌, ◌++◌, ◌+◌, ◌∙◌, ℕ, List, ap, sym, get_or, length, take, drop, map, arith}
use Rattle.std.proofs.lemmas.List.{get_or-map, length-map}
use Rattle.salvage.specs.declared.reported.SalvagedName.{SalvagedName}
use Rattle.flash_c.specs.Filling.{names_bytes}
use Rattle.flash_c.specs.Salvaged.{entry_bytes}
use Rattle.flash_c.proofs.EntryBytes.{at_least, length-entry, next_length}
use Rattle.flash_c.proofs.NameBytes.{name_bytes, next_names, one_more}
use Rattle.flash_c.proofs.listing.copy_entries.Goals as goal

pub copy_entry-requires : goal.copy_entry-requires
copy_entry-requires c =
    let entry : SalvagedName = c.entry-item.result in
    omega (
      arith,
      length-entry entry,
      ap (λ (n : SalvagedName). length n.name.items) c.entry-item.is,
      at_least c.args.names.now c.loop-entry.entry-index entry c.loop-entry-test.true,
      c.loop-entry.invariant.place,
      c.loop-entry.auto.buffer,
      c.requires,
    )

pub loop-entry-preserved : goal.loop-entry-preserved
loop-entry-preserved c =
    let names : List SalvagedName = c.args.names.now in
    let entry : SalvagedName = c.entry-item.result in
    let i : ℕ = c.loop-entry.entry-index in
    let all : List (List ℕ) = map entry_bytes names in
    let within : i < length all = omega (arith, c.loop-entry-test.true, length-map names entry_bytes) in
    let here : entry_bytes entry ≡ get_or all i (entry_bytes entry) =
    ap entry_bytes c.entry-item.is ∙ sym (get_or-map entry_bytes names i entry (entry_bytes entry) c.loop-entry-test.true) in
    let size : length (entry_bytes entry) + 1 ≡ 8 + c.len.result + 1 = omega (arith, length-entry entry, c.len.ensures) in
    record {
      place = omega (
        arith,
        c.len.ensures,
        ap (λ (n : SalvagedName). length n.name.items) c.entry-item.is,
        next_length names i entry c.loop-entry-test.true,
        c.loop-entry.invariant.place,
      );
      copied = one_more (names_bytes (take i all)) c.args.buffer.now (entry_bytes entry) c.loop-entry.buffer c.copy_entry.new.buffer c.loop-entry.at
          c.loop-entry.invariant.place c.loop-entry.invariant.copied c.copy_entry.ensures
          ∙ ap (λ l. l ++ drop (c.loop-entry.at + (length (entry_bytes entry) + 1)) c.args.buffer.now)
          (ap (λ l. names_bytes (take i all) ++ name_bytes l) here ∙ sym (next_names all i (entry_bytes entry) within))
          ∙ ap (λ k. names_bytes (take (i + 1) all) ++ drop (c.loop-entry.at + k) c.args.buffer.now) size;
    }
