use Rattle.std.proofs.Common.{◌≡◌, ◌++◌, ◌+◌, ◌∙◌, ap, sym, get_or, length, take, drop, arith}
use Rattle.flash_c.specs.Filling.{names_bytes}
use Rattle.flash_c.proofs.NameBytes.{name_bytes, next_names, next_length, at_least, one_more}
use Rattle.flash_c.proofs.names.copy_names.Goals as goal

pub copy_name-requires : goal.copy_name-requires
copy_name-requires c =
    let name : c.as_slice-bytes.result.now ≡ get_or c.args.names.now c.loop-name.name-index c.name-item.result = c.as_slice-bytes.ensures ∙ c.name-item.is in
    omega (
      arith,
      ap length name,
      at_least c.args.names.now c.loop-name.name-index c.name-item.result c.loop-name-test.true,
      c.loop-name.invariant.place,
      c.loop-name.auto.buffer,
      c.requires,
    )

pub loop-name-preserved : goal.loop-name-preserved
loop-name-preserved c =
    let name : c.as_slice-bytes.result.now ≡ get_or c.args.names.now c.loop-name.name-index c.name-item.result = c.as_slice-bytes.ensures ∙ c.name-item.is in
    record {
      place = omega (arith, ap length name, next_length c.args.names.now c.loop-name.name-index c.name-item.result c.loop-name-test.true, c.loop-name.invariant.place);
      copied = one_more (names_bytes (take c.loop-name.name-index c.args.names.now)) c.args.buffer.now c.as_slice-bytes.result.now c.loop-name.buffer c.copy_name.new.buffer
          c.loop-name.at c.loop-name.invariant.place c.loop-name.invariant.copied c.copy_name.ensures
          ∙ ap (λ l. l ++ drop (c.loop-name.at + (length c.as_slice-bytes.result.now + 1)) c.args.buffer.now)
          (ap (λ l. names_bytes (take c.loop-name.name-index c.args.names.now) ++ name_bytes l) name
          ∙ sym (next_names c.args.names.now c.loop-name.name-index c.name-item.result c.loop-name-test.true));
    }
