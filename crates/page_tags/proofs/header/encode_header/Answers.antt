use Rattle.std.proofs.Common.{length, ap, ◌∙◌, length-take, arith}
use Rattle.page_tags.specs.HeaderFields.{fields_of}
use Rattle.page_tags.proofs.HeaderBytes.{header_written}
use Rattle.page_tags.proofs.header.encode_header.Goals as goal

pub copy_from_slice-requires : goal.copy_from_slice-requires
copy_from_slice-requires c = length-take 32 c.args.page.now ∙ omega (arith, ap length c.head_of.ensures)

pub returns : goal.returns
returns c =
    header_written (fields_of c.args.header.now) c.args.page.now c.copy_from_slice.new.self c.copy_from_slice-2.new.self c.requires.least
    c.requires.valid.room (c.copy_from_slice.ensures.after ∙ c.head_of.ensures) c.copy_from_slice-2.ensures.after
