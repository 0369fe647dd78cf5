use Rattle.std.proofs.Common.{length, drop, ap, ◌∙◌, length-take, arith}
use Rattle.page_tags.proofs.HeaderBytes.{header_in_place}
use Rattle.page_tags.specs.HeaderFields.{file_fields}
use Rattle.page_tags.proofs.header.write_file_header.Goals as goal

pub copy_from_slice-requires : goal.copy_from_slice-requires
copy_from_slice-requires c = length-take 32 c.args.page.now ∙ omega (arith, ap length c.head_of.ensures)

pub returns : goal.returns
returns c = header_in_place (file_fields c.args.len c.args.moment (drop 32 c.args.page.now)) c.copy_from_slice.new.self (c.copy_from_slice.ensures.after ∙ c.head_of.ensures)
