-- What a `Header` says, without where its presence bits lie.
use Rattle.std.specs.Prelude.{ℕ, List}
use Rattle.page_tags.specs.declared.header.Format.TheVariants as formats
use Rattle.page_tags.specs.declared.header.Header.{Header}
use Rattle.page_tags.specs.declared.header.ObjectKind.TheVariants as kinds
use Rattle.page_tags.specs.Headers.{Fields}

-- the fields, with the bits themselves
abbrev pub fields_of : Header → Fields
fields_of h = record { format = h.format; kind = h.kind; spare = h.spare; length = h.length; moment = h.moment; bits = h.bits.now }

-- what the header of a file says that is written in format 2
abbrev pub file_fields : ℕ → ℕ → List ℕ → Fields
file_fields len moment bits = record { format = formats.Two; kind = kinds.File; spare = 0; length = len; moment = moment; bits = bits }
