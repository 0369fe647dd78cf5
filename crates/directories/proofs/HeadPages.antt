-- The header of a directory is valid.
use Rattle.std.specs.Prelude.{◌≡◌, ◌<◌, ◌≤◌, ℕ, ◌-◌, ◌/◌, ◌%◌, ◌^◌, true, false, List, replicate}
use Rattle.std.proofs.Common.{sym, ◌∙◌, ap, arith}
use Rattle.std.proofs.lemmas.List.{length-replicate}
use Rattle.volume_terms.specs.laws.List.{zero_at}
use Rattle.page_tags.specs.Headers.{IsHeader, is_present}
use Rattle.page_tags.specs.laws.Bit.{absent_past}
use Rattle.page_tags.specs.declared.header.Format.TheVariants as formats
use Rattle.page_tags.specs.declared.header.ObjectKind.TheVariants as kinds
use Rattle.directories.specs.Heads.{fields_in}
use Rattle.directories.specs.declared.head.DirectoryHead.{DirectoryHead}

-- no bit of zeros is set
none_present : (n c : ℕ) → 1 ≤ c → is_present (replicate n 0) c ≡ false
none_present n c some = absent_past (replicate n 0) 0 (ap (λ x. x / 2 ^ (0 % 8)) (zero_at n 0)) (λ j later. zero_at n j) c some

-- the fields with these bits and this length are those of the head
pub fields_are : (d : ℕ) (head : DirectoryHead) (n : ℕ) (bits : List ℕ) → n ≡ head.length → bits ≡ replicate (d - 32) 0
    → record { format = formats.Two; kind = kinds.Directory; spare = head.spare; length = n; moment = head.moment; bits = bits } ≡ fields_in d head
fields_are d head n bits len none = λ i. record { format = formats.Two; kind = kinds.Directory; spare = head.spare; length = len i; moment = head.moment; bits = none i }

pub head_valid : (d : ℕ) (head : DirectoryHead) → 32 ≤ d → head.spare < 2 ^ 16 → head.length < 2 ^ 32 → head.moment < 2 ^ 64 → IsHeader d (fields_in d head)
head_valid d head least spare len moment = record {
  spare = spare;
  length_fits = omega (arith, len);
  moment = moment;
  no_moment = λ is. absurd cc;
  room = length-replicate (d - 32) 0;
  bytes = λ i. omega (arith, zero_at (d - 32) i);
  within = λ c some set. let two : true ≡ false = sym set ∙ none_present (d - 32) c some in absurd cc;
}
