use Rattle.page_tags.specs.laws.Header.{header_or_fault, header_or_first_fault, one_first_fault, one_header}
use Rattle.page_tags.proofs.law.each_page_is_a_header_or_has_a_fault.Goals as goal

pub returns : goal.returns
returns c = record {
  one_of_them = λ page least most bytes. header_or_first_fault page least bytes;
  not_both = λ page most f fault. header_or_fault page f fault most;
  one_header = λ page most f g. one_header page f g most;
  one_first = one_first_fault;
}
