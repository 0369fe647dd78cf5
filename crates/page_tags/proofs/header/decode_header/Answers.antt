use Rattle.std.proofs.Common.{◌≢◌, ◌<◌, ◌≤◌, ℕ, length, get_or, Err, ap, inl, inr, refl, arith}
use Rattle.std.proofs.lemmas.Bool.{iff_false}
use Rattle.std.proofs.lemmas.List.{take_rest}
use Rattle.page_tags.specs.declared.header.Format.TheVariants as formats
use Rattle.page_tags.specs.declared.header.ObjectKind.TheVariants as kinds
use Rattle.page_tags.specs.declared.header.HeaderFault.TheVariants as faults
use Rattle.page_tags.specs.Headers.{IsFirstFault, greatest_recorded, length_in}
use Rattle.page_tags.specs.HeaderParts.{HasFormat}
use Rattle.page_tags.specs.laws.Header.{header_or_fault, kind_first, length_first, magic_first, newer_first, one_first_fault, one_header, pad_first, sound_from_no_pad_fault}
use Rattle.page_tags.proofs.HeaderTests.{header_from_reads, magical, no_header, not_magical}
use Rattle.page_tags.proofs.Ranges.{IsBytes-from_fits}
use Rattle.page_tags.proofs.header.decode_header.Goals as goal
use Rattle.page_tags.proofs.header.decode_header.Goals.{then-not-starts_with-via-then-not-starts_with, then-not-starts_with-via-else-not-starts_with+then-number-eq0}

pub returns-then-not-starts_with : goal.returns-then-not-starts_with
returns-then-not-starts_with c =
    let page = c.args.page.now in
    let first : IsFirstFault page faults.Magic = elim c.then-not-starts_with.branch [
      | then-not-starts_with-via-then-not-starts_with w ↦ magic_first page (inl (not_magical page c.starts_with.result c.starts_with.ensures.value w.if-not-starts_with.true))
      | then-not-starts_with-via-else-not-starts_with+then-number-eq0 w ↦ magic_first page (inr w.if-number-eq0.true)
    ] in
    record { found = tt; read = no_header page faults.Magic c.requires.most first; fault = first; fault_only = λ f other. ap Err (one_first_fault page faults.Magic f first other) }

pub returns-in_default : goal.returns-in_default
returns-in_default c =
    let page = c.args.page.now in
    let number : ℕ = get_or page 4 0 in
    let not_one : number ≢ 1 = c.in_default.ensures formats.One in
    let not_two : number ≢ 2 = c.in_default.ensures formats.Two in
    let some : number ≢ 0 = c.if-number-eq0.false in
    let newer : 2 < number = omega arith in
    let first = newer_first page number (magical page c.starts_with.result c.starts_with.ensures.value c.if-not-starts_with.false) (refl, newer) in
    record { found = tt; read = no_header page (faults.Newer number) c.requires.most first; fault = first; fault_only = λ f other. ap Err (one_first_fault page (faults.Newer number) f first other) }

pub returns-in_default-numbered : goal.returns-in_default-numbered
returns-in_default-numbered c =
    let page = c.args.page.now in
    let begins : HasFormat page c.in-Some.format = record {
      magic_first = magical page c.starts_with.result c.starts_with.ensures.value c.if-not-starts_with.false;
      format_next = c.in-Some.ensures;
    } in
    let first = kind_first page c.in-Some.format begins (c.in_default-numbered.ensures kinds.File, c.in_default-numbered.ensures kinds.Directory) in
    record { found = tt; read = no_header page faults.Kind c.requires.most first; fault = first; fault_only = λ f other. ap Err (one_first_fault page faults.Kind f first other) }

pub returns-then-length-greatest_length : goal.returns-then-length-greatest_length
returns-then-length-greatest_length c =
    let page = c.args.page.now in
    let begins : HasFormat page c.in-Some.format = record {
      magic_first = magical page c.starts_with.result c.starts_with.ensures.value c.if-not-starts_with.false;
      format_next = c.in-Some.ensures;
    } in
    let long : greatest_recorded (length page) c.in-Some-numbered.kind < length_in page = omega (arith, c.greatest_length.ensures, c.u64_at-length.ensures) in
    let first = length_first page c.in-Some.format c.in-Some-numbered.kind begins c.in-Some-numbered.ensures (c.in-Some-numbered.kind, c.in-Some-numbered.ensures, long) in
    record { found = tt; read = no_header page faults.Length c.requires.most first; fault = first; fault_only = λ f other. ap Err (one_first_fault page faults.Length f first other) }

pub returns-then-has_wrong_pad : goal.returns-then-has_wrong_pad
returns-then-has_wrong_pad c =
    let page = c.args.page.now in
    let begins : HasFormat page c.in-Some.format = record {
      magic_first = magical page c.starts_with.result c.starts_with.ensures.value c.if-not-starts_with.false;
      format_next = c.in-Some.ensures;
    } in
    let fits : length_in page ≤ greatest_recorded (length page) c.in-Some-numbered.kind = omega (arith, c.greatest_length.ensures, c.u64_at-length.ensures) in
    let first = pad_first page c.in-Some.format c.in-Some-numbered.kind begins c.in-Some-numbered.ensures fits (c.has_wrong_pad.ensures.0 c.if-has_wrong_pad.true) in
    record { found = tt; read = no_header page faults.Pad c.requires.most first; fault = first; fault_only = λ f other. ap Err (one_first_fault page faults.Pad f first other) }

pub returns : goal.returns
returns c =
    let page = c.args.page.now in
    let begins : HasFormat page c.in-Some.format = record {
      magic_first = magical page c.starts_with.result c.starts_with.ensures.value c.if-not-starts_with.false;
      format_next = c.in-Some.ensures;
    } in
    let fits : length_in page ≤ greatest_recorded (length page) c.in-Some-numbered.kind = omega (arith, c.greatest_length.ensures, c.u64_at-length.ensures) in
    let sound = sound_from_no_pad_fault page c.in-Some.format c.in-Some-numbered.kind begins c.in-Some-numbered.ensures fits (iff_false c.has_wrong_pad.ensures c.if-has_wrong_pad.false) in
    let header = header_from_reads page c.in-Some.format c.in-Some-numbered.kind c.requires.least (IsBytes-from_fits page c.type_inv.page) sound
    _ refl refl c.u16_at-spare.ensures c.u64_at-length.ensures c.u64_at-moment.ensures (take_rest page 32) in
    record {
      found = header;
      read = λ f other. one_header page _ f c.requires.most header other;
      fault = tt;
      fault_only = λ f first. absurd (header_or_fault page _ f c.requires.most header first.here);
    }
