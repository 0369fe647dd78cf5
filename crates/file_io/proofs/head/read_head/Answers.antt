use Rattle.std.proofs.Common.{◌≡◌, ◌∙◌, List, ℕ, Some, refl, ap, sym, subst, length, drop, rules}
use Rattle.page_tags.specs.HeaderFields.{fields_of, file_fields}
use Rattle.page_tags.specs.Headers.{Fields, IsHeader, IsHeaderOf, header_bytes}
use Rattle.pages.specs.State.{PagesState}
use Rattle.page_tags.specs.laws.Header.{bits_at}
use Rattle.file_io.proofs.HeadBits.{in_format_2}
use Rattle.file_io.proofs.head.read_head.Goals as goal

pub returns-clause-head : goal.returns-clause-head
returns-clause-head g c = λ z moment all f.
    let old : PagesState = g.P.Pages.state c.args.pages.now in
    let page : List ℕ = c.page.result.now in
    let size : length page ≡ old.page_bytes = c.page.ensures.size ∙ c.load.ensures.lookups.page_bytes in
    let two : Some page ≡ Some (header_bytes f.reads.fields) = sym (c.in_ok-load.ensures.page f.sound ∙ ap Some (sym c.page.ensures.bytes)) ∙ f.reads.has.0 in
    let same : page ≡ header_bytes f.reads.fields = cc in
    let is : IsHeaderOf page f.reads.fields = record { valid = subst (λ n. IsHeader n f.reads.fields) (f.size ∙ sym size) f.reads.has.1; encodes = same } in
    let said : fields_of c.in_ok-header.header ≡ f.reads.fields = c.in_ok-header.ensures.read f.reads.fields is f.reads.kind in
    let copied : c.in_ok-copied_page.field-0.items ≡ page = search rules in
    record {
      length_is = ap (λ (x : Fields). x.length) said;
      moment = ap (λ (x : Fields). x.moment) said;
      bits = ap (drop 32) (copied ∙ same) ∙ bits_at f.reads.fields;
    }

pub returns-clause-valid : goal.returns-clause-valid
returns-clause-valid g c =
    let old : PagesState = g.P.Pages.state c.args.pages.now in
    let f : Fields = fields_of c.in_ok-header.header in
    let page : List ℕ = c.page.result.now in
    let found = c.in_ok-header.ensures.found in
    let size : length page ≡ old.page_bytes = c.page.ensures.size ∙ c.load.ensures.lookups.page_bytes in
    let copied : c.in_ok-copied_page.field-0.items ≡ page = search rules in
    let bits : drop 32 c.in_ok-copied_page.field-0.items ≡ f.bits = ap (drop 32) (copied ∙ found.encodes) ∙ bits_at f in
    subst (λ (xs : List ℕ). IsHeader old.page_bytes (file_fields f.length f.moment xs)) (sym bits)
    (in_format_2 old.page_bytes f (subst (λ n. IsHeader n f) size found.valid) c.in_ok-header.ensures.kind)

pub returns-clause-reported : goal.returns-clause-reported
returns-clause-reported g c = λ sound.
    let old : PagesState = g.P.Pages.state c.args.pages.now in
    let f : Fields = fields_of c.in_ok-header.header in
    let page : List ℕ = c.page.result.now in
    let found = c.in_ok-header.ensures.found in
    let size : length page ≡ old.page_bytes = c.page.ensures.size ∙ c.load.ensures.lookups.page_bytes in
    let copied : c.in_ok-copied_page.field-0.items ≡ page = search rules in
    let bits : drop 32 c.in_ok-copied_page.field-0.items ≡ f.bits = ap (drop 32) (copied ∙ found.encodes) ∙ bits_at f in (
      record {
        fields = f;
        there = c.in_ok-load.ensures.page sound ∙ ap Some (sym c.page.ensures.bytes ∙ found.encodes);
        valid = subst (λ n. IsHeader n f) size found.valid;
        kind = c.in_ok-header.ensures.kind;
      },
      record { length_is = refl; moment = refl; bits = bits },
    )
