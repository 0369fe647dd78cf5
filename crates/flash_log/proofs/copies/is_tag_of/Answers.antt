use Rattle.std.proofs.Common.{◌≡◌, ◌↔◌, ℕ, List, sym, ◌∙◌, ap}
use Rattle.page_tags.specs.Tags.{IsTag, tag_bytes}
use Rattle.page_tags.specs.laws.Tag.{same_tag}
use Rattle.page_tags.specs.declared.tag.Tag.{Tag}
use Rattle.flash_log.specs.CopySource.{IsTagOf}
use Rattle.transactions.specs.Sources.{name_of}
use Rattle.transactions.specs.declared.source.PageName.{PageName}
use Rattle.flash_log.proofs.copies.is_tag_of.Goals as goal

-- bytes have one tag, and so one name
named_by : (name : PageName) (bytes : List ℕ) (t : Tag) → IsTag t → bytes ≡ tag_bytes t → (name_of t ≡ name) ↔ IsTagOf name bytes
named_by name bytes t valid is = (
  λ named. record { tag = t; is = is; valid = valid; named = named },
  λ of. let same : t ≡ of.tag = same_tag t of.tag valid of.valid (sym is ∙ of.is) in ap name_of same ∙ of.named,
)

pub returns-in-Some : goal.returns-in-Some
returns-in-Some c =
    let found = c.in-Some.ensures.found in
    let named = named_by c.args.name c.args.tag.now c.in-Some.tag found.0 found.1 in
    (λ is. named.0 (c.is_of.ensures.0 is), λ of. c.is_of.ensures.1 (named.1 of))
