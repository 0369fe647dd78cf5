use Rattle.std.proofs.Common.{sym, ap, ◌∙◌, subst}
use Rattle.std.proofs.lemmas.Bool.{false≢true}
use Rattle.page_tags.specs.Tags.{tag_bytes, IsTag}
use Rattle.page_tags.specs.laws.Tag.{tag_bytes-tag_in, not_a_tag}
use Rattle.page_tags.proofs.tag.Tag.decode.Goals as goal

pub returns-then-is_valid-clause-found : goal.returns-then-is_valid-clause-found
returns-then-is_valid-clause-found c =
    (c.is_valid.ensures.0 c.if-is_valid.true, sym (tag_bytes-tag_in c.args.bytes.now c.told-bytes c.fits-bytes) ∙ ap tag_bytes (sym c.read-tag.ensures))

pub returns-else-is_valid-clause-none : goal.returns-else-is_valid-clause-none
returns-else-is_valid-clause-none c =
    not_a_tag c.args.bytes.now (λ valid _. false≢true (sym c.if-is_valid.false ∙ c.is_valid.ensures.1 (subst IsTag (sym c.read-tag.ensures) valid)))
