use Rattle.std.proofs.Common.{◌∙◌, Some, sym, ap, subst}
use Rattle.page_tags.specs.Headers.{IsHeader}
use Rattle.directories.proofs.head.read_head.Goals as goal

pub returns-in-Some-clause-reported : goal.returns-in-Some-clause-reported
returns-in-Some-clause-reported g c = λ sound.
    let there = c.in_ok-load.ensures.page sound in
    let reported = rw c.in-Some.is at c.decode_head.ensures.reported in (
      record {
        fields = reported.0;
        has = there ∙ ap Some (sym c.page.ensures.bytes ∙ reported.1.encodes);
        valid = subst (λ n. IsHeader n reported.0) (c.page.ensures.size ∙ c.load.ensures.lookups.page_bytes) reported.1.valid;
        kind = reported.2;
      },
      reported.3,
    )
