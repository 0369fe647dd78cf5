use Rattle.std.proofs.Common.{◌≡◌, ◌-◌, length, take, drop, sym, ap, ◌∙◌, subst}
use Rattle.std.proofs.lemmas.Bool.{eq-eqb, eqb-true, not-false, not_from_true, not_from_false, true_from_ne_false, false≢true}
use Rattle.std.proofs.lemmas.List.{take_rest}
use Rattle.page_tags.specs.Headers.{length_in}
use Rattle.page_tags.specs.HeaderParts.{HasPast, last_chunk}
use Rattle.page_tags.proofs.HeaderTests.{pad_by_moment, pad_by_number, pad_by_past, no_pad_fault}
use Rattle.page_tags.proofs.Ranges.{IsBytes-from_fits}
use Rattle.page_tags.proofs.header.has_wrong_pad.Goals as goal
use Rattle.page_tags.proofs.header.has_wrong_pad.Goals.{then-not-allows, else-not-allows}

pub returns-then-u64_at-ne0 : goal.returns-then-u64_at-ne0
returns-then-u64_at-ne0 c =
    let page = c.args.page.now in (
      λ said. elim c.if-not-allows.branch [
        | then-not-allows w ↦
            pad_by_moment page c.args.format c.args.kind c.requires.format c.requires.kind
            (λ allowed. false≢true (sym w.if-not-allows.true ∙ c.allows.ensures.1 (λ one. c.u64_at-2.ensures ∙ allowed one)))
        | else-not-allows w ↦
            pad_by_number page c.args.format c.args.kind c.requires.format c.requires.kind
            (λ zero. false≢true (sym (not_from_true _ (eq-eqb w.u64_at-else-not-allows.result 0 (w.u64_at-else-not-allows.ensures ∙ zero))) ∙ sym w.value-is ∙ said))
      ],
      λ fault. c.if-u64_at-ne0.true,
    )

pub returns-else-u64_at-ne0 : goal.returns-else-u64_at-ne0
returns-else-u64_at-ne0 c =
    let page = c.args.page.now in
    let bits = take (length page - 32) (drop 32 page) in
    let last : c.last_chunk-last.result ≡ last_chunk (length page) c.args.kind (length_in page) =
    c.last_chunk-last.ensures ∙ ap (last_chunk (length page) c.args.kind) c.u64_at.ensures in (
      λ said. pad_by_past page c.args.format c.args.kind c.requires.format c.requires.kind bits (take_rest page 32) (subst (HasPast bits) last (c.has_chunk_past.ensures.0 said)),
      λ fault. true_from_ne_false c.has_chunk_past.result (λ none.
          let none_past = λ (past : HasPast bits (last_chunk (length page) c.args.kind (length_in page))).
          false≢true (sym none ∙ c.has_chunk_past.ensures.1 (subst (HasPast bits) (sym last) past)) in
          elim c.if-not-allows.branch [
            | then-not-allows w ↦ false≢true (sym c.if-u64_at-ne0.false ∙ w.value-is ∙ not_from_false _ w.if-not-allows.true)
            | else-not-allows w ↦
                no_pad_fault page c.args.format c.args.kind c.requires.format c.requires.kind c.requires.least (IsBytes-from_fits page c.type_inv.page)
                (λ one. sym c.u64_at-2.ensures ∙ c.allows.ensures.0 w.if-not-allows.false one)
                (sym w.u64_at-else-not-allows.ensures ∙ eqb-true w.u64_at-else-not-allows.result 0 (not-false _ (sym w.value-is ∙ c.if-u64_at-ne0.false)))
                bits (take_rest page 32) none_past fault
          ]),
    )
