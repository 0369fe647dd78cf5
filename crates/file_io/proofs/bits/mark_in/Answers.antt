use Rattle.std.proofs.Common.{◌≡◌, ◌-◌, ◌+◌, ◌∙◌, ℕ, List, ap, length, rules}
use Rattle.std.proofs.lemmas.List.{take_rest}
use Rattle.page_tags.specs.Headers.{is_present}
use Rattle.file_io.proofs.HeadBits.{bits_written}
use Rattle.file_io.proofs.bits.mark_in.Goals as goal

pub returns-clause-here : goal.returns-clause-here
returns-clause-here c = λ k low high.
    let page : List ℕ = c.args.page.now in
    let room : length c.mark.new.bits ≡ length page - 32 = search rules in
    ap (λ (xs : List ℕ). is_present xs (1 + k)) (bits_written page c.mark.new.bits c.requires.least room) ∙ c.mark.ensures.here k low high

pub returns-clause-others : goal.returns-clause-others
returns-clause-others c = λ k outside.
    let page : List ℕ = c.args.page.now in
    let room : length c.mark.new.bits ≡ length page - 32 = search rules in
    ap (λ (xs : List ℕ). is_present xs (1 + k)) (bits_written page c.mark.new.bits c.requires.least room) ∙ c.mark.ensures.others k outside
    ∙ ap (λ (xs : List ℕ). is_present xs (1 + k)) (take_rest page 32)
