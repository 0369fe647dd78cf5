use Rattle.std.proofs.Common.{◌∙◌, refl}
use Rattle.chunk_index.specs.Adding.{keys_of}
use Rattle.chunk_index.proofs.Adding.{committed_list, committed_shown}
use Rattle.chunk_index.proofs.index.Index.from_committed.Goals as goal

pub returns-clause-list : goal.returns-clause-list
returns-clause-list c =
    committed_list (keys_of c.args.pages) _ _ c.add_some.new.self refl
    (λ o k. c.in_ok-reserve_every_other.ensures.looks o k ∙ c.bare-index.ensures.looks o k) c.in_ok-add_some.ensures.adds c.requires.rise

pub returns-clause-shown : goal.returns-clause-shown
returns-clause-shown c =
    committed_shown (keys_of c.args.pages) _ _ c.add_some.new.self refl
    (λ o k. c.in_ok-reserve_every_other.ensures.looks o k ∙ c.bare-index.ensures.looks o k) c.in_ok-add_some.ensures.adds
