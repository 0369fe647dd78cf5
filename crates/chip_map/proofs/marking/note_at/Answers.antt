use Rattle.std.proofs.Common.{◌≡◌, Some, sym, ◌∙◌, subst, get_or, slice_get}
use Rattle.std.proofs.lemmas.Bool.{false≢true}
use Rattle.std.proofs.lemmas.Option.{slice_get-get_or}
use Rattle.flash_tree.specs.declared.place.Found.{Found}
use Rattle.chip_map.specs.declared.page_state.PageState.TheVariants as states
use Rattle.chip_map.specs.Valid.{IsNotedState}
use Rattle.chip_map.proofs.Noted.{noted_more, holds_at, lies_current, newest_lies}
use Rattle.chip_map.proofs.marking.note_at.Goals as goal
use Rattle.chip_map.proofs.marking.note_at.Goals.{then-is_newest, else-is_newest}

pub returns : goal.returns
returns c = λ flash valid each notes.
    let f : Found = get_or c.args.valid.now c.args.i (record { block = 0; page = 0; tag = record { index = 0; count = 0; object = 0; chunk = 0; version = 0; group = 0; seq = 0 } }) in
    let at : slice_get c.args.valid.now c.args.i ≡ Some f = slice_get-get_or c.args.valid.now c.args.i _ c.requires.i in
    let within = c.requires.within c.args.i f at in
    let is = c.is_newest.ensures f at in
    elim c.if-is_newest.branch [
      | then-is_newest w ↦
          noted_more flash c.args.valid.now valid c.args.block_pages c.args.i f c.if-is_newest.state c.args.pages.now at within.0 within.1
          (subst (IsNotedState flash f.block f.page) (sym w.state-is) (lies_current flash c.args.newest.now each f (is.0 w.if-is_newest.true)))
          (λ same. let two : states.Current ≡ states.Invalid = sym w.state-is ∙ same in cc) notes
      | else-is_newest w ↦
          noted_more flash c.args.valid.now valid c.args.block_pages c.args.i f c.if-is_newest.state c.args.pages.now at within.0 within.1
          (subst (IsNotedState flash f.block f.page) (sym w.state-is) (record {
            tag = f.tag;
            holds = holds_at flash c.args.valid.now valid c.args.i f at;
            older = λ newest. false≢true (sym w.if-is_newest.false ∙ is.1 (newest_lies flash c.args.newest.now each f newest));
          }))
          (λ same. let two : states.Stale ≡ states.Invalid = sym w.state-is ∙ same in cc) notes
    ]
