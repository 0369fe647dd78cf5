use Rattle.std.proofs.Common.{◌≡◌, ◌∙◌, arith}
use Rattle.page_store.specs.BufferOf.{contents}
use Rattle.page_store.specs.Buffering.{with_new}
use Rattle.page_store.proofs.Keys.{holding, buffers}
use Rattle.page_store.proofs.Preparing.{committed_on}
use Rattle.page_store.proofs.BufferCutting.{cut_buffers, cut_gone, cut_others, cut_room}
use Rattle.page_store.proofs.buffer.Buffer.cut.Goals as goal

pub returns-clause-buffers : goal.returns-clause-buffers
returns-clause-buffers c = buffers _ _ (cut_buffers c.args.cut c.drop_cut.new.index c.cut.new.self (contents c.drop_cut.new.self) (holding _ _ c.drop_cut.ensures.buffers) c.drop_cut.ensures.drops.gone c.cut.ensures.cuts)

pub returns-clause-committed : goal.returns-clause-committed
returns-clause-committed c = committed_on _ _ _ c.drop_cut.ensures.committed c.cut.ensures.committed

pub returns-clause-cuts : goal.returns-clause-cuts
returns-clause-cuts c = record {
  gone = cut_gone c.args.cut c.drop_cut.new.index c.cut.new.self (contents c.drop_cut.new.self) (holding _ _ c.drop_cut.ensures.buffers) c.drop_cut.ensures.drops.gone c.cut.ensures.cuts;
  others = λ flash o k none. cut_others c.args.cut c.drop_cut.new.index c.cut.new.self (contents c.drop_cut.new.self) (holding _ _ c.drop_cut.ensures.buffers) c.drop_cut.ensures.drops.gone c.cut.ensures.cuts flash o k none
      ∙ c.drop_cut.ensures.drops.others flash o k none;
}

pub returns-clause-room : goal.returns-clause-room
returns-clause-room c = λ ps apart.
    let same : with_new c.cut.new.self (contents c.drop_cut.new.self) ps ≡ with_new c.drop_cut.new.index (contents c.drop_cut.new.self) ps =
    cut_room c.args.cut c.drop_cut.new.index c.cut.new.self (contents c.drop_cut.new.self) (holding _ _ c.drop_cut.ensures.buffers) c.drop_cut.ensures.drops.gone c.cut.ensures.cuts ps in
    omega (arith, same, c.drop_cut.ensures.room ps apart)
