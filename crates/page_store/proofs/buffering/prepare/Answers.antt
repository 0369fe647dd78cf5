use Rattle.std.proofs.Common.{◌≡◌, ◌<◌, ◌∙◌, Some, slice_get, length, refl, sym, ap, subst, arith, inl, inr}
use Rattle.std.proofs.lemmas.Bool.{cases_eq}
use Rattle.std.proofs.lemmas.Option.{slice_get_within, slice_get_read}
use Rattle.flash_tree.specs.declared.place.FreshPage.{FreshPage}
use Rattle.chunk_index.specs.Maps.{IsReadyKey}
use Rattle.page_store.proofs.Keys.{object_is, chunk_is}
use Rattle.page_store.proofs.Preparing.{committed_on}
use Rattle.page_store.proofs.buffering.prepare.Goals as goal

pub prepare-requires : goal.prepare-requires
prepare-requires c =
    let p : FreshPage = c.page-item.result in
    let at : slice_get c.args.pages.now c.loop-page.page-index ≡ Some p = slice_get_read c.args.pages.now (length c.args.pages.now) c.loop-page.page-index p refl c.loop-page-test.true c.page-item.is in
    (c.requires c.loop-page.page-index p at).low

pub returns-in_err-prepare-clause-committed : goal.returns-in_err-prepare-clause-committed
returns-in_err-prepare-clause-committed c = committed_on _ _ _ c.loop-page.invariant.committed c.prepare.ensures.committed

pub loop-page-preserved : goal.loop-page-preserved
loop-page-preserved c =
    let p : FreshPage = c.page-item.result in
    let at : slice_get c.args.pages.now c.loop-page.page-index ≡ Some p = slice_get_read c.args.pages.now (length c.args.pages.now) c.loop-page.page-index p refl c.loop-page-test.true c.page-item.is in
    record {
      committed = committed_on _ _ _ c.loop-page.invariant.committed c.prepare.ensures.committed;
      present = λ o k. c.prepare.ensures.present o k ∙ c.loop-page.invariant.present o k;
      has_room = λ o k i lt of. elim (cases_eq i c.loop-page.page-index) [
        | inr ne ↦ c.prepare.ensures.stays o k (c.loop-page.invariant.has_room o k i (omega (arith, lt, ne)) of)
        | inl e ↦
            let there : slice_get c.args.pages.now i ≡ Some p = ap (slice_get c.args.pages.now) e ∙ at in
            subst (λ n. IsReadyKey c.prepare.new.self n k) (sym (object_is c.args.pages.now o k i p there of))
            (subst (λ n. IsReadyKey c.prepare.new.self p.key.object n) (sym (chunk_is c.args.pages.now o k i p there of)) c.in_ok-prepare.ensures.has_room)
      ];
      stays = λ o k is. c.prepare.ensures.stays o k (c.loop-page.invariant.stays o k is);
      prepared = λ o k is. c.prepare.ensures.prepared o k (c.loop-page.invariant.prepared o k is);
    }

pub returns-clause-has_room : goal.returns-clause-has_room
returns-clause-has_room c = λ o k i of.
    let within : i < length c.args.pages.now = slice_get_within c.args.pages.now i of.page of.there in
    c.loop-page.invariant.has_room o k i (omega (arith, within, c.loop-page-test.false)) of
