use Rattle.std.proofs.Common.{◌≡◌, ◌<◌, ◌≤◌, ◌/◌, ◌∙◌, Some, slice_get, length, arith, refl, sym, ap, subst, inl, inr}
use Rattle.std.proofs.lemmas.Bool.{cases_eq}
use Rattle.std.proofs.lemmas.Option.{slice_get_read, slice_get_within}
use Rattle.flash_tree.specs.declared.place.FreshPage.{FreshPage}
use Rattle.directories.specs.Hashing.{HoldsPage, SaysNoDirectory, kept_count}
use Rattle.directories.proofs.Hashed.{more_on, page_more}
use Rattle.directories.proofs.naming.hash_pages.Goals as goal

pub returns-in_err-hash_one-clause-committed : goal.returns-in_err-hash_one-clause-committed
returns-in_err-hash_one-clause-committed c = more_on c.args.names.now c.loop-page.names c.hash_one.new.names c.loop-page.invariant.committed c.hash_one.ensures.committed

pub loop-page-preserved : goal.loop-page-preserved
loop-page-preserved c =
    let within : c.loop-page.page-index < length c.args.pages.now = omega arith in
    let here : slice_get c.args.pages.now c.loop-page.page-index ≡ Some c.page-item.result =
    slice_get_read c.args.pages.now (length c.args.pages.now) c.loop-page.page-index c.page-item.result refl within c.page-item.is in
    record {
      committed = more_on c.args.names.now c.loop-page.names c.hash_one.new.names c.loop-page.invariant.committed c.hash_one.ensures.committed;
      done = λ i p less at some directory. elim (cases_eq i c.loop-page.page-index) [
        | inr other ↦ page_more c.loop-page.names c.hash_one.new.names (c.args.page_bytes / 272) (kept_count c.args.kept p.key.object) p c.hash_one.ensures.committed (c.loop-page.invariant.done i p (omega (arith, less, other)) at some directory)
        | inl same ↦
            let both : Some p ≡ Some c.page-item.result = sym at ∙ ap (slice_get c.args.pages.now) same ∙ here in
            let one : p ≡ c.page-item.result = cc in
            subst (λ (q : FreshPage). HoldsPage c.hash_one.new.names (c.args.page_bytes / 272) (kept_count c.args.kept q.key.object) q) (sym one)
            (c.in_ok-hash_one.ensures.all (subst (λ (q : FreshPage). 1 ≤ q.key.chunk) one some) (λ says. directory (subst (λ (q : FreshPage). SaysNoDirectory c.args.pages.now q.key.object) (sym one) says)))
      ];
    }

pub returns-clause-all : goal.returns-clause-all
returns-clause-all c = λ i p at.
    let within : i < length c.args.pages.now = slice_get_within c.args.pages.now i p at in
    c.loop-page.invariant.done i p (omega (arith, within, c.loop-page-test.false)) at
