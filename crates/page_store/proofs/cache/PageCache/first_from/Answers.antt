use Rattle.std.proofs.Common.{◌≡◌, ◌<◌, sym, ◌∙◌, ap, subst, Contains}
use Rattle.std.proofs.lemmas.Bool.{cond-false}
use Rattle.std.specs.Map.{lookup}
use Rattle.lru.proofs.Splits.{Contains-tail}
use Rattle.page_store.specs.Slots.{is_key}
use Rattle.page_store.proofs.CachedPages.{passed_over}
use Rattle.page_store.proofs.cache.PageCache.first_from.Goals.{else-at-object-via-then-at-object+else-at-chunk, else-at-object-via-else-at-object}
use Rattle.page_store.proofs.cache.PageCache.first_from.Goals as goal

pub loop-at-preserved : goal.loop-at-preserved
loop-at-preserved c =
    let below : c.in-Some.at.now.0 ≡ c.args.object → c.in-Some.at.now.1 < c.args.chunk = elim c.else-at-object.branch [
      | else-at-object-via-then-at-object+else-at-chunk w ↦ λ is. w.if-at-chunk.false
      | else-at-object-via-else-at-object w ↦ λ is. absurd (w.if-at-object.false is)
    ] in
    record {
      rest = λ q le.
          c.loop-at.invariant.rest q le ∙ ap (lookup (is_key c.args.object q)) c.in-Some.ensures.steps
          ∙ cond-false _ _ _ (passed_over c.args.object c.args.chunk q c.in-Some.at.now below le);
      among = λ e in'. c.loop-at.invariant.among e (subst (λ l. Contains l e) (sym c.in-Some.ensures.steps) (Contains-tail _ c.next.new.self e in'));
    }
