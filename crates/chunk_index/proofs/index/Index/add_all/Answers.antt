use Rattle.std.proofs.Common.{◌≡◌, ◌∙◌, refl, sym, ap, subst, arith}
use Rattle.nand_model.specs.declared.geometry.Geometry.{Geometry}
use Rattle.mount_scan.specs.Listed.{listed}
use Rattle.mount_scan.specs.laws.Listed.{before, before_all, bucket_part, part_end}
use Rattle.chunk_index.specs.Newest.{LieInPages, LieWithin}
use Rattle.chunk_index.specs.Found.{HasPages}
use Rattle.chunk_index.proofs.Counting.{recounts_here, recounts_on}
use Rattle.chunk_index.proofs.Founding.{part_once, part_in_pages, part_low, part_within, part_absent, part_more, pages_none}
use Rattle.chunk_index.proofs.index.Index.add_all.Goals as goal

pub loop-at-init : goal.loop-at-init
loop-at-init c = record {
  has = pages_none _ _ c.requires.empty;
  left = λ k le. refl;
  agree = c.requires.agree;
  counts = recounts_here (λ b. refl);
}

pub add_some-requires : goal.add_some-requires
add_some-requires c =
    let at = bucket_part c.args.newest c.loop-at.at _ (omega (arith, c.loop-at-test.true)) (c.pages.ensures ∙ c.take-bucket.ensures.taken ∙ c.loop-at.invariant.left c.loop-at.at (omega arith)) in
    record {
      may = record {
        once = part_once _ _ _ at c.requires.once;
        within = part_within _ _ _ at _ (subst (λ (g : Geometry). LieWithin g.blocks (listed c.args.newest)) (sym c.loop-at.invariant.counts.geometry) c.requires.within);
        pages = part_in_pages _ _ _ at _ (subst (λ (g : Geometry). LieInPages g.pages (listed c.args.newest)) (sym c.loop-at.invariant.counts.geometry) c.requires.pages);
        low = part_low _ _ _ at c.requires.low;
      };
      absent = part_absent _ _ _ at _ c.requires.once c.loop-at.invariant.has;
      agree = c.loop-at.invariant.agree;
    }

pub loop-at-preserved : goal.loop-at-preserved
loop-at-preserved c =
    let part = c.pages.ensures ∙ c.take-bucket.ensures.taken ∙ c.loop-at.invariant.left c.loop-at.at (omega arith) in
    let at = bucket_part c.args.newest c.loop-at.at _ (omega (arith, c.loop-at-test.true)) part in
    record {
      has = subst (λ n. HasPages (listed c.args.newest) n c.add_some.new.self.shelf.objects) (part_end c.args.newest c.loop-at.at _ (omega (arith, c.loop-at-test.true)) part)
          (part_more _ _ _ at _ c.requires.once c.loop-at.invariant.has c.add_some.new.self.shelf.objects c.in_ok-add_some.ensures.adds);
      left = λ k le. c.take-bucket.ensures.others k (λ same. absurd (omega (arith, le, same))) ∙ c.loop-at.invariant.left k (omega (arith, le));
      agree = c.in_ok-add_some.ensures.agree;
      counts = recounts_on c.loop-at.invariant.counts c.in_ok-add_some.ensures.counts;
    }

pub returns-clause-has : goal.returns-clause-has
returns-clause-has c =
    let end : c.loop-at.at ≡ 64 = omega (arith, c.loop-at-test.false, c.loop-at.auto.at-end) in
    subst (λ n. HasPages (listed c.args.newest) n c.loop-at.self.shelf.objects) (ap (before c.args.newest) end ∙ before_all c.args.newest) c.loop-at.invariant.has
