use Rattle.std.proofs.Common.{◌≡◌, ◌<◌, ◌+◌, ℕ, IsSome, length, refl, sym, subst, ◌∙◌, rules, arith}
use Rattle.std.proofs.lemmas.Option.{slice_get-get_or}
use Rattle.nand_model.specs.declared.geometry.Geometry.{Geometry}
use Rattle.block_state.specs.TableOf.{table}
use Rattle.chunk_index.specs.declared.form.CommittedKey.{CommittedKey}
use Rattle.flash_log.specs.Reporting.{Reports}
use Rattle.flash_log.proofs.Reported.{reports_none, committed_yet, reports_more}
use Rattle.flash_log.proofs.reporting.report_copies.Goals as goal

-- what lies behind the last copy
abbrev no_copy : CommittedKey
no_copy = record { key = record { object = 0; chunk = 0 }; at = record { block = 0; page = 0; version = 0 } }

pub loop-i-init : goal.loop-i-init
loop-i-init c = record {
  agree = c.requires.agree;
  geometry = refl;
  reports = λ v lists apart. reports_none v c.args.place c.args.copies.now c.args.index.now (table c.args.blocks.now);
}

pub copied-requires-clause-committed : goal.copied-requires-clause-committed
copied-requires-clause-committed c =
    let listed = c.requires.listed in
    let at = slice_get-get_or c.args.copies.now c.loop-i.i no_copy c.loop-i-test.true in
    subst (λ o. IsSome o) (sym (committed_yet listed.0 c.loop-i.i c.args.place c.args.copies.now c.args.index.now c.loop-i.index c.loop-i.index (table c.args.blocks.now) (table c.loop-i.blocks) (table c.loop-i.blocks)
    listed.1 listed.2 (c.loop-i.invariant.reports listed.0 listed.1 listed.2) _ at)) refl

pub copied-requires-clause-block : goal.copied-requires-clause-block
copied-requires-clause-block c = subst (λ (geometry : Geometry). c.args.place.block < geometry.blocks) (sym c.loop-i.invariant.geometry) c.requires.within

pub overflow_cast-at : goal.overflow_cast-at
overflow_cast-at c = omega (arith, c.loop-i-test.true, c.requires.within_limit, (table c.args.blocks.now).geometry.most_pages)

pub overflow_add-at : goal.overflow_add-at
overflow_add-at c = omega (arith, c.loop-i-test.true, c.requires.within_limit, (table c.args.blocks.now).geometry.most_pages)

pub copied-requires-clause-page : goal.copied-requires-clause-page
copied-requires-clause-page c = subst (λ (geometry : Geometry). c.args.place.page + c.loop-i.i < geometry.pages) (sym c.loop-i.invariant.geometry) (omega (arith, c.loop-i-test.true, c.requires.within_limit))

pub loop-i-preserved : goal.loop-i-preserved
loop-i-preserved c =
    let i : ℕ = c.loop-i.i in
    let so_far = c.loop-i.invariant in
    let at = slice_get-get_or c.args.copies.now i no_copy c.loop-i-test.true in
    let reported = c.copied.ensures in
    record {
      agree = reported.agree;
      geometry = reported.counts.geometry ∙ so_far.geometry;
      reports = λ v lists apart.
          let is = committed_yet v i c.args.place c.args.copies.now c.args.index.now c.loop-i.index c.loop-i.index (table c.args.blocks.now) (table c.loop-i.blocks) (table c.loop-i.blocks) lists apart (so_far.reports v lists apart) _ at in
          reports_more v i c.args.place c.args.copies.now c.args.index.now c.loop-i.index c.copied.new.self (table c.args.blocks.now) (table c.loop-i.blocks) (table c.copied.new.blocks) lists apart
          (so_far.reports v lists apart) _ at (record { block = c.args.place.block; page = c.args.place.page + i }) refl refl (reported.copies _ is) reported.counts reported.prepared reported.has_room;
    }

pub returns-clause-reports : goal.returns-clause-reports
returns-clause-reports c = λ v lists apart.
    let all : c.loop-i.i ≡ length c.args.copies.now = search rules in
    subst (λ n. Reports v n c.args.place c.args.copies.now c.args.index.now c.loop-i.index (table c.args.blocks.now) (table c.loop-i.blocks)) all (c.loop-i.invariant.reports v lists apart)
