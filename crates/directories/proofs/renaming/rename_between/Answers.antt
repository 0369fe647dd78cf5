use Rattle.std.proofs.Common.{◌+◌, ◌/◌, ◌≡◌, ◌∙◌, ℕ, ap, sym, subst, arith}
use Rattle.std.proofs.lemmas.Result.{err_from_is_err_and}
use Rattle.std.specs.FinMap as map
use Rattle.volume_terms.specs.Sizes.{page_slots}
use Rattle.pages.specs.Changes.{IsChange, IsOnlyOf, AreSized}
use Rattle.pages.specs.Maps.{PageMap, after_change}
use Rattle.pages.specs.State.{PagesState}
use Rattle.pages.specs.laws.Changes.{changed_same, others_keep}
use Rattle.pages.specs.laws.Faults.{lacks_memory}
use Rattle.pages.specs.laws.State.{finds_on}
use Rattle.pages.specs.declared.change.Change.{Change}
use Rattle.posix_profile.specs.State.{Entries}
use Rattle.directories.specs.Directories.{HasOnly}
use Rattle.directories.specs.laws.Keys.{key_both}
use Rattle.directories.proofs.Changed.{reads_committed}
use Rattle.directories.proofs.Held.{asks_both, asks_first}
use Rattle.directories.proofs.Reading.{later as dir_later}
use Rattle.directories.proofs.Results.{memory_room}
use Rattle.directories.proofs.SlotLists.{writes_first, writes_second}
use Rattle.directories.proofs.Sought.{dir, named_later}
use Rattle.directories.proofs.renaming.rename_between.Goals as goal

pub returns-in_err-sought-clause-issued : goal.returns-in_err-sought-clause-issued
returns-in_err-sought-clause-issued g c =
    asks_first c.args.names.now c.args.route.target c.args.route.source c.args.to.now.name.now c.args.from.now (g.P.Pages.state c.args.pages.now).issued (g.P.Pages.state c.seek.new.pages).issued c.seek.ensures.issued

pub returns-in_err-sought-clause-fault : goal.returns-in_err-sought-clause-fault
returns-in_err-sought-clause-fault g c = λ z s t left entries source target.
    let old : PagesState = g.P.Pages.state c.args.pages.now in
    let mid : PagesState = g.P.Pages.state c.seek.new.pages in
    let r = err_from_is_err_and c.from_residual.result c.from_residual.ensures.1 in
    rw (r.1, r.2) (memory_room (map.len entries) mid _ (lacks_memory old mid _ (c.in_err-sought.ensures.fault z t entries (dir c.args.names.now old z c.args.route.target t entries target))))

pub returns-in_err-first-clause-issued : goal.returns-in_err-first-clause-issued
returns-in_err-first-clause-issued g c =
    asks_both c.args.names.now c.args.route.target c.args.route.source c.args.to.now.name.now c.args.from.now (g.P.Pages.state c.args.pages.now).issued (g.P.Pages.state c.seek.new.pages).issued
    (g.P.Pages.state c.remove.new.pages).issued _ c.seek.ensures.issued c.remove.ensures.issued (omega arith)

pub returns-in_err-first-clause-fault : goal.returns-in_err-first-clause-fault
returns-in_err-first-clause-fault g c = λ z s t left entries source target.
    let old : PagesState = g.P.Pages.state c.args.pages.now in
    let mid : PagesState = g.P.Pages.state c.seek.new.pages in
    let later_d = named_later c.args.names.now old mid z c.args.route.source s left c.seek.ensures.lookups source in
    let r = err_from_is_err_and c.from_residual-in_err-first.result c.from_residual-in_err-first.ensures.1 in
    rw (r.1, r.2) (memory_room (map.len entries) (g.P.Pages.state c.remove.new.pages) _ (c.in_err-first.ensures.fault z s left (dir c.args.names.now mid z c.args.route.source s left later_d)))

pub returns-in_default-clause-issued : goal.returns-in_default-clause-issued
returns-in_default-clause-issued g c =
    asks_both c.args.names.now c.args.route.target c.args.route.source c.args.to.now.name.now c.args.from.now (g.P.Pages.state c.args.pages.now).issued (g.P.Pages.state c.seek.new.pages).issued
    (g.P.Pages.state c.remove.new.pages).issued _ c.seek.ensures.issued c.remove.ensures.issued (omega arith)

pub returns-in_default-clause-named : goal.returns-in_default-clause-named
returns-in_default-clause-named g c = λ z moment entries d.
    let old : PagesState = g.P.Pages.state c.args.pages.now in
    let mid : PagesState = g.P.Pages.state c.seek.new.pages in
    rw c.in_default.is at (c.in_ok-first.ensures.named z moment entries (named_later c.args.names.now old mid z c.args.route.source moment entries c.seek.ensures.lookups d))

pub returns-in_err-second-clause-issued : goal.returns-in_err-second-clause-issued
returns-in_err-second-clause-issued g c =
    asks_both c.args.names.now c.args.route.target c.args.route.source c.args.to.now.name.now c.args.from.now (g.P.Pages.state c.args.pages.now).issued (g.P.Pages.state c.seek.new.pages).issued
    (g.P.Pages.state c.remove.new.pages).issued _ c.seek.ensures.issued c.remove.ensures.issued (omega (arith, c.put_at.ensures.issued))

pub returns-in_err-change-clause-issued : goal.returns-in_err-change-clause-issued
returns-in_err-change-clause-issued g c =
    asks_both c.args.names.now c.args.route.target c.args.route.source c.args.to.now.name.now c.args.from.now (g.P.Pages.state c.args.pages.now).issued (g.P.Pages.state c.seek.new.pages).issued
    (g.P.Pages.state c.remove.new.pages).issued _ c.seek.ensures.issued c.remove.ensures.issued (omega (arith, c.put_at.ensures.issued))

pub returns-clause-issued : goal.returns-clause-issued
returns-clause-issued g c =
    asks_both c.args.names.now c.args.route.target c.args.route.source c.args.to.now.name.now c.args.from.now (g.P.Pages.state c.args.pages.now).issued (g.P.Pages.state c.seek.new.pages).issued
    (g.P.Pages.state c.remove.new.pages).issued _ c.seek.ensures.issued c.remove.ensures.issued (omega (arith, c.put_at.ensures.issued))

pub returns-in_err-second-clause-fault : goal.returns-in_err-second-clause-fault
returns-in_err-second-clause-fault g c = λ z s t left entries source d.
    let old : PagesState = g.P.Pages.state c.args.pages.now in
    let next : PagesState = g.P.Pages.state c.remove.new.pages in
    let at = dir_later old next z c.args.route.target t entries (finds_on _ _ _ c.seek.ensures.lookups c.remove.ensures.looks.lookups) (dir c.args.names.now old z c.args.route.target t entries d) in
    let sought = c.in_ok-sought.ensures.sought z t entries d in
    let r = err_from_is_err_and c.from_residual-in_err-second.result c.from_residual-in_err-second.ensures.1 in
    rw (r.1, r.2) (c.in_err-second.ensures.fault z t entries at sought.head sought.found)

pub returns-clause-change : goal.returns-clause-change
returns-clause-change g c =
    let old : PagesState = g.P.Pages.state c.args.pages.now in
    let mid : PagesState = g.P.Pages.state c.seek.new.pages in
    let next : PagesState = g.P.Pages.state c.remove.new.pages in
    let first_bytes : mid.page_bytes ≡ old.page_bytes = c.seek.ensures.lookups.page_bytes in
    let bytes : next.page_bytes ≡ old.page_bytes = c.remove.ensures.looks.lookups.page_bytes ∙ first_bytes in
    let a : IsChange c.in-Some.first old.page_bytes 2 = subst (λ n. IsChange c.in-Some.first n 2) first_bytes (rw c.in-Some.is at c.in_ok-first.ensures.change) in
    let b : IsChange c.in_ok-second.second next.page_bytes 2 = c.in_ok-second.ensures.change.few in
    let within_limit = c.in_ok-change.ensures.within_limit in
    let only : IsOnlyOf c.in-Some.first c.args.route.source = rw c.in-Some.is at c.in_ok-first.ensures.only in
    record {
      change = record {
        apart = c.in_ok-change.ensures.apart a.apart b.apart;
        size = c.in_ok-change.ensures.size old.page_bytes a.size (subst (AreSized c.in_ok-second.second.pages.items) bytes b.size);
        within_limit = omega (arith, within_limit, a.within_limit, b.within_limit);
      };
      others = λ o k not_source not_target. c.in_ok-change.ensures.pages old.present o k
          ∙ others_keep c.in_ok-second.second c.args.route.target c.in_ok-second.ensures.change.only (after_change c.in-Some.first old.present) o k not_target
          ∙ others_keep c.in-Some.first c.args.route.source only old.present o k not_source;
    }

pub returns-clause-named : goal.returns-clause-named
returns-clause-named g c = λ z moment entries d.
    let old : PagesState = g.P.Pages.state c.args.pages.now in
    let mid : PagesState = g.P.Pages.state c.seek.new.pages in
    rw c.in-Some.is at (c.in_ok-first.ensures.named z moment entries (named_later c.args.names.now old mid z c.args.route.source moment entries c.seek.ensures.lookups d))

pub returns-clause-takes : goal.returns-clause-takes
returns-clause-takes g c = λ z moment entries d.
    let old : PagesState = g.P.Pages.state c.args.pages.now in
    let mid : PagesState = g.P.Pages.state c.seek.new.pages in
    let o : ℕ = c.args.route.source in
    let first : Change = c.in-Some.first in
    let second : Change = c.in_ok-second.second in
    let both : Change = c.in_ok-change.change in
    let left : Entries = map.remove entries c.args.from.now in
    let same_pages = c.seek.ensures.lookups.present in
    let t = rw c.in-Some.is at (c.in_ok-first.ensures.removes z moment entries (named_later c.args.names.now old mid z o moment entries c.seek.ensures.lookups d)) in
    let a : IsChange first mid.page_bytes 2 = rw c.in-Some.is at c.in_ok-first.ensures.change in
    let same : (k : ℕ) → after_change both old.present o k ≡ after_change first mid.present o k = λ k.
    c.in_ok-change.ensures.pages old.present o k ∙ others_keep second c.args.route.target c.in_ok-second.ensures.change.only (after_change first old.present) o k c.requires.apart
    ∙ ap (λ (m : PageMap). after_change first m o k) (sym same_pages) in
    let committed = reads_committed z (after_change first mid.present) (after_change both old.present) o c.args.moment left t.makes.becomes.0 same in
    record {
      makes = record {
        becomes = (committed.0, committed.1 ∙ t.makes.becomes.1);
        ends = λ only k behind.
            let only_mid : HasOnly z mid.present o (map.len entries) = subst (λ (m : PageMap). HasOnly z m o (map.len entries)) (sym same_pages) only in
            same k ∙ t.makes.ends only_mid k behind;
      };
      slots = (
        t.slots.0,
        t.slots.1,
        writes_first z first second both (c.in_ok-change.ensures.apart a.apart c.in_ok-second.ensures.change.few.apart) c.in_ok-change.ensures.pages o c.args.route.target c.in_ok-second.ensures.change.only c.requires.apart
            t.slots.0 t.slots.2,
      );
    }

pub returns-clause-gives : goal.returns-clause-gives
returns-clause-gives g c = λ z t entries d.
    let old : PagesState = g.P.Pages.state c.args.pages.now in
    let mid : PagesState = g.P.Pages.state c.seek.new.pages in
    let next : PagesState = g.P.Pages.state c.remove.new.pages in
    let o : ℕ = c.args.route.target in
    let finds = finds_on _ _ _ c.seek.ensures.lookups c.remove.ensures.looks.lookups in
    let first : Change = c.in-Some.first in
    let second : Change = c.in_ok-second.second in
    let both : Change = c.in_ok-change.change in
    let only : IsOnlyOf first c.args.route.source = rw c.in-Some.is at c.in_ok-first.ensures.only in
    let at = dir_later old next z o t entries finds (dir c.args.names.now old z o t entries d) in
    let sought = c.in_ok-sought.ensures.sought z t entries d in
    let now : Entries = map.insert entries c.args.to.now.name.now c.args.to.now.object in
    let puts = c.in_ok-second.ensures.puts z t entries at sought.head sought.found in
    let a : IsChange first mid.page_bytes 2 = rw c.in-Some.is at c.in_ok-first.ensures.change in
    let same : (k : ℕ) → after_change both old.present o k ≡ after_change second next.present o k = λ k.
    c.in_ok-change.ensures.pages old.present o k ∙ changed_same second (after_change first old.present) next.present o k
    (others_keep first c.args.route.source only old.present o k (λ is. c.requires.apart (sym is)) ∙ ap (λ (m : PageMap). m o k) (sym finds.present)) in
    let committed = reads_committed z (after_change second next.present) (after_change both old.present) o c.args.moment now puts.makes.becomes.0 same in
    record {
      makes = record {
        becomes = (committed.0, committed.1 ∙ puts.makes.becomes.1);
        ends = λ alone k behind.
            let alone_then : HasOnly z next.present o (map.len entries) = subst (λ (m : PageMap). HasOnly z m o (map.len entries)) (sym finds.present) alone in
            same k ∙ puts.makes.ends alone_then k behind;
      };
      more = λ k low high. key_both first second both c.in_ok-change.ensures.pages o (1 + k / page_slots z) (puts.more k low high);
      slots = (
        puts.slots.0,
        puts.slots.1,
        writes_second z first second both (c.in_ok-change.ensures.apart a.apart c.in_ok-second.ensures.change.few.apart) c.in_ok-change.ensures.pages o c.args.route.source only
            (λ is. c.requires.apart (sym is)) puts.slots.0 puts.slots.2,
      );
    }
