use Rattle.std.proofs.Common.{◌∙◌, [], ◌∷◌, ◌++◌, None, refl, sym, subst, inl, arith}
use Rattle.page_tags.specs.SlotEntry.{entry_of}
use Rattle.pages.specs.laws.Faults.{says_more}
use Rattle.pages.specs.Maps.{PageMap, after_change}
use Rattle.pages.specs.State.{PagesState}
use Rattle.directories.specs.SlotLists.{IsPushed}
use Rattle.directories.specs.Writes.{WritesIn, longer, pushing}
use Rattle.directories.proofs.Changed.{slots_were}
use Rattle.directories.proofs.Put.{put_writes, puts_name}
use Rattle.directories.proofs.Results.{on_all, on_both, on_done, on_err}
use Rattle.directories.proofs.SlotLists.{rewrites_ok}
use Rattle.directories.proofs.Reported.{are_on, count_is, head_says, length_is, page_size, reported_end, size_on, some_slots, sound_on, within_limit}
use Rattle.directories.proofs.addition.add.Goals as goal

pub returns-clause-adds : goal.returns-clause-adds
returns-clause-adds g c = λ z moment entries d absent.
    let old : PagesState = g.P.Pages.state c.args.pages.now in
    let mid : PagesState = g.P.Pages.state c.read_head.new.pages in
    let lookups = c.read_head.ensures.lookups in
    let s = c.in_ok-head.ensures.reported d.sound in
    let sized = g.met.P.Pages.sized c.args.pages.now in
    let head = c.in_ok-head.head in
    let says = head_says old mid lookups z c.args.directory moment entries d sized head s in
    let len = length_is old mid lookups z c.args.directory moment entries d sized head s in
    let sound_then = sound_on old mid lookups z c.args.directory moment entries d sized head s in
    let size_then = size_on old mid lookups z c.args.directory moment entries d sized head s in
    on_all _ _ _ _ c.push_slot.result
    (λ change only w pages.
    let here = subst (λ (k : PageMap). WritesIn (record { sizes = z; pages = k; object = c.args.directory }) (pushing head c.args.slot.now) (longer head c.args.moment) change) lookups.present w in
    (puts_name z (page_size old mid lookups z c.args.directory moment entries d sized head s) old.present c.args.directory moment entries d.reads (pushing head c.args.slot.now) (longer head c.args.moment) change here
    len refl None len (omega (arith, len)) absent (omega arith) refl c.args.moment says.spare refl (some_slots old mid lookups z c.args.directory moment entries d sized head s) (record { keys = pages.keys; others = pages.others }) mid.page_bytes 2 only.few size_then).makes)
    c.push_slot.ensures.change
    (c.push_slot.ensures.writes sound_then z size_then)
    (c.push_slot.ensures.pages sound_then z size_then)

pub returns-clause-slots : goal.returns-clause-slots
returns-clause-slots g c = rewrites_ok (g.P.Pages.state c.args.pages.now) c.args.directory (IsPushed (entry_of c.args.slot.now)) c.push_slot.result (λ z moment entries d.
    let old : PagesState = g.P.Pages.state c.args.pages.now in
    let mid : PagesState = g.P.Pages.state c.read_head.new.pages in
    let lookups = c.read_head.ensures.lookups in
    let s = c.in_ok-head.ensures.reported d.sound in
    let sized = g.met.P.Pages.sized c.args.pages.now in
    let head = c.in_ok-head.head in
    let len = length_is old mid lookups z c.args.directory moment entries d sized head s in
    let sound_then = sound_on old mid lookups z c.args.directory moment entries d sized head s in
    let size_then = size_on old mid lookups z c.args.directory moment entries d sized head s in
    on_both _ _ _ c.push_slot.result
    (λ change only w.
    let here = subst (λ (k : PageMap). WritesIn (record { sizes = z; pages = k; object = c.args.directory }) (pushing head c.args.slot.now) (longer head c.args.moment) change) lookups.present w in (
      d.reads.slots ++ entry_of c.args.slot.now ∷ [],
      refl,
      put_writes z (page_size old mid lookups z c.args.directory moment entries d sized head s) old.present c.args.directory moment entries d.reads (pushing head c.args.slot.now) (longer head c.args.moment) change here
          len refl None len (omega (arith, len)) mid.page_bytes 2 only.few size_then,
    ))
    c.push_slot.ensures.change
    (c.push_slot.ensures.writes sound_then z size_then))

pub returns-clause-slot : goal.returns-clause-slot
returns-clause-slot g c = λ z moment entries d.
    let old : PagesState = g.P.Pages.state c.args.pages.now in
    let mid : PagesState = g.P.Pages.state c.read_head.new.pages in
    let lookups = c.read_head.ensures.lookups in
    let s = c.in_ok-head.ensures.reported d.sound in
    let sized = g.met.P.Pages.sized c.args.pages.now in
    let head = c.in_ok-head.head in
    let count = count_is old mid lookups z c.args.directory moment entries d sized head s in
    let sound_then = sound_on old mid lookups z c.args.directory moment entries d sized head s in
    let size_then = size_on old mid lookups z c.args.directory moment entries d sized head s in
    on_both _ _ _ c.push_slot.result
    (λ change w pages.
    let here = subst (λ (k : PageMap). WritesIn (record { sizes = z; pages = k; object = c.args.directory }) (pushing head c.args.slot.now) (longer head c.args.moment) change) lookups.present w in
    record {
      more = λ k low high. pages.keys k (entry_of c.args.slot.now) (inl (omega (arith, count, low, high), refl));
      stays = slots_were z (within_limit old mid lookups z c.args.directory moment entries d sized head s) old.present (after_change change old.present) c.args.directory moment entries d.reads
          (λ k e less at. here.others k e (record { other = (λ same. omega (arith, same, count, less), tt); before = omega (arith, count, less); afterwards = omega (arith, count, less) }) at);
    })
    (c.push_slot.ensures.writes sound_then z size_then)
    (c.push_slot.ensures.pages sound_then z size_then)

pub returns-clause-reported : goal.returns-clause-reported
returns-clause-reported g c = λ sound z size.
    let old : PagesState = g.P.Pages.state c.args.pages.now in
    let mid : PagesState = g.P.Pages.state c.read_head.new.pages in
    let lookups = c.read_head.ensures.lookups in
    on_done _ _ c.push_slot.result
    (λ is. reported_end old mid lookups z c.args.directory c.in_ok-head.head (c.in_ok-head.ensures.reported sound) is)
    (c.push_slot.ensures.beside (lookups.sound ∙ sound) z (size ∙ sym lookups.page_bytes))

pub returns-clause-fault : goal.returns-clause-fault
returns-clause-fault g c = λ z moment entries d.
    let old : PagesState = g.P.Pages.state c.args.pages.now in
    let mid : PagesState = g.P.Pages.state c.read_head.new.pages in
    let lookups = c.read_head.ensures.lookups in
    let s = c.in_ok-head.ensures.reported d.sound in
    let sized = g.met.P.Pages.sized c.args.pages.now in
    let head = c.in_ok-head.head in
    let count = count_is old mid lookups z c.args.directory moment entries d sized head s in
    on_err _ _ c.push_slot.result
    (λ fault is. says_more _ _ _ _ _ _ (g.P.Pages.state c.push_slot.new.pages) fault (λ x. x) (λ x. x) (λ full. sym count ∙ full) is)
    (c.push_slot.ensures.fault (sound_on old mid lookups z c.args.directory moment entries d sized head s) z (size_on old mid lookups z c.args.directory moment entries d sized head s)
    (are_on old mid lookups z c.args.directory moment entries d sized head s))
