use Rattle.std.proofs.Common.{◌≡◌, ◌≤◌, ◌<◌, ◌+◌, ◌-◌, ◌*◌, ◌/◌, ◌∙◌, ℕ, min, length, sym, ap, subst, arith, rules}
use Rattle.std.proofs.lemmas.Result.{err_from_is_err_and}
use Rattle.std.specs.FinMap as map
use Rattle.std.specs.Int.{div_ceil}
use Rattle.flash_tree.specs.Tree.{IsPageSize}
use Rattle.volume_terms.specs.Sizes.{page_slots}
use Rattle.volume_terms.specs.laws.Rounding.{part_begins, parts_reach, part_end}
use Rattle.pages.specs.Maps.{PageMap}
use Rattle.pages.specs.State.{PagesState}
use Rattle.pages.specs.laws.State.{finds_none, finds_on}
use Rattle.directories.specs.Listings.{ReadsFirst}
use Rattle.directories.proofs.Listed.{none_read, all_read, same_entries}
use Rattle.directories.proofs.Reading.{later}
use Rattle.directories.proofs.Reported.{count_is, length_is}
use Rattle.directories.proofs.listing.entries.Goals as goal

more_asked : (old now new chunk said most : ℕ) → now ≤ old + 1 + chunk → new ≤ now + 1 → chunk < said → said ≡ most → new ≤ old + 1 + most
more_asked old now new chunk said most a b less is = omega (arith, a, b, less, is)

all_asked : (old now chunk said most : ℕ) → now ≤ old + 1 + chunk → chunk ≤ said → said ≡ most → now ≤ old + 1 + most
all_asked old now chunk said most a less is = omega (arith, a, less, is)

pub loop-chunk-init : goal.loop-chunk-init
loop-chunk-init g c = record {
  lookups = c.read_head.ensures.lookups;
  power = c.in_ok-head.ensures.power;
  issued = omega (arith, c.read_head.ensures.issued);
  first = λ sound z size. subst (λ k. ReadsFirst z (g.P.Pages.state c.args.pages.now).present c.args.directory k c.new-entries.result) (let zero_is : 0 ≡ min c.in_ok-head.head.length (0 * page_slots z) = grind arith in zero_is)
      (none_read z (g.P.Pages.state c.args.pages.now).present c.args.directory c.new-entries.result c.new-entries.ensures);
}

pub returns-in_err-take_chunk-clause-issued : goal.returns-in_err-take_chunk-clause-issued
returns-in_err-take_chunk-clause-issued g c = λ z moment entries d.
    let old : PagesState = g.P.Pages.state c.args.pages.now in
    let s = c.in_ok-head.ensures.reported d.sound in
    let sized = g.met.P.Pages.sized c.args.pages.now in
    let n : ℕ = c.page_bytes.result / 272 in
    let slots : n ≡ page_slots z = ap (λ k. k / 272) (c.page_bytes.ensures.bytes ∙ c.read_head.ensures.lookups.page_bytes ∙ sym d.size) in
    let count : c.in_ok-head.head.length ≡ map.len entries = count_is old old (finds_none old) z c.args.directory moment entries d sized c.in_ok-head.head s in
    let most : c.div_ceil-chunk-end.result ≡ div_ceil (map.len entries) (page_slots z) = c.div_ceil-chunk-end.ensures ∙ ap (λ k. div_ceil k n) count ∙ ap (div_ceil (map.len entries)) slots in
    more_asked _ _ _ _ _ _ c.loop-chunk.invariant.issued c.take_chunk.ensures.issued c.loop-chunk-test.true most

pub returns-in_err-take_chunk-clause-fault : goal.returns-in_err-take_chunk-clause-fault
returns-in_err-take_chunk-clause-fault g c = λ z moment entries d.
    let size = d.size in
    let sound = d.sound in
    let old : PagesState = g.P.Pages.state c.args.pages.now in
    let now : PagesState = g.P.Pages.state c.loop-chunk.pages in
    let lookups = c.loop-chunk.invariant.lookups in
    let len : ℕ = c.in_ok-head.head.length in
    let n : ℕ = c.page_bytes.result / 272 in
    let slots : n ≡ page_slots z = ap (λ k. k / 272) (c.page_bytes.ensures.bytes ∙ c.read_head.ensures.lookups.page_bytes ∙ sym size) in
    let some : 1 ≤ n = omega (arith, c.page_bytes.ensures.least) in
    let less : c.loop-chunk.chunk < div_ceil len n = subst (λ k. c.loop-chunk.chunk < k) c.div_ceil-chunk-end.ensures c.loop-chunk-test.true in
    let within : c.loop-chunk.chunk * n < len = part_begins len n c.loop-chunk.chunk some less in
    let within_limit : c.min-count.result ≡ min n (len - c.loop-chunk.chunk * n) = search rules in
    let start : min len (c.loop-chunk.chunk * page_slots z) ≡ c.loop-chunk.chunk * page_slots z = subst (λ k. min len (c.loop-chunk.chunk * k) ≡ c.loop-chunk.chunk * k) slots (grind arith) in
    let first = subst (λ (m : PageMap). ReadsFirst z m c.args.directory (c.loop-chunk.chunk * page_slots z) c.loop-chunk.entries) (sym lookups.present)
    (subst (λ k. ReadsFirst z old.present c.args.directory k c.loop-chunk.entries) start (c.loop-chunk.invariant.first sound z size)) in
    let s = c.in_ok-head.ensures.reported d.sound in
    let sized = g.met.P.Pages.sized c.args.pages.now in
    let said : len ≡ length d.reads.slots = length_is old old (finds_none old) z c.args.directory moment entries d sized c.in_ok-head.head s in
    let more : 1 ≤ c.min-count.result = grind arith in
    let high : c.loop-chunk.chunk * n + c.min-count.result ≤ length d.reads.slots = subst (λ k. c.loop-chunk.chunk * n + c.min-count.result ≤ k) said (grind arith) in
    let p = err_from_is_err_and c.from_residual-in_err-take_chunk.result c.from_residual-in_err-take_chunk.ensures.1 in
    rw (p.1, p.2) (c.in_err-take_chunk.ensures.fault z moment entries (later old now z c.args.directory moment entries lookups d) more
    (subst (λ k. c.loop-chunk.chunk * k + c.min-count.result ≤ length d.reads.slots) slots high) first)

pub loop-chunk-preserved : goal.loop-chunk-preserved
loop-chunk-preserved g c = record {
  lookups = finds_on _ _ _ c.loop-chunk.invariant.lookups c.take_chunk.ensures.lookups;
  power = c.in_ok-take_chunk.ensures.power ∙ c.loop-chunk.invariant.power;
  issued = omega (arith, c.loop-chunk.invariant.issued, c.take_chunk.ensures.issued);
  first = λ sound z size.
      let old : PagesState = g.P.Pages.state c.args.pages.now in
      let now : PagesState = g.P.Pages.state c.loop-chunk.pages in
      let lookups = c.loop-chunk.invariant.lookups in
      let len : ℕ = c.in_ok-head.head.length in
      let n : ℕ = c.page_bytes.result / 272 in
      let slots : n ≡ page_slots z = ap (λ k. k / 272) (c.page_bytes.ensures.bytes ∙ c.read_head.ensures.lookups.page_bytes ∙ sym size) in
      let some : 1 ≤ n = omega (arith, c.page_bytes.ensures.least) in
      let less : c.loop-chunk.chunk < div_ceil len n = subst (λ k. c.loop-chunk.chunk < k) c.div_ceil-chunk-end.ensures c.loop-chunk-test.true in
      let within : c.loop-chunk.chunk * n < len = part_begins len n c.loop-chunk.chunk some less in
      let within_limit : c.min-count.result ≡ min n (len - c.loop-chunk.chunk * n) = search rules in
      let start : min len (c.loop-chunk.chunk * page_slots z) ≡ c.loop-chunk.chunk * page_slots z = subst (λ k. min len (c.loop-chunk.chunk * k) ≡ c.loop-chunk.chunk * k) slots (grind arith) in
      let first = subst (λ (m : PageMap). ReadsFirst z m c.args.directory (c.loop-chunk.chunk * page_slots z) c.loop-chunk.entries) (sym lookups.present)
      (subst (λ k. ReadsFirst z old.present c.args.directory k c.loop-chunk.entries) start (c.loop-chunk.invariant.first sound z size)) in
      let reported = c.in_ok-take_chunk.ensures.reported (lookups.sound ∙ sound) z (size ∙ sym lookups.page_bytes) first in
      let end : c.loop-chunk.chunk * page_slots z + c.min-count.result ≡ min len ((c.loop-chunk.chunk + 1) * page_slots z) =
      ap (λ k. k + c.min-count.result) (sym start) ∙ part_end (page_slots z) len c.loop-chunk.chunk c.min-count.result (within_limit ∙ ap (λ k. min k (len - c.loop-chunk.chunk * k)) slots) in
      subst (λ k. ReadsFirst z old.present c.args.directory k c.take_chunk.new.entries) end
      (subst (λ (m : PageMap). ReadsFirst z m c.args.directory (c.loop-chunk.chunk * page_slots z + c.min-count.result) c.take_chunk.new.entries) lookups.present reported);
}

pub returns-clause-issued : goal.returns-clause-issued
returns-clause-issued g c = λ z moment entries d.
    let old : PagesState = g.P.Pages.state c.args.pages.now in
    let s = c.in_ok-head.ensures.reported d.sound in
    let sized = g.met.P.Pages.sized c.args.pages.now in
    let n : ℕ = c.page_bytes.result / 272 in
    let slots : n ≡ page_slots z = ap (λ k. k / 272) (c.page_bytes.ensures.bytes ∙ c.read_head.ensures.lookups.page_bytes ∙ sym d.size) in
    let count : c.in_ok-head.head.length ≡ map.len entries = count_is old old (finds_none old) z c.args.directory moment entries d sized c.in_ok-head.head s in
    let most : c.div_ceil-chunk-end.result ≡ div_ceil (map.len entries) (page_slots z) = c.div_ceil-chunk-end.ensures ∙ ap (λ k. div_ceil k n) count ∙ ap (div_ceil (map.len entries)) slots in
    all_asked _ _ _ _ _ c.loop-chunk.invariant.issued (search rules) most

pub returns-clause-reported : goal.returns-clause-reported
returns-clause-reported g c = λ sound z size.
    let old : PagesState = g.P.Pages.state c.args.pages.now in
    let len : ℕ = c.in_ok-head.head.length in
    let n : ℕ = c.page_bytes.result / 272 in
    let slots : n ≡ page_slots z = ap (λ k. k / 272) (c.page_bytes.ensures.bytes ∙ c.read_head.ensures.lookups.page_bytes ∙ sym size) in
    let some : 1 ≤ n = omega (arith, c.page_bytes.ensures.least) in
    let more : div_ceil len n ≤ c.loop-chunk.chunk = subst (λ k. k ≤ c.loop-chunk.chunk) c.div_ceil-chunk-end.ensures c.loop-chunk-test.false in
    let all : len ≤ c.loop-chunk.chunk * n = parts_reach len n c.loop-chunk.chunk some more in
    let whole : min len (c.loop-chunk.chunk * page_slots z) ≡ len = subst (λ k. min len (c.loop-chunk.chunk * k) ≡ len) slots (grind arith) in
    all_read old z c.args.directory c.in_ok-head.head c.loop-chunk.entries size (c.in_ok-head.ensures.reported sound)
    (subst (λ k. ReadsFirst z old.present c.args.directory k c.loop-chunk.entries) whole (c.loop-chunk.invariant.first sound z size))

pub returns-clause-found : goal.returns-clause-found
returns-clause-found g c = λ z moment entries d.
    let old : PagesState = g.P.Pages.state c.args.pages.now in
    let sound = d.sound in
    let size = d.size in
    let len : ℕ = c.in_ok-head.head.length in
    let n : ℕ = c.page_bytes.result / 272 in
    let slots : n ≡ page_slots z = ap (λ k. k / 272) (c.page_bytes.ensures.bytes ∙ c.read_head.ensures.lookups.page_bytes ∙ sym size) in
    let some : 1 ≤ n = omega (arith, c.page_bytes.ensures.least) in
    let more : div_ceil len n ≤ c.loop-chunk.chunk = subst (λ k. k ≤ c.loop-chunk.chunk) c.div_ceil-chunk-end.ensures c.loop-chunk-test.false in
    let all : len ≤ c.loop-chunk.chunk * n = parts_reach len n c.loop-chunk.chunk some more in
    let whole : min len (c.loop-chunk.chunk * page_slots z) ≡ len = subst (λ k. min len (c.loop-chunk.chunk * k) ≡ len) slots (grind arith) in
    let read = all_read old z c.args.directory c.in_ok-head.head c.loop-chunk.entries size (c.in_ok-head.ensures.reported sound)
    (subst (λ k. ReadsFirst z old.present c.args.directory k c.loop-chunk.entries) whole (c.loop-chunk.invariant.first sound z size)) in
    let sized = g.met.P.Pages.sized c.args.pages.now in
    let least : 512 ≤ old.page_bytes = sized.0 in
    let most : old.page_bytes ≤ 4096 = sized.1 in
    let page : IsPageSize z.page_bytes = record { least = omega (arith, size, least); most = omega (arith, size, most) } in
    same_entries z page old.present c.args.directory read.0 moment c.loop-chunk.entries entries read.1 d.reads
