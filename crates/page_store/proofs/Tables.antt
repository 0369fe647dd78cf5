-- The tables of what a scan found.
use Rattle.std.specs.Prelude.{◌≡◌, ◌⊎◌, ◌<◌, ◌≤◌, ◌^◌, ℕ, zero, suc, ◌+◌, true, false, List, [], ◌∷◌, length, Some, None, Result, Ok, Err, IfOk, slice_get, Contains}
use Rattle.std.proofs.Common.{refl, sym, ◌∙◌, ap, subst, inl, inr, arith, get_or}
use Rattle.std.proofs.lemmas.Bool.{cases_eq}
use Rattle.std.proofs.lemmas.Option.{get_or_from_slice_get, slice_get_within, slice_get-get_or}
use Rattle.std.specs.declared.alloc.AllocError.{AllocError}
use Rattle.nand_model.specs.Flash.{Flash}
use Rattle.nand_model.specs.Calls.{Device}
use Rattle.nand_model.specs.Changes.{OnlyReads}
use Rattle.nand_model.specs.declared.geometry.Geometry.{Geometry}
use Rattle.page_tags.specs.Tags.{IsTag}
use Rattle.flash_tree.specs.Newest.{Spot, IsNewest, Numbers, AreAbove, AreGreatest}
use Rattle.flash_tree.specs.Numbering.{AreBelow}
use Rattle.mount_scan.specs.Copies.{copy_at}
use Rattle.mount_scan.specs.declared.page_copy.PageCopy.{PageCopy}
use Rattle.block_state.specs.Table.{Table, blank}
use Rattle.block_state.specs.TableOf.{table}
use Rattle.block_state.specs.declared.blocks.Blocks.{Blocks}
use Rattle.chunk_index.specs.declared.form.CommittedPage.{CommittedPage}
use Rattle.chunk_index.specs.declared.form.Present.TheVariants as presents
use Rattle.chunk_index.specs.declared.index.Index.{Index}
use Rattle.chunk_index.specs.Counts.{Recounts}
use Rattle.chunk_index.specs.Entries.{as_committed}
use Rattle.chunk_index.specs.Maps.{committed_pages, present, count_committed_in, CountsAgree}
use Rattle.chunk_index.specs.Newest.{Indexes, IsFoundOf, page_of}
use Rattle.page_store.specs.Buffering.{IsUnbuffered}
use Rattle.transactions.specs.Marking.{IsMarked}
use Rattle.transactions.specs.Sources.{IsPageName}
use Rattle.transactions.specs.Ready.{IsReady, IsWaiting}
use Rattle.transactions.specs.laws.Ready.{above_below}
use Rattle.mount_scan.specs.Scanned.{IsNewestCopy, AreNewest, ListsNewest}
use Rattle.flash_log.specs.Consistency.{IsCommittedAt, AreCommitted, MayLie}
use Rattle.page_store.specs.KnownFirsts.{AreUnwritten}
use Rattle.page_store.specs.Opened.{name_in, HaveNames, AreLeft, IsTableOf, IsOpened, committed_at}
use Rattle.flash_tree.specs.laws.Place.{same_flash}

-- a table without marks, where there are no numbers left
pub blank_tables : (d : Device) (n : Numbers) (g : Geometry) (r : Result Blocks AllocError) → (AreLeft n → ⊥) → g ≡ d.geometry
    → IfOk r (λ blocks. table blocks ≡ record { geometry = g; entry = λ b. blank; open_block = None; checkpoint = None; next_seq = 1; next_group = 1 })
    → IfOk r (λ blocks. IsTableOf d n (table blocks))
blank_tables d n g (Err e) none same made = tt
blank_tables d n g (Ok blocks) none same made = subst (λ (t : Table). IsTableOf d n t) (sym made) (record {
  geometry = same;
  closed = refl;
  checkpoint = refl;
  none = λ b. refl;
  good = λ b good. refl;
  marks = λ left. absurd (none left);
  group = λ left. absurd (none left);
  seq = λ left. absurd (none left);
})

-- and as far as it knows no block was written
pub blank_unwritten : (g : Geometry) (r : Result Blocks AllocError) → IfOk r (λ blocks. table blocks ≡ record { geometry = g; entry = λ b. blank; open_block = None; checkpoint = None; next_seq = 1; next_group = 1 })
    → IfOk r (λ blocks. AreUnwritten (table blocks))
blank_unwritten g (Err e) made = tt
blank_unwritten g (Ok blocks) made = λ b. (ap (λ (t : Table). (t.entry b).next) made, ap (λ (t : Table). (t.entry b).seq) made)

-- and one with marks, where there are
pub marked_tables : (d : Device) (n : Numbers) (r : Result Blocks AllocError) → IfOk r (λ blocks. IsMarked d n (table blocks)) → IfOk r (λ blocks. IsTableOf d n (table blocks))
marked_tables d n (Err e) made = tt
marked_tables d n (Ok blocks) made = record {
  geometry = made.geometry;
  closed = made.closed;
  checkpoint = made.checkpoint;
  none = made.committed;
  good = λ b good. made.marks b ∙ good;
  marks = λ left. made.marks;
  group = λ left. made.group;
  seq = λ left. made.seq;
}

pub marked_unwritten : (d : Device) (n : Numbers) (r : Result Blocks AllocError) → IfOk r (λ blocks. IsMarked d n (table blocks)) → IfOk r (λ blocks. AreUnwritten (table blocks))
marked_unwritten d n (Err e) made = tt
marked_unwritten d n (Ok blocks) made = λ b. (made.nexts b, made.seqs b)

-- counting leaves that
pub counted_unwritten : (before after : ℕ → ℕ) (t t' : Table) → Recounts before after t t' → AreUnwritten t → AreUnwritten t'
counted_unwritten before after t t' recounts is b = (recounts.next b ∙ (is b).0, recounts.seq b ∙ (is b).1)

-- ---- what was found is named

pub contains_at : (list : List PageCopy) (i : ℕ) (f : PageCopy) → slice_get list i ≡ Some f → Contains list f
contains_at list i f at = (i, slice_get_within list i f at, get_or_from_slice_get list i f f at)

-- a page that was found is the newest of its key
is_newest : (flash : Flash) (list : List PageCopy) (i : ℕ) (f : PageCopy) → AreNewest flash list → slice_get list i ≡ Some f → IsNewestCopy flash f
is_newest flash list i f are at = are.only f (contains_at list i f at)

-- so it may be named in a group of the greatest number
pub have_names : (d : Device) (list : List PageCopy) (n : Numbers) → ListsNewest d list → d.honest ≡ true → AreGreatest d.flash n → HaveNames n.group list
have_names d list n reports honest greatest i f at =
    let is : IsNewestCopy d.flash f = is_newest d.flash list i f (reports.exact honest) at in
    let s : Spot = is.spot in
    let held = is.newest.holds in
    let tag : IsTag s.tag = held.has.valid in
    let good : d.flash.bad s.block ≡ false = ap d.flash.bad held.block ∙ held.whole.good in
    let above = greatest.above s.block s.page s.tag good held.has in
    subst (λ (y : PageCopy). IsPageName n.group (name_in y)) is.copied (record { object = tag.object; chunk = tag.chunk; version = (tag.version.0, omega (arith, above, tag.version)) })

-- ---- what was found is committed

abbrev FindsOne : List PageCopy → ℕ → ℕ → Type 0
FindsOne list o c = (i : ℕ) × (f : PageCopy) × (slice_get list i ≡ Some f) × IsFoundOf o c f

abbrev FindsNone : List PageCopy → ℕ → ℕ → Type 0
FindsNone list o c = (i : ℕ) (f : PageCopy) → slice_get list i ≡ Some f → IsFoundOf o c f → ⊥

none_first : (f : PageCopy) (list : List PageCopy) (o c : ℕ) → (IsFoundOf o c f → ⊥) → FindsNone list o c → FindsNone (f ∷ list) o c
none_first f list o c not rest zero g at of =
    let same : f ≡ g = cc in
    not (subst (IsFoundOf o c) (sym same) of)
none_first f list o c not rest (suc i) g at of = rest i g at of

later : (f : PageCopy) (list : List PageCopy) (o c : ℕ) → (IsFoundOf o c f → ⊥) → FindsOne list o c ⊎ FindsNone list o c → FindsOne (f ∷ list) o c ⊎ FindsNone (f ∷ list) o c
later f list o c not (inl one) = inl (suc one.0, one.1, one.2, one.3)
later f list o c not (inr none) = inr (none_first f list o c not none)

no_page : (o c : ℕ) → FindsNone [] o c
no_page o c zero f at of = absurd cc
no_page o c (suc i) f at of = absurd cc

-- a page of the key was found, or none was
lookups : (list : List PageCopy) (o c : ℕ) → FindsOne list o c ⊎ FindsNone list o c
lookups [] o c = inr (no_page o c)
lookups (f ∷ list) o c = elim (cases_eq f.object o) [
  | inl object ↦ elim (cases_eq f.chunk c) [
    | inl chunk ↦ inl (0, f, refl, (object, chunk))
    | inr ne ↦ later f list o c (λ of. ne of.1) (lookups list o c)
  ]
  | inr ne ↦ later f list o c (λ of. ne of.0) (lookups list o c)
]

module _ (list : List PageCopy) (x : Index) (indexes : Indexes list (length list) x) where
  elsewhere : (o c : ℕ) → FindsNone list o c → (i : ℕ) (d : PageCopy) → i < length list → IsFoundOf o c (get_or list i d) → ⊥
  elsewhere o c none i d lt of = none i (get_or list i d) (slice_get-get_or list i d lt) of

  committed_found : (i : ℕ) (f : PageCopy) → slice_get list i ≡ Some f → committed_pages x f.object f.chunk ≡ Some (page_of f)
  committed_found i f at = subst (λ (g : PageCopy). committed_pages x g.object g.chunk ≡ Some (page_of g)) (get_or_from_slice_get list i f f at) (indexes.committed_here i f (slice_get_within list i f at))

  present_found : (i : ℕ) (f : PageCopy) → slice_get list i ≡ Some f → present x f.object f.chunk ≡ presents.OnFlash (page_of f)
  present_found i f at = subst (λ (g : PageCopy). present x g.object g.chunk ≡ presents.OnFlash (page_of g)) (get_or_from_slice_get list i f f at) (indexes.present_here i f (slice_get_within list i f at))

  -- a page that is committed was found
  pub was_found : (o c : ℕ) (p : CommittedPage) → committed_pages x o c ≡ Some p → (i : ℕ) × (f : PageCopy) × (slice_get list i ≡ Some f) × IsFoundOf o c f × (page_of f ≡ p)
  was_found o c p committed = elim (lookups list o c) [
    | inl one ↦
        let f : PageCopy = one.1 in
        let here = committed_found one.0 f one.2 in
        let key : committed_pages x f.object f.chunk ≡ committed_pages x o c = ap (λ k. committed_pages x k f.chunk) one.3.0 ∙ ap (committed_pages x o) one.3.1 in
        let two : Some (page_of f) ≡ Some p = sym here ∙ key ∙ committed in
        (one.0, f, one.2, one.3, cc)
    | inr none ↦
        let two : Some p ≡ None = sym committed ∙ indexes.committed_elsewhere o c (elsewhere o c none) in
        absurd cc
  ]

  -- what is committed is present
  pub is_shown : (o c : ℕ) → present x o c ≡ as_committed (committed_pages x o c)
  is_shown o c = elim (lookups list o c) [
    | inl one ↦
        let f : PageCopy = one.1 in
        let here : present x o c ≡ presents.OnFlash (page_of f) =
        sym (ap (λ k. present x k f.chunk) one.3.0 ∙ ap (present x o) one.3.1) ∙ present_found one.0 f one.2 in
        let there : committed_pages x o c ≡ Some (page_of f) =
        sym (ap (λ k. committed_pages x k f.chunk) one.3.0 ∙ ap (committed_pages x o) one.3.1) ∙ committed_found one.0 f one.2 in
        here ∙ sym (ap as_committed there)
    | inr none ↦
        indexes.present_elsewhere o c (elsewhere o c none) ∙ sym (ap as_committed (indexes.committed_elsewhere o c (elsewhere o c none)))
  ]

  pub not_buffered : IsUnbuffered x
  not_buffered o c j is = elim (lookups list o c) [
    | inl one ↦
        let f : PageCopy = one.1 in
        let here = present_found one.0 f one.2 in
        let key : present x f.object f.chunk ≡ present x o c = ap (λ k. present x k f.chunk) one.3.0 ∙ ap (present x o) one.3.1 in
        let two : presents.OnFlash (page_of f) ≡ presents.InBuffer j = sym here ∙ key ∙ is in
        absurd cc
    | inr none ↦
        let two : presents.InBuffer j ≡ presents.Absent = sym is ∙ indexes.present_elsewhere o c (elsewhere o c none) in
        absurd cc
  ]

  -- it lies where it was found
  pub lies_within : (d : Device) → ListsNewest d list → (o c : ℕ) (p : CommittedPage) → committed_pages x o c ≡ Some p → (p.block < d.geometry.blocks) × (p.page < d.geometry.pages)
  lies_within d reports o c p committed =
      let was = was_found o c p committed in
      let f : PageCopy = was.1 in
      let at : (get_or list was.0 f) ≡ f = get_or_from_slice_get list was.0 f f was.2 in
      let placed = subst (λ (g : PageCopy). (g.block < d.geometry.blocks) × (g.page < d.geometry.pages)) at (reports.placed was.0 f (slice_get_within list was.0 f was.2)) in
      subst (λ (q : CommittedPage). (q.block < d.geometry.blocks) × (q.page < d.geometry.pages)) was.4 placed

  -- its chunk is one that a tree may look up
  pub lies_low : (d : Device) → ListsNewest d list → (o c : ℕ) (p : CommittedPage) → committed_pages x o c ≡ Some p → c < 2 ^ 32
  lies_low d reports o c p committed =
      let was = was_found o c p committed in
      let f : PageCopy = was.1 in
      let at : (get_or list was.0 f) ≡ f = get_or_from_slice_get list was.0 f f was.2 in
      let of : IsFoundOf o c f = was.3 in
      let low = subst (λ (g : PageCopy). g.chunk < 2 ^ 32) at (reports.low was.0 f (slice_get_within list was.0 f was.2)) in
      subst (λ k. k < 2 ^ 32) of.1 low

  -- and may be copied
  pub may_lie : (d : Device) (t : Table) (n : Numbers) → ListsNewest d list → t.geometry ≡ d.geometry → HaveNames n.group list → n.group ≤ t.next_group
      → (o c : ℕ) (p : CommittedPage) → committed_pages x o c ≡ Some p → MayLie t o c p
  may_lie d t n reports geometry names le o c p committed =
      let was = was_found o c p committed in
      let f : PageCopy = was.1 in
      let of : IsFoundOf o c f = was.3 in
      let within = lies_within d reports o c p committed in
      let name = names was.0 f was.2 in
      let version : f.version ≡ p.version = ap (λ (q : CommittedPage). q.version) was.4 in
      record {
        block = subst (λ (g : Geometry). p.block < g.blocks) (sym geometry) within.0;
        page = subst (λ (g : Geometry). p.page < g.pages) (sym geometry) within.1;
        name = record {
          object = subst (λ k. (1 ≤ k) × (k < 2 ^ 64)) of.0 name.object;
          chunk = subst (λ k. k < 2 ^ 64) of.1 name.chunk;
          version = (omega (arith, name.version, version), omega (arith, name.version, version, le));
        };
      }

  -- it is the newest of its key
  pub are_committed : (d : Device) → ListsNewest d list → d.honest ≡ true → AreCommitted d.flash (committed_pages x)
  are_committed d reports honest o c p committed =
      let was = was_found o c p committed in
      let f : PageCopy = was.1 in
      let of : IsFoundOf o c f = was.3 in
      let is : IsNewestCopy d.flash f = is_newest d.flash list was.0 f (reports.exact honest) was.2 in
      let there : IsNewest d.flash o c is.spot = subst (λ k. IsNewest d.flash o k is.spot) of.1 (subst (λ k. IsNewest d.flash k f.chunk is.spot) of.0 is.newest) in
      subst (λ (q : CommittedPage). IsCommittedAt d.flash o c q) (ap page_of is.copied ∙ was.4) (record { tag = is.spot.tag; newest = there; version = refl })

  -- a page that is listed is committed
  pub listed_committed : (o c : ℕ) (s : Spot) → s.tag.object ≡ o → s.tag.chunk ≡ c → Contains list (copy_at s) → committed_pages x o c ≡ Some (committed_at s)
  listed_committed o c s object chunk has =
      let at : slice_get list has.0 ≡ Some (copy_at s) = subst (λ y. slice_get list has.0 ≡ Some y) has.2 (slice_get-get_or list has.0 (copy_at s) has.1) in
      sym (ap (λ k. committed_pages x k s.tag.chunk) object ∙ ap (committed_pages x o) chunk) ∙ committed_found has.0 (copy_at s) at

  -- and so is each newest page
  pub all_committed : (d : Device) → ListsNewest d list → d.honest ≡ true → (o c : ℕ) (s : Spot) → c < 2 ^ 32 → IsNewest d.flash o c s → committed_pages x o c ≡ Some (committed_at s)
  all_committed d reports honest o c s low newest = listed_committed o c s newest.holds.object newest.holds.chunk ((reports.exact honest).each o c s low newest)

-- a table with the marks of the device and numbers above its tags is ready, with no block open
pub ready_from : (d : Device) (n : Numbers) (t : Table) → t.geometry ≡ d.geometry → ((b : ℕ) → (t.entry b).bad ≡ d.flash.bad b) → t.open_block ≡ None → ((c : ℕ) → t.checkpoint ≡ Some c → IsWaiting d t c)
    → t.next_group ≡ n.group + 1 → t.next_seq ≡ n.seq + 1 → (d.honest ≡ true → AreAbove d.flash n) → IsReady d t
ready_from d n t geometry marks closed waits group seq above = record {
  geometry = geometry;
  marks = marks;
  open_block = λ o is. absurd (let two : None ≡ Some o = sym closed ∙ is in cc);
  waits = waits;
  numbers = (omega (arith, group), omega (arith, seq));
  below = λ honest. subst (λ k. AreBelow d.flash k t.next_seq) (sym group) (subst (λ k. AreBelow d.flash (n.group + 1) k) (sym seq) (above_below d.flash n (above honest)));
}

-- what a scan reported of a device before it was read is so of it afterwards
pub reports_read : (a b : Device) (list : List PageCopy) → OnlyReads a b → ListsNewest a list → ListsNewest b list
reports_read a b list reads reports = record {
  placed = subst (λ (g : Geometry). (k : ℕ) (d : PageCopy) → k < length list → ((get_or list k d).block < g.blocks) × ((get_or list k d).page < g.pages)) (sym reads.lasts.geometry) reports.placed;
  low = reports.low;
  order = reports.order;
  exact = λ honest.
      let before : a.honest ≡ true = sym reads.lasts.honest ∙ honest in
      subst (λ (f : Flash). AreNewest f list) (sym (same_flash a b reads before)) (reports.exact before);
}

pub greatest_read : (a b : Device) (n : Numbers) → OnlyReads a b → (a.honest ≡ true → AreGreatest a.flash n) → b.honest ≡ true → AreGreatest b.flash n
greatest_read a b n reads greatest honest =
    let before : a.honest ≡ true = sym reads.lasts.honest ∙ honest in
    subst (λ (f : Flash). AreGreatest f n) (sym (same_flash a b reads before)) (greatest before)

-- all of it together
pub opened : (d : Device) (list : List PageCopy) (x : Index) (t t' : Table) (n : Numbers) → ListsNewest d list → (d.honest ≡ true → AreGreatest d.flash n) → HaveNames n.group list
    → IsTableOf d n t → Indexes list (length list) x → CountsAgree t' x → Recounts (λ b. 0) (count_committed_in x) t t' → IsOpened d t' x n
opened d list x t t' n reports greatest names is indexes counts recounts = record {
  tables = record {
    counts = counts;
    geometry = recounts.geometry ∙ is.geometry;
    good = λ b good. recounts.bad b ∙ is.good b good;
    closed = recounts.open_block ∙ is.closed;
    noted = recounts.checkpoint ∙ is.checkpoint;
    apart = λ b at. absurd (let two : None ≡ Some b = sym (recounts.checkpoint ∙ is.checkpoint) ∙ at in cc);
    shown = is_shown list x indexes;
    unbuffered = not_buffered list x indexes;
    within = lies_within list x indexes d reports;
    low = lies_low list x indexes d reports;
    newest = are_committed list x indexes d reports;
    numbers = greatest;
    can_write = λ left.
        ready_from d n t' (recounts.geometry ∙ is.geometry) (λ b. recounts.bad b ∙ is.marks left b) (recounts.open_block ∙ is.closed)
        (λ c at. absurd (let two : None ≡ Some c = sym (recounts.checkpoint ∙ is.checkpoint) ∙ at in cc))
        (recounts.next_group ∙ is.group left) (recounts.next_seq ∙ is.seq left) (λ honest. (greatest honest).above);
    group = λ left. recounts.next_group ∙ is.group left;
    seq = λ left. recounts.next_seq ∙ is.seq left;
    lie = λ left.
        let next : t'.next_group ≡ n.group + 1 = recounts.next_group ∙ is.group left in
        may_lie list x indexes d t' n reports (recounts.geometry ∙ is.geometry) names (omega (arith, next));
  };
  all = all_committed list x indexes d reports;
}
