-- Pages that are those of a list of slots.
use Rattle.std.specs.Prelude.{◌≡◌, ◌≢◌, ◌≤◌, ℕ, zero, suc, ◌+◌, ◌-◌, ◌*◌, min, List, [], ◌∷◌, ◌++◌, length, get_or, take, drop, set, replicate, flat_map, Some, None, slice_get, Result, Ok, Err, IfOk}
use Rattle.std.proofs.Common.{refl, sym, ◌∙◌, ap, subst, inl, inr, arith}
use Rattle.std.proofs.lemmas.List.{append_assoc, drop-drop, ext_get_or, get_or-drop, length-append, length-drop, length-replicate, length-take, take-append-drop}
use Rattle.std.specs.FinMap as map
use Rattle.page_tags.specs.Slots.{Entry, slot_bytes}
use Rattle.volume_terms.specs.Sizes.{Sizes, page_slots}
use Rattle.volume_terms.specs.laws.List.{slice_get_there, zero_at}
use Rattle.posix_profile.specs.State.{Name, Entries}
use Rattle.flash_tree.specs.Tree.{IsPageSize, ReadsDir}
use Rattle.pages.specs.Changes.{AreApart, IsChange, IsOnlyOf}
use Rattle.pages.specs.Maps.{PageMap, IsPageOf, has, no_pages, without_cuts, after_change}
use Rattle.pages.specs.State.{PagesState}
use Rattle.pages.specs.laws.Changes.{changed_same, others_keep}
use Rattle.pages.specs.laws.Maps.{first_here, page_elsewhere}
use Rattle.pages.specs.declared.change.Change.{Change}
use Rattle.directories.specs.Changing.{TakesOut}
use Rattle.directories.specs.Directories.{DirIn, HasOnly, ReadsDirectory, SlotOf}
use Rattle.directories.specs.SlotLists.{slots_page, IsWithout, Rewrites, WritesSlots}
use Rattle.directories.specs.Slots.{SlotAt}
use Rattle.directories.specs.Writes.{EndsInZeros, LosesSlot}
use Rattle.directories.specs.declared.head.DirectoryHead.{DirectoryHead}
use Rattle.directories.specs.laws.Keys.{cuts_leave, first_or_none}
use Rattle.directories.proofs.Changed.{fewer_each, reads_fewer}
use Rattle.directories.proofs.Lists.{entries_len, get_take, put_len}
use Rattle.directories.proofs.Reading.{count_after}
use Rattle.directories.proofs.Searching.{slot_in_page}
use Rattle.directories.proofs.Written.{page_at}

-- ---- a page and its slots

zeros_are : (xs : List ℕ) → ((j : ℕ) → get_or xs j 0 ≡ 0) → xs ≡ replicate (length xs) 0
zeros_are xs all = ext_get_or 0 xs (replicate (length xs) 0) (sym (length-replicate (length xs) 0)) (λ j less. all j ∙ sym (zero_at (length xs) j))

-- a page is its slots in their order, and the zeros behind them
page_is : (es : List Entry) (page : List ℕ) → ((k : ℕ) (e : Entry) → slice_get es k ≡ Some e → SlotAt page k e) → ((j : ℕ) → 272 * length es ≤ j → get_or page j 0 ≡ 0) → 272 * length es ≤ length page
    → page ≡ flat_map slot_bytes es ++ replicate (length page - 272 * length es) 0
page_is [] page each past room =
    let all : length page ≡ length page - 272 * 0 = omega arith in
    zeros_are page (λ j. past j (omega arith)) ∙ ap (λ n. replicate n 0) all
page_is (e ∷ es) page each past room =
    let rest : List ℕ = drop 272 page in
    let len : length rest ≡ length page - 272 = length-drop 272 page in
    let first : take 272 page ≡ slot_bytes e = (each zero e refl).1 in
    let more : rest ≡ flat_map slot_bytes es ++ replicate (length rest - 272 * length es) 0 = page_is es rest
    (λ k x at.
    let s = each (suc k) x at in
    let on : 272 + 272 * k ≡ 272 * suc k = omega arith in
    (s.0, ap (take 272) (drop-drop (272 * k) 272 page ∙ ap (λ n. drop n page) on) ∙ s.1))
    (λ j le. get_or-drop 272 page j 0 ∙ past (272 + j) (omega (arith, le)))
    (omega (arith, len, room)) in
    let size : length rest - 272 * length es ≡ length page - 272 * suc (length es) = omega (arith, len) in
    sym (take-append-drop 272 page) ∙ ap (λ (xs : List ℕ). xs ++ rest) first
    ∙ ap (λ (xs : List ℕ). slot_bytes e ++ xs) (more ∙ ap (λ n. flat_map slot_bytes es ++ replicate n 0) size)
    ∙ sym (append_assoc (slot_bytes e) (flat_map slot_bytes es) (replicate (length page - 272 * suc (length es)) 0))

get_drop : (m : ℕ) (xs : List Entry) (k : ℕ) → slice_get (drop m xs) k ≡ slice_get xs (m + k)
get_drop zero xs k = let on : k ≡ zero + k = omega arith in ap (slice_get xs) on
get_drop (suc m) [] k = refl
get_drop (suc m) (x ∷ xs) k = let on : suc (m + k) ≡ suc m + k = omega arith in get_drop m xs k ∙ ap (slice_get (x ∷ xs)) on

-- pages that have the slots of a list, and are zero past the last of them, are those of the list
module _ (z : Sizes) (m : PageMap) (change : Change) (d bytes most : ℕ) (is : IsChange change bytes most) (size : z.page_bytes ≡ bytes) (slots : List Entry)
    (zeros : EndsInZeros z change d (length slots)) (each : (k : ℕ) (e : Entry) → slice_get slots k ≡ Some e → SlotOf z (after_change change m) d k e) where
  pub writes_slots : WritesSlots z change d slots
  writes_slots c i of =
      let n : ℕ = page_slots z in
      let page : List ℕ = of.page.bytes.items in
      let es : List Entry = take n (drop (c * n) slots) in
      let len : length page ≡ z.page_bytes = is.size i of.page of.there ∙ sym size in
      let at : after_change change m d (1 + c) ≡ Some page = page_at change m is.apart d (1 + c) i of in
      let count : length es ≡ min n (length slots - c * n) = length-take n (drop (c * n) slots) ∙ ap (min n) (length-drop (c * n) slots) in
      let within_limit : length es ≤ n = grind (arith, count) in
      let same : length es ≡ min (length slots - c * n) n = grind (arith, count) in
      let whole = page_is es page
      (λ k e found.
      let t = get_take n (drop (c * n) slots) k e found in
      slot_in_page z (after_change change m) d c k e page t.0 at (each (c * n + k) e (sym (get_drop (c * n) slots k) ∙ t.1)))
      (λ j le. zeros c i of j (subst (λ k. 272 * k ≤ j) same le))
      (omega (arith, within_limit, len)) in
      let made : List ℕ = flat_map slot_bytes es in
      let rest : ℕ = length page - 272 * length es in
      let sum : length page ≡ length made + length (replicate {A = ℕ} rest 0) = ap length whole ∙ length-append made (replicate rest 0) in
      let tail : rest ≡ z.page_bytes - length made = omega (arith, sum, len, length-replicate {A = ℕ} rest 0) in
      whole ∙ ap (λ k. made ++ replicate k 0) tail

-- ---- two changes, one after the other

-- what a change writes by itself
written_is : (z : Sizes) (change : Change) (d : ℕ) (slots : List Entry) → WritesSlots z change d slots → (c : ℕ) (xs : List ℕ) → after_change change no_pages d (1 + c) ≡ Some xs → xs ≡ slots_page z slots c
written_is z change d slots writes c xs there = elim (first_or_none change.pages.items d (1 + c)) [
  | inl x ↦
      let of = x.1.0 in
      let at = first_here change.pages.items (without_cuts change.cuts.items no_pages) d (1 + c) x.0 of.page of.there of.object of.chunk x.1.1 in
      let two : Some xs ≡ Some of.page.bytes.items = sym there ∙ at in
      let one : xs ≡ of.page.bytes.items = cc in
      one ∙ writes c x.0 of
  | inr none ↦
      let left = sym (page_elsewhere change.pages.items (without_cuts change.cuts.items no_pages) d (1 + c) none) ∙ there in
      let two : None ≡ Some xs = cuts_leave change.cuts.items no_pages d (1 + c) xs left in
      absurd cc
]

module _ (z : Sizes) (first second both : Change) (apart : AreApart both.pages.items) (same : (m : PageMap) (o c : ℕ) → after_change both m o c ≡ after_change second (after_change first m) o c) (d : ℕ) where
  both_at : (c i : ℕ) (of : IsPageOf both.pages.items d (1 + c) i) → after_change second (after_change first no_pages) d (1 + c) ≡ Some of.page.bytes.items
  both_at c i of = sym (same no_pages d (1 + c)) ∙ page_at both no_pages apart d (1 + c) i of

  -- the later one is of another object
  pub writes_first : (other : ℕ) → IsOnlyOf second other → d ≢ other → (slots : List Entry) → WritesSlots z first d slots → WritesSlots z both d slots
  writes_first other only apart_of slots writes c i of =
      written_is z first d slots writes c of.page.bytes.items (sym (others_keep second other only (after_change first no_pages) d (1 + c) apart_of) ∙ both_at c i of)

  -- the earlier one is
  pub writes_second : (other : ℕ) → IsOnlyOf first other → d ≢ other → (slots : List Entry) → WritesSlots z second d slots → WritesSlots z both d slots
  writes_second other only apart_of slots writes c i of = written_is z second d slots writes c of.page.bytes.items
      (sym (changed_same second (after_change first no_pages) no_pages d (1 + c) (others_keep first other only no_pages d (1 + c) apart_of)) ∙ both_at c i of)

-- ---- the list without a name

module _ (z : Sizes) (page_size : IsPageSize z.page_bytes) (m : PageMap) (o before : ℕ) (entries : Entries) (r : ReadsDir z (has m) o before entries) (name : Name)
    (place : ℕ) (entry : Entry) (there : slice_get r.slots place ≡ Some entry) (name_is : entry.name ≡ name) (head : DirectoryHead) (count : length r.slots ≡ head.length + 1)
    (change : Change) (loses : LosesSlot z m change o head place) where
  last_of : (l : Entry) × (slice_get r.slots head.length ≡ Some l)
  last_of = slice_get_there r.slots head.length (omega (arith, count))

  abbrev left_slots : List Entry
  left_slots = take head.length (set r.slots place last_of.0)

  left_len : length left_slots ≡ head.length
  left_len = let l = length-take head.length (set r.slots place last_of.0) in omega (arith, l, put_len r.slots place last_of.0, count)

  left_without : IsWithout name r.slots left_slots
  left_without =
      let one : length r.slots - 1 ≡ head.length = omega (arith, count) in
      record {
        place = place;
        entry = entry;
        there = there;
        name_is = name_is;
        last = last_of.0;
        behind = ap (slice_get r.slots) one ∙ last_of.1;
        new_is = ap (λ k. take k (set r.slots place last_of.0)) (sym one);
      }

  left_each : (k : ℕ) (y : Entry) → slice_get left_slots k ≡ Some y → SlotOf z (after_change change m) o k y
  left_each = fewer_each z m (after_change change m) o before entries r page_size.most head.length count place entry there last_of.0 last_of.1 loses.filled loses.others

  left_writes : (bytes most : ℕ) → IsChange change bytes most → z.page_bytes ≡ bytes → WritesSlots z change o left_slots
  left_writes bytes most is size = writes_slots z m change o bytes most is size left_slots (subst (EndsInZeros z change o) (sym left_len) loses.zeros) left_each

  left_becomes : (later : ℕ) → head.spare ≡ r.fields.spare → head.moment ≡ later → ReadsDirectory z (after_change change m) o later (map.remove entries name) r.fields.spare
  left_becomes later spare when =
      subst (λ (k : Name). ReadsDirectory z (after_change change m) o later (map.remove entries k) r.fields.spare) name_is
      (reads_fewer z m (after_change change m) o before later entries r head loses.header spare when page_size.most count place entry there loses.filled loses.others)

  pub taken_out : (later bytes most : ℕ) → head.spare ≡ r.fields.spare → head.moment ≡ later → IsChange change bytes most → z.page_bytes ≡ bytes
      → (HasOnly z m o (head.length + 1) → HasOnly z (after_change change m) o head.length)
      → TakesOut (record { sizes = z; pages = m; object = o; moment = before; entries = entries; reads = r }) later name change
  taken_out later bytes most spare when is size turns =
      let becomes = left_becomes later spare when in
      let counted = count_after z page_size (after_change change m) o later (map.remove entries name) becomes.0 head loses.header in
      record {
        makes = record {
          becomes = becomes;
          ends = λ only. subst (HasOnly z (after_change change m) o) (sym counted) (turns (subst (HasOnly z m o) (entries_len r.slots r.once entries r.entries_are ∙ count) only));
        };
        slots = (left_slots, left_without, left_writes bytes most is size);
      }

-- ---- what is reported of a result

pub rewrites_ok : {E : Type 0} (p : PagesState) (o : ℕ) (Follows : List Entry → List Entry → Type 0) (r : Result Change E)
    → ((z : Sizes) (before : ℕ) (entries : Entries) (d : DirIn p z o before entries) → IfOk r (λ change. (new : List Entry) × Follows d.reads.slots new × WritesSlots z change o new)) → IfOk r (Rewrites p o Follows)
rewrites_ok p o Follows (Ok change) each = each
rewrites_ok p o Follows (Err fault) each = tt
