-- The adding of the pages of one object that follow each other.
use Rattle.std.proofs.Common.{◌≡◌, ℕ, ◌+◌, ◌-◌, ◌<◌, ◌≤◌, List, length, slice_get, Option, Some, None, refl, sym, ap, subst, ◌∙◌, arith, inl, inr}
use Rattle.std.specs.Ordering.{nat_cmp}
use Rattle.std.specs.BTreeMap.{get, WritesThrough}
use Rattle.std.proofs.lemmas.Bool.{cases_eq, cases_lt}
use Rattle.volume_terms.specs.laws.List.{sum_ones}
use Rattle.volume_terms.specs.laws.Number.{not_at}
use Rattle.nand_model.specs.declared.geometry.Geometry.{Geometry}
use Rattle.block_state.specs.Table.{Table}
use Rattle.chunk_index.specs.declared.form.CommittedKey.{CommittedKey}
use Rattle.chunk_index.specs.declared.entry.KeyEntry.{KeyEntry}
use Rattle.chunk_index.specs.declared.object.ObjectEntries.{ObjectEntries}
use Rattle.chunk_index.specs.Adding.{AddsChunks, AddsFirst, AddsRun, AreAbsent, AreAbsentFrom, AreNewFrom, AreOfOtherKeys, ArePagesOf, MayAdd}
use Rattle.chunk_index.specs.Counts.{HasRoom, Recounts}
use Rattle.chunk_index.specs.Entries.{chunk, committed_at, counted_at, one_at, same_of, weigh, weight, Alters, IsSmall}
use Rattle.chunk_index.specs.Lists.{find_by}
use Rattle.chunk_index.specs.Shelves.{ObjectMap, look, total, SameEntries}
use Rattle.chunk_index.proofs.Adding.{not_of, one_page}
use Rattle.chunk_index.proofs.Counting.{recounts_here, recounts_more, recounts_on}
use Rattle.chunk_index.proofs.Gathering.{weigh_most}
use Rattle.chunk_index.proofs.Shelving.{look_in, look_other, sums, there}

-- ---- among the entries of an object

-- nothing was added as yet
pub chunks_none : (ks : List CommittedKey) (from : ℕ) (es : List KeyEntry) (t : Table) → AddsChunks ks from from es es t t
chunks_none ks from es t = record {
  done = λ i k le lt at. absurd (omega (arith, le, lt));
  rest = λ c none. refl;
  same = λ c. refl;
  size = refl;
  counts = recounts_here (λ b. refl);
}

pub pages_none : (ks : List CommittedKey) (from o : ℕ) → ArePagesOf ks from from o
pages_none ks from o i k le lt at = absurd (omega (arith, le, lt))

pub pages_more : (ks : List CommittedKey) (from n o : ℕ) (x : CommittedKey) → ArePagesOf ks from n o → slice_get ks n ≡ Some x → x.key.object ≡ o → ArePagesOf ks from (n + 1) o
pages_more ks from n o x was at object i k le lt there = elim (cases_eq i n) [
  | inl here ↦ subst (λ (y : CommittedKey). y.key.object ≡ o) (one_page ks n x k at (subst (λ j. slice_get ks j ≡ Some k) here there)) object
  | inr ne ↦ was i k le (omega (arith, lt, ne)) there
]

-- of one object no two pages are of one chunk
other_chunk : (ks : List CommittedKey) (i n : ℕ) (k x : CommittedKey) → AreOfOtherKeys ks → i < n → slice_get ks i ≡ Some k → slice_get ks n ≡ Some x → k.key.object ≡ x.key.object → k.key.chunk ≡ x.key.chunk → ⊥
other_chunk ks i n k x once lt there at object chunk = elim (once i n k x lt there at) [ inl ne ↦ ne (sym object) | inr ne ↦ ne (sym chunk) ]

-- a page fits in an entry
pub page_small : (ks : List CommittedKey) (g : Geometry) (n : ℕ) (x : CommittedKey) → MayAdd ks g → slice_get ks n ≡ Some x → IsSmall (committed_at x.key.chunk (Some x.at))
page_small ks g n x may at = record {
  page =
      let block = may.within n x at in
      let page = may.pages n x at in
      (omega (arith, block, g.most_blocks), omega (arith, page, g.most_pages));
  state = tt;
  low = may.low n x at;
}

-- where so many pages have room in the count, one has
pub page_room : (t : Table) (es : List KeyEntry) (n : ℕ) → HasRoom t (λ b. weigh (counted_at b) es) n → length es < n → HasRoom t (one_at None) 1
page_room t es n all lt = record {
  sufficient = λ b. omega arith;
  room = λ b.
      let room : (t.entry b).committed + n ≤ 4294967295 + weigh (counted_at b) es = all.room b in
      let most = weigh_most b es in
      omega (arith, room, most, lt);
  within = λ b le. refl;
}

module _ (ks : List CommittedKey) (from n : ℕ) (old mid : List KeyEntry) (t u : Table) (x : CommittedKey) (once : AreOfOtherKeys ks) (at : slice_get ks n ≡ Some x) (le : from ≤ n)
    (was : AddsChunks ks from n old mid t u) (of : ArePagesOf ks from n x.key.object) where
  -- the chunk of the next page has no entry
  pub chunk_absent : (o : ℕ) → AreNewFrom from ks o old → x.key.object ≡ o → find_by chunk mid x.key.chunk ≡ None
  chunk_absent o new object = was.rest x.key.chunk (λ i k ge lt there is. other_chunk ks i n k x once lt there at (of i k ge lt there) is) ∙ new n x le at object

  -- one page more
  pub chunks_more : (new : List KeyEntry) (v : Table) → find_by chunk mid x.key.chunk ≡ None → Alters x.key.chunk (Some (committed_at x.key.chunk (Some x.at))) mid new
      → Recounts (one_at None) (one_at (Some x.at)) u v → AddsChunks ks from (n + 1) old new t v
  chunks_more new v none alters counts = record {
    done = λ i k ge lt there. elim (cases_eq i n) [
      | inl here ↦
          let equal : x ≡ k = one_page ks n x k at (subst (λ j. slice_get ks j ≡ Some k) here there) in
          subst (λ (y : CommittedKey). find_by chunk new y.key.chunk ≡ Some (committed_at y.key.chunk (Some y.at))) equal alters.here
      | inr ne ↦
          let less : i < n = omega (arith, lt, ne) in
          alters.others k.key.chunk (λ is. other_chunk ks i n k x once less there at (of i k ge less there) is) ∙ was.done i k ge less there
    ];
    rest = λ c not. alters.others c (λ is. not n x le (omega arith) at (sym is)) ∙ was.rest c (λ i k ge lt there. not i k ge (omega (arith, lt)) there);
    same = λ c. elim (cases_eq c x.key.chunk) [
      | inl is ↦ ap (λ q. same_of (find_by chunk new q)) is ∙ ap same_of alters.here ∙ sym (ap (λ q. same_of (find_by chunk mid q)) is ∙ ap same_of none) ∙ was.same c
      | inr ne ↦ ap same_of (alters.others c ne) ∙ was.same c
    ];
    size =
        let sum = alters.weighs (λ (e : KeyEntry). 1) in
        let zero : weight (λ (e : KeyEntry). 1) (find_by chunk mid x.key.chunk) ≡ 0 = ap (weight (λ (e : KeyEntry). 1)) none in
        let one : weigh (λ (e : KeyEntry). 1) mid ≡ length mid = sum_ones mid in
        let two : weigh (λ (e : KeyEntry). 1) new ≡ length new = sum_ones new in
        omega (arith, sum, zero, one, two, was.size);
    counts = recounts_on was.counts (recounts_more (λ b.
        let sum = alters.weighs (counted_at b) in
        let zero : weight (counted_at b) (find_by chunk mid x.key.chunk) ≡ 0 = ap (weight (counted_at b)) none in
        omega (arith, sum, zero)) counts);
  }

-- ---- among the entries of all objects

pub run_none : (ks : List CommittedKey) (from : ℕ) (m : ObjectMap) → AddsRun ks from from m m
run_none ks from m = record {
  done = λ i k le lt at. absurd (omega (arith, le, lt));
  rest = λ o c none. refl;
  same = λ o c. refl;
}

-- the pages from a place on have no entries among those of an object
pub new_in : (ks : List CommittedKey) (from o : ℕ) (m : ObjectMap) (x : ObjectEntries) → get nat_cmp m o ≡ Some x → AreAbsentFrom from ks m → AreNewFrom from ks o x.entries.items
new_in ks from o m x found absent i k le at object = sym (ap (λ q. look m q k.key.chunk) object ∙ look_in m o k.key.chunk x found) ∙ absent i k le at

module _ (ks : List CommittedKey) (from end o : ℕ) (m n : ObjectMap) (t u : Table) (x y : ObjectEntries) (found : get nat_cmp m o ≡ Some x) (through : WritesThrough nat_cmp (nat_cmp o) m y n)
    (was : AddsChunks ks from end x.entries.items y.entries.items t u) (of : ArePagesOf ks from end o) where
  reported : (c : ℕ) → look n o c ≡ find_by chunk y.entries.items c
  reported c = look_in n o c y (through.3 (there o m n x y found through)).1

  -- what was added to the entries of an object was written through a loan of it
  pub run_written : AddsRun ks from end m n
  run_written = record {
    done = λ i k le lt at. ap (λ q. look n q k.key.chunk) (of i k le lt at) ∙ reported k.key.chunk ∙ was.done i k le lt at;
    rest = λ q c none. elim (cases_eq q o) [
      | inr ne ↦ look_other m n q c ((through.3 (there o m n x y found through)).2 q (not_at o q ne))
      | inl e ↦
          ap (λ z. look n z c) e ∙ reported c ∙ was.rest c (λ i k le lt at is. none i k le lt at (of i k le lt at ∙ sym e, is)) ∙ sym (look_in m o c x found) ∙ ap (λ z. look m z c) (sym e)
    ];
    same = λ q c. elim (cases_eq q o) [
      | inr ne ↦ ap same_of (look_other m n q c ((through.3 (there o m n x y found through)).2 q (not_at o q ne)))
      | inl e ↦ ap (λ z. same_of (look n z c)) e ∙ ap same_of (reported c) ∙ was.same c ∙ sym (ap same_of (look_in m o c x found)) ∙ ap (λ z. same_of (look m z c)) (sym e)
    ];
  }

-- ---- one run after another

-- the pages from a place on have no entries still
pub absent_from : (ks : List CommittedKey) (n : ℕ) (old mid : ObjectMap) → AreOfOtherKeys ks → AreAbsent ks old → AddsFirst ks n old mid → AreAbsentFrom n ks mid
absent_from ks n old mid once absent adds i k le at =
    adds.rest k.key.object k.key.chunk (λ j l lt there. not_of l k.key.object k.key.chunk (once j i l k (omega (arith, lt, le)) there at)) ∙ absent i k at

-- pages whose keys have the entries that they had
pub absent_same : (ks : List CommittedKey) (n : ℕ) (old new : ObjectMap) → SameEntries old new → AreAbsentFrom n ks old → AreAbsentFrom n ks new
absent_same ks n old new same absent i k le at = same.looks k.key.object k.key.chunk ∙ absent i k le at

-- one run more
pub adds_run : (ks : List CommittedKey) (n end : ℕ) (first old new : ObjectMap) → AreOfOtherKeys ks → n ≤ end → AddsFirst ks n first old → AddsRun ks n end old new → AddsFirst ks end first new
adds_run ks n end first old new once le was run = record {
  done = λ i k lt at. elim (cases_lt i n) [
    | inl less ↦
        run.rest k.key.object k.key.chunk (λ j l ge below there of. elim (once i j k l (omega (arith, less, ge)) at there) [ inl ne ↦ ne of.0 | inr ne ↦ ne of.1 ]) ∙ was.done i k less at
    | inr ge ↦ run.done i k ge lt at
  ];
  rest = λ o c none. run.rest o c (λ i k ge lt at. none i k lt at) ∙ was.rest o c (λ i k lt at. none i k (omega (arith, lt, le)) at);
}

-- a run among the same entries
pub run_same : (ks : List CommittedKey) (n end : ℕ) (old mid new : ObjectMap) → SameEntries old mid → AddsRun ks n end mid new → AddsRun ks n end old new
run_same ks n end old mid new same run = record {
  done = run.done;
  rest = λ o c none. run.rest o c none ∙ same.looks o c;
  same = λ o c. run.same o c ∙ ap same_of (same.looks o c);
}

-- as many entries more as pages were added
pub grown_size : (ks : List CommittedKey) (from end o : ℕ) (m n : ObjectMap) (t u : Table) (x y : ObjectEntries) → get nat_cmp m o ≡ Some x → WritesThrough nat_cmp (nat_cmp o) m y n → AddsChunks ks from end x.entries.items y.entries.items t u → from ≤ end
    → (size : ℕ) → total (λ (e : KeyEntry). 1) m ≡ size → total (λ (e : KeyEntry). 1) n ≡ size + (end - from)
grown_size ks from end o m n t u x y found through was le size totaled =
    let sum = sums o m n x y found through (λ (e : KeyEntry). 1) in
    let one : weigh (λ (e : KeyEntry). 1) x.entries.items ≡ length x.entries.items = sum_ones x.entries.items in
    let two : weigh (λ (e : KeyEntry). 1) y.entries.items ≡ length y.entries.items = sum_ones y.entries.items in
    omega (arith, sum, one, two, was.size, le, totaled)
