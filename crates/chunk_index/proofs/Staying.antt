-- What is reported of all keys, and what is in the count, where only some keys of one object after another stay.
use Rattle.std.proofs.Common.{◌≡◌, ◌⊎◌, ℕ, ◌+◌, ◌-◌, ◌<◌, ◌≤◌, length, Bool, true, Option, Some, None, IsSome, refl, sym, ap, subst, ◌∙◌, arith, inl, inr}
use Rattle.std.specs.Ordering.{nat_cmp}
use Rattle.std.specs.List.{sum_by}
use Rattle.std.specs.Option.{option_and_then}
use Rattle.std.specs.BTreeMap.{is_at, get, WritesThrough}
use Rattle.std.proofs.lemmas.Bool.{cases_eq, cases_lt}
use Rattle.std.proofs.lemmas.Map.Entries.{sum_by-remove_entry}
use Rattle.volume_terms.specs.laws.List.{sum_ones}
use Rattle.volume_terms.specs.laws.Number.{not_at}
use Rattle.block_state.specs.Table.{Table}
use Rattle.chunk_index.specs.declared.entry.KeyEntry.{KeyEntry}
use Rattle.chunk_index.specs.declared.object.ObjectEntries.{ObjectEntries}
use Rattle.chunk_index.specs.declared.index.Index.{Index}
use Rattle.chunk_index.specs.Entries.{chunk, weigh, counted_at, committed_of, present_of, stays_of}
use Rattle.chunk_index.specs.Shelves.{ObjectMap, entry_of, look, total, SameEntries, IsAfterNumber, IsNextObject}
use Rattle.chunk_index.specs.Counts.{Recounts, HasCounted, Tallies}
use Rattle.chunk_index.specs.Retained.{retained_reported, retained_of, RetainsObject}
use Rattle.chunk_index.specs.Maps.{Retains}
use Rattle.chunk_index.proofs.Counting.{recounts_more}
use Rattle.chunk_index.proofs.Shelving.{look_in, look_other, there, sums}
use Rattle.chunk_index.proofs.Retaining.{find_retained, retained_stays, retained_committed, retained_present}

-- ---- one object

-- what its entries add is part of what all add
pub object_part : (f : KeyEntry → ℕ) (m : ObjectMap) (o : ℕ) (x : ObjectEntries) → get nat_cmp m o ≡ Some x → weigh f x.entries.items ≤ total f m
object_part f m o x is =
    let g = λ (z : ObjectEntries). weigh f z.entries.items in
    let all = sum_by-remove_entry g (is_at (nat_cmp o)) m.entries in
    let here = ap (λ v. Rattle.std.specs.Option.unwrap_or (Rattle.std.specs.Option.option_map g v) 0) is in
    omega (arith, all, here)

-- so its pages are in the count
pub object_counted : (t : Table) (m : ObjectMap) (o : ℕ) (x : ObjectEntries) → get nat_cmp m o ≡ Some x → Tallies t m → HasCounted t (λ b. weigh (counted_at b) x.entries.items)
object_counted t m o x is tallies = record {
  sufficient = λ b.
      let all : (t.entry b).committed ≡ total (counted_at b) m = tallies.counts b in
      omega (arith, all, object_part (counted_at b) m o x is);
  within = λ b le.
      let none : total (counted_at b) m ≡ 0 = tallies.within b le in
      omega (arith, none, object_part (counted_at b) m o x is);
}

-- it has no more entries than there are
pub object_size : (m : ObjectMap) (o : ℕ) (x : ObjectEntries) → get nat_cmp m o ≡ Some x → (size : ℕ) → total (λ (e : KeyEntry). 1) m ≡ size → length x.entries.items ≤ size
object_size m o x is size totaled =
    let part = object_part (λ (e : KeyEntry). 1) m o x is in
    let ones : weigh (λ (e : KeyEntry). 1) x.entries.items ≡ length x.entries.items = sum_ones x.entries.items in
    omega (arith, part, ones, totaled)

module _ (o : ℕ) (m n : ObjectMap) (x y : ObjectEntries) (found : get nat_cmp m o ≡ Some x) (through : WritesThrough nat_cmp (nat_cmp o) m y n) where
  -- where so many entries went
  pub gone_size : (gone size : ℕ) → length y.entries.items + gone ≡ length x.entries.items → total (λ (e : KeyEntry). 1) m ≡ size → total (λ (e : KeyEntry). 1) n ≡ size - gone
  gone_size gone size less totaled =
      let sum = sums o m n x y found through (λ (e : KeyEntry). 1) in
      let one : weigh (λ (e : KeyEntry). 1) x.entries.items ≡ length x.entries.items = sum_ones x.entries.items in
      let two : weigh (λ (e : KeyEntry). 1) y.entries.items ≡ length y.entries.items = sum_ones y.entries.items in
      omega (arith, sum, one, two, less, totaled)

  pub gone_retains : (keeps : ℕ → Bool) → y.entries.items ≡ retained_of keeps x.entries.items → RetainsObject o keeps m n
  gone_retains keeps is = record {
    here = λ c.
        look_in n o c y (through.3 (there o m n x y found through)).1 ∙ ap (λ es. Rattle.chunk_index.specs.Lists.find_by chunk es c) is ∙ find_retained keeps x.entries.items x.rises c
        ∙ sym (ap (retained_reported (keeps c)) (look_in m o c x found));
    others = λ k l ne. look_other m n k l ((through.3 (there o m n x y found through)).2 k (not_at o k ne));
  }

  pub gone_counts : (t u : Table) → Recounts (λ b. weigh (counted_at b) x.entries.items) (λ b. weigh (counted_at b) y.entries.items) t u
      → Recounts (λ b. total (counted_at b) m) (λ b. total (counted_at b) n) t u
  gone_counts t u counts = recounts_more (λ b. let sum = sums o m n x y found through (counted_at b) in omega (arith, sum)) counts

  pub gone_tallies : (t u : Table) → Recounts (λ b. weigh (counted_at b) x.entries.items) (λ b. weigh (counted_at b) y.entries.items) t u → Tallies t m → Tallies u n
  gone_tallies t u counts tallies =
      let all = gone_counts t u counts in
      let same : (b : ℕ) → (u.entry b).committed ≡ total (counted_at b) n = λ b.
      let was : (t.entry b).committed ≡ total (counted_at b) m = tallies.counts b in
      let is : (u.entry b).committed + total (counted_at b) m ≡ (t.entry b).committed + total (counted_at b) n = all.committed b in
      omega (arith, was, is) in
      record {
        counts = same;
        within = λ b le.
            let out : t.geometry.blocks ≤ b = subst (λ (g : _). g.blocks ≤ b) all.geometry le in
            let stays : (u.entry b).committed ≡ (t.entry b).committed = all.outside b out in
            let was : (t.entry b).committed ≡ total (counted_at b) m = tallies.counts b in
            let none : total (counted_at b) m ≡ 0 = tallies.within b out in
            let is : (u.entry b).committed ≡ total (counted_at b) n = same b in
            omega (arith, stays, was, none, is);
      }

-- the same entries after
pub retains_then_same : (keeps : ℕ → Bool) (o : ℕ) (m n p : ObjectMap) → RetainsObject o keeps m n → SameEntries n p → RetainsObject o keeps m p
retains_then_same keeps o m n p retains same = record {
  here = λ c. same.looks o c ∙ retains.here c;
  others = λ k l ne. same.looks k l ∙ retains.others k l ne;
}

pub tallies_then_same : (t : Table) (m n : ObjectMap) → Tallies t m → SameEntries m n → Tallies t n
tallies_then_same t m n tallies same = record { counts = λ b. tallies.counts b ∙ sym (same.weighs (counted_at b)); within = λ b le. same.weighs (counted_at b) ∙ tallies.within b le }

pub counts_then_same : (t u : Table) (m n p : ObjectMap) → Recounts (λ b. total (counted_at b) m) (λ b. total (counted_at b) n) t u → SameEntries n p
    → Recounts (λ b. total (counted_at b) m) (λ b. total (counted_at b) p) t u
counts_then_same t u m n p counts same = recounts_more (λ b. let e = same.weighs (counted_at b) in omega (arith, e)) counts

-- ---- one object after another

-- the keys of all objects but those after a number stayed or went, and no others changed
pub record Retaining (keeps : ℕ → ℕ → Bool) (done : Option ℕ) (old new : ObjectMap) : Type 0 where
  pub each : (o c : ℕ) → (IsAfterNumber o done → ⊥) → look new o c ≡ retained_reported (keeps o c) (look old o c)
  pub rest : (o c : ℕ) → IsAfterNumber o done → look new o c ≡ look old o c

pub retaining_none : (keeps : ℕ → ℕ → Bool) (m : ObjectMap) → Retaining keeps None m m
retaining_none keeps m = record { each = λ o c not. absurd (not tt); rest = λ o c after. refl }

pub after_or_not : (k : ℕ) (done : Option ℕ) → IsAfterNumber k done ⊎ (IsAfterNumber k done → ⊥)
after_or_not k None = inl tt
after_or_not k (Some o) = elim (cases_lt o k) [ inl lt ↦ inl lt | inr ge ↦ inr (λ lt. omega (arith, ge, lt)) ]

after_more : (k o : ℕ) (done : Option ℕ) → IsAfterNumber o done → o < k → IsAfterNumber k done
after_more k o None after lt = tt
after_more k o (Some n) after lt = omega (arith, after, lt)

pub none_reported : (m : ObjectMap) (o c : ℕ) → get nat_cmp m o ≡ None → look m o c ≡ None
none_reported m o c none = ap (option_and_then (entry_of c)) none

-- a key that had no entry has none
none_retained : (stays : Bool) (m n : ObjectMap) (o c : ℕ) → look n o c ≡ None → look m o c ≡ None → look n o c ≡ retained_reported stays (look m o c)
none_retained stays m n o c new old = new ∙ sym (ap (retained_reported stays) old)

pub retaining_more : (keeps : ℕ → ℕ → Bool) (done : Option ℕ) (o : ℕ) (old mid new : ObjectMap) → Retaining keeps done old mid → IsNextObject mid done (Some o) → RetainsObject o (keeps o) mid new → Retaining keeps (Some o) old new
retaining_more keeps done o old mid new was next retains = record {
  each = λ k c not. elim (cases_eq k o) [
    | inl e ↦ subst (λ j. look new j c ≡ retained_reported (keeps j c) (look old j c)) (sym e) (retains.here c ∙ ap (retained_reported (keeps o c)) (was.rest o c next.1))
    | inr ne ↦ elim (after_or_not k done) [
      | inl after ↦
          let none : look mid k c ≡ None = none_reported mid k c (next.2 k after (elim (cases_lt o k) [ inl lt ↦ absurd (not lt) | inr ge ↦ omega (arith, ge, ne) ])) in
          none_retained (keeps k c) old new k c (retains.others k c ne ∙ none) (sym (was.rest k c after) ∙ none)
      | inr before ↦ retains.others k c ne ∙ was.each k c before
    ]
  ];
  rest = λ k c lt. retains.others k c (λ e. omega (arith, lt, e)) ∙ was.rest k c (after_more k o done next.1 lt);
}

pub retaining_all : (keeps : ℕ → ℕ → Bool) (done : Option ℕ) (old new : ObjectMap) → Retaining keeps done old new → IsNextObject new done None → (o c : ℕ) → look new o c ≡ retained_reported (keeps o c) (look old o c)
retaining_all keeps done old new was last o c = elim (after_or_not o done) [
  | inl after ↦ let none = none_reported new o c (last o after) in none_retained (keeps o c) old new o c none (sym (was.rest o c after) ∙ none)
  | inr before ↦ was.each o c before
]

-- what is left to be done
abbrev pub ahead : Option ℕ → ℕ → ℕ
ahead None most = most + 1
ahead (Some o) most = most - o

-- ---- what an index reports

pub retains_of : (keeps : ℕ → ℕ → Bool) (x y : Index) → ((o c : ℕ) → look y.shelf.objects o c ≡ retained_reported (keeps o c) (look x.shelf.objects o c)) → Retains keeps x y
retains_of keeps x y looks = record {
  committed = λ o c is. ap committed_of (stays o c is);
  present = λ o c is. ap present_of (stays o c is);
  prepared = λ o c is some. subst IsSome (sym (stays o c is)) some;
  has_room = λ o c is some. ap stays_of (stays o c is) ∙ some;
  committed_no_more = λ o c is. ap committed_of (looks o c) ∙ retained_committed (keeps o c) (look x.shelf.objects o c) is;
  present_no_more = λ o c is. ap present_of (looks o c) ∙ retained_present (keeps o c) (look x.shelf.objects o c) is;
} where
  stays : (o c : ℕ) → keeps o c ≡ true → look y.shelf.objects o c ≡ look x.shelf.objects o c
  stays o c is = looks o c ∙ retained_stays (keeps o c) (look x.shelf.objects o c) is
