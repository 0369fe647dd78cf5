-- How counts follow from one change to the next, and what room a key has.
use Rattle.std.proofs.Common.{◌≡◌, ℕ, ◌+◌, ◌-◌, ◌<◌, ◌≤◌, List, [], ◌∷◌, Option, Some, None, IsSome, refl, sym, ap, subst, ◌∙◌, arith, inl, inr}
use mathlib.Core.Bool.{false≢true}
use Rattle.std.specs.List.{sum_by}
use Rattle.std.specs.Option.{option_and_then}
use Rattle.std.specs.Ordering.{nat_cmp}
use Rattle.std.specs.BTreeMap.{is_at, get, values}
use Rattle.std.proofs.lemmas.Bool.{cases_eq, cases_lt}
use Rattle.std.proofs.lemmas.Bool.Decides.{nat_tests}
use Rattle.std.proofs.lemmas.List.Sums.{sum_by-cons}
use Rattle.std.proofs.lemmas.Map.Entries.{sum_by-remove_entry}
use Rattle.block_state.specs.Table.{Table}
use Rattle.chunk_index.specs.declared.entry.KeyEntry.{KeyEntry}
use Rattle.chunk_index.specs.declared.object.ObjectEntries.{ObjectEntries}
use Rattle.chunk_index.specs.declared.form.CommittedPage.{CommittedPage}
use Rattle.chunk_index.specs.Lists.{find_by}
use Rattle.chunk_index.specs.Entries.{chunk, weight, weigh, one_at, counted_at, committed_of}
use Rattle.chunk_index.specs.Shelves.{ObjectMap, entry_of, look, total, AltersKey}
use Rattle.chunk_index.specs.Counts.{Recounts, HasRoom, HasCounted, Tallies}

-- after a change there is room for what is in the count then
pub room_after : {t u : Table} {f g : ℕ → ℕ} {n : ℕ} → HasRoom t f n → Recounts f g t u → HasRoom u g n
room_after {t} {u} {f} {g} {n} r c = record {
  sufficient = λ b.
      let one : f b ≤ (t.entry b).committed = r.sufficient b in
      let two : (u.entry b).committed + f b ≡ (t.entry b).committed + g b = c.committed b in
      omega (arith, one, two);
  room = λ b.
      let one : (t.entry b).committed + n ≤ 4294967295 + f b = r.room b in
      let two : (u.entry b).committed + f b ≡ (t.entry b).committed + g b = c.committed b in
      omega (arith, one, two);
  within = λ b le.
      let was : t.geometry.blocks ≤ b = subst (λ (x : _). x.blocks ≤ b) c.geometry le in
      let one : f b ≡ 0 = r.within b was in
      let two : (u.entry b).committed + f b ≡ (t.entry b).committed + g b = c.committed b in
      let three : (u.entry b).committed ≡ (t.entry b).committed = c.outside b was in
      omega (arith, one, two, three);
}

-- one change after another
pub recounts_on : {t u v : Table} {f g h : ℕ → ℕ} → Recounts f g t u → Recounts g h u v → Recounts f h t v
recounts_on {t} {u} {v} {f} {g} {h} c d = record {
  committed = λ b.
      let one : (u.entry b).committed + f b ≡ (t.entry b).committed + g b = c.committed b in
      let two : (v.entry b).committed + g b ≡ (u.entry b).committed + h b = d.committed b in
      omega (arith, one, two);
  outside = λ b le. d.outside b (subst (λ (x : _). x.blocks ≤ b) (sym c.geometry) le) ∙ c.outside b le;
  bad = λ b. d.bad b ∙ c.bad b;
  seq = λ b. d.seq b ∙ c.seq b;
  next = λ b. d.next b ∙ c.next b;
  geometry = d.geometry ∙ c.geometry;
  open_block = d.open_block ∙ c.open_block;
  checkpoint = d.checkpoint ∙ c.checkpoint;
  next_seq = d.next_seq ∙ c.next_seq;
  next_group = d.next_group ∙ c.next_group;
}

-- no change
pub recounts_here : {t : Table} {f g : ℕ → ℕ} → ((b : ℕ) → g b ≡ f b) → Recounts f g t t
recounts_here {t} {f} {g} same = record {
  committed = λ b. let e : g b ≡ f b = same b in omega (arith, e);
  outside = λ b le. refl;
  bad = λ b. refl;
  seq = λ b. refl;
  next = λ b. refl;
  geometry = refl;
  open_block = refl;
  checkpoint = refl;
  next_seq = refl;
  next_group = refl;
}

-- the same change, where more is in the count
pub recounts_more : {t u : Table} {f g h k : ℕ → ℕ} → ((b : ℕ) → h b + f b ≡ k b + g b) → Recounts f g t u → Recounts k h t u
recounts_more {t} {u} {f} {g} {h} {k} more c = record {
  committed = λ b.
      let one : h b + f b ≡ k b + g b = more b in
      let two : (u.entry b).committed + f b ≡ (t.entry b).committed + g b = c.committed b in
      omega (arith, one, two);
  outside = c.outside;
  bad = c.bad;
  seq = c.seq;
  next = c.next;
  geometry = c.geometry;
  open_block = c.open_block;
  checkpoint = c.checkpoint;
  next_seq = c.next_seq;
  next_group = c.next_group;
}

-- a page that is in the count lies on the device
pub counted_block : (t : Table) (p : CommittedPage) → HasCounted t (one_at (Some p)) → p.block < t.geometry.blocks
counted_block t p r = elim (cases_lt p.block t.geometry.blocks) [
  | inl lt ↦ lt
  | inr ge ↦ let none : one_at (Some p) p.block ≡ 0 = r.within p.block ge in absurd (grind (arith, nat_tests, none))
]

-- ---- one key among all

-- what an entry adds is part of what all of its object add
pub part_of_object : (f : KeyEntry → ℕ) (es : List KeyEntry) (c : ℕ) → weight f (find_by chunk es c) ≤ weigh f es
part_of_object f [] c = omega arith
part_of_object f (e ∷ es) c =
    let all : weigh f (e ∷ es) ≡ f e + weigh f es = sum_by-cons f e es in
    elim (cases_eq (chunk e) c) [
      | inl is ↦ let here : find_by chunk (e ∷ es) c ≡ Some e = grind (arith, nat_tests, is) in let reported : weight f (find_by chunk (e ∷ es) c) ≡ f e = ap (weight f) here in omega (arith, all, reported)
      | inr ne ↦
          let there : find_by chunk (e ∷ es) c ≡ find_by chunk es c = grind (arith, nat_tests, ne) in
          let reported : weight f (find_by chunk (e ∷ es) c) ≡ weight f (find_by chunk es c) = ap (weight f) there in
          let rest = part_of_object f es c in
          omega (arith, all, reported, rest)
    ]

-- and of what all add
pub part_of_all : (f : KeyEntry → ℕ) (m : ObjectMap) (o c : ℕ) → weight f (look m o c) ≤ total f m
part_of_all f m o c = go (get nat_cmp m o) refl where
  go : (v : Option ObjectEntries) → get nat_cmp m o ≡ v → weight f (look m o c) ≤ total f m
  go None is = let none : weight f (look m o c) ≡ 0 = ap (λ v. weight f (option_and_then (entry_of c) v)) is in omega (arith, none)
  go (Some x) is =
      let g = λ (z : ObjectEntries). weigh f z.entries.items in
      let reported : weight f (look m o c) ≡ weight f (find_by chunk x.entries.items c) = ap (λ v. weight f (option_and_then (entry_of c) v)) is in
      let one = part_of_object f x.entries.items c in
      let all = sum_by-remove_entry g (is_at (nat_cmp o)) m.entries in
      let here = ap (λ v. Rattle.std.specs.Option.unwrap_or (Rattle.std.specs.Option.option_map g v) 0) is in
      omega (arith, reported, one, all, here)

-- sums of two add up
pub two_sums : {X : Type 0} (f g h : X → ℕ) → ((x : X) → f x + g x ≡ h x) → (xs : List X) → sum_by f xs + sum_by g xs ≡ sum_by h xs
two_sums f g h each [] = refl
two_sums f g h each (x ∷ xs) =
    let one = sum_by-cons f x xs in
    let two = sum_by-cons g x xs in
    let three = sum_by-cons h x xs in
    let here : f x + g x ≡ h x = each x in
    let rest = two_sums f g h each xs in
    omega (arith, one, two, three, here, rest)

-- where one entry adds less than 1, all add less than there are
pub less_than_all : (f : KeyEntry → ℕ) → ((e : KeyEntry) → f e ≤ 1) → (m : ObjectMap) (o c : ℕ) → IsSome (look m o c) → total f m + 1 ≤ total (λ (e : KeyEntry). 1) m + weight f (look m o c)
less_than_all f most m o c some =
    let g : KeyEntry → ℕ = λ e. 1 - f e in
    let split : total f m + total g m ≡ total (λ (e : KeyEntry). 1) m =
    two_sums (λ (x : ObjectEntries). weigh f x.entries.items) (λ (x : ObjectEntries). weigh g x.entries.items) (λ (x : ObjectEntries). weigh (λ (e : KeyEntry). 1) x.entries.items) (λ x. two_sums f g (λ (e : KeyEntry). 1) (λ e. let le = most e in omega (arith, le)) x.entries.items) (values m) in
    let part = part_of_all g m o c in
    let whole : weight f (look m o c) + weight g (look m o c) ≡ 1 = go (look m o c) some in
    omega (arith, split, part, whole) where
      go : (v : Option KeyEntry) → IsSome v → weight f v + weight (λ e. 1 - f e) v ≡ 1
      go None is = absurd (false≢true is)
      go (Some e) is = let le : f e ≤ 1 = most e in omega (arith, le)

-- a page is in one block
pub one_most : (p : Option CommittedPage) (b : ℕ) → one_at p b ≤ 1
one_most None b = omega arith
one_most (Some p) b = elim (cases_eq p.block b) [
  | inl is ↦ grind (arith, nat_tests, is)
  | inr ne ↦ grind (arith, nat_tests, ne)
]

pub reported_count : (v : Option KeyEntry) (b : ℕ) → weight (counted_at b) v ≡ one_at (committed_of v) b
reported_count None b = refl
reported_count (Some e) b = refl

-- a key has room to be in the count elsewhere
pub room_for : (t : Table) (m : ObjectMap) (o c : ℕ) → Tallies t m → IsSome (look m o c) → (size : ℕ) → total (λ (e : KeyEntry). 1) m ≡ size → size < 4294967296 → HasRoom t (one_at (committed_of (look m o c))) 1
room_for t m o c tallies some size totaled within_limit = record {
  sufficient = λ b.
      let all : (t.entry b).committed ≡ total (counted_at b) m = tallies.counts b in
      let part = part_of_all (counted_at b) m o c in
      let reported = reported_count (look m o c) b in
      omega (arith, all, part, reported);
  room = λ b.
      let all : (t.entry b).committed ≡ total (counted_at b) m = tallies.counts b in
      let less = less_than_all (counted_at b) (λ e. one_most e.committed b) m o c some in
      let reported = reported_count (look m o c) b in
      omega (arith, all, less, reported, totaled, within_limit);
  within = λ b le.
      let none : total (counted_at b) m ≡ 0 = tallies.within b le in
      let part = part_of_all (counted_at b) m o c in
      let reported = reported_count (look m o c) b in
      omega (arith, none, part, reported);
}

-- the counts follow the change of one key
pub tallies_altered : (t u : Table) (m n : ObjectMap) (o c : ℕ) (to : Option KeyEntry) → AltersKey o c to m n → Recounts (one_at (committed_of (look m o c))) (one_at (committed_of to)) t u → Tallies t m → Tallies u n
tallies_altered t u m n o c to alters recounts tallies = record {
  counts = λ b.
      let was : (t.entry b).committed ≡ total (counted_at b) m = tallies.counts b in
      let sum = alters.weighs (counted_at b) in
      let is : (u.entry b).committed + one_at (committed_of (look m o c)) b ≡ (t.entry b).committed + one_at (committed_of to) b = recounts.committed b in
      omega (arith, was, sum, is, reported_count (look m o c) b, reported_count to b);
  within = λ b le.
      let out : t.geometry.blocks ≤ b = subst (λ (x : _). x.blocks ≤ b) recounts.geometry le in
      let was : (t.entry b).committed ≡ total (counted_at b) m = tallies.counts b in
      let none : total (counted_at b) m ≡ 0 = tallies.within b out in
      let sum = alters.weighs (counted_at b) in
      let is : (u.entry b).committed + one_at (committed_of (look m o c)) b ≡ (t.entry b).committed + one_at (committed_of to) b = recounts.committed b in
      let same : (u.entry b).committed ≡ (t.entry b).committed = recounts.outside b out in
      omega (arith, was, none, sum, is, same, reported_count (look m o c) b, reported_count to b);
}

pub recounts_altered : (t u : Table) (m n : ObjectMap) (o c : ℕ) (to : Option KeyEntry) → AltersKey o c to m n → Recounts (one_at (committed_of (look m o c))) (one_at (committed_of to)) t u
    → Recounts (λ b. total (counted_at b) m) (λ b. total (counted_at b) n) t u
recounts_altered t u m n o c to alters recounts = recounts_more (λ b.
    let sum = alters.weighs (counted_at b) in
    omega (arith, sum, reported_count (look m o c) b, reported_count to b)) recounts

-- the room of an entry that is there
pub entry_room : (t : Table) (m : ObjectMap) (o c : ℕ) (e : KeyEntry) → look m o c ≡ Some e → Tallies t m → (size : ℕ) → total (λ (x : KeyEntry). 1) m ≡ size → size < 4294967296 → HasRoom t (one_at e.committed) 1
entry_room t m o c e is tallies size totaled within_limit = subst (λ v. HasRoom t (one_at (committed_of v)) 1) is (room_for t m o c tallies (rw is refl) size totaled within_limit)
