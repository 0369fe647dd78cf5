-- The settling of the entries of an object from a chunk on.
use Rattle.std.proofs.Common.{◌≡◌, ◌⊎◌, ℕ, zero, suc, ◌+◌, ◌-◌, ◌<◌, ◌≤◌, ◌≢◌, List, [], ◌∷◌, ◌++◌, length, get_or, set, take, ltb, true, false, Option, Some, None, filter_map, refl, sym, ap, subst, ◌∙◌, arith, inl, inr}
use Rattle.std.specs.List.{cons_option, swap}
use Rattle.std.specs.Option.{option_and_then, unwrap_or}
use Rattle.std.specs.Ordering.{nat_cmp}
use Rattle.std.specs.BTreeMap.{get, values, WritesThrough}
use Rattle.std.proofs.lemmas.Bool.{cases_eq, cases_lt}
use Rattle.std.proofs.lemmas.Bool.Decides.{nat_tests}
use Rattle.std.proofs.lemmas.List.{get_or_default, set-get_or}
use Rattle.volume_terms.specs.laws.List.{sum_ones}
use Rattle.volume_terms.specs.laws.Number.{not_at}
use Rattle.flash_tree.specs.declared.place.Key.{Key}
use Rattle.block_state.specs.Table.{Table}
use Rattle.chunk_index.specs.declared.form.WrittenGroup.{WrittenGroup}
use Rattle.chunk_index.specs.declared.entry.KeyEntry.{KeyEntry}
use Rattle.chunk_index.specs.declared.entry.State.{State}
use Rattle.chunk_index.specs.declared.entry.State.TheVariants as states
use Rattle.chunk_index.specs.declared.object.ObjectEntries.{ObjectEntries}
use Rattle.chunk_index.specs.Lists.{find_by, Rises, IsEndFor}
use Rattle.chunk_index.specs.Entries.{chunk, settled, settled_by, present_of, committed_of, one_at, weigh, counted_at, written_page, HasPage}
use Rattle.chunk_index.specs.Shelves.{ObjectMap, look, total}
use Rattle.chunk_index.specs.Counts.{Recounts, RecountsEntries, HasRoom, Tallies}
use Rattle.chunk_index.specs.InPlace.{goes, left}
use Rattle.chunk_index.specs.Settled.{MaySettle, MaySettleEntry, MaySettleEntries, RecountsSettled, SettlesWhere, IsFrom, settled_from, settled_entries}
use Rattle.chunk_index.proofs.Altering.{either}
use Rattle.chunk_index.proofs.Counting.{two_sums, one_most}
use Rattle.chunk_index.proofs.Finding.{find_at}
use Rattle.chunk_index.proofs.Gathering.{IsLeft, left_more, rises_left, find_left, Gathers, at_first, next_room, gathers_left, gathers_swapped, gathers_gone}
use Rattle.chunk_index.proofs.InPlace.{left_stays, gone_settled}
use Rattle.chunk_index.proofs.Noting.{IsNone, where_none, where_fewer}
use Rattle.chunk_index.proofs.Settling.{has_page}
use Rattle.chunk_index.proofs.Shelving.{look_in, look_other, look_chunk, there}
use Rattle.chunk_index.proofs.Staying.{object_part, object_counted, gone_tallies, gone_counts, none_reported}

-- ---- one entry

settled_chunk : (g : WrittenGroup) (e x : KeyEntry) → settled_by g e e.state ≡ Some x → chunk x ≡ chunk e
settled_chunk g e x is = go e.state is where
  go : (s : State) → settled_by g e s ≡ Some x → chunk x ≡ chunk e
  go states.Same both = let same : e ≡ x = cc in ap chunk (sym same)
  go (states.Buffered i) both = let to : KeyEntry = record e { committed = Some (written_page g i); state = states.Same } in let same : to ≡ x = cc in ap chunk (sym same)
  go states.Dropped both = absurd cc
  go states.Vacant both = let to : KeyEntry = record e { committed = None; state = states.Same } in let same : to ≡ x = cc in ap chunk (sym same)

-- what is left of an entry is of its chunk
from_chunk : (n : ℕ) (g : WrittenGroup) (e x : KeyEntry) → settled_from n g e ≡ Some x → chunk x ≡ chunk e
from_chunk n g e x = either (λ v. v ≡ Some x → chunk x ≡ chunk e) (ltb (chunk e) n) (Some e) (settled_by g e e.state) (λ is. let same : e ≡ x = cc in ap chunk (sym same)) (settled_chunk g e x)

from_before : (n : ℕ) (g : WrittenGroup) (e : KeyEntry) → chunk e < n → settled_from n g e ≡ Some e
from_before n g e lt = grind (arith, nat_tests, lt)

from_behind : (n : ℕ) (g : WrittenGroup) (e : KeyEntry) → n ≤ chunk e → settled_from n g e ≡ settled_by g e e.state
from_behind n g e le = grind (arith, nat_tests, le)

-- ---- the entries of an object

pub rises_settled : (n : ℕ) (g : WrittenGroup) (es : List KeyEntry) → Rises chunk es → Rises chunk (settled_entries n g es)
rises_settled n g = rises_left (settled_from n g) (from_chunk n g)

-- those before the chunk stay
front_stays : (n : ℕ) (g : WrittenGroup) (xs : List KeyEntry) (i : ℕ) → ((j : ℕ) (d : KeyEntry) → j < i → chunk (get_or xs j d) < n) → i ≤ length xs → take i xs ≡ filter_map (settled_from n g) (take i xs)
front_stays n g [] zero less le = refl
front_stays n g [] (suc i) less le = absurd (omega (arith, le))
front_stays n g (x ∷ xs) zero less le = refl
front_stays n g (x ∷ xs) (suc i) less le =
    let same : settled_from n g x ≡ Some x = from_before n g x (less 0 x (omega arith)) in
    let rest = front_stays n g xs i (λ j d lt. less (suc j) d (omega (arith, lt))) (omega (arith, le)) in
    ap (λ ys. x ∷ ys) rest ∙ ap (λ v. cons_option v (filter_map (settled_from n g) (take i xs))) (sym same)

-- the second list is what is left of the first, whose elements from a place on have the chunks from some one on
abbrev pub IsSettledBehind : ℕ → WrittenGroup → List KeyEntry → List KeyEntry → List KeyEntry → Type 0
IsSettledBehind first g whole xs ys = (n : ℕ) → IsEndFor chunk whole n first → IsLeft (settled_from n g) xs ys

pub settled_none : (first : ℕ) (g : WrittenGroup) (es : List KeyEntry) → IsSettledBehind first g es (take first es) (take first es)
settled_none first g es n end = front_stays n g es first (λ j d lt. end.lesser j d lt) end.within

pub settled_more : (first : ℕ) (g : WrittenGroup) (es : List KeyEntry) (i : ℕ) (e : KeyEntry) → i < length es → e ≡ get_or es i e → first ≤ i → (front : List KeyEntry) (v : Option KeyEntry) → v ≡ settled_by g e e.state
    → IsSettledBehind first g es (take i es) front → IsSettledBehind first g es (take (i + 1) es) (front ++ cons_option v [])
settled_more first g es i e lt at le front v is was n end =
    let behind : n ≤ chunk e = subst (λ x. n ≤ chunk x) (sym at) (end.greater i e le lt) in
    left_more (settled_from n g) es i e lt at front v (is ∙ sym (from_behind n g e behind)) (was n end)

-- the next entry may be settled
pub next_may : (first : ℕ) (g : WrittenGroup) (es : List KeyEntry) (i : ℕ) (now : List KeyEntry) (committed : ℕ) (t u : Table) → Gathers (IsSettledBehind first g es) es i now committed t u → i < length es → (e : KeyEntry) → e ≡ get_or now i e
    → MaySettleEntries g es t → MaySettleEntry g e u
next_may first g es i now committed t u was lt e here may = record {
  block = subst (λ (x : _). g.block < x.blocks) (sym was.counts.geometry) may.block;
  page = subst (λ (x : KeyEntry). HasPage g x.state) (sym (at_first (IsSettledBehind first g es) es i now committed t u was lt e here)) (may.pages i e lt);
  room = next_room (IsSettledBehind first g es) es i now committed t u was lt e here may.room;
}

-- the next entry is settled in its place
module _ (first : ℕ) (g : WrittenGroup) (es : List KeyEntry) (i : ℕ) (now : List KeyEntry) (kept : ℕ) (t u w : Table) (was : Gathers (IsSettledBehind first g es) es i now kept t u) (lt : i < length es) (le : first ≤ i) (e : KeyEntry)
    (here : e ≡ get_or now i e) (x : KeyEntry) (to : x ≡ left g e) (counts : RecountsSettled g (Some e) u w) where
  at : e ≡ get_or es i e
  at = at_first (IsSettledBehind first g es) es i now kept t u was lt e here

  -- one that stays does so behind those in front
  module _ (stays : goes g e ≡ false) where
    is : Some x ≡ settled g (Some e)
    is = ap Some to ∙ left_stays g (Some e) stays

    more : IsSettledBehind first g es (take i es) (take kept now) → IsSettledBehind first g es (take (i + 1) es) (take kept now ++ x ∷ [])
    more = settled_more first g es i e lt at le (take kept now) (Some x) is

    counted : Recounts (one_at e.committed) (one_at (committed_of (Some x))) u w
    counted = subst (λ v. Recounts (one_at e.committed) (one_at (committed_of v)) u w) (sym is) counts

    pub settled_here : kept ≡ i → Gathers (IsSettledBehind first g es) es (i + 1) (set now i x) (kept + 1) t w
    settled_here same = subst (λ k. Gathers (IsSettledBehind first g es) es (i + 1) (set now k x) (kept + 1) t w) same (gathers_left (IsSettledBehind first g es) es i now kept t u was lt e here x w more counted)

    pub settled_moved : kept ≢ i → Gathers (IsSettledBehind first g es) es (i + 1) (swap (set now i x) kept i) (kept + 1) t w
    settled_moved other = gathers_swapped (IsSettledBehind first g es) es i now kept t u was lt e here x w (omega (arith, was.front, other)) more counted

  -- one that goes stands there as it was
  pub settled_gone : goes g e ≡ true → Gathers (IsSettledBehind first g es) es (i + 1) (set now i x) kept t w
  settled_gone gone =
      let none : None ≡ settled g (Some e) = gone_settled g (Some e) gone in
      let same : x ≡ e = to ∙ ap (λ (v : Option KeyEntry). unwrap_or v e) (sym none) in
      let counted = subst (λ v. Recounts (one_at e.committed) (one_at (committed_of v)) u w) (sym none) counts in
      let unchanged : set now i x ≡ now = ap (set now i) (same ∙ here) ∙ set-get_or now i e in
      subst (λ ys. Gathers (IsSettledBehind first g es) es (i + 1) ys kept t w) (sym unchanged)
      (gathers_gone (IsSettledBehind first g es) es i now kept t u was lt e here w (settled_more first g es i e lt at le (take kept now) None none) counted)

-- ---- among the entries of all objects

-- as many pages can be in the count in the place of those of an object as it has entries, and so many more as there may be entries
pub object_room : (t : Table) (m : ObjectMap) (o : ℕ) (x : ObjectEntries) → get nat_cmp m o ≡ Some x → Tallies t m → (size more : ℕ) → total (λ (e : KeyEntry). 1) m ≡ size → size + more < 4294967296
    → HasRoom t (λ b. weigh (counted_at b) x.entries.items) (length x.entries.items + more)
object_room t m o x is tallies size more totaled within_limit =
    let counted = object_counted t m o x is tallies in
    record {
      sufficient = counted.sufficient;
      room = λ b.
          let f : KeyEntry → ℕ = counted_at b in
          let g : KeyEntry → ℕ = λ e. 1 - counted_at b e in
          let one : KeyEntry → ℕ = λ e. 1 in
          let each : (e : KeyEntry) → f e + g e ≡ one e = λ e. let le = one_most e.committed b in omega (arith, le) in
          let all : (t.entry b).committed ≡ total f m = tallies.counts b in
          let split : total f m + total g m ≡ total one m =
          two_sums (λ (z : ObjectEntries). weigh f z.entries.items) (λ (z : ObjectEntries). weigh g z.entries.items) (λ (z : ObjectEntries). weigh one z.entries.items) (λ z. two_sums f g one each z.entries.items) (values m) in
          let here : weigh f x.entries.items + weigh g x.entries.items ≡ weigh one x.entries.items = two_sums f g one each x.entries.items in
          let ones : weigh one x.entries.items ≡ length x.entries.items = sum_ones x.entries.items in
          let part = object_part g m o x is in
          omega (arith, all, split, here, ones, part, totaled, within_limit);
      within = counted.within;
    }

pub may_entries : (g : WrittenGroup) (m : ObjectMap) (o : ℕ) (t : Table) (x : ObjectEntries) → get nat_cmp m o ≡ Some x → MaySettle g m t → (size : ℕ) → total (λ (e : KeyEntry). 1) m ≡ size → size < 4294967296 → MaySettleEntries g x.entries.items t
may_entries g m o t x is may size totaled within_limit = record {
  block = may.block;
  pages = λ i d lt.
      let es = x.entries.items in
      let e = get_or es i d in
      let reported : look m o (chunk e) ≡ Some e = look_in m o (chunk e) x is ∙ find_at chunk es x.rises (chunk e) i (record { within = lt; number = λ f. ap chunk (get_or_default es i f d lt) }) d in
      has_page g e (λ j shown. let fits = may.fits o (chunk e) j (ap present_of reported ∙ shown) in omega (arith, fits, t.geometry.most_pages));
  room = subst (HasRoom t (λ b. weigh (counted_at b) x.entries.items)) (omega arith) (object_room t m o x is may.tallies size 0 totaled (omega (arith, within_limit)));
}

module _ (g : WrittenGroup) (k : Key) (m n : ObjectMap) (t u : Table) where
  -- what is left of an object's entries was written through a loan of it
  pub settles_written : (x y : ObjectEntries) → get nat_cmp m k.object ≡ Some x → WritesThrough nat_cmp (nat_cmp k.object) m y n → y.entries.items ≡ settled_entries k.chunk g x.entries.items
      → RecountsEntries x.entries.items y.entries.items t u → Tallies t m → SettlesWhere g (IsFrom k) m n t u
  settles_written x y found through is counts tallies = record {
    each = λ o c. elim (cases_eq o k.object) [
      | inr ne ↦ inr (look_other m n o c ((through.3 (there k.object m n x y found through)).2 o (not_at k.object o ne)), λ meant. ne (sym meant.0))
      | inl e ↦ subst (λ q. (look n q c ≡ settled g (look m q c)) ⊎ ((look n q c ≡ look m q c) × (IsFrom k q c → ⊥))) (sym e) (here c)
    ];
    tallies = gone_tallies k.object m n x y found through t u counts tallies;
    counts = gone_counts k.object m n x y found through t u counts;
  } where
    left : (c : ℕ) → look n k.object c ≡ option_and_then (settled_from k.chunk g) (look m k.object c)
    left c =
        look_in n k.object c y (through.3 (there k.object m n x y found through)).1 ∙ ap (λ es. find_by chunk es c) is
        ∙ find_left (settled_from k.chunk g) (from_chunk k.chunk g) x.entries.items x.rises c ∙ sym (ap (option_and_then (settled_from k.chunk g)) (look_in m k.object c x found))

    stays : (c : ℕ) → c < k.chunk → (v : Option KeyEntry) → look m k.object c ≡ v → option_and_then (settled_from k.chunk g) v ≡ v
    stays c lt None at = refl
    stays c lt (Some e) at = let number : chunk e ≡ c = look_chunk m k.object c e at in from_before k.chunk g e (omega (arith, number, lt))

    goes_on : (c : ℕ) → k.chunk ≤ c → (v : Option KeyEntry) → look m k.object c ≡ v → option_and_then (settled_from k.chunk g) v ≡ settled g v
    goes_on c le None at = refl
    goes_on c le (Some e) at = let number : chunk e ≡ c = look_chunk m k.object c e at in from_behind k.chunk g e (omega (arith, number, le))

    here : (c : ℕ) → (look n k.object c ≡ settled g (look m k.object c)) ⊎ ((look n k.object c ≡ look m k.object c) × (IsFrom k k.object c → ⊥))
    here c = elim (cases_lt c k.chunk) [
      | inl lt ↦ inr (left c ∙ stays c lt (look m k.object c) refl, λ meant. let le = meant.1 in omega (arith, le, lt))
      | inr ge ↦ inl (left c ∙ goes_on c ge (look m k.object c) refl)
    ]

-- an object that is not there has no key
pub settles_absent : (g : WrittenGroup) (k : Key) (m : ObjectMap) (t : Table) → get nat_cmp m k.object ≡ None → Tallies t m → SettlesWhere g (IsFrom k) m m t t
settles_absent g k m t none tallies = where_fewer g IsNone (IsFrom k) m m t t (where_none g IsNone m t (λ o c is. is) tallies) (λ o c is. inr (subst (λ q. look m q c ≡ None) is.0 (none_reported m k.object c none)))
