-- The settling of the keys of one object that follow each other in a list.
use Rattle.std.proofs.Common.{◌≡◌, ◌⊎◌, ℕ, ◌+◌, ◌-◌, ◌<◌, ◌≤◌, List, length, get_or, Option, Some, None, IfSome, refl, sym, ap, subst, ◌∙◌, arith, inl, inr}
use Rattle.std.specs.Ordering.{nat_cmp}
use Rattle.std.specs.BTreeMap.{get, WritesThrough}
use Rattle.std.proofs.lemmas.Bool.{cases_eq, cases_lt}
use Rattle.volume_terms.specs.laws.List.{sum_ones}
use Rattle.volume_terms.specs.laws.Number.{not_at}
use Rattle.flash_tree.specs.declared.place.Key.{Key}
use Rattle.block_state.specs.Table.{Table}
use Rattle.chunk_index.specs.declared.form.WrittenGroup.{WrittenGroup}
use Rattle.chunk_index.specs.declared.entry.KeyEntry.{KeyEntry}
use Rattle.chunk_index.specs.declared.entry.State.{State}
use Rattle.chunk_index.specs.declared.entry.State.TheVariants as states
use Rattle.chunk_index.specs.declared.object.ObjectEntries.{ObjectEntries}
use Rattle.chunk_index.specs.Lists.{find_by}
use Rattle.chunk_index.specs.Entries.{chunk, settled, settled_by, one_at, weight, weigh, counted_at, Alters, HasPage}
use Rattle.chunk_index.specs.Shelves.{ObjectMap, look}
use Rattle.chunk_index.specs.Counts.{HasRoom, Tallies}
use Rattle.chunk_index.specs.Settled.{MaySettleEntry, MaySettleEntries, SettlesChunks, SettlesWhere, RecountsSettled, IsListedIn, IsChunkIn, AreOfObject}
use Rattle.chunk_index.proofs.Counting.{two_sums, one_most, part_of_object, reported_count, room_after, recounts_on, recounts_here, recounts_more}
use Rattle.chunk_index.proofs.Noting.{IsAmong, IsNone, where_none, where_fewer}
use Rattle.chunk_index.proofs.Settling.{settled_twice}
use Rattle.chunk_index.proofs.Shelving.{look_in, look_other, found_place, there}
use Rattle.chunk_index.proofs.Staying.{gone_tallies, gone_counts, none_reported}

-- ---- among the entries of an object

-- nothing was settled as yet
pub chunks_none : (g : WrittenGroup) (Meant : ℕ → Type 0) (es : List KeyEntry) (t : Table) → ((c : ℕ) → Meant c → ⊥) → SettlesChunks g Meant es es t t
chunks_none g Meant es t none = record { each = λ c. inr (refl, none c); fewer = omega arith; counts = recounts_here (λ b. refl) }

-- what an entry becomes has no page of the buffer
settled_page : (g : WrittenGroup) (v : Option KeyEntry) (e : KeyEntry) → settled g v ≡ Some e → HasPage g e.state
settled_page g None e is = absurd cc
settled_page g (Some x) e is = go x.state refl where
  as_is : (y : KeyEntry) → y.state ≡ states.Same → Some y ≡ Some e → HasPage g e.state
  as_is y same both = let one : y ≡ e = cc in subst (HasPage g) (sym same ∙ ap (λ (z : KeyEntry). z.state) one) tt

  go : (s : State) → x.state ≡ s → HasPage g e.state
  go states.Same at = as_is x at (sym (ap (settled_by g x) at) ∙ is)
  go (states.Buffered i) at = as_is _ refl (sym (ap (settled_by g x) at) ∙ is)
  go states.Dropped at = let both : None ≡ Some e = sym (ap (settled_by g x) at) ∙ is in absurd cc
  go states.Vacant at = as_is _ refl (sym (ap (settled_by g x) at) ∙ is)

-- where pages can be in the count in the place of those of all entries, one can in the place of that of one
room_of_one : (t : Table) (es : List KeyEntry) (n c : ℕ) (e : KeyEntry) → HasRoom t (λ b. weigh (counted_at b) es) n → length es ≤ n → find_by chunk es c ≡ Some e → HasRoom t (one_at e.committed) 1
room_of_one t es n c e all most is = record {
  sufficient = λ b.
      let whole : weigh (counted_at b) es ≤ (t.entry b).committed = all.sufficient b in
      let part = part_of_object (counted_at b) es c in
      let one : weight (counted_at b) (find_by chunk es c) ≡ one_at e.committed b = ap (weight (counted_at b)) is in
      omega (arith, whole, part, one);
  room = λ b.
      let f : KeyEntry → ℕ = counted_at b in
      let g : KeyEntry → ℕ = λ x. 1 - counted_at b x in
      let ones : KeyEntry → ℕ = λ x. 1 in
      let each : (x : KeyEntry) → f x + g x ≡ ones x = λ x. let le = one_most x.committed b in omega (arith, le) in
      let split : weigh f es + weigh g es ≡ weigh ones es = two_sums f g ones each es in
      let count : weigh ones es ≡ length es = sum_ones es in
      let room : (t.entry b).committed + n ≤ 4294967295 + weigh (counted_at b) es = all.room b in
      let part = part_of_object g es c in
      let rest : weight g (find_by chunk es c) ≡ 1 - one_at e.committed b = ap (weight g) is in
      omega (arith, split, count, room, part, rest, most);
  within = λ b le.
      let none : weigh (counted_at b) es ≡ 0 = all.within b le in
      let part = part_of_object (counted_at b) es c in
      let one : weight (counted_at b) (find_by chunk es c) ≡ one_at e.committed b = ap (weight (counted_at b)) is in
      omega (arith, none, part, one);
}

-- the entry of the next chunk may be settled
pub chunk_may : (g : WrittenGroup) (Meant : ℕ → Type 0) (es now : List KeyEntry) (t u : Table) → MaySettleEntries g es t → SettlesChunks g Meant es now t u → (c : ℕ) → IfSome (find_by chunk now c) (λ e. MaySettleEntry g e u)
chunk_may g Meant es now t u may was c = go (find_by chunk now c) refl where
  page : (e : KeyEntry) → find_by chunk now c ≡ Some e → HasPage g e.state
  page e is = elim (was.each c) [
    | inl done ↦ settled_page g (find_by chunk es c) e (sym done ∙ is)
    | inr (same, none) ↦
        let at = found_place es c e (sym same ∙ is) in
        subst (λ (x : KeyEntry). HasPage g x.state) at.2 (may.pages at.0 e at.1)
  ]

  go : (v : Option KeyEntry) → find_by chunk now c ≡ v → IfSome v (λ e. MaySettleEntry g e u)
  go None is = tt
  go (Some e) is = record {
    block = subst (λ (x : _). g.block < x.blocks) (sym was.counts.geometry) may.block;
    page = page e is;
    room = room_of_one u now (length es) c e (room_after may.room was.counts) was.fewer is;
  }

-- one chunk more
module _ (g : WrittenGroup) (P R : ℕ → Type 0) (old mid new : List KeyEntry) (t u v : Table) (was : SettlesChunks g P old mid t u) (c : ℕ) (alters : Alters c (settled g (find_by chunk mid c)) mid new)
    (counts : RecountsSettled g (find_by chunk mid c) u v) (meant : (l : ℕ) → R l → P l ⊎ (l ≡ c)) where
  no_more : (w : Option KeyEntry) → weight (λ (e : KeyEntry). 1) (settled g w) ≤ weight (λ (e : KeyEntry). 1) w
  no_more None = omega arith
  no_more (Some e) = go (settled_by g e e.state) where
    go : (w : Option KeyEntry) → weight (λ (e : KeyEntry). 1) w ≤ 1
    go None = omega arith
    go (Some x) = omega arith

  here : find_by chunk new c ≡ settled g (find_by chunk old c)
  here = elim (was.each c) [
    | inl done ↦ alters.here ∙ ap (settled g) done ∙ settled_twice g (find_by chunk old c)
    | inr (same, none) ↦ alters.here ∙ ap (settled g) same
  ]

  pub chunks_then : SettlesChunks g R old new t v
  chunks_then = record {
    each = λ l. elim (cases_eq l c) [
      | inl e ↦ inl (subst (λ q. find_by chunk new q ≡ settled g (find_by chunk old q)) (sym e) here)
      | inr ne ↦ elim (was.each l) [
        | inl done ↦ inl (alters.others l ne ∙ done)
        | inr (same, none) ↦ inr (alters.others l ne ∙ same, λ is. elim (meant l is) [ inl p ↦ none p | inr e ↦ ne e ])
      ]
    ];
    fewer =
        let sum = alters.weighs (λ (e : KeyEntry). 1) in
        let more = no_more (find_by chunk mid c) in
        let one : weigh (λ (e : KeyEntry). 1) mid ≡ length mid = sum_ones mid in
        let two : weigh (λ (e : KeyEntry). 1) new ≡ length new = sum_ones new in
        omega (arith, sum, more, one, two, was.fewer);
    counts = recounts_on was.counts (recounts_more (λ b.
        let sum = alters.weighs (counted_at b) in
        omega (arith, sum, reported_count (find_by chunk mid c) b, reported_count (settled g (find_by chunk mid c)) b)) counts);
  }

-- ---- the keys of a list

pub in_none : (keys : List Key) (from c : ℕ) → IsChunkIn keys from from c → ⊥
in_none keys from c at = omega (arith, at.1, at.2)

pub in_more : (keys : List Key) (from n : ℕ) (k : Key) → ((d : Key) → get_or keys n d ≡ k) → (c : ℕ) → IsChunkIn keys from (n + 1) c → IsChunkIn keys from n c ⊎ (c ≡ k.chunk)
in_more keys from n k here c at = elim (cases_eq at.0 n) [
  | inl e ↦ inr (sym (sym (ap (λ (x : Key). x.chunk) (ap (λ i. get_or keys i k) e ∙ here k)) ∙ at.3 k))
  | inr ne ↦ inl (at.0, at.1, (let lt = at.2 in omega (arith, lt, ne)), at.3)
]

pub object_more : (keys : List Key) (from n o : ℕ) → AreOfObject keys from n o → ((d : Key) → (get_or keys n d).object ≡ o) → AreOfObject keys from (n + 1) o
object_more keys from n o was here i d le lt = elim (cases_eq i n) [
  | inl e ↦ ap (λ (j : ℕ). (get_or keys j d).object) e ∙ here d
  | inr ne ↦ was i d le (omega (arith, lt, ne))
]

-- a key among the first of a list is one of those before a place, or one of those from there on
pub among_run : (keys : List Key) (from end : ℕ) (m : ObjectMap) (o c : ℕ) → IsAmong keys end o c → IsAmong keys from o c ⊎ IsListedIn keys from end o c ⊎ (look m o c ≡ None)
among_run keys from end m o c at = elim (cases_lt at.0 from) [
  | inl lt ↦ inl (at.0, lt, at.2)
  | inr ge ↦ inr (inl (at.0, ge, at.1, at.2))
]

-- ---- among the entries of all objects

module _ (g : WrittenGroup) (o : ℕ) (m n : ObjectMap) (t u : Table) (x y : ObjectEntries) (found : get nat_cmp m o ≡ Some x) (through : WritesThrough nat_cmp (nat_cmp o) m y n) (P : ℕ → Type 0) (was : SettlesChunks g P x.entries.items y.entries.items t u)
    (tallies : Tallies t m) (R : ℕ → ℕ → Type 0) (meant : (k c : ℕ) → R k c → (k ≡ o) × P c) where
  -- what some chunks of an object became was written through a loan of it
  pub chunks_written : SettlesWhere g R m n t u
  chunks_written = record {
    each = λ k c. elim (cases_eq k o) [
      | inr ne ↦ inr (look_other m n k c ((through.3 (there o m n x y found through)).2 k (not_at o k ne)), λ is. ne (meant k c is).0)
      | inl e ↦ elim (was.each c) [
        | inl done ↦ inl (subst (λ q. look n q c ≡ settled g (look m q c)) (sym e) (reported c ∙ done ∙ sym (ap (settled g) (look_in m o c x found))))
        | inr (same, none) ↦ inr (subst (λ q. look n q c ≡ look m q c) (sym e) (reported c ∙ same ∙ sym (look_in m o c x found)), λ is. none (meant k c is).1)
      ]
    ];
    tallies = gone_tallies o m n x y found through t u was.counts tallies;
    counts = gone_counts o m n x y found through t u was.counts;
  } where
    reported : (c : ℕ) → look n o c ≡ find_by chunk y.entries.items c
    reported c = look_in n o c y (through.3 (there o m n x y found through)).1

-- the keys of a run are of the object, and of the chunks of the run
pub run_meant : (keys : List Key) (from end o : ℕ) (k : Key) → AreOfObject keys from end o → (p c : ℕ) → IsListedIn keys from end p c → (p ≡ o) × IsChunkIn keys from end c
run_meant keys from end o k same p c at = (sym (at.3 k).0 ∙ same at.0 k at.1 at.2, (at.0, at.1, at.2, λ d. (at.3 d).1))

-- an object that is not there has no key
pub run_absent : (g : WrittenGroup) (keys : List Key) (from : ℕ) (k : Key) (m : ObjectMap) (t : Table) → ((d : Key) → get_or keys from d ≡ k) → get nat_cmp m k.object ≡ None → Tallies t m → SettlesWhere g (IsListedIn keys from (from + 1)) m m t t
run_absent g keys from k m t here none tallies = where_fewer g IsNone (IsListedIn keys from (from + 1)) m m t t (where_none g IsNone m t (λ o c is. is) tallies)
    (λ o c at.
    let same : at.0 ≡ from = omega (arith, at.1, at.2) in
    let object : k.object ≡ o = sym (ap (λ (x : Key). x.object) (ap (λ i. get_or keys i k) same ∙ here k)) ∙ (at.3 k).0 in
    inr (subst (λ q. look m q c ≡ None) object (none_reported m k.object c none)))
