-- What a change of an entry in its place does to what is reported of its key.
use Rattle.std.proofs.Common.{◌≡◌, ℕ, ◌+◌, List, get_or, set, true, false, Option, Some, None, IsSome, is_none, refl, sym, ap, subst, ◌∙◌, arith}
use mathlib.Core.Bool.{false≢true}
use Rattle.std.specs.Option.{option_map, unwrap_or}
use Rattle.std.specs.Ordering.{nat_cmp}
use Rattle.std.specs.BTreeMap.{get, WritesThrough}
use Rattle.block_state.specs.Table.{Table}
use Rattle.chunk_index.specs.declared.form.WrittenGroup.{WrittenGroup}
use Rattle.chunk_index.specs.declared.entry.KeyEntry.{KeyEntry}
use Rattle.chunk_index.specs.declared.entry.State.{State}
use Rattle.chunk_index.specs.declared.entry.State.TheVariants as states
use Rattle.chunk_index.specs.declared.object.ObjectEntries.{ObjectEntries}
use Rattle.chunk_index.specs.Lists.{find_by, Rises, IsAt}
use Rattle.chunk_index.specs.Entries.{chunk, settled, settled_by, weight, weigh, Alters}
use Rattle.chunk_index.specs.Shelves.{ObjectMap, look, total, AltersKey}
use Rattle.chunk_index.specs.Settled.{RecountsSettled}
use Rattle.chunk_index.specs.InPlace.{goes_of, left, left_of}
use Rattle.chunk_index.proofs.Finding.{find_at, rises_set}
use Rattle.chunk_index.proofs.Altering.{alters_set}
use Rattle.chunk_index.proofs.Shelving.{found_chunk, look_in, written}
use Rattle.chunk_index.proofs.Counting.{recounts_here}
use Rattle.chunk_index.proofs.Mapping.{total_same}

-- ---- among the entries of an object

-- what is read at the place of a chunk is its entry
pub element_found : (es : List KeyEntry) → Rises chunk es → (c i : ℕ) → IsAt chunk es c i → (x e : KeyEntry) → e ≡ x → x ≡ get_or es i x → find_by chunk es c ≡ Some e
element_found es rises c i at x e same here = find_at chunk es rises c i at x ∙ ap Some (sym (same ∙ here))

-- an entry of the same chunk in the place of one
module _ (es : List KeyEntry) (rises : Rises chunk es) (c i : ℕ) (at : IsAt chunk es c i) (e : KeyEntry) (is : find_by chunk es c ≡ Some e) (new : KeyEntry) (same : chunk new ≡ chunk e) where
  number : chunk new ≡ c
  number = same ∙ found_chunk es c e is

  alters_at : Alters c (Some new) es (set es i new)
  alters_at = subst (λ l. Alters l (Some new) es (set es i new)) number (alters_set es rises new i (record { within = at.within; number = λ d. at.number d ∙ sym number }))

  pub rises_at : Rises chunk (set es i new)
  rises_at = rises_set chunk es rises c i at new number

  pub alters_by : (f : KeyEntry → KeyEntry) → new ≡ f e → Alters c (option_map f (find_by chunk es c)) es (set es i new)
  alters_by f to = subst (λ v. Alters c v es (set es i new)) (ap Some to ∙ sym (ap (option_map f) is)) alters_at

-- nothing changes
alters_none : (es : List KeyEntry) (c : ℕ) (v : Option KeyEntry) → find_by chunk es c ≡ v → Alters c v es es
alters_none es c v is = subst (λ w. Alters c w es es) is (record { here = refl; others = λ l ne. refl; weighs = λ f. refl })

-- so it is where there is no entry
pub alters_absent : (es : List KeyEntry) (c : ℕ) → find_by chunk es c ≡ None → (f : KeyEntry → KeyEntry) → Alters c (option_map f (find_by chunk es c)) es es
alters_absent es c none f = alters_none es c _ (none ∙ sym (ap (option_map f) none))

-- what is left of an entry in its place is of its chunk
pub left_chunk : (g : WrittenGroup) (e : KeyEntry) → chunk (left g e) ≡ chunk e
left_chunk g e = go e.state where
  go : (s : State) → chunk (unwrap_or (settled_by g e s) e) ≡ chunk e
  go states.Same = refl
  go (states.Buffered i) = refl
  go states.Dropped = refl
  go states.Vacant = refl

-- ---- what is reported of the key of an entry

pub goes_absent : (g : WrittenGroup) (v : Option KeyEntry) → v ≡ None → false ≡ goes_of g v
goes_absent g v none = sym (ap (goes_of g) none)

pub counts_absent : (g : WrittenGroup) (v : Option KeyEntry) (t : Table) → v ≡ None → RecountsSettled g v t t
counts_absent g v t none = subst (λ z. RecountsSettled g z t t) (sym none) (recounts_here (λ b. refl))

-- as many entries, where one takes the place of one
pub map_size : (f : KeyEntry → KeyEntry) (v : Option KeyEntry) → weight (λ (e : KeyEntry). 1) (option_map f v) ≡ weight (λ (e : KeyEntry). 1) v
map_size f None = refl
map_size f (Some e) = refl

-- an entry that stays is settled
pub left_stays : (g : WrittenGroup) (v : Option KeyEntry) → goes_of g v ≡ false → left_of g v ≡ settled g v
left_stays g None stays = refl
left_stays g (Some e) stays = go (settled_by g e e.state) stays where
  go : (w : Option KeyEntry) → is_none w ≡ false → Some (unwrap_or w e) ≡ w
  go None is = absurd (false≢true (sym is))
  go (Some x) is = refl

-- one that goes is there still
left_there : (g : WrittenGroup) (v : Option KeyEntry) → goes_of g v ≡ true → IsSome (left_of g v)
left_there g None gone = absurd (false≢true gone)
left_there g (Some e) gone = refl

pub gone_settled : (g : WrittenGroup) (v : Option KeyEntry) → goes_of g v ≡ true → None ≡ settled g v
gone_settled g None gone = refl
gone_settled g (Some e) gone = go (settled_by g e e.state) gone where
  go : (w : Option KeyEntry) → is_none w ≡ true → None ≡ w
  go None is = refl
  go (Some x) is = absurd (false≢true is)

-- ---- one chunk

-- one change of a chunk after another
alters_twice : {es fs gs : List KeyEntry} {c : ℕ} {v w : Option KeyEntry} → Alters c v es fs → Alters c w fs gs → Alters c w es gs
alters_twice {es} {fs} {gs} {c} {v} {w} a b = record {
  here = b.here;
  others = λ l differs. b.others l differs ∙ a.others l differs;
  weighs = λ f.
      let one : weigh f fs + weight f (find_by chunk es c) ≡ weigh f es + weight f v = a.weighs f in
      let two : weigh f gs + weight f (find_by chunk fs c) ≡ weigh f fs + weight f w = b.weighs f in
      let mid : weight f (find_by chunk fs c) ≡ weight f v = ap (weight f) a.here in
      omega (arith, one, two, mid);
}

module _ (g : WrittenGroup) (c : ℕ) (es fs : List KeyEntry) (alters : Alters c (left_of g (find_by chunk es c)) es fs) where
  -- an entry that stays is settled in its place
  pub settles_staying : goes_of g (find_by chunk es c) ≡ false → Alters c (settled g (find_by chunk es c)) es fs
  settles_staying stays = subst (λ v. Alters c v es fs) (left_stays g _ stays) alters

  -- one that goes is there to be taken out
  pub going_there : goes_of g (find_by chunk es c) ≡ true → IsSome (find_by chunk fs c)
  going_there gone = subst IsSome (sym alters.here) (left_there g _ gone)

  pub settles_going : (gs : List KeyEntry) → goes_of g (find_by chunk es c) ≡ true → Alters c None fs gs → Alters c (settled g (find_by chunk es c)) es gs
  settles_going gs gone out = subst (λ v. Alters c v es gs) (gone_settled g _ gone) (alters_twice alters out)

-- ---- among the entries of all objects

-- what an entry becomes by f was written through a loan of its object
module _ (o c : ℕ) (m n : ObjectMap) (x y : ObjectEntries) (found : get nat_cmp m o ≡ Some x) (through : WritesThrough nat_cmp (nat_cmp o) m y n) (f : KeyEntry → KeyEntry)
    (alters : Alters c (option_map f (find_by chunk x.entries.items c)) x.entries.items y.entries.items) where
  pub written_by : AltersKey o c (option_map f (look m o c)) m n
  written_by = subst (λ v. AltersKey o c (option_map f v) m n) (sym (look_in m o c x found)) (written o m n x y found through c _ alters)

  -- as many entries
  pub size_by : (size : ℕ) → total (λ (e : KeyEntry). 1) m ≡ size → total (λ (e : KeyEntry). 1) n ≡ size
  size_by size was = total_same written_by (λ (e : KeyEntry). 1) (map_size f (look m o c)) ∙ was
