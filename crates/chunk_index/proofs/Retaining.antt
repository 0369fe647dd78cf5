-- What is left of entries, where only some keys stay.
use Rattle.std.proofs.Common.{◌≡◌, ℕ, suc, ◌<◌, List, [], ◌∷◌, length, get_or, Bool, true, false, Option, Some, None, refl, sym, ap, ◌∙◌, arith}
use mathlib.Core.Bool.{false≢true}
use Rattle.std.specs.List.{cons_option}
use Rattle.std.specs.Option.{option_and_then}
use Rattle.chunk_index.specs.declared.entry.KeyEntry.{KeyEntry}
use Rattle.chunk_index.specs.declared.entry.State.TheVariants as states
use Rattle.chunk_index.specs.declared.form.Present.TheVariants as presents
use Rattle.chunk_index.specs.Lists.{find_by, Rises}
use Rattle.chunk_index.specs.Entries.{chunk, is_same, same_of, committed_of, present_of}
use Rattle.chunk_index.specs.Retained.{forgotten, retained, retained_reported, retained_of}
use Rattle.chunk_index.proofs.Gathering.{rises_left, find_left}
use Rattle.chunk_index.proofs.Shelving.{found_chunk}

-- ---- one entry

retained_chunk : (stays : Bool) (e x : KeyEntry) → retained stays e ≡ Some x → x.chunk ≡ e.chunk
retained_chunk true e x is = let same : e ≡ x = cc in ap chunk (sym same)
retained_chunk false e x is = go (is_same e) is where
  go : (b : Bool) → forgotten b e ≡ Some x → x.chunk ≡ e.chunk
  go true none = absurd cc
  go false left = let same : record { chunk = e.chunk; committed = None; state = states.Dropped } ≡ x = cc in ap chunk (sym same)

-- a key whose entry is a changed one had one that was
pub retained_same_of : (stays : Bool) (v : Option KeyEntry) → same_of (retained_reported stays v) ≡ false → same_of v ≡ false
retained_same_of stays None is = is
retained_same_of true (Some e) is = is
retained_same_of false (Some e) is = go (is_same e) refl is where
  go : (b : Bool) → is_same e ≡ b → same_of (forgotten b e) ≡ false → is_same e ≡ false
  go true same not = absurd (false≢true (sym not))
  go false same not = same

-- a key that stays has its entry
pub retained_stays : (stays : Bool) (v : Option KeyEntry) → stays ≡ true → retained_reported stays v ≡ v
retained_stays stays None is = refl
retained_stays stays (Some e) is = ap (λ b. retained b e) is

-- nothing is committed of another, and nothing is present
pub retained_committed : (stays : Bool) (v : Option KeyEntry) → stays ≡ false → committed_of (retained_reported stays v) ≡ None
retained_committed stays None is = refl
retained_committed stays (Some e) is = ap (λ b. committed_of (retained b e)) is ∙ go (is_same e) where
  go : (b : Bool) → committed_of (forgotten b e) ≡ None
  go true = refl
  go false = refl

pub retained_present : (stays : Bool) (v : Option KeyEntry) → stays ≡ false → present_of (retained_reported stays v) ≡ presents.Absent
retained_present stays None is = refl
retained_present stays (Some e) is = ap (λ b. present_of (retained b e)) is ∙ go (is_same e) where
  go : (b : Bool) → present_of (forgotten b e) ≡ presents.Absent
  go true = refl
  go false = refl

-- ---- the entries of an object

-- what is left of an entry, by whether its chunk stays
abbrev pub retained_by : (ℕ → Bool) → KeyEntry → Option KeyEntry
retained_by keeps e = retained (keeps e.chunk) e

-- the chunks of those that are left still rise
pub rises_retained : (keeps : ℕ → Bool) (es : List KeyEntry) → Rises chunk es → Rises chunk (retained_of keeps es)
rises_retained keeps = rises_left (retained_by keeps) (λ e x. retained_chunk (keeps e.chunk) e x)

-- and each is found where it was
pub find_retained : (keeps : ℕ → Bool) (es : List KeyEntry) → Rises chunk es → (c : ℕ) → find_by chunk (retained_of keeps es) c ≡ retained_reported (keeps c) (find_by chunk es c)
find_retained keeps es rises c = find_left (retained_by keeps) (λ e x. retained_chunk (keeps e.chunk) e x) es rises c ∙ go (find_by chunk es c) refl where
  go : (v : Option KeyEntry) → find_by chunk es c ≡ v → option_and_then (retained_by keeps) v ≡ retained_reported (keeps c) v
  go None is = refl
  go (Some e) is = ap (λ l. retained (keeps l) e) (found_chunk es c e is)

-- all entries are left where the chunk of each stays
pub all_stay : (keeps : ℕ → Bool) (es : List KeyEntry) → ((i : ℕ) (d : KeyEntry) → i < length es → keeps (chunk (get_or es i d)) ≡ true) → es ≡ retained_of keeps es
all_stay keeps [] stay = refl
all_stay keeps (e ∷ es) stay =
    let here : retained_by keeps e ≡ Some e = ap (λ b. retained b e) (stay 0 e (omega arith)) in
    let rest = all_stay keeps es (λ i d lt. stay (suc i) d (omega (arith, lt))) in
    ap (λ xs. e ∷ xs) rest ∙ ap (λ v. cons_option v (retained_of keeps es)) (sym here)
