-- The pages that were noted of a block, and are committed there.
use Rattle.std.specs.Prelude.{◌≡◌, ◌≢◌, ◌<◌, ◌≤◌, ℕ, zero, suc, ◌+◌, List, [], ◌∷◌, length, map, get_or, Some, slice_get, slice_set, take}
use Rattle.std.proofs.Common.{refl, sym, ◌∙◌, ap, subst, arith, inl, inr}
use Rattle.std.proofs.lemmas.Bool.{cases_eq, cases_lt}
use Rattle.std.proofs.lemmas.Option.{get_or_from_slice_get, slice_get-get_or, slice_get_within}
use Rattle.volume_terms.specs.laws.List.{at_mapped, mapped_at, slice_get_there}
use Rattle.page_tags.specs.declared.check.CheckEntry.{CheckEntry}
use Rattle.flash_tree.specs.declared.place.Key.{Key}
use Rattle.chunk_index.specs.declared.form.CommittedKey.{CommittedKey}
use Rattle.chunk_index.specs.declared.form.CommittedPage.{CommittedPage}
use Rattle.chunk_index.specs.declared.index.Index.{Index}
use Rattle.chunk_index.specs.Listing.{IsCommittedKey, HasKeysOnce}
use Rattle.chunk_index.specs.Maps.{CommittedMap, committed_pages}
use Rattle.flash_log.specs.Noted.{AreRising, IsCommittedIn, LiesBehind}
use Rattle.flash_log.specs.SummaryMaking.{ListsEntries, entry_at, page_of}

-- ---- one more entry

set_here : {A : Type 0} (xs : List A) (k : ℕ) (x : A) → k < length xs → slice_get (slice_set xs k x) k ≡ Some x
set_here [] k x lt = absurd (omega (arith, lt))
set_here (y ∷ ys) zero x lt = refl
set_here (y ∷ ys) (suc k) x lt = set_here ys k x (omega (arith, lt))

set_there : {A : Type 0} (xs : List A) (i k : ℕ) (x : A) → k ≢ i → slice_get (slice_set xs i x) k ≡ slice_get xs k
set_there [] i k x ne = refl
set_there (y ∷ ys) zero zero x ne = absurd (ne refl)
set_there (y ∷ ys) zero (suc k) x ne = refl
set_there (y ∷ ys) (suc i) zero x ne = refl
set_there (y ∷ ys) (suc i) (suc k) x ne = set_there ys i k x (λ same. ne (ap suc same))

-- a page that lies behind the last of the first n lies behind each
behind_all : (b : ℕ) (m : CommittedMap) (es : List CheckEntry) (n page : ℕ) → n ≤ length es → AreRising b m es n → LiesBehind es n page → (i : ℕ) (e : CheckEntry) → i < n → slice_get es i ≡ Some e → e.page < page
behind_all b m es zero page le are lies i e lt at = absurd (omega (arith, lt))
behind_all b m es (suc n) page le are lies i e lt at = elim (cases_eq i n) [
  | inl here ↦ lies e (ap (slice_get es) (sym here) ∙ at)
  | inr ne ↦
      let last = slice_get_there es n (omega (arith, le)) in
      let before = are.rise i n e last.0 (omega (arith, lt, ne)) (omega arith) at last.1 in
      let then = lies last.0 last.1 in
      omega (arith, before, then)
]

pub rising_more : (b : ℕ) (m : CommittedMap) (es : List CheckEntry) (n : ℕ) (e : CheckEntry) → n < length es → IsCommittedIn b m e → LiesBehind es n e.page → AreRising b m es n → AreRising b m (slice_set es n e) (n + 1)
rising_more b m es n e lt is lies are = record {
  each = λ i f less at. elim (cases_eq i n) [
    | inl here ↦ subst (IsCommittedIn b m) (sym (it i f here at)) is
    | inr ne ↦ are.each i f (omega (arith, less, ne)) (was i f ne at)
  ];
  rise = λ i j f g less within at there. elim (cases_eq j n) [
    | inl here ↦
        let ne : i ≢ n = λ same. omega (arith, same, here, less) in
        let before = behind_all b m es n e.page (omega (arith, lt)) are lies i f (omega (arith, less, here)) (was i f ne at) in
        let same : g.page ≡ e.page = ap (λ (x : CheckEntry). x.page) (it j g here there) in
        omega (arith, before, same)
    | inr other ↦ are.rise i j f g less (omega (arith, within, other)) (was i f (λ same. omega (arith, same, less, within, other)) at) (was j g other there)
  ];
} where
  was : (i : ℕ) (f : CheckEntry) → i ≢ n → slice_get (slice_set es n e) i ≡ Some f → slice_get es i ≡ Some f
  was i f ne at = sym (set_there es n i e ne) ∙ at

  it : (i : ℕ) (f : CheckEntry) → i ≡ n → slice_get (slice_set es n e) i ≡ Some f → f ≡ e
  it i f here at = let both : Some f ≡ Some e = sym at ∙ ap (slice_get (slice_set es n e)) here ∙ set_here es n e lt in cc

pub rising_none : (b : ℕ) (m : CommittedMap) (es : List CheckEntry) → AreRising b m es 0
rising_none b m es = record { each = λ i e lt. absurd (omega (arith, lt)); rise = λ i j e f lt within. absurd (omega (arith, within)) }

-- the first entries alone
take_at : (es : List CheckEntry) (n i : ℕ) (e : CheckEntry) → slice_get (take n es) i ≡ Some e → slice_get es i ≡ Some e
take_at [] zero i e at = at
take_at [] (suc n) i e at = at
take_at (x ∷ xs) zero i e at = absurd cc
take_at (x ∷ xs) (suc n) zero e at = at
take_at (x ∷ xs) (suc n) (suc i) e at = take_at xs n i e at

pub rising_taken : (b : ℕ) (m : CommittedMap) (es : List CheckEntry) (n : ℕ) → length (take n es) ≤ n → AreRising b m es n → AreRising b m (take n es) (length (take n es))
rising_taken b m es n le are = record {
  each = λ i e lt at. are.each i e (omega (arith, lt, le)) (take_at es n i e at);
  rise = λ i j e f lt within at there. are.rise i j e f lt (omega (arith, within, le)) (take_at es n i e at) (take_at es n j f there);
}

-- ---- all that are committed

-- the key of an entry with its page
abbrev pub key_of : CheckEntry → CommittedKey
key_of e = record { key = record { object = e.object; chunk = e.chunk }; at = page_of e }

module _ (x : Index) (b : ℕ) (es : List CheckEntry) (are : AreRising b (committed_pages x) es (length es)) where
  abbrev ks : List CommittedKey
  ks = map key_of es

  its : (i : ℕ) (k : CommittedKey) → slice_get ks i ≡ Some k → (e : CheckEntry) × (slice_get es i ≡ Some e) × (key_of e ≡ k)
  its i k at = at_mapped key_of es i k at

  pub each_committed : (i : ℕ) (k : CommittedKey) → slice_get ks i ≡ Some k → IsCommittedKey x b k
  each_committed i k at =
      let e = its i k at in
      let is = are.each i e.0 (slice_get_within es i e.0 e.1) e.1 in
      subst (IsCommittedKey x b) e.2 (is.1, is.0)

  -- entries of one key are of one page
  pub keys_once : HasKeysOnce ks
  keys_once i j k l at there same =
      let e = its i k at in
      let f = its j l there in
      let first = (each_committed i k at).0 in
      let then = (each_committed j l there).0 in
      let both : Some k.at ≡ Some l.at = sym first ∙ ap (λ (y : Key). committed_pages x y.object y.chunk) same ∙ then in
      let pages : e.0.page ≡ f.0.page = ap (λ (y : CommittedKey). y.at.page) e.2 ∙ page_same k l both ∙ sym (ap (λ (y : CommittedKey). y.at.page) f.2) in
      elim (cases_eq i j) [
        | inl one ↦ one
        | inr ne ↦ apart i j e.0 f.0 e.1 f.1 pages ne
      ] where
        page_same : (k l : CommittedKey) → Some k.at ≡ Some l.at → k.at.page ≡ l.at.page
        page_same k l both = let at : k.at ≡ l.at = cc in ap (λ (p : CommittedPage). p.page) at

        apart : (i j : ℕ) (e f : CheckEntry) → slice_get es i ≡ Some e → slice_get es j ≡ Some f → e.page ≡ f.page → i ≢ j → i ≡ j
        apart i j e f at there pages ne =
            let lt_i = slice_get_within es i e at in
            let lt_j = slice_get_within es j f there in
            elim (cases_lt i j) [
              | inl less ↦ let rise = are.rise i j e f less lt_j at there in absurd (omega (arith, rise, pages))
              | inr more ↦ let rise = are.rise j i f e (omega (arith, more, ne)) lt_i there at in absurd (omega (arith, rise, pages))
            ]

  -- so where they are as many as are committed in the block, they are listed
  pub noted_lists : ((k : CommittedKey) → IsCommittedKey x b k → (i : ℕ) × (slice_get ks i ≡ Some k)) → ListsEntries b (committed_pages x) es
  noted_lists all = record {
    only = λ e (i, lt, is).
        subst (IsCommittedIn b (committed_pages x)) is (are.each i (get_or es i e) lt (slice_get-get_or es i e lt));
    all = λ o c p is here.
        let there = all (record { key = record { object = o; chunk = c }; at = p }) (is, here) in
        let e = its there.0 (record { key = record { object = o; chunk = c }; at = p }) there.1 in
        let same : e.0 ≡ entry_at o c p = λ n. record {
          object = ap (λ (y : CommittedKey). y.key.object) e.2 n;
          chunk = ap (λ (y : CommittedKey). y.key.chunk) e.2 n;
          version = ap (λ (y : CommittedKey). y.at.version) e.2 n;
          block = ap (λ (y : CommittedKey). y.at.block) e.2 n;
          page = ap (λ (y : CommittedKey). y.at.page) e.2 n;
        } in
        let at : slice_get es there.0 ≡ Some (entry_at o c p) = e.1 ∙ ap Some same in
        (there.0, slice_get_within es there.0 (entry_at o c p) at, get_or_from_slice_get es there.0 (entry_at o c p) (entry_at o c p) at);
    order = λ i j e lt within.
        let first = slice_get-get_or es i e (omega (arith, lt, within)) in
        let then = slice_get-get_or es j e within in
        let rise = are.rise i j (get_or es i e) (get_or es j e) lt within first then in
        record {
          page = omega (arith, rise);
          key = λ object chunk.
              let key : (key_of (get_or es i e)).key ≡ (key_of (get_or es j e)).key = λ n. record { object = object n; chunk = chunk n } in
              let one = keys_once i j (key_of (get_or es i e)) (key_of (get_or es j e)) (mapped_at key_of es i (get_or es i e) first) (mapped_at key_of es j (get_or es j e) then) key in
              absurd (omega (arith, one, lt));
        };
  }
