-- The entries of the pages that are committed in a block, in their order.
use Rattle.std.proofs.Common.{◌≡◌, ◌<◌, ◌≤◌, ℕ, List, length, map, get_or, slice_get, Some, subst, ◌∙◌, arith}
use Rattle.std.specs.Prelude.{AllPairs, Contains}
use Rattle.std.proofs.lemmas.List.{length-map}
use Rattle.std.proofs.lemmas.Option.{slice_get-get_or, slice_get_within, get_or_from_slice_get}
use Rattle.volume_terms.specs.laws.List.{at_mapped, mapped_at}
use Rattle.page_tags.specs.declared.check.CheckEntry.{CheckEntry}
use Rattle.chunk_index.specs.declared.form.CommittedKey.{CommittedKey}
use Rattle.chunk_index.specs.declared.form.CommittedPage.{CommittedPage}
use Rattle.chunk_index.specs.declared.index.Index.{Index}
use Rattle.chunk_index.specs.Listing.{IsCommittedKey, HasKeysOnce}
use Rattle.chunk_index.specs.Maps.{committed_pages}
use Rattle.flash_log.specs.SummaryMaking.{ComesBefore, ListsEntries, entry_at, entry_of_key, page_of}

module _ (x : Index) (b : ℕ) (ks : List CommittedKey) (committed : (i : ℕ) (k : CommittedKey) → slice_get ks i ≡ Some k → IsCommittedKey x b k) (all : (k : CommittedKey) → IsCommittedKey x b k → (i : ℕ) × (slice_get ks i ≡ Some k))
    (once : HasKeysOnce ks) (rise : AllPairs (λ (k l : CommittedKey). k.at.page ≤ l.at.page) ks) where
  abbrev es : List CheckEntry
  es = map entry_of_key ks

  -- an entry is of a listed key
  at_entry : (i : ℕ) (e : CheckEntry) → i < length es → (k : CommittedKey) × (slice_get ks i ≡ Some k) × (entry_of_key k ≡ get_or es i e)
  at_entry i e lt = at_mapped entry_of_key ks i (get_or es i e) (slice_get-get_or es i e lt)

  only : (e : CheckEntry) → Contains es e → (e.block ≡ b) × (committed_pages x e.object e.chunk ≡ Some (page_of e))
  only e (i, lt, is) =
      let there = at_entry i e lt in
      let k = there.0 in
      let its = committed i k there.1 in
      subst (λ (f : CheckEntry). (f.block ≡ b) × (committed_pages x f.object f.chunk ≡ Some (page_of f))) (there.2 ∙ is) (its.1, its.0)

  listed : (o c : ℕ) (p : CommittedPage) → committed_pages x o c ≡ Some p → p.block ≡ b → Contains es (entry_at o c p)
  listed o c p is here =
      let there = all (record { key = record { object = o; chunk = c }; at = p }) (is, here) in
      let at : slice_get es there.0 ≡ Some (entry_at o c p) = mapped_at entry_of_key ks there.0 _ there.1 in
      (there.0, slice_get_within es there.0 (entry_at o c p) at, get_or_from_slice_get es there.0 (entry_at o c p) (entry_at o c p) at)

  ordered : AllPairs ComesBefore es
  ordered i j e lt within =
      let first = at_entry i e (omega (arith, lt, within)) in
      let then = at_entry j e within in
      let same = length-map ks entry_of_key in
      let places = rise i j first.0 lt (omega (arith, within, same)) in
      let one : get_or ks i first.0 ≡ first.0 = get_or_from_slice_get ks i first.0 first.0 first.1 in
      let two : get_or ks j first.0 ≡ then.0 = get_or_from_slice_get ks j then.0 first.0 then.1 in
      let page : first.0.at.page ≤ then.0.at.page = subst (λ (l : CommittedKey). first.0.at.page ≤ l.at.page) two (subst (λ (k : CommittedKey). k.at.page ≤ (get_or ks j first.0).at.page) one places) in
      subst (ComesBefore (get_or es i e)) then.2 (subst (λ f. ComesBefore f (entry_of_key then.0)) first.2 (record {
        page = page;
        key = λ object chunk.
            let key : first.0.key ≡ then.0.key = λ n. record { object = object n; chunk = chunk n } in
            let both : i ≡ j = once i j first.0 then.0 first.1 then.1 key in
            absurd (omega (arith, both, lt));
      }))

  pub lists_entries : ListsEntries b (committed_pages x) es
  lists_entries = record { only = only; all = listed; order = ordered }
