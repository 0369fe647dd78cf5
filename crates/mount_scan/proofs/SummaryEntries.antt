-- Lists of entries that a summary may have.
use Rattle.std.specs.Prelude.{◌≡◌, ◌<◌, ◌≤◌, ℕ, zero, suc, ◌+◌, ◌-◌, List, [], ◌∷◌, ◌++◌, length, get_or, take, drop, slice_get, Some, AllPairs}
use Rattle.std.proofs.Common.{sym, ◌∙◌, ap, subst, inl, inr, arith, length-append}
use Rattle.std.proofs.lemmas.Bool.{cases_eq}
use Rattle.std.proofs.lemmas.List.{get_or_append_left, take-append-drop}
use Rattle.std.proofs.lemmas.List.Elements.{All-push}
use Rattle.std.proofs.lemmas.List.Quantifiers.{all_pairs_push}
use Rattle.std.proofs.lemmas.List.FromFn.{map-range_with_len_more, take-map-range_with_len}
use Rattle.std.proofs.lemmas.Option.{slice_get_within, get_or_from_slice_get, same_Some}
use Rattle.volume_terms.specs.laws.List.{slice_get_there, push_last, push_before}
use Rattle.nand_model.specs.declared.geometry.Geometry.{Geometry}
use Rattle.page_tags.specs.laws.Check.{all_at}
use Rattle.page_tags.specs.Checks.{IsCheckEntry}
use Rattle.page_tags.specs.declared.check.CheckEntry.{CheckEntry}
use Rattle.page_tags.specs.declared.summary_head.SummaryHead.{SummaryHead}
use Rattle.flash_tree.specs.Summaries.{IsEntryIn}
use Rattle.mount_scan.specs.SummaryContents.{AreListed, MayCome, entry_at, entries_in}

-- entries that rise, by their places
pub rises_at :
    (es : List CheckEntry) → AllPairs (λ (e f : CheckEntry). e.page < f.page) es → (i j : ℕ) (e f : CheckEntry) → i < j → slice_get es i ≡ Some e → slice_get es j ≡ Some f → e.page < f.page
rises_at es rise i j e f lt is is' =
    subst (λ (x : CheckEntry). x.page < f.page) (get_or_from_slice_get es i e e is)
    (subst (λ (x : CheckEntry). (get_or es i e).page < x.page) (get_or_from_slice_get es j f e is') (rise i j e lt (slice_get_within es j f is')))

module _ (g : Geometry) (head : SummaryHead) where
  -- an entry that may come next makes the list one more
  pub listed_push : (es : List CheckEntry) (e : CheckEntry) → AreListed g head es → IsCheckEntry e → MayCome g head es e → AreListed g head (es ++ e ∷ [])
  listed_push es e are valid may = record {
    each = All-push (IsEntryIn g head) es e are.each (record { entry = valid; block = may.block; page = may.page });
    rise = all_pairs_push (λ (e f : CheckEntry). e.page < f.page) es e are.rise before;
  } where
    before : (k : ℕ) (d : CheckEntry) → k < length es → (get_or es k d).page < e.page
    before k d lt =
        let x = slice_get_there es k lt in
        let l = slice_get_there es (length es - 1) (omega (arith, lt)) in
        let last : l.0.page < e.page = may.after l.0 l.1 in
        subst (λ (y : CheckEntry). y.page < e.page) (sym (get_or_from_slice_get es k x.0 d x.1)) (elim (cases_eq k (length es - 1)) [
          | inl here ↦ let one : x.0 ≡ l.0 = same_Some x.0 l.0 (sym x.1 ∙ ap (slice_get es) here ∙ l.1) in subst (λ (y : CheckEntry). y.page < e.page) (sym one) last
          | inr ne ↦ let less = rises_at es are.rise k (length es - 1) x.0 l.0 (omega (arith, lt, ne)) x.1 l.1 in omega (arith, less, last)
        ])

  -- and no other does
  pub push_listed : (es : List CheckEntry) (e : CheckEntry) → AreListed g head (es ++ e ∷ []) → MayCome g head es e
  push_listed es e are =
      let one = all_at (IsEntryIn g head) (es ++ e ∷ []) (length es) e are.each (push_last es e) in
      record {
        block = one.block;
        page = one.page;
        after = λ last is.
            let within = slice_get_within es (length es - 1) last is in
            rises_at (es ++ e ∷ []) are.rise (length es - 1) (length es) last e (omega (arith, within)) (push_before es e (length es - 1) last is) (push_last es e);
      }

  -- the first entries of such a list are one
  pub listed_front : (xs ys : List CheckEntry) → AreListed g head (xs ++ ys) → AreListed g head xs
  listed_front xs ys are = record {
    each = λ k d lt. subst (IsEntryIn g head) (get_or_append_left xs ys d k lt) (are.each k d (omega (arith, lt, length-append xs ys)));
    rise = λ i j d lt within.
        subst (λ (e : CheckEntry). e.page < (get_or xs j d).page) (get_or_append_left xs ys d i (omega (arith, lt, within)))
        (subst (λ (f : CheckEntry). (get_or (xs ++ ys) i d).page < f.page) (get_or_append_left xs ys d j within) (are.rise i j d lt (omega (arith, within, length-append xs ys))));
  }

  -- none has more entries than a block has pages
  at_least : (es : List CheckEntry) → AreListed g head es → (k : ℕ) (e : CheckEntry) → slice_get es k ≡ Some e → k ≤ e.page
  at_least es are zero e is = omega arith
  at_least es are (suc k) e is =
      let within = slice_get_within es (suc k) e is in
      let d = slice_get_there es k (omega (arith, within)) in
      let before = at_least es are k d.0 d.1 in
      let less = rises_at es are.rise k (suc k) d.0 e (omega arith) d.1 is in
      omega (arith, before, less)

  pub few_listed : (es : List CheckEntry) → AreListed g head es → length es ≤ g.pages
  few_listed es are = elim (cases_eq (length es) 0) [
    | inl none ↦ omega (arith, none)
    | inr some ↦
        let l = slice_get_there es (length es - 1) (omega (arith, some)) in
        let least = at_least es are (length es - 1) l.0 l.1 in
        let page = (all_at (IsEntryIn g head) es (length es - 1) l.0 are.each l.1).page in
        omega (arith, least, page, some)
  ]

-- ---- the entries in bytes

pub entries_more : (bytes : List ℕ) (k : ℕ) → entries_in bytes (k + 1) ≡ entries_in bytes k ++ entry_at bytes k ∷ []
entries_more bytes k = map-range_with_len_more (entry_at bytes) 0 k k (omega arith)

pub front_listed : (g : Geometry) (head : SummaryHead) (bytes : List ℕ) (k n : ℕ) → k ≤ n → AreListed g head (entries_in bytes n) → AreListed g head (entries_in bytes k)
front_listed g head bytes k n le are =
    let front : take k (entries_in bytes n) ≡ entries_in bytes k = take-map-range_with_len (entry_at bytes) 0 n k le in
    subst (AreListed g head) front (listed_front g head (take k (entries_in bytes n)) (drop k (entries_in bytes n))
    (subst (AreListed g head) (sym (take-append-drop k (entries_in bytes n))) are))
