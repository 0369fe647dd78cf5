-- The newest pages in a map.
use Rattle.std.specs.Prelude.{◌≡◌, ◌⊎◌, ◌<◌, ℕ, Bool, true, false, List, [], ◌∷◌, ◌++◌, Option, Some, None, IsSome, Contains}
use Rattle.std.specs.BTreeMap.{Updates, is_at}
use Rattle.std.specs.Cmp.{Equal-is}
use Rattle.std.specs.Ordering.{nat_cmp}
use Rattle.std.proofs.Common.{refl, sym, ◌∙◌, ap, subst, inl, inr}
use Rattle.std.proofs.lemmas.Bool.{cases_eq}
use Rattle.std.proofs.lemmas.List.Elements.{Contains-append_left, Contains-push, Contains-push_cases, All-contains}
use Rattle.std.proofs.lemmas.Map.Lookups.{exact_unsigned, exact_pairs}
use Rattle.nand_model.specs.Flash.{Flash}
use Rattle.nand_model.specs.Calls.{Device}
use Rattle.flash_tree.specs.Newest.{Spot, Holds, IsAfter, IsNewest}
use Rattle.flash_tree.specs.laws.Newest.{one_spot}
use Rattle.flash_tree.specs.declared.place.Found.{Found}
use Rattle.flash_tree.specs.Places.{spot_of}
use Rattle.mount_scan.specs.Scanned.{ReportsCounted}
use Rattle.mount_scan.specs.NewestMap.{KeyMap, key_cmp, page_of, AreLatestOf, ReportsNewest}
use Rattle.mount_scan.specs.laws.Scan.{found_of, listed_spot}

-- two pages of one key in a map are one
pub same_page : (m : KeyMap) (o c : ℕ) (f g : Found) → page_of m o c ≡ Some f → page_of m o c ≡ Some g → f ≡ g
same_page m o c f g is at = let both : Some f ≡ Some g = sym is ∙ at in cc

-- the page of a key that has one
the_page : (p : Option Found) → IsSome p → (f : Found) × (p ≡ Some f)
the_page None none = absurd (let two : false ≡ true = none in cc)
the_page (Some f) some = (f, refl)

-- a key that is not another's
not_at : (a b o c : ℕ) → (o ≡ a → c ≡ b → ⊥) → is_at (key_cmp (a, b)) (o, c) ≡ false
not_at a b o c ne = go (is_at (key_cmp (a, b)) (o, c)) refl
  where
    go : (r : Bool) → is_at (key_cmp (a, b)) (o, c) ≡ r → is_at (key_cmp (a, b)) (o, c) ≡ false
    go false is = is
    go true is =
        let same : (a, b) ≡ (o, c) = exact_pairs nat_cmp nat_cmp exact_unsigned exact_unsigned (a, b) (o, c) ((Equal-is (key_cmp (a, b) (o, c))).0 is) in
        absurd (ne (sym (ap (λ (k : ℕ × ℕ). k.0) same)) (sym (ap (λ (k : ℕ × ℕ). k.1) same)))

-- a key has this page now, and each other key the one that it had
pub record Gives (x : Found) (m n : KeyMap) : Type 0 where
  pub here : page_of n x.tag.object x.tag.chunk ≡ Some x
  pub others : (o c : ℕ) → (o ≡ x.tag.object → c ≡ x.tag.chunk → ⊥) → page_of n o c ≡ page_of m o c

gives : (x : Found) (m n : KeyMap) → Updates key_cmp m n (x.tag.object, x.tag.chunk) (Some x) → Gives x m n
gives x m n updates = record { here = updates.1; others = λ o c ne. updates.2 (o, c) (not_at x.tag.object x.tag.chunk o c ne) }

-- one page more, that does not come after the one of its key
pub latest_stays : (list : List Found) (m : KeyMap) (x y : Found) → page_of m x.tag.object x.tag.chunk ≡ Some y → (IsAfter (spot_of x) (spot_of y) → ⊥) → AreLatestOf list m → AreLatestOf (list ++ (x ∷ [])) m
latest_stays list m x y is not old = record {
  among = λ o c f at. let was = old.among o c f at in (Contains-append_left list (x ∷ []) f was.0, was.1, was.2);
  last = λ o c f g at has object chunk after. elim (Contains-push_cases list x g has) [
    | inl was ↦ old.last o c f g at was object chunk after
    | inr same ↦
        let there : page_of m o c ≡ Some y = subst (λ (k : ℕ). page_of m k c ≡ Some y) (ap (λ (p : Found). p.tag.object) same ∙ object) (subst (λ (k : ℕ). page_of m x.tag.object k ≡ Some y) (ap (λ (p : Found). p.tag.chunk) same ∙ chunk) is) in
        let one : f ≡ y = same_page m o c f y at there in
        not (subst (λ (p : Found). IsAfter (spot_of p) (spot_of y)) (sym same) (subst (λ (p : Found). IsAfter (spot_of g) (spot_of p)) one after))
  ];
  some = λ g has. elim (Contains-push_cases list x g has) [
    | inl was ↦ old.some g was
    | inr same ↦ subst (λ (p : Found). IsSome (page_of m p.tag.object p.tag.chunk)) same (rw is refl)
  ];
}

-- one page more, that its key has now, and that comes after the one that it had
module _ (on : (s t u : Spot) → IsAfter s t → IsAfter t u → IsAfter s u) (strict : (s : Spot) → IsAfter s s → ⊥) (list : List Found) (m n : KeyMap) (x : Found) (now : Gives x m n)
    (later : (y : Found) → page_of m x.tag.object x.tag.chunk ≡ Some y → IsAfter (spot_of x) (spot_of y)) (old : AreLatestOf list m) where
  -- at the key of the page it is the page that is there, and elsewhere what was there
  there : (o c : ℕ) (f : Found) → page_of n o c ≡ Some f → ((x ≡ f) × (o ≡ x.tag.object) × (c ≡ x.tag.chunk)) ⊎ (page_of m o c ≡ Some f × (o ≡ x.tag.object → c ≡ x.tag.chunk → ⊥))
  there o c f is = elim (cases_eq o x.tag.object) [
    | inr ne ↦ let other : o ≡ x.tag.object → c ≡ x.tag.chunk → ⊥ = λ e _. ne e in inr (sym (now.others o c other) ∙ is, other)
    | inl object ↦ elim (cases_eq c x.tag.chunk) [
      | inr ne ↦ let other : o ≡ x.tag.object → c ≡ x.tag.chunk → ⊥ = λ _ e. ne e in inr (sym (now.others o c other) ∙ is, other)
      | inl chunk ↦ inl (
        same_page n x.tag.object x.tag.chunk x f now.here (subst (λ (k : ℕ). page_of n k x.tag.chunk ≡ Some f) object (subst (λ (k : ℕ). page_of n o k ≡ Some f) chunk is)),
        object,
        chunk,
      )
    ]
  ]

  -- no page of the list with the key of the page comes after it
  last_here : (g : Found) → Contains list g → g.tag.object ≡ x.tag.object → g.tag.chunk ≡ x.tag.chunk → IsAfter (spot_of g) (spot_of x) → ⊥
  last_here g has object chunk after =
      let (y, at) = the_page (page_of m g.tag.object g.tag.chunk) (old.some g has) in
      let here : page_of m x.tag.object x.tag.chunk ≡ Some y = subst (λ (k : ℕ). page_of m k x.tag.chunk ≡ Some y) object (subst (λ (k : ℕ). page_of m g.tag.object k ≡ Some y) chunk at) in
      old.last g.tag.object g.tag.chunk y g at has refl refl (on (spot_of g) (spot_of x) (spot_of y) after (later y here))

  pub latest_added : AreLatestOf (list ++ (x ∷ [])) n
  latest_added = record {
    among = λ o c f is. elim (there o c f is) [
      | inl (same, object, chunk) ↦ (subst (Contains (list ++ (x ∷ []))) same (Contains-push list x), ap (λ (p : Found). p.tag.object) (sym same) ∙ sym object, ap (λ (p : Found). p.tag.chunk) (sym same) ∙ sym chunk)
      | inr (was, other) ↦ let among = old.among o c f was in (Contains-append_left list (x ∷ []) f among.0, among.1, among.2)
    ];
    last = λ o c f g is has object chunk after. elim (there o c f is) [
      | inl (same, at, of) ↦
          let late : IsAfter (spot_of g) (spot_of x) = subst (λ (p : Found). IsAfter (spot_of g) (spot_of p)) (sym same) after in
          elim (Contains-push_cases list x g has) [
            | inl was ↦ last_here g was (object ∙ at) (chunk ∙ of) late
            | inr is_x ↦ strict (spot_of x) (subst (λ (p : Found). IsAfter (spot_of p) (spot_of x)) (sym is_x) late)
          ]
      | inr (was, other) ↦ elim (Contains-push_cases list x g has) [
        | inl among ↦ old.last o c f g was among object chunk after
        | inr is_x ↦ other (sym object ∙ ap (λ (p : Found). p.tag.object) (sym is_x)) (sym chunk ∙ ap (λ (p : Found). p.tag.chunk) (sym is_x))
      ]
    ];
    some = λ g has. elim (Contains-push_cases list x g has) [
      | inr is_x ↦ subst (λ (p : Found). IsSome (page_of n p.tag.object p.tag.chunk)) is_x (rw now.here refl)
      | inl was ↦ elim (cases_eq g.tag.object x.tag.object) [
        | inr ne ↦ rw (now.others g.tag.object g.tag.chunk (λ e _. ne e)) (old.some g was)
        | inl object ↦ elim (cases_eq g.tag.chunk x.tag.chunk) [
          | inr ne ↦ rw (now.others g.tag.object g.tag.chunk (λ _ e. ne e)) (old.some g was)
          | inl chunk ↦ rw (object, chunk, now.here) refl
        ]
      ]
    ];
  }

pub latest_put : (on : (s t u : Spot) → IsAfter s t → IsAfter t u → IsAfter s u) (strict : (s : Spot) → IsAfter s s → ⊥) (m n : KeyMap) (x : Found) → Updates key_cmp m n (x.tag.object, x.tag.chunk) (Some x)
    → ((y : Found) → page_of m x.tag.object x.tag.chunk ≡ Some y → IsAfter (spot_of x) (spot_of y)) → (list : List Found) → AreLatestOf list m → AreLatestOf (list ++ (x ∷ [])) n
latest_put on strict m n x updates later list old = latest_added on strict list m n x (gives x m n updates) later old

-- a page that counts does so for the key of its tag
of_key : (flash : Flash) (o c k l : ℕ) (s : Spot) → Holds flash o c s → s.tag.object ≡ k → s.tag.chunk ≡ l → Holds flash k l s
of_key flash o c k l s holds object chunk = record { group = holds.group; whole = holds.whole; index = holds.index; within = holds.within; block = holds.block; page = holds.page; has = holds.has; object = object; chunk = chunk }

-- of all pages that count these are the newest
pub reports_newest : (device : Device) (valid_pages : List Found) (m : KeyMap) → ReportsCounted device valid_pages → AreLatestOf valid_pages m → ReportsNewest device m
reports_newest device valid_pages m reports latest =
    let only : device.honest ≡ true → (o c : ℕ) (f : Found) → page_of m o c ≡ Some f → IsNewest device.flash o c (spot_of f) = λ honest o c f is.
    let was = latest.among o c f is in
    let counts : (s : Spot) → Holds device.flash s.tag.object s.tag.chunk s → Contains valid_pages (found_of s) = λ s holds. (listed_spot valid_pages s).0 (((reports.exact honest).each s).0 holds) in
    let holds : Holds device.flash f.tag.object f.tag.chunk (spot_of f) = ((reports.exact honest).each (spot_of f)).1 ((listed_spot valid_pages (spot_of f)).1 was.0) in
    record {
      holds = of_key device.flash f.tag.object f.tag.chunk o c (spot_of f) holds was.1 was.2;
      last = λ t other after. latest.last o c f (found_of t) is (counts t (of_key device.flash o c t.tag.object t.tag.chunk t other refl refl)) other.object other.chunk after;
    } in
    record {
      placed = λ o c f is. All-contains (λ (y : Found). (y.block < device.geometry.blocks) × (y.page < device.geometry.pages)) valid_pages f reports.placed (latest.among o c f is).0;
      exact = λ honest. record {
        only = only honest;
        each = λ o c s newest.
            let holds = newest.holds in
            let here = (listed_spot valid_pages s).0 (((reports.exact honest).each s).0 (of_key device.flash o c s.tag.object s.tag.chunk s holds refl refl)) in
            let (f, at) = the_page (page_of m s.tag.object s.tag.chunk) (latest.some (found_of s) here) in
            let there : page_of m o c ≡ Some f = subst (λ (k : ℕ). page_of m k c ≡ Some f) holds.object (subst (λ (k : ℕ). page_of m s.tag.object k ≡ Some f) holds.chunk at) in
            (f, there, one_spot device.flash o c (spot_of f) s (only honest o c f there) newest);
      };
    }
