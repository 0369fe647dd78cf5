-- What becomes of listed pages that are copied, and of all others.
use Rattle.std.proofs.Common.{◌≡◌, ◌≢◌, ◌⊎◌, ◌<◌, ℕ, zero, suc, ◌+◌, List, [], ◌∷◌, length, slice_get, Option, Some, refl, sym, ap, subst, ◌∙◌, arith, inl, inr}
use Rattle.std.specs.Option.{option_map_or}
use Rattle.std.proofs.lemmas.Bool.{cases_eq}
use Rattle.std.proofs.lemmas.Option.{slice_get_within}
use Rattle.volume_terms.specs.laws.List.{slice_get_there}
use Rattle.nand_model.specs.Flash.{Flash, Erased, Written}
use Rattle.nand_model.specs.Calls.{bytes_of}
use Rattle.page_tags.specs.Tags.{tag_bytes}
use Rattle.flash_tree.specs.Groups.{Group}
use Rattle.flash_tree.specs.Keeping.{StaysNewest}
use Rattle.flash_tree.specs.Newest.{Spot, Holds, IsNewest}
use Rattle.flash_tree.specs.Slots.{check_object}
use Rattle.flash_tree.specs.laws.Newest.{one_spot}
use Rattle.block_state.specs.Table.{Table}
use Rattle.chunk_index.specs.declared.form.CommittedPage.{CommittedPage}
use Rattle.chunk_index.specs.declared.form.PagePlace.{PagePlace}
use Rattle.flash_log.specs.CopySource.{copied_name, copy_name, no_name, page_at, copy_bytes, HasCopy}
use Rattle.transactions.specs.Naming.{AreOrdinary, IsNamed, NamesOnce}
use Rattle.transactions.specs.Newest.{spot_at, IsOfCopies, ShowsGroup}
use Rattle.transactions.specs.Written.{tag_in}
use Rattle.chunk_index.specs.declared.form.CommittedKey.{CommittedKey}
use Rattle.transactions.specs.declared.source.PageName.{PageName}
use Rattle.flash_log.specs.Copying.{IsCopyOf, KeepsDataAt, AreCommittedAt, AreCopied}
use Rattle.flash_log.specs.Consistency.{IsCommittedAt}
use Rattle.flash_log.specs.laws.CommittedPages.{spot_of, committed_stays, data_stays}

-- a key is one of those that are copied, or it is not
pub listed_or_not : (copies : List CommittedKey) (o c : ℕ) → ((i : ℕ) × (x : CommittedKey) × (slice_get copies i ≡ Some x) × IsCopyOf x o c)
    ⊎ ((i : ℕ) (x : CommittedKey) → slice_get copies i ≡ Some x → IsCopyOf x o c → ⊥)
listed_or_not [] o c = inr (λ i x at is. absurd cc)
listed_or_not (y ∷ ys) o c = go (cases_eq y.key.object o) (cases_eq y.key.chunk c) (listed_or_not ys o c) where
  Listed : Type 0
  Listed = ((i : ℕ) × (x : CommittedKey) × (slice_get (y ∷ ys) i ≡ Some x) × IsCopyOf x o c) ⊎ ((i : ℕ) (x : CommittedKey) → slice_get (y ∷ ys) i ≡ Some x → IsCopyOf x o c → ⊥)

  below : (IsCopyOf y o c → ⊥) → ((i : ℕ) × (x : CommittedKey) × (slice_get ys i ≡ Some x) × IsCopyOf x o c) ⊎ ((i : ℕ) (x : CommittedKey) → slice_get ys i ≡ Some x → IsCopyOf x o c → ⊥)
      → ((i : ℕ) × (x : CommittedKey) × (slice_get (y ∷ ys) i ≡ Some x) × IsCopyOf x o c) ⊎ ((i : ℕ) (x : CommittedKey) → slice_get (y ∷ ys) i ≡ Some x → IsCopyOf x o c → ⊥)
  below not (inl (i, x, at, is)) = inl (suc i, x, at, is)
  below not (inr none) = inr each where
    each : (i : ℕ) (x : CommittedKey) → slice_get (y ∷ ys) i ≡ Some x → IsCopyOf x o c → ⊥
    each zero x at is = let same : y ≡ x = cc in not (ap (λ (z : CommittedKey). z.key.object) same ∙ is.0, ap (λ (z : CommittedKey). z.key.chunk) same ∙ is.1)
    each (suc i) x at is = none i x at is

  go : (y.key.object ≡ o) ⊎ (y.key.object ≡ o → ⊥) → (y.key.chunk ≡ c) ⊎ (y.key.chunk ≡ c → ⊥)
      → ((i : ℕ) × (x : CommittedKey) × (slice_get ys i ≡ Some x) × IsCopyOf x o c) ⊎ ((i : ℕ) (x : CommittedKey) → slice_get ys i ≡ Some x → IsCopyOf x o c → ⊥)
      → ((i : ℕ) × (x : CommittedKey) × (slice_get (y ∷ ys) i ≡ Some x) × IsCopyOf x o c) ⊎ ((i : ℕ) (x : CommittedKey) → slice_get (y ∷ ys) i ≡ Some x → IsCopyOf x o c → ⊥)
  go (inl object) (inl chunk) rest = inl (0, y, refl, (object, chunk))
  go (inl object) (inr ne) rest = below (λ is. ne is.1) rest
  go (inr ne) chunk rest = below (λ is. ne is.0) rest

module _ (copies : List CommittedKey) where
  pub name_is : (i : ℕ) (x : CommittedKey) → slice_get copies i ≡ Some x → copy_name copies i ≡ copied_name x
  name_is i x at = ap (λ (c : Option CommittedKey). option_map_or (λ c. copied_name c) c no_name) at

  pub bytes_is : (flash : Flash) (i : ℕ) (x : CommittedKey) (xs tag : List ℕ) → slice_get copies i ≡ Some x → flash.page x.at.block x.at.page ≡ Written xs tag → copy_bytes copies flash i ≡ xs
  bytes_is flash i x xs tag at stored =
      let page : page_at copies flash i ≡ flash.page x.at.block x.at.page = ap (λ (c : Option CommittedKey). option_map_or (λ c. flash.page c.at.block c.at.page) c Erased) at in
      ap (λ p. bytes_of p []) (page ∙ stored)

  -- each copied page is there under its name
  pub has_copies : (flash : Flash) → AreCommittedAt flash copies → (i : ℕ) → HasCopy copies flash i
  has_copies flash committed i x at =
      let is = committed i x at in
      let has = is.newest.holds.has in
      let object : is.tag.object ≡ x.key.object = is.newest.holds.object in
      let chunk : is.tag.chunk ≡ x.key.chunk = is.newest.holds.chunk in
      let version : is.tag.version ≡ x.at.version = is.version in
      record {
        bytes = has.bytes;
        tag = tag_bytes is.tag;
        page = has.page;
        names = record { tag = is.tag; is = refl; valid = has.valid; named = λ j. record { key = record { object = object j; chunk = chunk j }; version = version j } };
      }

  module _ (once : (i j : ℕ) (x y : CommittedKey) → slice_get copies i ≡ Some x → slice_get copies j ≡ Some y → x.key ≡ y.key → i ≡ j)
      (g : Group) (size : g.size ≡ length copies) where
    -- a page of the group has the key of its copy
    pub key_is : (o c i : ℕ) → i < g.size → IsNamed (copy_name copies) o c i → (x : CommittedKey) × (slice_get copies i ≡ Some x) × IsCopyOf x o c
    key_is o c i lt named =
        let there = slice_get_there copies i (omega (arith, size, lt)) in
        let name = name_is i there.0 there.1 in
        (there.0, there.1, (sym (ap (λ (n : PageName). n.key.object) name) ∙ named.object, sym (ap (λ (n : PageName). n.key.chunk) name) ∙ named.chunk))

    -- the key of a copy is that of no other
    pub names_once : (o c i : ℕ) (x : CommittedKey) → slice_get copies i ≡ Some x → IsCopyOf x o c → NamesOnce g (copy_name copies) o c i
    names_once o c i x at is =
        let lt : i < length copies = slice_get_within copies i x at in
        record {
          within = omega (arith, size, lt);
          named = record { object = ap (λ (n : PageName). n.key.object) (name_is i x at) ∙ is.0; chunk = ap (λ (n : PageName). n.key.chunk) (name_is i x at) ∙ is.1 };
          once = λ k less named.
              let other = key_is o c k less named in
              let object : other.0.key.object ≡ x.key.object = other.2.0 ∙ sym is.0 in
              let chunk : other.0.key.chunk ≡ x.key.chunk = other.2.1 ∙ sym is.1 in
              let key : other.0.key ≡ x.key = λ j. record { object = object j; chunk = chunk j } in
              once k i other.0 x other.1 at key;
        }

    module _ (old : Flash) (committed : AreCommittedAt old copies) where
      -- the page that is copied is the newest of the key
      committed_of : (o c i : ℕ) (x : CommittedKey) → slice_get copies i ≡ Some x → IsCopyOf x o c → IsCommittedAt old o c x.at
      committed_of o c i x at is = subst (λ q. IsCommittedAt old q c x.at) is.0 (subst (λ l. IsCommittedAt old x.key.object l x.at) is.1 (committed i x at))

      pub is_of_copies : AreOrdinary (length copies) (copy_name copies) → ((o c : ℕ) (s : Spot) → o ≢ check_object → Holds old o c s → s.tag.seq < g.seq) → IsOfCopies g (copy_name copies) old
      is_of_copies ordinary older = record {
        versions = λ o c i names.
            let its = key_is o c i names.within names.named in
            let at = committed_of o c i its.0 its.1 its.2 in
            (spot_of its.0.at at.tag, at.newest, ap (λ (n : PageName). n.version) (name_is i its.0 its.1) ∙ sym at.version);
        older = λ o c i names s holds. older o c s (subst (λ k. k ≢ check_object) names.named.object (ordinary i (let lt = names.within in omega (arith, lt, size)))) holds;
      }

      module _ (new : Flash) (t : Table) (to : PagePlace) (block : g.block ≡ to.block) (start : g.start ≡ to.page) (shows : ShowsGroup g (copy_name copies) (copy_bytes copies old) old new) where
        -- a key that is not copied keeps its newest page
        stays_apart : (o c : ℕ) (p : CommittedPage) → ((i : ℕ) (x : CommittedKey) → slice_get copies i ≡ Some x → IsCopyOf x o c → ⊥) → (at : IsCommittedAt old o c p)
            → StaysNewest old new o c (spot_of p at.tag)
        stays_apart o c p apart at = shows.others o c (spot_of p at.tag) (λ i lt named. let its = key_is o c i lt named in apart i its.0 its.1 its.2) at.newest

        pub are_copied : AreCopied to copies t old new
        are_copied = record {
          copied = λ i x at.
              let o : ℕ = x.key.object in
              let c : ℕ = x.key.chunk in
              let named = shows.named o c i (names_once o c i x at (refl, refl)) in
              let page : g.start + i ≡ to.page + i = omega (arith, start) in
              record {
                tag = tag_in g (copy_name copies) i;
                newest = subst (λ b. IsNewest new o c (record { block = b; page = to.page + i; tag = tag_in g (copy_name copies) i })) block
                    (subst (λ n. IsNewest new o c (record { block = g.block; page = n; tag = tag_in g (copy_name copies) i })) page named.newest);
                version = ap (λ (n : PageName). n.version) (name_is i x at);
              };
          others = λ o c p some apart at. committed_stays old new o c p at (stays_apart o c p apart at);
        }

        -- the group of the copies has its number
        pub numbered_copies : (i : ℕ) (x : CommittedKey) (s : Spot) → slice_get copies i ≡ Some x → IsNewest new x.key.object x.key.chunk s → g.number ≡ s.tag.group
        numbered_copies i x s at newest =
            let o : ℕ = x.key.object in
            let c : ℕ = x.key.chunk in
            let named = shows.named o c i (names_once o c i x at (refl, refl)) in
            let same : spot_at g (copy_name copies) i ≡ s = one_spot new o c (spot_at g (copy_name copies) i) s named.newest newest in
            ap (λ (z : Spot). z.tag.group) same

        pub data_copied : KeepsDataAt t old new
        data_copied o c p bytes some at has = elim (listed_or_not copies o c) [
          | inr apart ↦ data_stays old new o c p bytes at has (stays_apart o c p apart at)
          | inl (i, x, here, is) ↦
              let was = committed_of o c i x here is in
              let same : spot_of x.at was.tag ≡ has.spot = one_spot old o c (spot_of x.at was.tag) has.spot was.newest has.newest in
              let stored : old.page x.at.block x.at.page ≡ Written bytes (tag_bytes has.spot.tag) = ap (λ (s : Spot). old.page s.block s.page) same ∙ has.stored in
              let its_data : copy_bytes copies old i ≡ bytes = bytes_is old i x bytes (tag_bytes has.spot.tag) here stored in
              let named = shows.named o c i (names_once o c i x here is) in
              record {
                spot = spot_at g (copy_name copies) i;
                newest = named.newest;
                version_is = ap (λ (n : PageName). n.version) (name_is i x here) ∙ sym was.version ∙ ap (λ (s : Spot). s.tag.version) same ∙ has.version_is;
                stored = named.stored ∙ ap (λ (ys : List ℕ). Written ys (tag_bytes (tag_in g (copy_name copies) i))) its_data;
              }
        ]
