-- What the facts of objects are where a directory has a name more, or less.
use Rattle.std.specs.Prelude.{◌≡◌, ◌≢◌, ◌⊎◌, ◌<◌, ◌+◌, ◌-◌, ◌^◌, ℕ, suc, List, ◌∷◌, length, Option, Some, None}
use Rattle.std.proofs.Common.{refl, sym, subst, inl, inr, arith}
use Rattle.std.specs.FinMap as map
use Rattle.posix_profile.specs.State.{Name, Object, File, Dir, Objects, IsDirectory}
use Rattle.posix_profile.specs.Names.{Names, link_pairs}
use Rattle.posix_profile.specs.WellFormed.{IsNamed}
use Rattle.posix_profile.specs.declared.reply.Kind.{Kind}
use Rattle.posix_profile.specs.declared.reply.Kind.TheVariants as kinds
use Rattle.posix_profile.specs.laws.Link.{Lists, IsSubdirectory, link_pairs_list}
use Rattle.object_store.specs.Facts.{NamedBy}
use Rattle.object_store.specs.TableFacts.{IsFileFacts, IsDirectoryFacts, AreFactsOf, one_more, links_with, entry_removed, name_added, name_removed}
use Rattle.object_store.specs.declared.table_facts.ObjectFacts.{ObjectFacts}
use Rattle.object_store.proofs.Counting.{same_length, without, length_without, list_with, list_without, list_other}
use Rattle.object_store.proofs.Reporting.{SameAt}

-- The directory d names o in the one, and not in the other; all else is named alike, and the same are directories.
pub record HasOneMore (less more : Objects) (d o : ℕ) (name : Name) : Type 0 where
  pub here : Names more d name o
  pub absent : Names less d name o → ⊥
  pub to : (p c : ℕ) (n : Name) → Names less p n c → Names more p n c
  pub from : (p c : ℕ) (n : Name) → Names more p n c → ((p ≡ d) × (n ≡ name) × (c ≡ o)) ⊎ Names less p n c
  pub directory : (c : ℕ) → IsDirectory less c → IsDirectory more c
  pub was : (c : ℕ) → IsDirectory more c → IsDirectory less c

-- whether a directory or a file comes or goes
abbrev pub IsOfKind : Objects → ℕ → Kind → Type 0
IsOfKind objects o kinds.File = IsDirectory objects o → ⊥
IsOfKind objects o kinds.Directory = IsDirectory objects o

module _ (less more : Objects) (d o : ℕ) (name : Name) (one : HasOneMore less more d o name) where
  other_name : (k : ℕ) → k ≢ o → (p : ℕ) (n : Name) → Names more p n k → Names less p n k
  other_name k ne p n names = elim (one.from p k n names) [ inl new ↦ absurd (ne new.2) | inr old ↦ old ]

  child_to : (k c : ℕ) → IsSubdirectory less k c → IsSubdirectory more k c
  child_to k c sub = ((sub.0.0, one.to k c sub.0.0 sub.0.1), one.directory c sub.1)

  child_from : (k c : ℕ) → (k ≡ d → c ≢ o) → IsSubdirectory more k c → IsSubdirectory less k c
  child_from k c ne sub = elim (one.from k c sub.0.0 sub.0.1) [ inl new ↦ absurd (ne new.0 new.2) | inr old ↦ ((sub.0.0, old), one.was c sub.1) ]

  -- another object has what it had
  pub same_up : (k : ℕ) → k ≢ d → k ≢ o → SameAt less more k
  same_up k ne other = record {
    to = λ p n. one.to p k n;
    from = λ p n. other_name k other p n;
    child = λ c. child_to k c;
    was = λ c. child_from k c (λ is. absurd (ne is));
  }

  pub same_down : (k : ℕ) → k ≢ d → k ≢ o → SameAt more less k
  same_down k ne other = record {
    to = λ p n. other_name k other p n;
    from = λ p n. one.to p k n;
    child = λ c. child_from k c (λ is. absurd (ne is));
    was = λ c. child_to k c;
  }

  pairs_up : (pairs : List (ℕ × Name)) → Lists (λ pair. Names less pair.0 pair.1 o) pairs → Lists (λ pair. Names more pair.0 pair.1 o) ((d, name) ∷ pairs)
  pairs_up pairs lists = list_with (λ pair. Names less pair.0 pair.1 o) (λ pair. Names more pair.0 pair.1 o) pairs (d, name) one.absent one.here
      (λ p is. one.to p.0 o p.1 is)
      (λ p is. elim (one.from p.0 o p.1 is) [ inl new ↦ inl (λ i. (new.0 i, new.1 i)) | inr old ↦ inr old ]) lists

  pairs_down : (pairs : List (ℕ × Name)) → Lists (λ pair. Names more pair.0 pair.1 o) pairs → (rest : List (ℕ × Name)) × Lists (λ pair. Names less pair.0 pair.1 o) rest × (length pairs ≡ length rest + 1)
  pairs_down pairs lists =
      let rest = link_pairs less o in
      let same = same_length (λ pair. Names more pair.0 pair.1 o) pairs ((d, name) ∷ link_pairs less o) lists (pairs_up (link_pairs less o) (link_pairs_list less o)) in
      (link_pairs less o, link_pairs_list less o, omega (arith, same))

  children_up : (k : ℕ) → (k ≡ d → IsDirectory less o → ⊥) → (children : List ℕ) → Lists (IsSubdirectory less k) children → Lists (IsSubdirectory more k) children
  children_up k no' children lists = list_other (IsSubdirectory less k) (IsSubdirectory more k) children (λ c. child_to k c)
      (λ c sub. child_from k c (λ is same. no' is (one.was o (subst (IsDirectory more) same sub.1))) sub) lists

  children_down : (k : ℕ) → (k ≡ d → IsDirectory less o → ⊥) → (children : List ℕ) → Lists (IsSubdirectory more k) children → Lists (IsSubdirectory less k) children
  children_down k no' children lists = list_other (IsSubdirectory more k) (IsSubdirectory less k) children
      (λ c sub. child_from k c (λ is same. no' is (one.was o (subst (IsDirectory more) same sub.1))) sub) (λ c. child_to k c) lists

  -- what names the directory does so before and after
  parent_less : (parent : Option ℕ) → NamedBy more d parent → d ≢ o → NamedBy less d parent
  parent_less None none ne = λ named. none (named.0, named.1, one.to named.0 d named.1 named.2)
  parent_less (Some p) by' ne = (by'.0, other_name d ne p by'.0 by'.1)

  pub parent_more : (parent : Option ℕ) → NamedBy less d parent → d ≢ o → NamedBy more d parent
  parent_more None none ne = λ named. none (named.0, named.1, other_name d ne named.0 named.1 named.2)
  parent_more (Some p) by' ne = (by'.0, one.to p d by'.0 by'.1)

  module _ (unnamed : IsDirectory less o → IsNamed less o → ⊥) where
    no_child : IsDirectory less o → IsSubdirectory less d o → ⊥
    no_child dir sub = unnamed dir (d, sub.0.0, sub.0.1)

    child_more : (dir : IsDirectory less o) (children : List ℕ) → Lists (IsSubdirectory less d) children → Lists (IsSubdirectory more d) (o ∷ children)
    child_more dir children lists = list_with (IsSubdirectory less d) (IsSubdirectory more d) children o (no_child dir) ((name, one.here), one.directory o dir) (λ c. child_to d c) back lists
      where
        back : (c : ℕ) → IsSubdirectory more d c → (c ≡ o) ⊎ IsSubdirectory less d c
        back c sub = elim (one.from d c sub.0.0 sub.0.1) [ inl new ↦ inl new.2 | inr old ↦ inr ((sub.0.0, old), one.was c sub.1) ]

    child_less : (dir : IsDirectory less o) (children : List ℕ) → Lists (IsSubdirectory more d) children → (rest : List ℕ) × Lists (IsSubdirectory less d) rest × (length children ≡ length rest + 1)
    child_less dir children lists =
        let is = lists.all o ((name, one.here), one.directory o dir) in (
          without children o is,
          list_without (IsSubdirectory more d) (IsSubdirectory less d) children o is (λ c sub ne. child_from d c (λ _. ne) sub)
              (λ c sub. (child_to d c sub, λ same. no_child dir (subst (IsSubdirectory less d) same sub))) lists,
          omega (arith, length_without children o is),
        )

    -- the object that gets a name
    pub name_more : (x : Object) (f : ObjectFacts) → AreFactsOf less o x f → o ≢ d → ((pairs : List (ℕ × Name)) → Lists (λ pair. Names less pair.0 pair.1 o) pairs → length pairs + 1 < 2 ^ 64) → AreFactsOf more o x (name_added f.kind d f)
    name_more (File moment bytes) f facts ne within_limit =
        subst (λ (k : Kind). IsFileFacts more o moment (length bytes) (name_added k d f)) (sym facts.kind)
        (record {
          kind = facts.kind;
          moment = facts.moment;
          size = facts.size;
          links = ((d, name) ∷ facts.links.0, pairs_up facts.links.0 facts.links.1, links_are f.links (length facts.links.0) facts.links.2 (within_limit facts.links.0 facts.links.1));
        })
      where
        links_are : (n m : ℕ) → n ≡ m → m + 1 < 2 ^ 64 → one_more n ≡ suc m
        links_are n m is lt = omega arith
    name_more (Dir moment entries) f facts ne within_limit =
        subst (λ (k : Kind). IsDirectoryFacts more o moment (map.len entries) (name_added k d f)) (sym facts.kind)
        (record {
          kind = facts.kind;
          moment = facts.moment;
          size = facts.size;
          links = (facts.links.0, children_up o (λ is. absurd (ne is)) facts.links.0 facts.links.1, facts.links.2);
          parent = (name, one.here);
        })

    -- the object that loses one
    pub name_less : (x : Object) (f : ObjectFacts) → map.get more o ≡ Some x → AreFactsOf more o x f → o ≢ d → AreFactsOf less o x (name_removed f.kind f)
    name_less (File moment bytes) f is facts ne =
        let rest = pairs_down facts.links.0 facts.links.1 in
        subst (λ (k : Kind). IsFileFacts less o moment (length bytes) (name_removed k f)) (sym facts.kind)
        (record { kind = facts.kind; moment = facts.moment; size = facts.size; links = (rest.0, rest.1, omega (arith, facts.links.2, rest.2)) })
    name_less (Dir moment entries) f is facts ne =
        subst (λ (k : Kind). IsDirectoryFacts less o moment (map.len entries) (name_removed k f)) (sym facts.kind)
        (record {
          kind = facts.kind;
          moment = facts.moment;
          size = facts.size;
          links = (facts.links.0, children_down o (λ is. absurd (ne is)) facts.links.0 facts.links.1, facts.links.2);
          parent = unnamed (one.was o (moment, entries, is));
        })

    -- the directory that gets an entry, with the parent that it then has
    pub entry_more : (moment was n : ℕ) (parent : Option ℕ) (f : ObjectFacts) (kind : Kind) → IsOfKind less o kind → IsDirectoryFacts less d was n f → NamedBy more d parent → n + 1 < 2 ^ 64
        → ((children : List ℕ) → Lists (IsSubdirectory less d) children → 2 + length children + 1 < 2 ^ 64)
        → IsDirectoryFacts more d moment (n + 1) (record { kind = f.kind; moment = moment; links = links_with kind f.links; size = one_more f.size; parent = parent })
    entry_more moment was n parent f kinds.File no' facts named fits within_limit = record {
      kind = facts.kind;
      moment = refl;
      size = (let size = facts.size in let is : one_more f.size ≡ n + 1 = omega arith in is);
      links = (facts.links.0, children_up d (λ _. no') facts.links.0 facts.links.1, facts.links.2);
      parent = named;
    }
    entry_more moment was n parent f kinds.Directory dir facts named fits within_limit = record {
      kind = facts.kind;
      moment = refl;
      size = (let size = facts.size in let is : one_more f.size ≡ n + 1 = omega arith in is);
      links = (o ∷ facts.links.0, child_more dir facts.links.0 facts.links.1, links_are f.links (length facts.links.0) facts.links.2 (within_limit facts.links.0 facts.links.1));
      parent = named;
    }
      where
        links_are : (a m : ℕ) → a ≡ 2 + m → 2 + m + 1 < 2 ^ 64 → one_more a ≡ 2 + suc m
        links_are a m is lt = omega arith

    -- the directory that loses an entry
    pub entry_less : (moment was n : ℕ) (f : ObjectFacts) (kind : Kind) → IsOfKind less o kind → IsDirectoryFacts more d was (n + 1) f → d ≢ o → IsDirectoryFacts less d moment n (entry_removed kind moment f)
    entry_less moment was n f kinds.File no' facts ne = record {
      kind = facts.kind;
      moment = refl;
      size = (let size = facts.size in let is : f.size - 1 ≡ n = omega arith in is);
      links = (facts.links.0, children_down d (λ _. no') facts.links.0 facts.links.1, facts.links.2);
      parent = parent_less f.parent facts.parent ne;
    }
    entry_less moment was n f kinds.Directory dir facts ne =
        let rest = child_less dir facts.links.0 facts.links.1 in record {
          kind = facts.kind;
          moment = refl;
          size = (let size = facts.size in let is : f.size - 1 ≡ n = omega arith in is);
          links = (rest.0, rest.1, omega (arith, facts.links.2, rest.2));
          parent = parent_less f.parent facts.parent ne;
        }
