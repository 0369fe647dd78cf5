-- What a table that reports objects says of one.
use Rattle.std.specs.Prelude.{◌≡◌, ◌≢◌, ◌<◌, ◌≤◌, ℕ, ◌+◌, List, length, Option, Some, None, option_map}
use Rattle.std.proofs.Common.{refl, sym, ◌∙◌, ap, subst, inl, inr, arith}
use Rattle.std.proofs.lemmas.Bool.{cases_eq, cases_lt}
use Rattle.std.specs.Cmp.{nat_cmp_total}
use Rattle.std.specs.FinMap as map
use Rattle.volume_terms.specs.Sizes.{Sizes}
use Rattle.volume_terms.specs.Rounding.{ceiling}
use Rattle.posix_profile.specs.State.{Name, Object, File, Dir, Objects, IsFile, IsDirectory}
use Rattle.posix_profile.specs.Names.{Names, links}
use Rattle.posix_profile.specs.NameSteps.{info}
use Rattle.posix_profile.specs.Charge.{cost}
use Rattle.posix_profile.specs.Changes.{new_number, with_bytes}
use Rattle.posix_profile.specs.WellFormed.{IsForest}
use Rattle.posix_profile.specs.laws.Map.{get_here, get_there}
use Rattle.posix_profile.specs.laws.Link.{IsSubdirectory, file_links, directory_links}
use Rattle.posix_profile.specs.laws.Name.{not_both, namer_directory}
use Rattle.posix_profile.specs.laws.Number.{new_number_is}
use Rattle.posix_profile.specs.NameSteps.{reported_size}
use Rattle.posix_profile.specs.declared.reply.Kind.{Kind}
use Rattle.object_store.specs.Facts.{info_of, NamedBy}
use Rattle.object_store.specs.TableFacts.{facts_cost, reported_info, unit_of, IsFileFacts, IsDirectoryFacts, AreFactsOf, IsStated}
use Rattle.object_store.specs.declared.table_facts.ObjectFacts.{ObjectFacts}
use Rattle.object_store.proofs.Counting.{same_length, list_other}

-- what is reported of an object is what is to be reported
facts_info : (z : Sizes) (objects : Objects) (o : ℕ) (x : Object) (f : ObjectFacts) → IsForest z objects → map.get objects o ≡ Some x → AreFactsOf objects o x f → reported_info o f ≡ info objects o x
facts_info z objects o (File moment bytes) f forest is facts =
    let all = file_links objects o moment bytes in
    let links' : f.links ≡ links objects o (File moment bytes) = facts.links.2 ∙ same_length (λ pair. Names objects pair.0 pair.1 o) facts.links.0 all.list facts.links.1 all.lists ∙ sym all.count_is in
    λ i. record { kind = facts.kind i; object = o; links = links' i; size = reported_size (facts.kind i) (facts.size i); moment = facts.moment i }
facts_info z objects o (Dir moment entries) f forest is facts =
    let all = directory_links z objects o (moment, entries, is) forest in
    let children : length facts.links.0 ≡ all.0 = same_length (IsSubdirectory objects o) facts.links.0 all.1.list facts.links.1 all.1.lists ∙ sym all.1.count_is in
    let links' : f.links ≡ links objects o (Dir moment entries) = facts.links.2 ∙ ap (λ n. 2 + n) children ∙ sym all.2 in
    λ i. record { kind = facts.kind i; object = o; links = links' i; size = reported_size (facts.kind i) (facts.size i); moment = facts.moment i }

pub info_is : (z : Sizes) (objects : Objects) (o : ℕ) (x : Option Object) (f : Option ObjectFacts) → IsForest z objects → map.get objects o ≡ x → IsStated objects o x f
    → option_map (reported_info o) f ≡ info_of objects o x
info_is z objects o None None forest is reported = refl
info_is z objects o None (Some f) forest is reported = absurd reported
info_is z objects o (Some x) None forest is reported = absurd reported
info_is z objects o (Some x) (Some f) forest is reported = ap Some (facts_info z objects o x f forest is reported)

-- the facts of a directory that is there
pub directory_facts : (objects : Objects) (o : ℕ) (f : Option ObjectFacts) (dir : IsDirectory objects o) → IsStated objects o (map.get objects o) f
    → (facts : ObjectFacts) × (f ≡ Some facts) × IsDirectoryFacts objects o dir.0 (map.len dir.1) facts
directory_facts objects o f dir reported = go f (subst (λ x. IsStated objects o x f) dir.2 reported)
  where
    go : (g : Option ObjectFacts) → IsStated objects o (Some (Dir dir.0 dir.1)) g → (facts : ObjectFacts) × (g ≡ Some facts) × IsDirectoryFacts objects o dir.0 (map.len dir.1) facts
    go None t = absurd t
    go (Some facts) t = (facts, refl, t)

-- and of a file that is there
pub file_facts : (objects : Objects) (o : ℕ) (f : Option ObjectFacts) (file : IsFile objects o) → IsStated objects o (map.get objects o) f
    → (facts : ObjectFacts) × (f ≡ Some facts) × IsFileFacts objects o file.0 (length file.1) facts
file_facts objects o f file reported = go f (subst (λ x. IsStated objects o x f) file.2 reported)
  where
    go : (g : Option ObjectFacts) → IsStated objects o (Some (File file.0 file.1)) g → (facts : ObjectFacts) × (g ≡ Some facts) × IsFileFacts objects o file.0 (length file.1) facts
    go None t = absurd t
    go (Some facts) t = (facts, refl, t)

-- The same names lead to the same objects, and the same are directories.
pub record KeepsNames (old new : Objects) : Type 0 where
  pub to : (d c : ℕ) (n : Name) → Names old d n c → Names new d n c
  pub from : (d c : ℕ) (n : Name) → Names new d n c → Names old d n c
  pub directory : (d : ℕ) → IsDirectory old d → IsDirectory new d
  pub was : (d : ℕ) → IsDirectory new d → IsDirectory old d

-- The same names lead to an object, and it names the same directories.
pub record SameAt (old new : Objects) (k : ℕ) : Type 0 where
  pub to : (p : ℕ) (n : Name) → Names old p n k → Names new p n k
  pub from : (p : ℕ) (n : Name) → Names new p n k → Names old p n k
  pub child : (c : ℕ) → IsSubdirectory old k c → IsSubdirectory new k c
  pub was : (c : ℕ) → IsSubdirectory new k c → IsSubdirectory old k c

pub keeps_same : (old new : Objects) → KeepsNames old new → (k : ℕ) → SameAt old new k
keeps_same old new keeps k = record {
  to = λ p n. keeps.to p k n;
  from = λ p n. keeps.from p k n;
  child = λ c sub. ((sub.0.0, keeps.to k c sub.0.0 sub.0.1), keeps.directory c sub.1);
  was = λ c sub. ((sub.0.0, keeps.from k c sub.0.0 sub.0.1), keeps.was c sub.1);
}

-- what names it still does
pub named_same : (old new : Objects) (k : ℕ) → SameAt old new k → (parent : Option ℕ) → NamedBy old k parent → NamedBy new k parent
named_same old new k same None none = λ named. none (named.0, named.1, same.from named.0 named.1 named.2)
named_same old new k same (Some d) by' = (by'.0, same.to d by'.0 by'.1)

-- so its facts stay
pub facts_same : (old new : Objects) (k : ℕ) → SameAt old new k → (x : Object) (f : ObjectFacts) → AreFactsOf old k x f → AreFactsOf new k x f
facts_same old new k same (File moment bytes) f facts = record {
  kind = facts.kind;
  moment = facts.moment;
  size = facts.size;
  links = (
    facts.links.0,
    list_other (λ pair. Names old pair.0 pair.1 k) (λ pair. Names new pair.0 pair.1 k) facts.links.0 (λ p is. same.to p.0 p.1 is) (λ p is. same.from p.0 p.1 is) facts.links.1,
    facts.links.2,
  );
}
facts_same old new k same (Dir moment entries) f facts = record {
  kind = facts.kind;
  moment = facts.moment;
  size = facts.size;
  links = (facts.links.0, list_other (IsSubdirectory old k) (IsSubdirectory new k) facts.links.0 same.child same.was facts.links.1, facts.links.2);
  parent = named_same old new k same f.parent facts.parent;
}

pub reported_same : (old new : Objects) (k : ℕ) → SameAt old new k → (x : Option Object) (f : Option ObjectFacts) → IsStated old k x f → IsStated new k x f
reported_same old new k same None None reported = reported
reported_same old new k same None (Some f) reported = reported
reported_same old new k same (Some x) None reported = reported
reported_same old new k same (Some x) (Some f) reported = facts_same old new k same x f reported

-- the units of what is there, as the facts have them
pub facts_cost_is : (z : Sizes) (objects : Objects) (o : ℕ) (x : Object) (f : ObjectFacts) → AreFactsOf objects o x f → facts_cost z f ≡ cost z x
facts_cost_is z objects o (File moment bytes) f facts = λ i. 1 + ceiling (facts.size i) (unit_of z (facts.kind i))
facts_cost_is z objects o (Dir moment entries) f facts = λ i. 1 + ceiling (facts.size i) (unit_of z (facts.kind i))

-- a number that is free and the least such is the one that a new object gets
pub new_unique : (objects : Objects) (n : ℕ) → map.get objects n ≡ None → 2 ≤ n → ((k : ℕ) → 2 ≤ k → k < n → (object : Object) × (map.get objects k ≡ Some object)) → n ≡ new_number objects
new_unique objects n free low least =
    let new = new_number_is objects in
    let not_above : new_number objects < n → ⊥ = λ lt. let there = least (new_number objects) new.low lt in let two : None ≡ Some there.0 = sym new.free ∙ there.1 in cc in
    let not_below : n < new_number objects → ⊥ = λ lt. let there = new.least n low lt in let two : None ≡ Some there.0 = sym free ∙ there.1 in cc in
    elim (cases_eq n (new_number objects)) [
      | inl same ↦ same
      | inr ne ↦ elim (cases_lt n (new_number objects)) [
        | inl lt ↦ absurd (not_below lt)
        | inr le ↦ let lt : new_number objects < n = omega (arith, ne, le) in absurd (not_above lt)
      ]
    ]

-- A file has other bytes.
module _ (objects : Objects) (o moment : ℕ) (bytes : List ℕ) (file : IsFile objects o) where
  abbrev after : Objects
  after = with_bytes objects moment o bytes

  here : map.get after o ≡ Some (File moment bytes)
  here = get_here nat_cmp_total map.nat_cmp-IsAntisymmetric objects o (File moment bytes)

  there : (k : ℕ) → k ≢ o → map.get after k ≡ map.get objects k
  there k ne = get_there nat_cmp_total map.nat_cmp-IsAntisymmetric objects o (File moment bytes) k ne

  is_file_after : IsFile after o
  is_file_after = (moment, bytes, here)

  pub bytes_names : KeepsNames objects after
  bytes_names = record {
    to = λ d c n names. record {
      moment = names.moment;
      entries = names.entries;
      object_is = names.object_is;
      directory_is = there d (λ is. not_both objects o file (subst (IsDirectory objects) is (namer_directory objects d c n names))) ∙ names.directory_is;
    };
    from = λ d c n names. record {
      moment = names.moment;
      entries = names.entries;
      object_is = names.object_is;
      directory_is = sym (there d (λ is. not_both after o is_file_after (subst (IsDirectory after) is (namer_directory after d c n names)))) ∙ names.directory_is;
    };
    directory = λ d dir. (dir.0, dir.1, there d (λ is. not_both objects o file (subst (IsDirectory objects) is dir)) ∙ dir.2);
    was = λ d dir. (dir.0, dir.1, sym (there d (λ is. not_both after o is_file_after (subst (IsDirectory after) is dir))) ∙ dir.2);
  }

-- the facts that a kind is told of
pub kind_facts : (f : Option ObjectFacts) (kind : Kind) → Some kind ≡ option_map (λ f. f.kind) f → (facts : ObjectFacts) × (f ≡ Some facts) × (facts.kind ≡ kind)
kind_facts None kind is = absurd cc
kind_facts (Some facts) kind is = (facts, refl, cc)
