-- What a table that is being made has after an object came.
use Rattle.std.specs.Prelude.{◌≡◌, ℕ, [], Option, Some, None, Result, Ok, Err, OnErr}
use Rattle.std.proofs.Common.{refl, sym, ◌∙◌, ap, subst}
use Rattle.std.specs.Ordering.{nat_cmp}
use Rattle.std.specs.Cmp.{nat_cmp_total}
use Rattle.std.specs.Cmp.Lexicographic.{slice_cmp}
use Rattle.std.specs.FinMap as map
use Rattle.volume_terms.specs.Sizes.{Sizes}
use Rattle.posix_profile.specs.State.{Entries, Object, File, Dir, Objects, entries_of}
use Rattle.posix_profile.specs.Charge.{charge}
use Rattle.posix_profile.specs.WellFormed.{IsNamed}
use Rattle.posix_profile.specs.declared.reply.Kind.{Kind}
use Rattle.posix_profile.specs.declared.reply.Kind.TheVariants as kinds
use Rattle.posix_profile.specs.laws.Map.{get_here}
use Rattle.posix_profile.specs.laws.Name.{not_both, namer_directory, named_entry}
use Rattle.object_store.specs.Changes.{NamesNothing}
use Rattle.object_store.specs.Built.{IsBare}
use Rattle.object_store.specs.Totaled.{Counts, CountsTheSame}
use Rattle.object_store.specs.TableFacts.{bare_facts, AreFactsOf, IsStated}
use Rattle.object_store.specs.declared.table_facts.ObjectFacts.{ObjectFacts}
use Rattle.object_store.specs.declared.counted_facts.CountedFacts.{CountedFacts}
use Rattle.object_store.proofs.Edits.{larger_from}

pub counts_same : (old new : CountedFacts) (objects : Objects) → CountsTheSame old new → Counts old objects → Counts new objects
counts_same old new objects same counts = record {
  each = λ o. subst (λ (g : Option ObjectFacts). IsStated objects o (map.get objects o) g) (sym (same.each o)) (counts.each o);
  charge = same.charge ∙ counts.charge ∙ ap (λ (z : Sizes). charge z objects) (sym same.sizes);
}

pub on_err : {A E : Type 0} (P : Type 0) (r : Result A E) → P → OnErr r P
on_err P (Ok x) p = tt
on_err P (Err e) p = p

-- an object that has no name and no entries
pub bare_facts_are : (objects : Objects) (o moment n : ℕ) (kind : Kind) (x : Object) → map.get objects o ≡ None → (IsNamed objects o → ⊥) → IsBare kind moment n x
    → NamesNothing (map.insert objects o x) o × AreFactsOf (map.insert objects o x) o x (bare_facts kind moment n)
bare_facts_are objects o moment n kinds.File (File m bytes) free none bare =
    let here : map.get (map.insert objects o (File m bytes)) o ≡ Some (File m bytes) = get_here nat_cmp_total map.nat_cmp-IsAntisymmetric objects o (File m bytes) in
    let blank : NamesNothing (map.insert objects o (File m bytes)) o = λ c k names. not_both (map.insert objects o (File m bytes)) o (m, bytes, here) (namer_directory (map.insert objects o (File m bytes)) o c k names) in (
      blank,
      record {
        kind = refl;
        moment = sym bare.0;
        size = sym bare.1;
        links = ([], record { distinct = tt; only = λ p is. absurd is; all = λ p names. none (p.0, p.1, larger_from objects o (File m bytes) free none blank p.0 o p.1 names) }, refl);
      },
    )
bare_facts_are objects o moment n kinds.File (Dir m entries) free none bare = absurd bare
bare_facts_are objects o moment n kinds.Directory (File m bytes) free none bare = absurd bare
bare_facts_are objects o moment n kinds.Directory (Dir m entries) free none bare =
    let here : map.get (map.insert objects o (Dir m entries)) o ≡ Some (Dir m entries) = get_here nat_cmp_total map.nat_cmp-IsAntisymmetric objects o (Dir m entries) in
    let blank : NamesNothing (map.insert objects o (Dir m entries)) o =
    (λ c k names.
    let is : map.get entries k ≡ Some c = ap (λ (v : Option Object). map.get (entries_of v) k) (sym here) ∙ named_entry (map.insert objects o (Dir m entries)) o c k names in
    let two : None ≡ Some c = sym (map.get-empty (slice_cmp nat_cmp) k) ∙ ap (λ (e : Entries). map.get e k) (sym bare.1) ∙ is in cc) in (
      blank,
      record {
        kind = refl;
        moment = sym bare.0;
        size = sym (ap (λ (e : Entries). map.len e) bare.1 ∙ map.len-empty (slice_cmp nat_cmp) ℕ);
        links = ([], record { distinct = tt; only = λ p is. absurd is; all = λ c sub. blank c sub.0.0 sub.0.1 }, refl);
        parent = λ named. none (named.0, named.1, larger_from objects o (Dir m entries) free none blank named.0 o named.1 named.2);
      },
    )
