-- What facts in totals stand for after a change.
use Rattle.std.specs.Prelude.{◌≡◌, ◌≢◌, ◌⊎◌, ◌<◌, ◌+◌, ◌-◌, ◌^◌, min, ℕ, List, [], length, map as list_map, Option, Some, None, is_some}
use Rattle.std.proofs.Common.{refl, sym, ◌∙◌, ap, subst, inl, inr, arith}
use Rattle.std.proofs.lemmas.Bool.{cases_eq, cond-true, cond-false}
use Rattle.std.specs.List.{sum_by}
use Rattle.std.specs.Ordering.{nat_cmp}
use Rattle.std.specs.Cmp.{nat_cmp_total}
use Rattle.std.specs.Cmp.Lexicographic.{slice_cmp, nat_list_cmp_total}
use Rattle.std.specs.FinMap as map
use Rattle.std.proofs.lemmas.List.{nil_from_length}
use Rattle.volume_terms.specs.Sizes.{Sizes}
use Rattle.volume_terms.specs.Rounding.{ceiling}
use Rattle.posix_profile.specs.State.{Name, Entries, Object, File, Dir, Objects, IsFile, IsDirectory, entries_of}
use Rattle.posix_profile.specs.Names.{Names}
use Rattle.posix_profile.specs.Charge.{cost, charge}
use Rattle.posix_profile.specs.Changes.{with_bytes, with_name, without_name}
use Rattle.posix_profile.specs.WellFormed.{IsNamed}
use Rattle.posix_profile.specs.declared.reply.Kind.{Kind}
use Rattle.posix_profile.specs.declared.reply.Kind.TheVariants as kinds
use Rattle.posix_profile.specs.laws.Charge.{without_less}
use Rattle.posix_profile.specs.laws.Directory.{with_from, with_committed, with_here, without_from, without_committed, directory_after, directory_before}
use Rattle.posix_profile.specs.laws.Entry.{no_name}
use Rattle.posix_profile.specs.laws.Map.{cases_key, keys_fit, get_here, get_there, get_removed, removed_none, remove_cases}
use Rattle.posix_profile.specs.laws.Name.{name_same, one_object, not_both, namer_directory, named_entry}
use Rattle.posix_profile.specs.laws.Total.{total_insert, total_without, total_replace}
use Rattle.object_store.specs.Changes.{NamesNothing, empty_object}
use Rattle.object_store.specs.Facts.{NamedBy}
use Rattle.object_store.specs.TableFacts.{facts_cost, unit_of, IsFileFacts, IsDirectoryFacts, AreFactsOf, IsStated, one_more, entry_added, entry_removed, name_added, name_removed, resized_facts, fresh_facts}
use Rattle.object_store.specs.Totaled.{reported_at, sizes_in, charge_in, units_of, Counts, Puts, Drops, Edits, IsCountable, GetsName, LosesName}
use Rattle.object_store.specs.declared.table_facts.ObjectFacts.{ObjectFacts}
use Rattle.object_store.specs.declared.counted_facts.CountedFacts.{CountedFacts}
use Rattle.object_store.proofs.Counting.{list_other}
use Rattle.object_store.proofs.Few.{entries_few, names_listed_few, children_few}
use Rattle.object_store.proofs.OneName.{HasOneMore, IsOfKind, same_up, same_down, name_more, name_less, entry_more, entry_less, parent_more}
use Rattle.object_store.proofs.Reporting.{SameAt, keeps_same, reported_same, facts_cost_is, bytes_names, directory_facts}

-- facts of what is there are reported
reported_is : (objects : Objects) (k : ℕ) (reported : Option ObjectFacts) (x : Object) (f : ObjectFacts) → map.get objects k ≡ Some x → reported ≡ Some f → AreFactsOf objects k x f → IsStated objects k (map.get objects k) reported
reported_is objects k reported x f is was facts =
    subst (λ (v : Option Object). IsStated objects k v reported) (sym is) (subst (λ (g : Option ObjectFacts). IsStated objects k (Some x) g) (sym was) facts)

-- and what is reported of what is there are its facts
reported_there : (objects : Objects) (k : ℕ) (reported : Option ObjectFacts) (x : Object) (f : ObjectFacts) → map.get objects k ≡ Some x → reported ≡ Some f → IsStated objects k (map.get objects k) reported → AreFactsOf objects k x f
reported_there objects k reported x f is was all =
    subst (λ (g : Option ObjectFacts). IsStated objects k (Some x) g) was (subst (λ (v : Option Object). IsStated objects k v reported) is all)

-- what is reported of an object that stays as it is
reported_stays : (old new : Objects) (k : ℕ) (was now : Option ObjectFacts) → SameAt old new k → map.get new k ≡ map.get old k → now ≡ was → IsStated old k (map.get old k) was → IsStated new k (map.get new k) now
reported_stays old new k was now same here is all =
    subst (λ (v : Option Object). IsStated new k v now) (sym here) (subst (λ (g : Option ObjectFacts). IsStated new k (map.get old k) g) (sym is) (reported_same old new k same (map.get old k) was all))

kind_is : (objects : Objects) (o : ℕ) (x : Object) (f : ObjectFacts) → map.get objects o ≡ Some x → AreFactsOf objects o x f → IsOfKind objects o f.kind
kind_is objects o (File moment bytes) f is facts = subst (IsOfKind objects o) (sym facts.kind) (λ dir. not_both objects o (moment, bytes, is) dir)
kind_is objects o (Dir moment entries) f is facts = subst (IsOfKind objects o) (sym facts.kind) (moment, entries, is)

added_cost : (z : Sizes) (kind : Kind) (d : ℕ) (f : ObjectFacts) → facts_cost z (name_added kind d f) ≡ facts_cost z f
added_cost z kinds.File d f = refl
added_cost z kinds.Directory d f = refl

removed_cost : (z : Sizes) (kind : Kind) (f : ObjectFacts) → facts_cost z (name_removed kind f) ≡ facts_cost z f
removed_cost z kinds.File f = refl
removed_cost z kinds.Directory f = refl

-- the units after facts in place of others
puts_charge : (old new : CountedFacts) (objects : Objects) (o : ℕ) (x y : Object) (f g : ObjectFacts) → Puts old new o g → reported_at old o ≡ Some f → charge_in old ≡ charge (sizes_in old) objects → map.get objects o ≡ Some x
    → facts_cost (sizes_in old) f ≡ cost (sizes_in old) x → facts_cost (sizes_in old) g ≡ cost (sizes_in old) y → charge (sizes_in old) objects < 2 ^ 48 → charge (sizes_in old) (map.insert objects o y) < 2 ^ 48
    → charge_in new ≡ charge (sizes_in new) (map.insert objects o y)
puts_charge old new objects o x y f g puts was is there cost_f cost_g small within_limit =
    let z = sizes_in old in
    let before = total_without nat_cmp_total map.nat_cmp-IsAntisymmetric (cost (sizes_in old)) objects o x there in
    let after = total_replace nat_cmp_total map.nat_cmp-IsAntisymmetric (cost (sizes_in old)) objects o y in
    let units : units_of (sizes_in old) (reported_at old o) ≡ min (facts_cost (sizes_in old) f) (2 ^ 64 - 1) = ap (units_of (sizes_in old)) was in
    let now : charge_in new ≡ charge (sizes_in old) (map.insert objects o y) = omega (arith, puts.charge, is, before, after, units, cost_f, cost_g, small, within_limit) in
    now ∙ ap (λ (z : Sizes). charge z (map.insert objects o y)) (sym puts.sizes)

-- the facts of one object change, and its units do not
module _ (mid new : CountedFacts) (after : Objects) (o : ℕ) (change : ObjectFacts → ObjectFacts) (edit : Edits mid new o change)
    (is : charge_in mid ≡ charge (sizes_in mid) after) (small : charge (sizes_in mid) after < 2 ^ 48) (free : (f : ObjectFacts) → facts_cost (sizes_in mid) (change f) ≡ facts_cost (sizes_in mid) f) where
  finish : (f : ObjectFacts) (x : Object) → reported_at mid o ≡ Some f → map.get after o ≡ Some x → facts_cost (sizes_in mid) f ≡ cost (sizes_in mid) x → AreFactsOf after o x (change f)
      → ((k : ℕ) → k ≢ o → IsStated after k (map.get after k) (reported_at mid k)) → Counts new after
  finish f x was there paid facts others =
      let puts = edit.puts f was in
      record {
        each = λ k. elim (cases_eq k o) [
          | inl same ↦ subst (λ j. IsStated after j (map.get after j) (reported_at new j)) (sym same) (reported_is after o (reported_at new o) x (change f) there puts.here facts)
          | inr ne ↦ subst (λ (g : Option ObjectFacts). IsStated after k (map.get after k) g) (sym (puts.others k ne)) (others k ne)
        ];
        charge =
            let part = total_without nat_cmp_total map.nat_cmp-IsAntisymmetric (cost (sizes_in mid)) after o x there in
            let units : units_of (sizes_in mid) (reported_at mid o) ≡ min (facts_cost (sizes_in mid) f) (2 ^ 64 - 1) = ap (units_of (sizes_in mid)) was in
            let now : charge_in new ≡ charge (sizes_in mid) after = omega (arith, puts.charge, is, part, units, paid, free f, small) in
            now ∙ ap (λ (z : Sizes). charge z after) (sym puts.sizes);
      }

-- a name more
with_more : (objects : Objects) (moment d o : ℕ) (name : Name) (dir : IsDirectory objects d) → map.get (entries_of (map.get objects d)) name ≡ None → HasOneMore objects (with_name objects moment d name o) d o name
with_more objects moment d o name dir absent = record {
  here = with_here objects moment d o name dir;
  absent = no_name objects d o name absent;
  to = λ p c n names. with_committed objects moment d o name dir p c n names
      (λ is same. no_name objects d c name absent (subst (λ m. Names objects d m c) same (subst (λ q. Names objects q n c) is names)));
  from = λ p c n names. elim (with_from objects moment d o name dir p c n names) [ inl new ↦ inl new | inr old ↦ inr old.1 ];
  directory = λ c. directory_after objects d moment _ dir c;
  was = λ c. directory_before objects d moment _ dir c;
}

-- a name less
without_more : (objects : Objects) (moment d o : ℕ) (name : Name) (names : Names objects d name o) → HasOneMore (without_name objects moment d name) objects d o name
without_more objects moment d o name names = record {
  here = names;
  absent = λ bad. (without_from objects moment d name dir d o name bad).0 refl refl;
  to = λ p c n new. (without_from objects moment d name dir p c n new).1;
  from = from;
  directory = λ c. directory_before objects d moment _ dir c;
  was = λ c. directory_after objects d moment _ dir c;
}
  where
    dir : IsDirectory objects d
    dir = namer_directory objects d o name names

    from : (p c : ℕ) (n : Name) → Names objects p n c → ((p ≡ d) × (n ≡ name) × (c ≡ o)) ⊎ Names (without_name objects moment d name) p n c
    from p c n old = elim (cases_eq p d) [
      | inr ne ↦ inr (without_committed objects moment d name dir p c n old (λ is same. ne is))
      | inl first ↦ elim (cases_key nat_list_cmp_total name_same n name) [
        | inr ne ↦ inr (without_committed objects moment d name dir p c n old (λ is same. ne same))
        | inl last ↦ inl (first, last, one_object objects d c o name (subst (λ m. Names objects d m c) last (subst (λ q. Names objects q n c) first old)) names)
      ]
    ]

-- A directory gets a name.
module _ (old mid new : CountedFacts) (objects : Objects) (moment d o : ℕ) (name : Name) (f : ObjectFacts) (counts : Counts old objects) (gets : GetsName (sizes_in old) objects moment d name o)
    (reported : reported_at old o ≡ Some f) (first : Edits old mid d (entry_added f.kind moment)) (second : Edits mid new o (λ f. name_added f.kind d f)) where
  abbrev es : Entries
  es = map.insert (entries_of (map.get objects d)) name o

  abbrev grown : Objects
  grown = with_name objects moment d name o

  dir : IsDirectory objects d
  dir = gets.directory_is

  one : HasOneMore objects grown d o name
  one = with_more objects moment d o name dir gets.absent

  here : map.get grown d ≡ Some (Dir moment es)
  here = get_here nat_cmp_total map.nat_cmp-IsAntisymmetric objects d (Dir moment es)

  there : (k : ℕ) → k ≢ d → map.get grown k ≡ map.get objects k
  there k ne = get_there nat_cmp_total map.nat_cmp-IsAntisymmetric objects d (Dir moment es) k ne

  long : map.len es ≡ map.len dir.1 + 1
  long =
      let more = map.len-insert nat_list_cmp_total (entries_of (map.get objects d)) name o ∙ cond-false _ _ _ (ap is_some gets.absent) in
      let same : map.len (entries_of (map.get objects d)) ≡ map.len dir.1 = ap (λ (x : Option Object). map.len (entries_of x)) dir.2 in
      omega (arith, more, same)

  df : (facts : ObjectFacts) × (reported_at old d ≡ Some facts) × IsDirectoryFacts objects d dir.0 (map.len dir.1) facts
  df = directory_facts objects d (reported_at old d) dir (counts.each d)

  abbrev grown_facts : ObjectFacts
  grown_facts = entry_added f.kind moment df.0

  put : Puts old mid d (entry_added f.kind moment df.0)
  put = first.puts df.0 df.1

  of_o : AreFactsOf objects o gets.there.0 f
  of_o = reported_there objects o (reported_at old o) gets.there.0 f gets.there.1 reported (counts.each o)

  fits_size : map.len dir.1 + 1 < 2 ^ 64
  fits_size = let within_limit = entries_few (sizes_in old) objects gets.before d dir.0 dir.1 dir.2 in omega arith

  sized : one_more df.0.size ≡ map.len es
  sized = let size = df.2.size in let fit = fits_size in let l = long in omega arith

  paid : facts_cost (sizes_in old) (entry_added f.kind moment df.0) ≡ cost (sizes_in old) (Dir moment es)
  paid = λ i. 1 + ceiling (sized i) (unit_of (sizes_in old) (df.2.kind i))

  totaled : charge_in mid ≡ charge (sizes_in mid) grown
  totaled = puts_charge old mid objects d (Dir dir.0 dir.1) (Dir moment es) df.0 (entry_added f.kind moment df.0) put df.1 counts.charge dir.2
      (facts_cost_is (sizes_in old) objects d (Dir dir.0 dir.1) df.0 df.2) paid gets.before.within_limit gets.after.within_limit

  small : charge (sizes_in mid) grown < 2 ^ 48
  small = subst (λ (z : Sizes). charge z grown < 2 ^ 48) (sym put.sizes) gets.after.within_limit

  -- the directory, with the parent that it has then
  facts_d : (parent : Option ℕ) → NamedBy grown d parent → AreFactsOf grown d (Dir moment es) (record { kind = df.0.kind; moment = moment; links = (entry_added f.kind moment df.0).links; size = one_more df.0.size; parent = parent })
  facts_d parent named =
      subst (λ n. IsDirectoryFacts grown d moment n (record { kind = df.0.kind; moment = moment; links = (entry_added f.kind moment df.0).links; size = one_more df.0.size; parent = parent })) (sym long)
      (entry_more objects grown d o name one gets.unnamed moment dir.0 (map.len dir.1) parent df.0 f.kind (kind_is objects o gets.there.0 f gets.there.1 of_o) df.2 named fits_size
      (λ children lists. let within_limit = children_few (sizes_in old) objects gets.before d dir.0 dir.1 dir.2 children lists in omega arith))

  others_mid : (k : ℕ) → k ≢ o → IsStated grown k (map.get grown k) (reported_at mid k)
  others_mid k ne = elim (cases_eq k d) [
    | inl is ↦
        let apart : d ≢ o = λ same. ne (is ∙ same) in
        subst (λ j. IsStated grown j (map.get grown j) (reported_at mid j)) (sym is)
        (reported_is grown d (reported_at mid d) (Dir moment es) (entry_added f.kind moment df.0) here put.here (facts_d df.0.parent (parent_more objects grown d o name one df.0.parent df.2.parent apart)))
    | inr far ↦ reported_stays objects grown k (reported_at old k) (reported_at mid k) (same_up objects grown d o name one k far ne) (there k far) (put.others k far) (counts.each k)
  ]

  pub add_counts : Counts new grown
  add_counts = elim (cases_eq o d) [
    | inr ne ↦ finish mid new grown o (λ f. name_added f.kind d f) second totaled small (λ f. added_cost (sizes_in mid) f.kind d f) f gets.there.0 (put.others o ne ∙ reported) (there o ne ∙ gets.there.1)
        (subst (λ (z : Sizes). facts_cost z f ≡ cost z gets.there.0) (sym put.sizes) (facts_cost_is (sizes_in old) objects o gets.there.0 f of_o))
        (name_more objects grown d o name one gets.unnamed gets.there.0 f of_o ne (λ pairs lists. let within_limit = names_listed_few (sizes_in old) objects gets.before o pairs lists in omega arith)) others_mid
    | inl is ↦ finish mid new grown o (λ f. name_added f.kind d f) second totaled small (λ f. added_cost (sizes_in mid) f.kind d f) grown_facts (Dir moment es) (ap (reported_at mid) is ∙ put.here) (ap (map.get grown) is ∙ here)
        (subst (λ (z : Sizes). facts_cost z grown_facts ≡ cost z (Dir moment es)) (sym put.sizes) paid)
        (subst (λ k. AreFactsOf grown k (Dir moment es) (name_added grown_facts.kind d grown_facts)) (sym is)
        (subst (λ (kind : Kind). AreFactsOf grown d (Dir moment es) (name_added kind d grown_facts)) (sym df.2.kind)
        (facts_d (Some d) (name, subst (λ k. Names grown d name k) is one.here)))) others_mid
  ]

-- A directory loses a name.
module _ (old mid new : CountedFacts) (objects : Objects) (moment d o : ℕ) (name : Name) (f : ObjectFacts) (counts : Counts old objects) (loses : LosesName (sizes_in old) objects d name o)
    (reported : reported_at old o ≡ Some f) (first : Edits old mid d (entry_removed f.kind moment)) (second : Edits mid new o (λ f. name_removed f.kind f)) where
  abbrev less_rest : Entries
  less_rest = map.remove (entries_of (map.get objects d)) name

  abbrev shrunk : Objects
  shrunk = without_name objects moment d name

  less_dir : IsDirectory objects d
  less_dir = namer_directory objects d o name loses.names

  less_one : HasOneMore shrunk objects d o name
  less_one = without_more objects moment d o name loses.names

  less_unnamed : IsDirectory shrunk o → IsNamed shrunk o → ⊥
  less_unnamed is named =
      let old' = loses.only (less_one.directory o is) named.0 named.1 (less_one.to named.0 o named.1 named.2) in
      less_one.absent (subst (λ m. Names shrunk d m o) old'.1 (subst (λ p. Names shrunk p named.1 o) old'.0 named.2))

  less_here : map.get shrunk d ≡ Some (Dir moment less_rest)
  less_here = get_here nat_cmp_total map.nat_cmp-IsAntisymmetric objects d (Dir moment less_rest)

  less_there : (k : ℕ) → k ≢ d → map.get shrunk k ≡ map.get objects k
  less_there k ne = get_there nat_cmp_total map.nat_cmp-IsAntisymmetric objects d (Dir moment less_rest) k ne

  less_long : map.len less_dir.1 ≡ map.len less_rest + 1
  less_long =
      let found = named_entry objects d o name loses.names in
      let less = map.len-remove nat_list_cmp_total (entries_of (map.get objects d)) name ∙ cond-true _ _ _ (ap is_some found) in
      let some = keys_fit nat_list_cmp_total name_same 1 (λ i. name) (entries_of (map.get objects d)) (λ i lt. (o, found)) (λ i j lt le is. omega arith) in
      let same : map.len (entries_of (map.get objects d)) ≡ map.len less_dir.1 = ap (λ (x : Option Object). map.len (entries_of x)) less_dir.2 in
      omega (arith, less, some, same)

  less_df : (facts : ObjectFacts) × (reported_at old d ≡ Some facts) × IsDirectoryFacts objects d less_dir.0 (map.len less_dir.1) facts
  less_df = directory_facts objects d (reported_at old d) less_dir (counts.each d)

  less_put : Puts old mid d (entry_removed f.kind moment less_df.0)
  less_put = first.puts less_df.0 less_df.1

  less_of_o : AreFactsOf objects o loses.there.0 f
  less_of_o = reported_there objects o (reported_at old o) loses.there.0 f loses.there.1 reported (counts.each o)

  less_sized : less_df.0.size - 1 ≡ map.len less_rest
  less_sized = let size = less_df.2.size in let l = less_long in omega arith

  less_paid : facts_cost (sizes_in old) (entry_removed f.kind moment less_df.0) ≡ cost (sizes_in old) (Dir moment less_rest)
  less_paid = λ i. 1 + ceiling (less_sized i) (unit_of (sizes_in old) (less_df.2.kind i))

  less_fewer : charge (sizes_in old) shrunk < 2 ^ 48
  less_fewer = let less = without_less (sizes_in old) objects moment d name less_dir in let within_limit = loses.countable.within_limit in omega arith

  less_counted : charge_in mid ≡ charge (sizes_in mid) shrunk
  less_counted = puts_charge old mid objects d (Dir less_dir.0 less_dir.1) (Dir moment less_rest) less_df.0 (entry_removed f.kind moment less_df.0) less_put less_df.1 counts.charge less_dir.2
      (facts_cost_is (sizes_in old) objects d (Dir less_dir.0 less_dir.1) less_df.0 less_df.2) less_paid loses.countable.within_limit less_fewer

  less_small : charge (sizes_in mid) shrunk < 2 ^ 48
  less_small = subst (λ (z : Sizes). charge z shrunk < 2 ^ 48) (sym less_put.sizes) less_fewer

  kind_o : (x : Object) → map.get objects o ≡ Some x → AreFactsOf objects o x f → IsOfKind shrunk o f.kind
  kind_o (File moment bytes) is facts = subst (IsOfKind shrunk o) (sym facts.kind) (λ now. not_both objects o (moment, bytes, is) (less_one.directory o now))
  kind_o (Dir moment entries) is facts = subst (IsOfKind shrunk o) (sym facts.kind) (less_one.was o (moment, entries, is))

  less_others_mid : (k : ℕ) → k ≢ o → IsStated shrunk k (map.get shrunk k) (reported_at mid k)
  less_others_mid k ne = elim (cases_eq k d) [
    | inl is ↦
        subst (λ j. IsStated shrunk j (map.get shrunk j) (reported_at mid j)) (sym is)
        (reported_is shrunk d (reported_at mid d) (Dir moment less_rest) (entry_removed f.kind moment less_df.0) less_here less_put.here
        (entry_less shrunk objects d o name less_one less_unnamed moment less_dir.0 (map.len less_rest) less_df.0 f.kind (kind_o loses.there.0 loses.there.1 less_of_o) (subst (λ n. IsDirectoryFacts objects d less_dir.0 n less_df.0) less_long less_df.2) loses.apart))
    | inr far ↦ reported_stays objects shrunk k (reported_at old k) (reported_at mid k) (same_down shrunk objects d o name less_one k far ne) (less_there k far) (less_put.others k far) (counts.each k)
  ]

  pub remove_counts : Counts new shrunk
  remove_counts =
      let ne : o ≢ d = λ is. loses.apart (sym is) in
      finish mid new shrunk o (λ f. name_removed f.kind f) second less_counted less_small (λ f. removed_cost (sizes_in mid) f.kind f) f loses.there.0 (less_put.others o ne ∙ reported) (less_there o ne ∙ loses.there.1)
      (subst (λ (z : Sizes). facts_cost z f ≡ cost z loses.there.0) (sym less_put.sizes) (facts_cost_is (sizes_in old) objects o loses.there.0 f less_of_o))
      (name_less shrunk objects d o name less_one less_unnamed loses.there.0 f loses.there.1 less_of_o ne) less_others_mid

-- a file of another length
file_resized : (objects after : Objects) (o moment size stamp before now : ℕ) (f : ObjectFacts) → SameAt objects after o → size ≡ now → IsFileFacts objects o stamp before f → IsFileFacts after o moment now (resized_facts size moment f)
file_resized objects after o moment size stamp before now f same is facts = record {
  kind = facts.kind;
  moment = refl;
  size = is;
  links = (
    facts.links.0,
    list_other (λ pair. Names objects pair.0 pair.1 o) (λ pair. Names after pair.0 pair.1 o) facts.links.0 (λ p n. same.to p.0 p.1 n) (λ p n. same.from p.0 p.1 n) facts.links.1,
    facts.links.2,
  );
}

-- A file has other bytes.
pub bytes_counts : (old new : CountedFacts) (objects : Objects) (o moment size : ℕ) (bytes : List ℕ) (f : ObjectFacts) → Counts old objects → (file : IsFile objects o) → length bytes ≡ size
    → IsCountable (sizes_in old) objects → IsCountable (sizes_in old) (with_bytes objects moment o bytes) → reported_at old o ≡ Some f → Puts old new o (resized_facts size moment f) → Counts new (with_bytes objects moment o bytes)
bytes_counts old new objects o moment size bytes f counts file is before after reported puts =
    let was : AreFactsOf objects o (File file.0 file.1) f = reported_there objects o (reported_at old o) (File file.0 file.1) f file.2 reported (counts.each o) in
    let keeps = bytes_names objects o moment bytes file in
    let now : map.get (with_bytes objects moment o bytes) o ≡ Some (File moment bytes) = get_here nat_cmp_total map.nat_cmp-IsAntisymmetric objects o (File moment bytes) in
    let here : AreFactsOf (with_bytes objects moment o bytes) o (File moment bytes) (resized_facts size moment f) =
    file_resized objects (with_bytes objects moment o bytes) o moment size file.0 (length file.1) (length bytes) f (keeps_same objects (with_bytes objects moment o bytes) keeps o) (sym is) was in
    record {
      each = λ k. elim (cases_eq k o) [
        | inl same ↦ subst (λ j. IsStated (with_bytes objects moment o bytes) j (map.get (with_bytes objects moment o bytes) j) (reported_at new j)) (sym same)
            (reported_is (with_bytes objects moment o bytes) o (reported_at new o) (File moment bytes) (resized_facts size moment f) now puts.here here)
        | inr ne ↦ reported_stays objects (with_bytes objects moment o bytes) k (reported_at old k) (reported_at new k) (keeps_same objects (with_bytes objects moment o bytes) keeps k)
            (get_there nat_cmp_total map.nat_cmp-IsAntisymmetric objects o (File moment bytes) k ne) (puts.others k ne) (counts.each k)
      ];
      charge = puts_charge old new objects o (File file.0 file.1) (File moment bytes) f (resized_facts size moment f) puts reported counts.charge file.2
          (facts_cost_is (sizes_in old) objects o (File file.0 file.1) f was) (λ i. 1 + ceiling (sym is i) (unit_of (sizes_in old) (was.kind i))) before.within_limit after.within_limit;
    }

-- An object comes that is not there.
module _ (objects : Objects) (o : ℕ) (x : Object) (free : map.get objects o ≡ None) (none : IsNamed objects o → ⊥) (blank : NamesNothing (map.insert objects o x) o) where
  abbrev larger : Objects
  larger = map.insert objects o x

  larger_there : (k : ℕ) → k ≢ o → map.get larger k ≡ map.get objects k
  larger_there k ne = get_there nat_cmp_total map.nat_cmp-IsAntisymmetric objects o x k ne

  not_new : (k : ℕ) (v : Object) → map.get objects k ≡ Some v → k ≢ o
  not_new k v is same = let two : None ≡ Some v = sym free ∙ ap (map.get objects) (sym same) ∙ is in cc

  larger_to : (p c : ℕ) (n : Name) → Names objects p n c → Names larger p n c
  larger_to p c n names = record {
    moment = names.moment;
    entries = names.entries;
    directory_is = larger_there p (not_new p _ names.directory_is) ∙ names.directory_is;
    object_is = names.object_is;
  }

  pub larger_from : (p c : ℕ) (n : Name) → Names larger p n c → Names objects p n c
  larger_from p c n names = record {
    moment = names.moment;
    entries = names.entries;
    directory_is = sym (larger_there p (λ is. blank c n (subst (λ q. Names larger q n c) is names))) ∙ names.directory_is;
    object_is = names.object_is;
  }

  larger_same : (k : ℕ) → SameAt objects larger k
  larger_same k = record {
    to = λ p n. larger_to p k n;
    from = λ p n. larger_from p k n;
    child = λ c sub. ((sub.0.0, larger_to k c sub.0.0 sub.0.1), (sub.1.0, sub.1.1, larger_there c (not_new c _ sub.1.2) ∙ sub.1.2));
    was = λ c sub.
        let old = larger_from k c sub.0.0 sub.0.1 in
        ((sub.0.0, old), (sub.1.0, sub.1.1, sym (larger_there c (λ is. none (k, sub.0.0, subst (λ q. Names objects k sub.0.0 q) is old))) ∙ sub.1.2));
  }

  pub fresh_counts : (old new : CountedFacts) (f : ObjectFacts) → Counts old objects → AreFactsOf larger o x f → charge (sizes_in old) larger < 2 ^ 48 → Puts old new o f → Counts new larger
  fresh_counts old new f counts facts within_limit puts =
      let now : map.get larger o ≡ Some x = get_here nat_cmp_total map.nat_cmp-IsAntisymmetric objects o x in
      let missing : reported_at old o ≡ None = unreported (reported_at old o) (subst (λ (v : Option Object). IsStated objects o v (reported_at old o)) free (counts.each o)) in
      let units : units_of (sizes_in old) (reported_at old o) ≡ 0 = ap (units_of (sizes_in old)) missing in
      let more = total_insert nat_cmp_total map.nat_cmp-IsAntisymmetric (cost (sizes_in old)) objects o x free in
      let paid = facts_cost_is (sizes_in old) larger o x f facts in
      let is = counts.charge in
      let sum' : charge_in new ≡ charge (sizes_in old) larger = omega (arith, puts.charge, units, more, paid, is, within_limit) in
      record {
        each = λ k. elim (cases_eq k o) [
          | inl same ↦ subst (λ j. IsStated larger j (map.get larger j) (reported_at new j)) (sym same) (reported_is larger o (reported_at new o) x f now puts.here facts)
          | inr ne ↦ reported_stays objects larger k (reported_at old k) (reported_at new k) (larger_same k) (larger_there k ne) (puts.others k ne) (counts.each k)
        ];
        charge = sum' ∙ ap (λ (z : Sizes). charge z larger) (sym puts.sizes);
      }
    where
      unreported : (g : Option ObjectFacts) → IsStated objects o None g → g ≡ None
      unreported None t = refl
      unreported (Some f) t = absurd t

-- An object goes.
module _ (objects : Objects) (o : ℕ) (blank : NamesNothing objects o) (unnamed : IsDirectory objects o → IsNamed objects o → ⊥) where
  abbrev smaller : Objects
  smaller = map.remove objects o

  smaller_there : (k : ℕ) → k ≢ o → map.get smaller k ≡ map.get objects k
  smaller_there k ne = get_removed nat_cmp_total map.nat_cmp-IsAntisymmetric objects o k ne

  smaller_none : map.get smaller o ≡ None
  smaller_none = removed_none nat_cmp_total map.nat_cmp-IsAntisymmetric objects o

  smaller_to : (p c : ℕ) (n : Name) → Names objects p n c → Names smaller p n c
  smaller_to p c n names = record {
    moment = names.moment;
    entries = names.entries;
    directory_is = smaller_there p (λ is. blank c n (subst (λ q. Names objects q n c) is names)) ∙ names.directory_is;
    object_is = names.object_is;
  }

  smaller_was : (k : ℕ) (v : Object) → map.get smaller k ≡ Some v → map.get objects k ≡ Some v
  smaller_was k v is = (remove_cases nat_cmp_total map.nat_cmp-IsAntisymmetric objects o k v is).1

  smaller_from : (p c : ℕ) (n : Name) → Names smaller p n c → Names objects p n c
  smaller_from p c n names = record { moment = names.moment; entries = names.entries; directory_is = smaller_was p _ names.directory_is; object_is = names.object_is }

  smaller_same : (k : ℕ) → SameAt objects smaller k
  smaller_same k = record {
    to = λ p n. smaller_to p k n;
    from = λ p n. smaller_from p k n;
    child = λ c sub. ((sub.0.0, smaller_to k c sub.0.0 sub.0.1), (sub.1.0, sub.1.1, smaller_there c (λ is. gone c k sub.0.0 is sub.1 sub.0.1) ∙ sub.1.2));
    was = λ c sub. ((sub.0.0, smaller_from k c sub.0.0 sub.0.1), (sub.1.0, sub.1.1, smaller_was c _ sub.1.2));
  }
    where
      gone : (c k : ℕ) (n : Name) → c ≡ o → IsDirectory objects c → Names objects k n c → ⊥
      gone c k n is dir names = unnamed (subst (IsDirectory objects) is dir) (k, n, subst (λ q. Names objects k n q) is names)

  paid_for : (z : Sizes) (v : Option Object) (g : Option ObjectFacts) → map.get objects o ≡ v → IsStated objects o v g → charge z objects < 2 ^ 48 → charge z objects - units_of z g ≡ charge z smaller
  paid_for z None None is t within_limit =
      let same : smaller ≡ objects = map.same_map nat_cmp_total map.nat_cmp-IsAntisymmetric smaller objects (λ q. elim (cases_eq q o) [
        | inl e ↦ ap (map.get smaller) e ∙ smaller_none ∙ sym is ∙ ap (map.get objects) (sym e)
        | inr ne ↦ smaller_there q ne
      ]) in
      omega (arith, ap (charge z) same)
  paid_for z None (Some f) is t within_limit = absurd t
  paid_for z (Some x) None is t within_limit = absurd t
  paid_for z (Some x) (Some f) is t within_limit =
      let all = total_without nat_cmp_total map.nat_cmp-IsAntisymmetric (cost z) objects o x is in
      let paid = facts_cost_is z objects o x f t in
      omega (arith, all, paid, within_limit)

  pub gone_counts : (old new : CountedFacts) → Counts old objects → charge (sizes_in old) objects < 2 ^ 48 → Drops old new o → Counts new smaller
  gone_counts old new counts within_limit drops =
      let sum' : charge_in new ≡ charge (sizes_in old) smaller =
      drops.charge ∙ ap (λ n. n - units_of (sizes_in old) (reported_at old o)) counts.charge ∙ paid_for (sizes_in old) (map.get objects o) (reported_at old o) refl (counts.each o) within_limit in
      record {
        each = λ k. elim (cases_eq k o) [
          | inl same ↦ subst (λ j. IsStated smaller j (map.get smaller j) (reported_at new j)) (sym same)
              (subst (λ (v : Option Object). IsStated smaller o v (reported_at new o)) (sym smaller_none) (subst (λ (g : Option ObjectFacts). IsStated smaller o None g) (sym drops.here) tt))
          | inr ne ↦ reported_stays objects smaller k (reported_at old k) (reported_at new k) (smaller_same k) (smaller_there k ne) (drops.others k ne) (counts.each k)
        ];
        charge = sum' ∙ ap (λ (z : Sizes). charge z smaller) (sym drops.sizes);
      }

-- no objects
pub empty_counts : (totaled : CountedFacts) → ((o : ℕ) → reported_at totaled o ≡ None) → charge_in totaled ≡ 0 → Counts totaled map.empty
empty_counts totaled none free = record {
  each = λ o.
      subst (λ (v : Option Object). IsStated map.empty o v (reported_at totaled o)) (sym (map.get-empty nat_cmp o)) (subst (λ (g : Option ObjectFacts). IsStated map.empty o None g) (sym (none o)) tt);
  charge = free ∙ sym (ap (λ es. sum_by (cost (sizes_in totaled)) (list_map (λ (e : ℕ × Object). e.1) es))
      (nil_from_length (map.entries (map.empty {X = Object} {R = nat_cmp})) (sym (map.len-entries (map.empty {X = Object} {R = nat_cmp})) ∙ map.len-empty nat_cmp Object)));
}

-- a new object without content or names
pub fresh_facts_are : (objects : Objects) (o moment : ℕ) (kind : Kind) → map.get objects o ≡ None → (IsNamed objects o → ⊥)
    → NamesNothing (map.insert objects o (empty_object kind moment)) o × AreFactsOf (map.insert objects o (empty_object kind moment)) o (empty_object kind moment) (fresh_facts kind moment)
fresh_facts_are objects o moment kinds.File free none =
    let x : Object = File moment [] in
    let here : map.get (map.insert objects o (File moment [])) o ≡ Some (File moment []) = get_here nat_cmp_total map.nat_cmp-IsAntisymmetric objects o (File moment []) in
    let blank : NamesNothing (map.insert objects o (File moment [])) o = λ c n names. not_both (map.insert objects o (File moment [])) o (moment, [], here) (namer_directory (map.insert objects o (File moment [])) o c n names) in (
      blank,
      record {
        kind = refl;
        moment = refl;
        size = refl;
        links = ([], record { distinct = tt; only = λ p is. absurd is; all = λ p names. none (p.0, p.1, larger_from objects o (File moment []) free none blank p.0 o p.1 names) }, refl);
      },
    )
fresh_facts_are objects o moment kinds.Directory free none =
    let here : map.get (map.insert objects o (Dir moment map.empty)) o ≡ Some (Dir moment map.empty) = get_here nat_cmp_total map.nat_cmp-IsAntisymmetric objects o (Dir moment map.empty) in
    let blank : NamesNothing (map.insert objects o (Dir moment map.empty)) o =
    (λ c n names.
    let is : map.get (map.empty {X = ℕ} {R = slice_cmp nat_cmp}) n ≡ Some c = ap (λ (v : Option Object). map.get (entries_of v) n) (sym here) ∙ named_entry (map.insert objects o (Dir moment map.empty)) o c n names in
    let two : None ≡ Some c = sym (map.get-empty (slice_cmp nat_cmp) n) ∙ is in cc) in (
      blank,
      record {
        kind = refl;
        moment = refl;
        size = sym (map.len-empty (slice_cmp nat_cmp) ℕ);
        links = ([], record { distinct = tt; only = λ p is. absurd is; all = λ c sub. blank c sub.0.0 sub.0.1 }, refl);
        parent = λ named. none (named.0, named.1, larger_from objects o (Dir moment map.empty) free none blank named.0 o named.1 named.2);
      },
    )
