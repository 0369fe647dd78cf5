use Rattle.std.proofs.Common.{◌≡◌, ◌≤◌, ◌∙◌, ℕ, List, Some, length, get_or, slice_get, map as list_map, refl, sym, ap, subst, arith}
use Rattle.std.proofs.lemmas.Option.{slice_get-get_or, slice_get_within}
use Rattle.std.specs.FinMap as map
use Rattle.std.proofs.lemmas.List.{length-map}
use Rattle.volume_terms.specs.Sizes.{Sizes}
use Rattle.volume_terms.specs.laws.List.{at_mapped}
use Rattle.posix_profile.specs.State.{Dir}
use Rattle.posix_profile.specs.Changes.{with_name}
use Rattle.flash_tree.specs.Tree.{IsPageSize}
use Rattle.object_store.specs.Built.{sizes_built, Builds}
use Rattle.object_store.specs.Totaled.{GetsName}
use Rattle.tree_walk.specs.Trees.{head_at, objects_listed}
use Rattle.tree_walk.specs.declared.tree.NamedObject.{NamedObject}
use Rattle.tree_walk.specs.declared.tree.Tree.{Tree}
use Rattle.tree_walk.proofs.Naming.{AreNamedOnce, begins_named, gets, named_more, all_came}
use Rattle.tree_walk.proofs.Slots.{NamedSlot, name_of}
use Rattle.tree_walk.proofs.Reported.{listed, head_of, slots_of, page_size}
use Rattle.tree_walk.proofs.tree_names.insert_names.Goals as goal

pub loop-place-init : goal.loop-place-init
loop-place-init c = record {
  size = refl;
  builds = λ m objects part shown nameless start.
      let z : Sizes = sizes_built c.args.builder.now in
      (part, begins_named objects (slots_of z (page_size z shown.sizes) m c.args.tree.now objects shown.tree_of shown.shows).0 part nameless, start);
}

pub loop-place-preserved : goal.loop-place-preserved
loop-place-preserved c = record {
  size = c.insert_name.ensures.size ∙ c.loop-place.invariant.size;
  builds = λ m objects part shown nameless start.
      let z : Sizes = sizes_built c.args.builder.now in
      let size : IsPageSize z.page_bytes = page_size z shown.sizes in
      let tree : Tree = c.args.tree.now in
      let n : ℕ = c.loop-place.place in
      let slots = slots_of z size m tree objects shown.tree_of shown.shows in
      let so_far = c.loop-place.invariant.builds m objects part shown nameless start in
      let none : NamedObject = record { directory = 0; object = 0 } in
      let name : NamedObject = get_or c.names-names.result.now n none in
      let at : slice_get (list_map name_of slots.0) n ≡ Some name =
      ap (λ (ns : List NamedObject). slice_get ns n) (sym (c.names-names.ensures ∙ slots.1.pairs_are)) ∙ slice_get-get_or c.names-names.result.now n none c.loop-place-test.true in
      let s = at_mapped name_of slots.0 n name at in
      let slot : NamedSlot = s.0 in
      let names = (slots.1.each n slot s.1).3 in
      let head = head_of z size m tree objects shown.tree_of shown.shows slot.directory (Dir names.moment names.entries) names.directory_is in
      let moment : ℕ = head.0.moment in
      let dir : map.get objects slot.directory ≡ Some (Dir moment names.entries) = names.directory_is ∙ ap (λ t. Some (Dir t names.entries)) (sym head.2.1) in
      let once : AreNamedOnce objects slots.0 = record { each = λ i t is. (slots.1.each i t is).3; once = slots.1.once } in
      let may : GetsName z so_far.0 moment slot.directory slot.entry.name slot.entry.object =
      gets z shown.sizes objects shown.shows.tree.forest shown.fit slots.0 once n so_far.0 so_far.1 slot s.1 moment names.entries dir in
      let may_too : GetsName (sizes_built c.loop-place.builder) so_far.0 moment slot.directory slot.entry.name slot.entry.object =
      subst (λ (y : Sizes). GetsName y so_far.0 moment slot.directory slot.entry.name slot.entry.object) (sym c.loop-place.invariant.size) may in
      let reported : Builds c.insert_name.new.builder (with_name so_far.0 moment name.directory slot.entry.name name.object) =
      c.insert_name.ensures.names head.0 so_far.0 slot.entry.name (subst (λ (x : NamedObject). head_at tree x.directory ≡ Some head.0) s.2 head.1) so_far.2
      (subst (λ (x : NamedObject). GetsName (sizes_built c.loop-place.builder) so_far.0 moment x.directory slot.entry.name x.object) s.2 may_too) in (
        with_name so_far.0 moment slot.directory slot.entry.name slot.entry.object,
        named_more z shown.sizes objects shown.shows.tree.forest shown.fit slots.0 once n so_far.0 so_far.1 slot s.1 moment names.entries dir,
        subst (λ (x : NamedObject). Builds c.insert_name.new.builder (with_name so_far.0 moment x.directory slot.entry.name x.object)) (sym s.2) reported,
      );
}

pub returns-clause-builds : goal.returns-clause-builds
returns-clause-builds c = λ m objects shown builds.
    let z : Sizes = sizes_built c.args.builder.now in
    let size : IsPageSize z.page_bytes = page_size z shown.sizes in
    let tree : Tree = c.args.tree.now in
    let slots = slots_of z size m tree objects shown.tree_of shown.shows in
    let so_far = c.loop-place.invariant.builds m objects builds.0 shown builds.1 builds.2 in
    let sufficient : length slots.0 ≤ c.loop-place.place =
    omega (arith, c.loop-place-test.false, ap length c.names-names.ensures, ap length slots.1.pairs_are, length-map slots.0 name_of) in
    let same = all_came objects slots.0 c.loop-place.place so_far.0 so_far.1 (λ d o name names.
    let on = listed z size m tree objects shown.tree_of shown.shows d (Dir names.moment names.entries) names.directory_is in
    let s = slots.1.every on.0 d o name (slice_get_within (objects_listed tree) on.0 d on.1) on.1 names in
    (s.0, s.1, omega (arith, slice_get_within slots.0 s.0 s.1 s.2, sufficient), s.2, s.3, s.4, s.5)) in
    subst (λ x. Builds c.loop-place.builder x) same so_far.2
