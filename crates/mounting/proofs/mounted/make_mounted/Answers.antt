use Rattle.std.proofs.Common.{sym, ◌∙◌, ap}
use Rattle.nand_model.specs.Calls.{Device}
use Rattle.flash_tree.specs.Places.{numbers_of}
use Rattle.volume_terms.specs.VolumeSizes as volume
use Rattle.flash_tree.specs.Mount.{sizes_of}
use Rattle.block_state.specs.TableOf.{table}
use Rattle.mounting.proofs.Mountable.{is_mountable}
use Rattle.mounting.proofs.Consistency.{ordinary_shown}
use Rattle.mounting.proofs.Giving.{ShownLaws, only_read_where, are_next, most_is, mounted_with, page_bytes_is, volume_is}
use Rattle.mounting.proofs.Placed.{are_placed}
use Rattle.mounting.proofs.mounted.make_mounted.Goals as goal

pub returns-in-Ok-make_pages-clause-made : goal.returns-in-Ok-make_pages-clause-made
returns-in-Ok-make_pages-clause-made g c =
    let named = c.into_inner-on.result in
    let on = named.on in
    let same = sym c.into_inner-on.ensures in
    let read = rw same at c.requires.named in
    let shown = rw same at c.requires.tree in
    let sizes = rw same at c.requires.sizes in
    let d = g.N.Nand.state on.device in
    let n = numbers_of on.numbers in
    let e = c.in-Ok-make_pages.ensures in
    let before = ap (λ (k : Device). k.honest) (sym e.made.device_is) in
    let laws : ShownLaws = record {
      sizes = λ k m spare volume. c.a_volume_has_sizes.ensures k.geometry m spare volume;
      forest = c.the_footprint_holds_the_tree.ensures.forest;
      settled = c.the_footprint_holds_the_tree.ensures.settled;
      names = c.the_names_of_a_tree_are_those_of_its_objects.ensures;
    } in
    record {
      sizes = record {
        page_bytes = page_bytes_is d on.index n on.spare _ e.made;
        most = most_is d on.index n on.spare _ e.made;
        volume = c.in-Ok.ensures.size ∙ sizes ∙ sym (volume_is d on.index n on.spare _ e.made);
      };
      worn = e.worn;
      read_only = only_read_where d on.index n on.spare _ e.made _ c.is_worn-read_only.ensures.worn c.is_worn-read_only.ensures.left;
      next = λ honest. are_next d on.index n on.spare _ e.made (read.tree.tables.tables.numbers (before ∙ honest));
      tree = λ is.
          let honest = before ∙ is in
          let reported = shown honest in (
            reported.0,
            mounted_with d on.index n on.spare _ e.made laws on.tree reported.0 honest reported.1 reported.2 c.in-Ok.table (volume.sizes_of c.args.going.sizes)
                sizes c.in-Ok.ensures.reports reported.3 named.names (read.names honest) (read.tree.tables.tables.newest honest) read.tree.tables.tables.low,
          );
      placed = λ is.
          let reported = shown (before ∙ is) in
          are_placed d _ on.index on.spare _ c.in-Ok-make_pages.pages reported.0 e.made.device_is e.made.spare_is e.tables reported.1 reported.2.places;
    }

pub returns-in-Ok-make_pages-clause-remembers : goal.returns-in-Ok-make_pages-clause-remembers
returns-in-Ok-make_pages-clause-remembers g c = rw (sym c.into_inner-on.ensures) c.in-Ok-make_pages.ensures.made.remembers

pub make_pages-requires-clause-ordinary : goal.make_pages-requires-clause-ordinary
make_pages-requires-clause-ordinary g c = λ honest.
    let on = c.into_inner-on.result.on in
    let same = sym c.into_inner-on.ensures in
    let d = g.N.Nand.state on.device in
    let reported = (rw same at c.requires.tree) honest in
    let shown = reported.2 in
    ordinary_shown (sizes_of d.geometry on.spare) (sizes_of d.geometry on.spare) d.flash on.index reported.0
    (c.the_footprint_holds_the_tree.ensures.forest _ shown.on.pages reported.0 shown.shows) shown.holds ((rw same at c.requires.named).tree.tables.tables.newest honest)

pub make_pages-requires-clause-can : goal.make_pages-requires-clause-can
make_pages-requires-clause-can g c = λ written.
    let on = c.into_inner-on.result.on in
    let same = sym c.into_inner-on.ensures in
    let d = g.N.Nand.state on.device in
    let can = c.is_worn-read_only.ensures.left written in
    let opened = (rw same at c.requires.named).tree.tables.tables in
    let knows = rw same at c.requires.blocks in
    record {
      can = can;
      mountable = λ began honest.
          let shown = (rw same at c.requires.tree) honest in
          is_mountable d (table on.blocks) on.index on.spare shown.0 honest began shown.1 shown.2.places (opened.newest honest) _ (numbers_of on.numbers) opened (opened.can_write can.0)
          (g.met.N.Nand.within on.device) (knows.firsts honest can.0) knows.whole (c.the_counts_are_of_the_keys.ensures.zero on.index) c.a_table_of_first_pages_knows_erased_blocks.ensures;
    }
