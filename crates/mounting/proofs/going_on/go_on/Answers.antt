use Rattle.std.proofs.Common.{◌≡◌, ◌≤◌, IsTrue, false, sym, subst}
use Rattle.flash_tree.specs.Mount.{sizes_of}
use Rattle.flash_tree.specs.Places.{numbers_of}
use Rattle.flash_tree.specs.Tree.{Shows}
use Rattle.block_state.specs.TableOf.{table}
use Rattle.pages.specs.Maps.{has}
use Rattle.tree_walk.specs.Trees.{IsTreeThrough, keeps_key}
use Rattle.volume_terms.specs.Sizes.{Sizes, capacity}
use Rattle.volume_terms.specs.VolumeSizes as volume
use Rattle.posix_profile.specs.Charge as costs
use Rattle.mounting.proofs.Pruning.{ListsAreWhole, fitting}
use Rattle.mounting.proofs.Shown.{TreeLaws, shows, answers_room, answers_full, answers_scarce, tree_shown}
use Rattle.mounting.proofs.going_on.go_on.Goals as goal

pub returns-then-not-are_fitting-clause-none : goal.returns-then-not-are_fitting-clause-none
returns-then-not-are_fitting-clause-none g c = λ honest.
    let on = c.args.on.now in
    let law = c.the_list_of_a_block_is_whole.ensures in
    let lists : ListsAreWhole = record { committed = law.committed; here = law.here; count = law.count; once = law.once } in
    let fit = fitting lists (keeps_key on.tree) (g.N.Nand.state on.device) (table on.blocks) on.index (numbers_of on.numbers) c.requires.read.tables honest in
    let two : IsTrue false = subst (λ b. IsTrue b) c.if-not-are_fitting.true (c.are_fitting.ensures.1 (λ b lt. fit b)) in
    absurd cc

pub returns-then-not-fits-clause-none : goal.returns-then-not-fits-clause-none
returns-then-not-fits-clause-none g c = λ honest.
    let on = c.args.on.now in
    let d = g.N.Nand.state on.device in
    let laws : TreeLaws = record {
      shown = c.a_whole_list_shows_a_tree.ensures.tree;
      holds = c.the_footprint_holds_the_tree.ensures.holds;
      full = c.a_shown_tree_has_room_or_not.ensures.full;
      scarce = c.a_shown_tree_has_room_or_not.ensures.scarce;
      room = c.a_shown_tree_has_room_or_not.ensures.room;
      test = c.the_tree_looks_up_its_footprint.ensures.test;
      part = c.what_the_tree_looks_up_is_committed.ensures.part;
      committed = c.what_the_tree_looks_up_is_committed.ensures.committed;
      keys = c.the_headers_report_the_keys.ensures;
      bad = c.blocks_without_committed_pages_are_free.ensures.bad;
    } in
    let tree_on = c.requires.read.tree_on honest in
    let within = g.met.N.Nand.within on.device in
    let sized = g.met.N.Nand.sized on.device honest in
    let shown = shows laws d (table on.blocks) on.index (numbers_of on.numbers) on.spare on.tree within sized c.requires.read.tables honest tree_on in
    let z : volume.sizes_of c.in-Some.sizes ≡ sizes_of d.geometry on.spare = subst (λ k. volume.sizes_of c.in-Some.sizes ≡ sizes_of k on.spare) c.geometry.ensures c.in-Some.ensures.sizes in
    let reported = c.fits.ensures tree_on.pages shown.0 (subst (λ (k : Sizes). IsTreeThrough k (has tree_on.pages) on.tree) (sym z) tree_on.through.tree_is) (subst (λ (k : Sizes). Shows k (has tree_on.pages) shown.0) (sym z) shown.1) in
    answers_full laws d (table on.blocks) on.index (numbers_of on.numbers) on.spare on.tree within sized c.requires.read.tables honest tree_on shown.0 shown.1
    (λ le.
    let two : IsTrue false = subst (λ b. IsTrue b) c.if-not-fits.true (reported.1 (subst (λ (k : Sizes). costs.charge k shown.0 ≤ capacity k) (sym z) le)) in
    absurd cc)

pub returns-then-not-has_room-clause-none : goal.returns-then-not-has_room-clause-none
returns-then-not-has_room-clause-none g c = λ honest.
    let on = c.args.on.now in
    let d = g.N.Nand.state on.device in
    let laws : TreeLaws = record {
      shown = c.a_whole_list_shows_a_tree.ensures.tree;
      holds = c.the_footprint_holds_the_tree.ensures.holds;
      full = c.a_shown_tree_has_room_or_not.ensures.full;
      scarce = c.a_shown_tree_has_room_or_not.ensures.scarce;
      room = c.a_shown_tree_has_room_or_not.ensures.room;
      test = c.the_tree_looks_up_its_footprint.ensures.test;
      part = c.what_the_tree_looks_up_is_committed.ensures.part;
      committed = c.what_the_tree_looks_up_is_committed.ensures.committed;
      keys = c.the_headers_report_the_keys.ensures;
      bad = c.blocks_without_committed_pages_are_free.ensures.bad;
    } in
    let tree_on = c.requires.read.tree_on honest in
    let within = g.met.N.Nand.within on.device in
    let sized = g.met.N.Nand.sized on.device honest in
    let shown = shows laws d (table on.blocks) on.index (numbers_of on.numbers) on.spare on.tree within sized c.requires.read.tables honest tree_on in
    answers_scarce laws d (table on.blocks) on.index (numbers_of on.numbers) on.spare on.tree within sized c.requires.read.tables honest tree_on shown.0 shown.1
    (λ room.
    let two : IsTrue false = subst (λ b. IsTrue b) c.if-not-has_room.true (c.has_room.ensures.1 room) in
    absurd cc)

pub returns-clause-tree : goal.returns-clause-tree
returns-clause-tree g c = λ honest.
    let on = c.args.on.now in
    let d = g.N.Nand.state on.device in
    let laws : TreeLaws = record {
      shown = c.a_whole_list_shows_a_tree.ensures.tree;
      holds = c.the_footprint_holds_the_tree.ensures.holds;
      full = c.a_shown_tree_has_room_or_not.ensures.full;
      scarce = c.a_shown_tree_has_room_or_not.ensures.scarce;
      room = c.a_shown_tree_has_room_or_not.ensures.room;
      test = c.the_tree_looks_up_its_footprint.ensures.test;
      part = c.what_the_tree_looks_up_is_committed.ensures.part;
      committed = c.what_the_tree_looks_up_is_committed.ensures.committed;
      keys = c.the_headers_report_the_keys.ensures;
      bad = c.blocks_without_committed_pages_are_free.ensures.bad;
    } in
    let tree_on = c.requires.read.tree_on honest in
    let within = g.met.N.Nand.within on.device in
    let sized = g.met.N.Nand.sized on.device honest in
    let shown = shows laws d (table on.blocks) on.index (numbers_of on.numbers) on.spare on.tree within sized c.requires.read.tables honest tree_on in
    let z : volume.sizes_of c.in-Some.sizes ≡ sizes_of d.geometry on.spare = subst (λ k. volume.sizes_of c.in-Some.sizes ≡ sizes_of k on.spare) c.geometry.ensures c.in-Some.ensures.sizes in
    let reported = c.fits.ensures tree_on.pages shown.0 (subst (λ (k : Sizes). IsTreeThrough k (has tree_on.pages) on.tree) (sym z) tree_on.through.tree_is) (subst (λ (k : Sizes). Shows k (has tree_on.pages) shown.0) (sym z) shown.1) in
    let le = reported.0 c.if-not-fits.false in (
      shown.0,
      answers_room laws d (table on.blocks) on.index (numbers_of on.numbers) on.spare on.tree within sized c.requires.read.tables honest tree_on shown.0 shown.1
          (subst (λ (k : Sizes). costs.charge k shown.0 ≤ capacity k) z le) (c.has_room.ensures.0 c.if-not-has_room.false),
      tree_shown laws d (table on.blocks) on.index (numbers_of on.numbers) on.spare on.tree within sized c.requires.read.tables honest tree_on shown.0 shown.1,
      le,
    )
