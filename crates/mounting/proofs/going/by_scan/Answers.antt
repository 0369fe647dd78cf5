use Rattle.std.proofs.Common.{◌≡◌, ◌<◌, true, refl, sym, ◌∙◌, ap, subst, ◌≤◌}
use Rattle.nand_model.specs.Calls.{Device}
use Rattle.nand_model.specs.declared.geometry.Geometry.{Geometry}
use Rattle.flash_tree.specs.Mount.{Answers, IsTreeOf, sizes_of}
use Rattle.flash_tree.specs.Places.{numbers_of}
use Rattle.posix_profile.specs.State.{Objects}
use Rattle.posix_profile.specs.Charge as costs
use Rattle.volume_terms.specs.Sizes.{capacity}
use Rattle.volume_terms.specs.VolumeSizes as volume
use Rattle.block_state.specs.TableOf.{table}
use Rattle.mounting.specs.Mounted.{IsTreeRead, IsTreeShown, HasRoomOn, CoversNewest}
use Rattle.nand_model.specs.Trusting.{trusted_as}
use Rattle.mounting.specs.Named.{IsReadAs}
use Rattle.mounting.specs.Reads.{ReadsAll}
use Rattle.mounting.specs.Tables.{KnowsBlocks}
use Rattle.mounting.proofs.Firsts.{known_noted}
use Rattle.mounting.proofs.ReadsTree.{ReadLaws, reads_all}
use Rattle.mounting.proofs.Noting.{trusted_is, noted_read, fitting_noted, room_noted, whole_noted, may_after, scan_checked, right_before}
use Rattle.mounting.proofs.going.by_scan.Goals as goal

pub note_free-requires-clause-block : goal.note_free-requires-clause-block
note_free-requires-clause-block g c = λ b is.
    let e = c.in_ok-going.ensures in
    let same = sym c.into_inner-on.ensures in
    let placed = (c.requires.noted.good b is).0 in
    let sizes = (rw same at e.going.named).tree.tables.tables.geometry ∙ (rw same at e.reads).lasts.geometry in
    subst (λ (k : Geometry). b < k.blocks) (sym sizes) placed

pub note_free-requires-clause-closed : goal.note_free-requires-clause-closed
note_free-requires-clause-closed g c = (rw (sym c.into_inner-on.ensures) at c.in_ok-going.ensures.going.named).tree.tables.tables.closed

pub returns-in-Ok-clause-read : goal.returns-in-Ok-clause-read
returns-in-Ok-clause-read g c =
    let e = c.in_ok-going.ensures in
    let same = sym c.into_inner-on.ensures in
    let a = g.N.Nand.state c.args.device in
    let b = g.N.Nand.state c.into_inner-on.result.on.device in
    rw c.in-Ok.ensures.same (subst (λ (d : Device). IsReadAs true a (g.N.Nand.state c.new.result.inner) d) (sym c.new.ensures.state)
    (subst (λ (d : Device). IsReadAs true a d (trusted_as true b)) (sym (ap g.N.Nand.state c.new.ensures.inner)) (record { reads = rw same at e.reads; power = rw same at e.power; seen_is = refl })))

pub returns-in-Ok-clause-going : goal.returns-in-Ok-clause-going
returns-in-Ok-clause-going g c =
    let e = c.in_ok-going.ensures in
    let same = sym c.into_inner-on.ensures in
    let named = c.into_inner-on.result in
    let on = named.on in
    let b = g.N.Nand.state on.device in
    let t = table on.blocks in
    let u = table c.note_free.new.blocks in
    let n = numbers_of on.numbers in
    let a = g.N.Nand.state c.args.device in
    let sizes = volume.sizes_of c.in_ok-going.going.sizes in
    let reads = rw same at e.reads in
    let read = rw same at e.going.named in
    let knows = rw same at e.going.blocks in
    let may = may_after a b c.args.noted reads c.requires.noted in
    let seen = c.new.ensures.state ∙ trusted_is b in
    record {
      named = rw c.in-Ok.ensures.same (record {
        tree = subst (λ (d : Device). IsTreeRead d u on.index n on.spare on.tree) (sym seen) (noted_read b t u on.index n on.spare on.tree c.args.noted may c.note_free.ensures read.tree);
        names = subst (λ (d : Device). d.honest ≡ true → CoversNewest named.names d on.spare on.tree) (sym seen) read.names;
      });
      sizes = rw c.in-Ok.ensures.same (subst (λ (d : Device). sizes ≡ sizes_of d.geometry on.spare) (sym seen) (rw same at e.going.sizes));
      fitting = rw c.in-Ok.ensures.same (fitting_noted c.args.noted t u c.note_free.ensures (rw same at e.going.fitting));
      room = rw c.in-Ok.ensures.same (subst (λ (d : Device). HasRoomOn d u on.spare) (sym seen) (room_noted b on.spare c.args.noted t u c.note_free.ensures (rw same at e.going.room)));
      blocks = rw c.in-Ok.ensures.same (subst (λ (d : Device). KnowsBlocks d u n) (sym seen) (record {
        firsts = known_noted b c.args.noted t u n c.note_free.ensures knows.firsts;
        whole = whole_noted b c.args.noted t u may c.note_free.ensures knows.whole;
      }));
      tree = rw c.in-Ok.ensures.same (subst (λ (d : Device). d.honest ≡ true → (objects : Objects) × Answers d.geometry d.flash (IsTreeOf on.spare objects) × IsTreeShown d on.index on.spare on.tree objects × (costs.charge sizes objects ≤ capacity sizes))
          (sym seen) (rw same at e.going.tree));
    }

pub returns-in-Ok-clause-checked : goal.returns-in-Ok-clause-checked
returns-in-Ok-clause-checked g c =
    let e = c.in_ok-going.ensures in
    let same = sym c.into_inner-on.ensures in
    let on = c.into_inner-on.result.on in
    let a = g.N.Nand.state c.args.device in
    let b = g.N.Nand.state on.device in
    let u = table c.note_free.new.blocks in
    let reads = rw same at e.reads in
    let named = rw same at e.going.named in
    let tree = rw same at e.going.tree in
    rw c.in-Ok.ensures.same (right_before a b u.checkpoint reads
    (λ honest is.
    let reported = tree honest in
    scan_checked c.the_headers_report_the_keys.ensures c.the_tree_looks_up_its_footprint.ensures.test b (table on.blocks) u on.index (numbers_of on.numbers) on.spare on.tree reported.0 c.args.noted
    (c.the_counts_are_of_the_keys.ensures.zero on.index) honest is (may_after a b c.args.noted reads c.requires.noted) c.note_free.ensures named.tree reported.2))

pub returns-in-Ok-clause-scans : goal.returns-in-Ok-clause-scans
returns-in-Ok-clause-scans g c = rw c.in-Ok.ensures.same (λ honest.
    let e = c.in_ok-going.ensures in
    let same = sym c.into_inner-on.ensures in
    let on = c.into_inner-on.result.on in
    let a = g.N.Nand.state c.args.device in
    let b = g.N.Nand.state on.device in
    let laws : ReadLaws = record {
      sizes = c.a_volume_has_sizes.ensures;
      pages = c.the_pages_of_a_tree_are_those_of_its_objects.ensures;
      one = c.a_flash_has_one_answer_at_most.ensures;
    } in
    let reads = rw same at e.reads in
    let tree = (rw same at e.going.tree) (reads.lasts.honest ∙ honest) in
    subst (ReadsAll a) (sym (ap g.N.Nand.state c.new.ensures.inner)) (reads_all a b reads honest laws on.index on.spare on.tree tree.0 ((rw same at e.within_limit) honest) tree.1 tree.2))
