use Rattle.std.proofs.Common.{sym, subst}
use Rattle.std.proofs.Common.{map as list_map}
use Rattle.plain_volume.specs.Items.{item_of}
use Rattle.plain_volume.specs.Lists.{Lists, shown_of}
use Rattle.plain_volume.specs.laws.Sameness.{same_read, state_tree}
use Rattle.plain_volume.proofs.StampedRequest.{ok_then, ok_both}
use Rattle.plain_volume.proofs.tree.PlainTree.same.Goals as goal

pub returns : goal.returns
returns g c = ok_then _ _ c.has.result (λ same reported z read_only s shown.
    let b = c.in_ok-list.ensures z read_only s shown in (
      λ bare.
          let tree = state_tree z s (g.met.V.Answers.sound c.args.volume.now z read_only s shown) bare in (
            λ yes. same_read c.args.self.now.sizes z (shown_of c.args.self.now) s.objects reported.0 tree (list_map item_of c.in_ok-list.list.entries.items) (reported.1.0 yes) b.0,
            λ is. reported.1.1 (subst (Lists c.in_ok-list.list) (sym is) b.0),
          ),
      b.1,
    )) (ok_both _ _ c.has.result c.has.ensures.shows c.has.ensures.listed)
