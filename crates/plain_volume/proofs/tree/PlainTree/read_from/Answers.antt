use Rattle.std.proofs.Common.{map as list_map}
use Rattle.plain_volume.specs.Items.{item_of}
use Rattle.plain_volume.specs.Lists.{shown_of}
use Rattle.plain_volume.specs.laws.Sameness.{same_read, state_tree}
use Rattle.plain_volume.proofs.StampedRequest.{ok_then}
use Rattle.plain_volume.proofs.tree.PlainTree.read_from.Goals as goal

pub returns : goal.returns
returns g c = ok_then _ _ c.made_of.result (λ tree made z read_only s shown.
    let b = c.in_ok-list.ensures z read_only s shown in (
      λ bare. same_read tree.sizes z (shown_of tree) s.objects made.shows (state_tree z s (g.met.V.Answers.sound c.args.volume.now z read_only s shown) bare)
          (list_map item_of c.in_ok-list.list.entries.items) made.listed b.0,
      b.1,
    )) c.made_of.ensures
