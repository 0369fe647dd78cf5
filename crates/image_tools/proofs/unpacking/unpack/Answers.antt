use Rattle.std.proofs.Common.{map as list_map}
use Rattle.plain_volume.specs.Items.{item_of}
use Rattle.plain_volume.specs.Lists.{Lists}
use Rattle.plain_volume.specs.laws.Listing.{reports_then}
use Rattle.image_tools.specs.Folders.{IsFolder, entries_of}
use Rattle.image_tools.proofs.unpacking.unpack.Goals as goal

pub returns : goal.returns
returns g c = reports_then g.V.Answers.shows c.args.volume.now c.read.new.volume (Lists c.in_ok-list.list) (λ objects. IsFolder objects (entries_of c.in_ok-folder.folder))
    (λ objects read. record { items = list_map item_of c.in_ok-list.list.entries.items; read = read; are = c.in_ok-folder.ensures }) c.in_ok-list.ensures
