use Rattle.std.proofs.Common.{None}
use Rattle.name_index.proofs.Naming.{updated, drops_directory}
use Rattle.name_index.proofs.index.NameIndex.drop_directory.Goals as goal

pub returns : goal.returns
returns c = drops_directory _ _ c.args.directory (updated c.args.directory None c.args.self.now.directories c.remove.new.self c.remove.ensures.updates)
