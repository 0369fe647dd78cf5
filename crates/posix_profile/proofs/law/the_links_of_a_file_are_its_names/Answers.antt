use Rattle.posix_profile.specs.laws.Link.{file_links}
use Rattle.posix_profile.proofs.law.the_links_of_a_file_are_its_names.Goals as goal

pub returns : goal.returns
returns c = file_links
