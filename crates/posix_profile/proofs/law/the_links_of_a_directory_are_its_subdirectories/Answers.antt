use Rattle.posix_profile.specs.laws.Link.{directory_links}
use Rattle.posix_profile.proofs.law.the_links_of_a_directory_are_its_subdirectories.Goals as goal

pub returns : goal.returns
returns c = directory_links
