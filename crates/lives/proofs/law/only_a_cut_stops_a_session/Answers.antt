use Rattle.lives.specs.laws.Sessions.{uncut_session}
use Rattle.lives.proofs.law.only_a_cut_stops_a_session.Goals as goal

pub returns : goal.returns
returns c = uncut_session
