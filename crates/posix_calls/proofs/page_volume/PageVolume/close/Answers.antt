use Rattle.std.proofs.Common.{refl, inl, inr}
use Rattle.std.proofs.lemmas.Bool.{cases_Bool}
use Rattle.posix_calls.specs.PageVolumes.{is_stopped}
use Rattle.posix_calls.proofs.Closed.{closes_more, closes_stopped}
use Rattle.posix_calls.proofs.page_volume.PageVolume.close.Goals as goal

pub returns : goal.returns
returns g c first so_far =
    let b = c.args.self.now in
    let e = c.ask-reply.ensures in
    elim (cases_Bool (is_stopped b)) [
      | inl stop ↦ closes_stopped g.P.Pages.state c.args.fd first b c.ask-reply.new.self so_far stop (e.stopped stop).1
      | inr runs ↦ closes_more g.P.Pages.state c.args.fd first b c.ask-reply.new.self so_far 0 c.ask-reply.result e.goes_on e.read_only (e.leaves refl) runs (e.stops runs)
          (λ z s is. (e.replied runs z s is).reply_is) (λ z s is. (e.replied runs z s is).state_is) (λ z s is. (e.replied runs z s is).tree) (λ z s is. (e.replied runs z s is).cause)
    ]
