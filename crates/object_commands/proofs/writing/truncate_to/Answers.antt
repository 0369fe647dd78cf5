use Rattle.std.proofs.Common.{◌<◌, ◌≤◌, ◌∙◌, List, ℕ, sym, ap, refl, subst, le-ltb}
use Rattle.std.proofs.lemmas.Bool.{lt-ltb}
use Rattle.std.specs.FinMap as map
use Rattle.posix_profile.specs.Changes.{with_bytes, resized}
use Rattle.posix_profile.specs.HandleSteps.{at_file}
use Rattle.posix_profile.specs.Outcomes.{Outcome, change_to}
use Rattle.volume_terms.specs.Sizes.{greatest_length}
use Rattle.posix_profile.specs.laws.Sound.{length-resized}
use Rattle.posix_profile.specs.declared.reply.Errno.TheVariants as errors
use Rattle.posix_profile.specs.declared.reply.Reply.TheVariants as replies
use Rattle.object_store.specs.Facts.{bytes_of}
use Rattle.object_commands.proofs.Making.{plan_changed, none_dropped}
use Rattle.command_plans.specs.laws.Plan.{change_fits, change_full, refused, passed, passed_all, this_file}
use Rattle.object_commands.proofs.writing.truncate_to.Goals as goal

pub returns-then-greatest_length-length : goal.returns-then-greatest_length-length
returns-then-greatest_length-length g c z s holds file handle same =
    let most = c.greatest_length.ensures.value ∙ ap greatest_length (c.sizes.ensures ∙ holds.has.sizes) in
    refused s _ _ _ _ (lt-ltb _ _ (subst (λ n. n < c.args.length) most c.if-greatest_length-length.true))

pub returns-then-not-has_bytes_room : goal.returns-then-not-has_bytes_room
returns-then-not-has_bytes_room g c z s holds file handle same =
    let most = c.greatest_length.ensures.value ∙ ap greatest_length (c.sizes.ensures ∙ holds.has.sizes) in
    let bytes = bytes_of (map.get s.objects c.args.number) in
    let act : List ℕ → Outcome = λ bytes. change_to z s (record s { objects = with_bytes s.objects c.args.moment handle.object (resized bytes c.args.length) }) replies.Done in
    let full = sym (c.has_bytes_room.ensures z s.objects holds.has file c.args.moment (resized bytes c.args.length) (sym (length-resized bytes c.args.length))) ∙ c.if-not-has_bytes_room.true in
    change_full z s (record s { objects = with_bytes s.objects c.args.moment c.args.number (resized bytes c.args.length) }) replies.Done full
    ∙ ap (λ o. change_to z s (record s { objects = with_bytes s.objects c.args.moment o (resized bytes c.args.length) }) replies.Done) same
    ∙ this_file s errors.EINVAL act c.args.number file _ file.2 ∙ ap (λ o. at_file s (map.get s.objects o) errors.EINVAL act) same
    ∙ passed_all s _ ∙ passed s _ _ _ _ (le-ltb _ _ (subst (λ n. c.args.length ≤ n) most c.if-greatest_length-length.false))

pub returns : goal.returns
returns g c z s holds file handle same =
    let most = c.greatest_length.ensures.value ∙ ap greatest_length (c.sizes.ensures ∙ holds.has.sizes) in
    let bytes = bytes_of (map.get s.objects c.args.number) in
    let act : List ℕ → Outcome = λ bytes. change_to z s (record s { objects = with_bytes s.objects c.args.moment handle.object (resized bytes c.args.length) }) replies.Done in
    let room = sym (c.has_bytes_room.ensures z s.objects holds.has file c.args.moment (resized bytes c.args.length) (sym (length-resized bytes c.args.length))) ∙ c.if-not-has_bytes_room.false in
    plan_changed z s replies.Done _ _ _ c.change.ensures refl
    (record { sensible = (file, subst (λ n. c.args.length ≤ n) most c.if-greatest_length-length.false); takes = tt; empty = none_dropped s.objects; fits = room })
    (change_fits z s (record s { objects = with_bytes s.objects c.args.moment c.args.number (resized bytes c.args.length) }) replies.Done room
    ∙ ap (λ o. change_to z s (record s { objects = with_bytes s.objects c.args.moment o (resized bytes c.args.length) }) replies.Done) same
    ∙ this_file s errors.EINVAL act c.args.number file _ file.2 ∙ ap (λ o. at_file s (map.get s.objects o) errors.EINVAL act) same
    ∙ passed_all s _ ∙ passed s _ _ _ _ (le-ltb _ _ (subst (λ n. c.args.length ≤ n) most c.if-greatest_length-length.false)))
