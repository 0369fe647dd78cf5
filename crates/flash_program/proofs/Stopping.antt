-- Nothing but a loss of power stops a session.
use Rattle.std.proofs.Common.{◌≡◌, ◌⊎◌, ◌+◌, inl, inr, ℕ, true, false, List, [], ◌∷◌, Option, Result, Ok, Err, sym, ◌∙◌, ap, subst, arith}
use Rattle.std.proofs.lemmas.Bool.{cases_Bool, true≢false}
use Rattle.flash_tree.specs.Mount.{Answer, Answers as IsAnswer, IsTreeOf}
use Rattle.flash_tree.specs.Newest.{AreGreatest}
use Rattle.flash_tree.specs.Sound.{IsSoundFlash}
use Rattle.flash_tree.specs.laws.Place.{same_flash}
use Rattle.line_shell.specs.Commands.{line_of}
use Rattle.line_shell.specs.Runs.{Answers, Run, Shell}
use Rattle.line_shell.specs.Runs.{Session as Between}
use Rattle.line_shell.specs.declared.fault.ShellFault.{ShellFault}
use Rattle.line_shell.specs.declared.fault.ShellFault.TheVariants as faults
use Rattle.line_shell.specs.declared.line.Line.{Line}
use Rattle.line_shell.specs.declared.line.Line.TheVariants as lines
use Rattle.lives.specs.Lives.{at_mount}
use Rattle.mounting.specs.Made.{AreNext}
use Rattle.nand_model.specs.Calls.{Device}
use Rattle.nand_model.specs.Changes.{OnlyReads}
use Rattle.nand_model.specs.Flash.{Flash}
use Rattle.nand_model.specs.declared.geometry.Geometry.{Geometry}
use Rattle.nand_model.specs.declared.nand.Nand.{Ghosts}
use Rattle.nand_model.specs.declared.trusted_nand.TrustedNand.{TrustedNand}
use Rattle.posix_calls.specs.PageVolumes.{pages_of, is_stopped, IsVolumeOf}
use Rattle.posix_calls.specs.declared.page_volume.PageVolume.{PageVolume}
use Rattle.paged_objects.specs.Ending.{HasEndedAt}
use Rattle.paged_objects.specs.Representing.{volume_of}
use Rattle.paged_objects.specs.laws.Going.{ended_at, goes_here, goes_on}
use Rattle.pages.specs.State.{PagesState, NextNumbers}
use Rattle.pages.specs.Stores.{GoesOn}
use Rattle.page_store.specs.PagesOf.{mounted_pages}
use Rattle.page_store.specs.declared.flash_pages.FlashPages.{FlashPages}
use Rattle.posix_calls.specs.Calls.{IsCalled}
use Rattle.posix_calls.specs.Volumes.{over_pages}
use Rattle.posix_calls.specs.declared.volume.Volume.{Volume}
use Rattle.posix_calls.specs.Endings.{IsUnmounted}
use Rattle.posix_calls.specs.laws.Ending.{ends_after}
use Rattle.posix_calls.specs.laws.Trusting.{read_since, left_as_seen}
use Rattle.page_store.specs.Sealing.{EndsOn}
use Rattle.page_store.specs.laws.Sealing.{ends_going}
use Rattle.powercut.specs.Living.{IsSoundOn}
use Rattle.posix_profile.specs.Runs.{is_stop}
use Rattle.posix_profile.specs.State.{Objects, State}
use Rattle.posix_profile.specs.declared.command.Stamped.{Stamped}
use Rattle.posix_profile.specs.declared.reply.Reply.{Reply}
use Rattle.posix_profile.specs.declared.reply.Reply.TheVariants as replies
use Rattle.powercut.specs.Limits.{StaysWithin}
use Rattle.volume_terms.specs.Sizes.{Sizes}
use Rattle.flash_program.specs.Sessions.{Serves, Session, Stream}
use Rattle.flash_program.specs.declared.fault.ProgramFault.{ProgramFault}

module _ {N : Type 0} (trusted : Ghosts (TrustedNand N)) where
  abbrev V : Type 0
  V = Volume N trusted

  -- the volume in it
  abbrev inside : V → PageVolume (FlashPages (TrustedNand N) trusted)
  inside v = over_pages v

  -- its pages
  abbrev pages_in : V → PagesState
  pages_in v = mounted_pages (pages_of (inside v))

  module _ (first : PagesState) (z : Sizes) where
    -- a volume after commands of a session that began with these pages: it is stopped for its reason, or stands for a state
    record Stays (v : V) : Type 0 where
      pub goes : GoesOn first (pages_in v)
      pub represents : ((is_stopped (inside v) ≡ true) × HasEndedAt (pages_in v)) ⊎ ((is_stopped (inside v) ≡ false) × ((s : State) × IsVolumeOf mounted_pages z s (inside v)))

    called : (old new : V) (command : Stamped) (reply : Reply) → Stays old → Serves old command reply new → Stays new
    called old new command reply at served =
        let one : IsCalled mounted_pages (inside old) command reply (inside new) = served in
        record {
          goes = goes_on first (pages_in old) (pages_in new) at.goes one.goes_on;
          represents = elim at.represents [
            | inl (stopped, ended) ↦
                let same = (one.stopped stopped).1 in
                inl (ap (λ (w : PageVolume (FlashPages (TrustedNand N) trusted)). is_stopped w) same ∙ stopped, subst (λ (w : PageVolume (FlashPages (TrustedNand N) trusted)). HasEndedAt (mounted_pages (pages_of w))) (sym same) ended)
            | inr (runs, here) ↦
                let replied = one.replied runs z here.0 here.1 in
                elim (cases_Bool (is_stop reply)) [
                  | inl stop ↦ inl (one.stops runs ∙ stop, ended_at (pages_in old) (pages_in new) (replied.cause stop))
                  | inr other ↦ inr (one.stops runs ∙ other, (_, replied.state_is other))
                ]
          ];
        }

    answered : (line : Line) (old new : Between V) (text : List ℕ) → Stays old.volume → Answers Serves line old text new → Stays new.volume
    answered lines.Nothing old new text at (none, same) = subst (λ (s : Between V). Stays s.volume) (sym same) at
    answered (lines.Now moment) old new text at (done, same) = subst (λ (s : Between V). Stays s.volume) (sym same) at
    answered (lines.Do command) old new text at (reply, is, served, moment) = called old.volume new.volume _ reply at served
    answered lines.Bad old new text at (bad, same) = subst (λ (s : Between V). Stays s.volume) (sym same) at

    run : (issued : List (List ℕ)) (old new : Between V) (text : List ℕ) → Stays old.volume → Run Serves issued old text new → Stays new.volume
    unfolding Run
    run [] old new text at (none, same) = subst (λ (s : Between V). Stays s.volume) (sym same) at
    run (line ∷ issued) old new text at (head, rest, middle, is, here, later) = run issued middle new rest (answered (line_of line) old middle head at here) later

    shell_ends : (input left before after : Option (List ℕ)) (old new : V) (ended : Result (Unit {0}) ShellFault) → Stays old → Shell Serves input left before after old new ended → Stays new
    shell_ends input left before after old new (Ok done) at shell = run _ _ _ _ at shell.reported.run
    shell_ends input left before after old new (Err faults.Read) at shell = run _ _ _ _ at shell.reported.run
    shell_ends input left before after old new (Err faults.TooLong) at shell = run _ _ _ _ at shell.reported.run
    shell_ends input left before after old new (Err faults.NoMemory) at shell = run _ _ _ _ at shell.reported.run
    shell_ends input left before after old new (Err faults.Write) at shell = answered _ _ _ _ (run _ _ _ _ at shell.reported.run) shell.reported.answer

    unmounts : (last : V) (device : Device) (reply : Reply) → Stays last → (u : IsUnmounted mounted_pages (inside last) device reply)
        → HasEndedAt u.pages ⊎ ((is_stopped (inside last) ≡ false) × (reply ≡ replies.Done))
    unmounts last device reply at u = elim at.represents [
      | inl (stopped, ended) ↦ inl (subst (λ (q : PagesState). HasEndedAt q) (sym (u.stopped stopped).1) ended)
      | inr (runs, here) ↦ elim (u.replies_are runs) [
        | inl done ↦ inr (runs, done)
        | inr stop ↦ inl (ended_at (pages_in last) u.pages (u.cause runs z here.0 here.1 stop))
      ]
    ]

  module _ (one : (g : Geometry) (flash : Flash) (a b : Answer) → IsAnswer g flash a → IsAnswer g flash b → a ≡ b) where
    module _ (d : Device) (p q : PagesState) (honest : d.honest ≡ true) (reads : OnlyReads d p.device) (next : AreNext p.device.flash p.next) (objects : Objects)
        (answers : IsAnswer p.device.geometry p.device.flash (IsTreeOf p.spare objects)) (goes : EndsOn p q)
        (spare : ℕ) (tree : Objects) (sound : IsSoundFlash d.geometry d.flash spare tree) (within : StaysWithin spare d q.device) (power : q.device.gone ≡ false) where
      same : p.device.flash ≡ d.flash
      same = same_flash d p.device reads honest

      sound_there : IsSoundFlash p.device.geometry p.device.flash spare tree
      sound_there = subst (λ (g : Geometry). IsSoundFlash g p.device.flash spare tree) (sym reads.lasts.geometry) (subst (λ (f : Flash). IsSoundFlash d.geometry f spare tree) (sym same) sound)

      found : IsTreeOf p.spare objects ≡ IsTreeOf spare tree
      found = one p.device.geometry p.device.flash (IsTreeOf p.spare objects) (IsTreeOf spare tree) answers (sound_there.volume, sound_there.shows, sound_there.room)

      spare_is : p.spare ≡ spare
      spare_is = let is = found in cc

      greatest : AreGreatest d.flash next.0
      greatest = subst (λ (f : Flash). AreGreatest f next.0) same next.1

      not_ended : HasEndedAt q → ⊥
      not_ended (inl (inl gone)) = true≢false (sym gone ∙ power)
      not_ended (inl (inr dishonest)) = true≢false (sym (goes.device.honest ∙ reads.lasts.honest ∙ honest) ∙ dishonest)
      not_ended (inr (inl group)) =
          let rose = goes.numbers.groups (reads.lasts.honest ∙ honest) power in
          let is : p.next.group ≡ next.0.group + 1 = ap (λ (x : NextNumbers). x.group) next.2 in
          let changes = reads.changes in
          let least = within.numbers.groups next.0 greatest in
          omega (arith, group, rose, is, changes, least)
      not_ended (inr (inr (inl seq))) =
          let rose = goes.numbers.seqs in
          let is : p.next.seq ≡ next.0.seq + 1 = ap (λ (x : NextNumbers). x.seq) next.2 in
          let changes = reads.changes in
          let least = within.numbers.seqs next.0 greatest in
          omega (arith, seq, rose, is, changes, least)
      not_ended (inr (inr (inr many))) = let within_limit = within.few_bad in let committed = goes.spare in let is = spare_is in omega (arith, many, within_limit, committed, is)

    pub only_a_cut_stops : (before after : Device) (input output : Stream) (result : Result (Unit {0}) ProgramFault)
        → (session : Session trusted before input output after result)
        → (spare : ℕ) (tree : Objects) → before.honest ≡ true → IsSoundOn spare tree before → StaysWithin spare before after
        → after.gone ≡ false → (is_stopped (inside session.last) ≡ false) × (session.reply ≡ replies.Done)
    only_a_cut_stops before after input output result session spare tree honest sound within power =
        let p = pages_in session.first in
        let reads = read_since before session.mounted.now p.device session.mounted.since (honest, sound.truth) in
        let here = reads.lasts.honest ∙ honest in
        let reported = session.mounted.tree here in
        let z = volume_of p in
        let u = session.unmounted in
        let at_first : Stays p z session.first = record { goes = goes_here p; represents = inr (session.mounted.goes_on, (at_mount reported.0, reported.1.volume)) } in
        let at_last = shell_ends p z input.before input.after output.before output.after session.first session.last session.shell at_first session.answered in
        let ends = ends_after p (pages_in session.last) u.pages (ends_going p (pages_in session.last) at_last.goes) u.ends_on in
        let same = left_as_seen u.pages after u.device_is (ends.device.honest ∙ here) in
        elim (unmounts p z session.last after session.reply at_last u) [
          | inl ended ↦
              absurd (not_ended before p u.pages honest reads (session.mounted.next here) reported.0 reported.1.answers ends
              spare tree sound.sound (subst (λ (d : Device). StaysWithin spare before d) (sym same) within) (ap (λ (d : Device). d.gone) same ∙ power) ended)
          | inr done ↦ done
        ]
