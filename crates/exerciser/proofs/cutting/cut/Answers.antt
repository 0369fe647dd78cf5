use Rattle.std.proofs.Common.{◌≡◌, ℕ, ◌<◌, ◌+◌, length, refl, sym, ap, ◌∙◌, subst, inl, inr, arith, Ok, Err}
use Rattle.std.proofs.lemmas.Result.{err_from_is_err_and}
use Rattle.std.specs.Global.{Vec}
use Rattle.nand_model.specs.Calls.{Device}
use Rattle.nand_model.specs.MemoryState.{device}
use Rattle.nand_model.specs.declared.geometry.Geometry.{Geometry}
use Rattle.nand_model.specs.declared.memory.MemNand.{MemNand}
use Rattle.exerciser.specs.Words.{answers}
use Rattle.posix_profile.specs.declared.command.Stamped.{Stamped}
use Rattle.powercut.specs.declared.session.Session.{Session}
use Rattle.exerciser.specs.Causes.{IsTreeOn, MountsAs}
use Rattle.exerciser.specs.Cutting.{Exercise, IsAsked}
use Rattle.exerciser.specs.Lines.{IsStated, session_line}
use Rattle.exerciser.specs.Seen.{finding_of, IsSeen}
use Rattle.exerciser.specs.declared.seen.Seen.{Seen}
use Rattle.exerciser.proofs.Seeds.{first_words, more_words, cut_session}
use Rattle.exerciser.proofs.Causes.{not_done, not_begun, not_written, not_committed}
use Rattle.exerciser.proofs.Sessions.{SoFar, some_tree, not_done_stops, not_begun_stops, starts, goes_further, stops_reporting, stops_torn, stops_silently, reported_as, ends}
use Rattle.exerciser.proofs.cutting.cut.Goals as goal

-- what is looked up
abbrev issued : MemNand → (seed : ℕ) → Vec Stamped → (sessions : ℕ) → Exercise
issued nand seed script sessions = record { first = device nand; seed = seed; commands = script.items; sessions = sessions }

pub loop-before-init : goal.loop-before-init
loop-before-init g c = record {
  commands = refl;
  failures = c.new.ensures.items;
  unmounts = refl;
  words = first_words c.args.seed (device c.args.nand).geometry.pages c.seed_from_u64-generator.result c.seed_from_u64-generator.ensures;
  reported = starts (issued c.args.nand c.args.seed c.args.script c.args.sessions) (device c.in_ok-known_device.known_device.device) c.in_ok-known_device.known_device.tree (g.W.Write.contents c.args.writer.now) c.in_ok-known_device.ensures.device;
  on = subst (λ (d : Device). IsTreeOn d c.in_ok-known_device.known_device.tree) (sym c.in_ok-known_device.ensures.device) c.in_ok-known_device.ensures.tree;
}

pub returns-in_err-known_device-clause-reports : goal.returns-in_err-known_device-clause-reports
returns-in_err-known_device-clause-reports g c =
    let p = err_from_is_err_and c.from_residual.result c.from_residual.ensures.1 in
    let x = issued c.args.nand c.args.seed c.args.script c.args.sessions in
    rw (p.1, p.2) (stops_silently x 0 (device c.args.nand) some_tree (g.W.Write.contents c.args.writer.now) (g.W.Write.contents c.args.writer.now) c.in_err-known_device.field-0.0 (inr refl)
    (starts x (device c.args.nand) some_tree (g.W.Write.contents c.args.writer.now) refl) (not_begun_stops x (device c.args.nand) c.in_err-known_device.field-0.0 c.in_err-known_device.ensures.fault))

pub returns-in_err-done-clause-reports : goal.returns-in_err-done-clause-reports
returns-in_err-done-clause-reports g c =
    let p = err_from_is_err_and c.from_residual-in_err-done.result c.from_residual-in_err-done.ensures.1 in
    let within_limit : c.loop-before.before < c.args.sessions = omega (arith, c.from-before-end.ensures) in
    let x = issued c.args.nand c.args.seed c.args.script c.args.sessions in
    let was = c.loop-before.invariant in
    let here = device c.loop-before.known_device.device in
    let of : IsAsked x c.loop-before.session = record { commands_are = ap (λ (v : Vec Stamped). v.items) was.commands; failures_are = was.failures; unmounts = was.unmounts } in
    rw (p.1, p.2) (stops_silently x c.loop-before.before here c.loop-before.known_device.tree _ _ c.in_err-done.field-0.0 (inl within_limit) was.reported
    (not_done_stops x c.loop-before.before here c.loop-before.session c.in_err-done.field-0.0 of c.in_err-done.ensures.fault))

pub returns-in_err-tell-clause-reports : goal.returns-in_err-tell-clause-reports
returns-in_err-tell-clause-reports g c =
    let p = err_from_is_err_and c.from_residual-in_err-tell.result c.from_residual-in_err-tell.ensures.1 in
    let within_limit : c.loop-before.before < c.args.sessions = omega (arith, c.from-before-end.ensures) in
    let count : c.len-commands.result ≡ length c.args.script.items = omega (arith, c.len-commands.ensures, c.args.script.ok.0) in
    let x = issued c.args.nand c.args.seed c.args.script c.args.sessions in
    let was = c.loop-before.invariant in
    let one = c.in_ok-done.ensures in
    let pages = c.pages-pages.ensures ∙ ap (λ (g : Geometry). g.pages) c.geometry.ensures in
    let done =
    cut_session x c.loop-before.before c.pages-pages.result (answers c.loop-before.generator) c.loop-before.session c.exercise.new.session (device c.loop-before.known_device.device) (device c.in_ok-done.done.device) pages was.words
    one.same (ap (λ (v : Vec Stamped). v.items) was.commands) was.failures was.unmounts c.in_ok-done.done.end c.in_ok-done.done.operation one.fuse one.random one.ended one.truth in
    let is_seen = subst (λ (v : Vec Stamped). IsSeen c.loop-before.known_device.tree v.items c.in_ok-done.done.end.replies.items c.in_ok-done.done.seen) was.commands one.seen in
    let mounts = subst (λ (v : Vec Stamped). MountsAs (device c.in_ok-done.done.device) c.loop-before.known_device.tree v.items c.in_ok-done.done.end.replies.items c.in_ok-done.done.seen) was.commands one.mounts in
    let reported = reported_as (g.W.Write.contents c.loop-before.writer) (g.W.Write.contents c.tell.new.writer) (c.loop-before.before + 1) c.in_ok-done.done.operation c.finding-finding.result (finding_of c.in_ok-done.done.seen)
    c.len-commands.result (length c.args.script.items) (Err c.in_err-tell.field-0.0) c.finding-finding.ensures count c.in_err-tell.ensures in
    rw (p.1, p.2) (stops_reporting x c.loop-before.before (device c.loop-before.known_device.device) (device c.in_ok-done.done.device) c.loop-before.known_device.tree _ _ (g.W.Write.contents c.tell.new.writer) was.reported done was.on
    c.in_ok-done.done.seen within_limit is_seen mounts c.in_err-tell.field-0.0 reported)

pub returns-in_err-known_device-2-clause-reports : goal.returns-in_err-known_device-2-clause-reports
returns-in_err-known_device-2-clause-reports g c =
    let p = err_from_is_err_and c.from_residual-in_err-known_device-2.result c.from_residual-in_err-known_device-2.ensures.1 in
    let within_limit : c.loop-before.before < c.args.sessions = omega (arith, c.from-before-end.ensures) in
    let count : c.len-commands.result ≡ length c.args.script.items = omega (arith, c.len-commands.ensures, c.args.script.ok.0) in
    let x = issued c.args.nand c.args.seed c.args.script c.args.sessions in
    let was = c.loop-before.invariant in
    let one = c.in_ok-done.ensures in
    let pages = c.pages-pages.ensures ∙ ap (λ (g : Geometry). g.pages) c.geometry.ensures in
    let done =
    cut_session x c.loop-before.before c.pages-pages.result (answers c.loop-before.generator) c.loop-before.session c.exercise.new.session (device c.loop-before.known_device.device) (device c.in_ok-done.done.device) pages was.words
    one.same (ap (λ (v : Vec Stamped). v.items) was.commands) was.failures was.unmounts c.in_ok-done.done.end c.in_ok-done.done.operation one.fuse one.random one.ended one.truth in
    let is_seen = subst (λ (v : Vec Stamped). IsSeen c.loop-before.known_device.tree v.items c.in_ok-done.done.end.replies.items c.in_ok-done.done.seen) was.commands one.seen in
    let mounts = subst (λ (v : Vec Stamped). MountsAs (device c.in_ok-done.done.device) c.loop-before.known_device.tree v.items c.in_ok-done.done.end.replies.items c.in_ok-done.done.seen) was.commands one.mounts in
    let reported = reported_as (g.W.Write.contents c.loop-before.writer) (g.W.Write.contents c.tell.new.writer) (c.loop-before.before + 1) c.in_ok-done.done.operation c.finding-finding.result (finding_of c.in_ok-done.done.seen)
    c.len-commands.result (length c.args.script.items) (Ok tt) c.finding-finding.ensures count c.in_ok-tell.ensures in
    rw (p.1, p.2) (stops_torn x c.loop-before.before (device c.loop-before.known_device.device) (device c.in_ok-done.done.device) c.loop-before.known_device.tree _ _ (g.W.Write.contents c.tell.new.writer) was.reported done was.on
    c.in_ok-done.done.seen within_limit is_seen mounts c.in_err-known_device-2.field-0.0 reported c.in_err-known_device-2.ensures.torn.0 c.in_err-known_device-2.ensures.torn.1)

pub loop-before-preserved : goal.loop-before-preserved
loop-before-preserved g c =
    let within_limit : c.loop-before.before < c.args.sessions = omega (arith, c.from-before-end.ensures) in
    let count : c.len-commands.result ≡ length c.args.script.items = omega (arith, c.len-commands.ensures, c.args.script.ok.0) in
    let x = issued c.args.nand c.args.seed c.args.script c.args.sessions in
    let was = c.loop-before.invariant in
    let one = c.in_ok-done.ensures in
    let pages = c.pages-pages.ensures ∙ ap (λ (g : Geometry). g.pages) c.geometry.ensures in
    let done =
    cut_session x c.loop-before.before c.pages-pages.result (answers c.loop-before.generator) c.loop-before.session c.exercise.new.session (device c.loop-before.known_device.device) (device c.in_ok-done.done.device) pages was.words
    one.same (ap (λ (v : Vec Stamped). v.items) was.commands) was.failures was.unmounts c.in_ok-done.done.end c.in_ok-done.done.operation one.fuse one.random one.ended one.truth in
    let is_seen = subst (λ (v : Vec Stamped). IsSeen c.loop-before.known_device.tree v.items c.in_ok-done.done.end.replies.items c.in_ok-done.done.seen) was.commands one.seen in
    let mounts = subst (λ (v : Vec Stamped). MountsAs (device c.in_ok-done.done.device) c.loop-before.known_device.tree v.items c.in_ok-done.done.end.replies.items c.in_ok-done.done.seen) was.commands one.mounts in
    let reported = reported_as (g.W.Write.contents c.loop-before.writer) (g.W.Write.contents c.tell.new.writer) (c.loop-before.before + 1) c.in_ok-done.done.operation c.finding-finding.result (finding_of c.in_ok-done.done.seen)
    c.len-commands.result (length c.args.script.items) (Ok tt) c.finding-finding.ensures count c.in_ok-tell.ensures in
    let next = c.in_ok-known_device-2.known_device in
    let committed = c.in_ok-known_device-2.ensures.committed in
    let further =
    goes_further x c.loop-before.before (device c.loop-before.known_device.device) (device c.in_ok-done.done.device) c.loop-before.known_device.tree _ _ (g.W.Write.contents c.tell.new.writer) was.reported done was.on committed.0 next.tree
    (subst (λ (s : Seen). IsSeen c.loop-before.known_device.tree c.args.script.items c.in_ok-done.done.end.replies.items s) committed.1 is_seen)
    (subst (λ (s : Seen). MountsAs (device c.in_ok-done.done.device) c.loop-before.known_device.tree c.args.script.items c.in_ok-done.done.end.replies.items s) committed.1 mounts)
    (subst (λ (s : Seen). IsStated (g.W.Write.contents c.loop-before.writer) (g.W.Write.contents c.tell.new.writer) (session_line (c.loop-before.before + 1) c.in_ok-done.done.operation (finding_of s) (length c.args.script.items)) (Ok tt)) committed.1 reported) in
    record {
      commands = ap (λ (s : Session). s.commands) one.same ∙ was.commands;
      failures = ap (λ (s : Session). s.failures.items) one.same ∙ was.failures;
      unmounts = ap (λ (s : Session). s.unmount) one.same ∙ was.unmounts;
      words = more_words c.args.seed (device c.args.nand).geometry.pages c.pages-pages.result c.loop-before.before (answers c.loop-before.generator) (answers c.exercise.new.generator) pages was.words one.left;
      on = subst (λ (d : Device). IsTreeOn d next.tree) (sym (ap device c.in_ok-known_device-2.ensures.device)) (subst (λ (s : Seen). MountsAs (device c.in_ok-done.done.device) c.loop-before.known_device.tree c.args.script.items c.in_ok-done.done.end.replies.items s) committed.1 mounts);
      reported = subst (λ (d : Device). SoFar x (c.loop-before.before + 1) d next.tree (g.W.Write.contents c.args.writer.now) (g.W.Write.contents c.tell.new.writer)) (sym (ap device c.in_ok-known_device-2.ensures.device)) further;
    }

pub returns-clause-reports : goal.returns-clause-reports
returns-clause-reports g c =
    let all : c.loop-before.before ≡ c.args.sessions = omega (arith, c.from-before-end.ensures) in
    ends (issued c.args.nand c.args.seed c.args.script c.args.sessions) c.loop-before.before (device c.loop-before.known_device.device) c.loop-before.known_device.tree _ _ all c.loop-before.invariant.reported

pub returns-in_err-known_device-clause-fault : goal.returns-in_err-known_device-clause-fault
returns-in_err-known_device-clause-fault g c =
    let p = err_from_is_err_and c.from_residual.result c.from_residual.ensures.1 in
    rw (p.1, p.2) (not_begun (device c.args.nand) c.in_err-known_device.field-0.0 c.in_err-known_device.ensures.fault)

pub returns-in_err-done-clause-fault : goal.returns-in_err-done-clause-fault
returns-in_err-done-clause-fault g c =
    let p = err_from_is_err_and c.from_residual-in_err-done.result c.from_residual-in_err-done.ensures.1 in
    rw (p.1, p.2) (not_done (device c.args.nand) (device c.loop-before.known_device.device) c.loop-before.session c.in_err-done.field-0.0 c.in_err-done.ensures.fault)

pub returns-in_err-tell-clause-fault : goal.returns-in_err-tell-clause-fault
returns-in_err-tell-clause-fault g c =
    let p = err_from_is_err_and c.from_residual-in_err-tell.result c.from_residual-in_err-tell.ensures.1 in
    rw (p.1, p.2) (not_written (device c.args.nand) (g.W.Write.contents c.loop-before.writer) (g.W.Write.contents c.tell.new.writer)
    (session_line (c.loop-before.before + 1) c.in_ok-done.done.operation c.finding-finding.result c.len-commands.result) c.in_err-tell.field-0.0 c.in_err-tell.ensures)

pub returns-in_err-known_device-2-clause-fault : goal.returns-in_err-known_device-2-clause-fault
returns-in_err-known_device-2-clause-fault g c =
    let p = err_from_is_err_and c.from_residual-in_err-known_device-2.result c.from_residual-in_err-known_device-2.ensures.1 in
    rw (p.1, p.2) (not_committed (device c.args.nand) c.in_err-known_device-2.field-0.0 c.in_err-known_device-2.ensures.torn.1)
