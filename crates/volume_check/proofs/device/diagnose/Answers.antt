use Rattle.std.proofs.Common.{◌≡◌, true, IfOk, IfSome, refl, sym, ◌∙◌, ap, subst}
use Rattle.nand_model.specs.Calls.{Device}
use Rattle.nand_model.specs.Changes.{OnlyReads}
use Rattle.nand_model.specs.laws.Changes.{only_reads_on}
use Rattle.nand_model.specs.declared.geometry.Geometry.{Geometry}
use Rattle.flash_tree.specs.Places.{numbers_of}
use Rattle.flash_tree.specs.laws.Place.{same_flash}
use Rattle.page_store.specs.Shown.{committed_data}
use Rattle.pages.specs.Maps.{PageMap, has, known_pages}
use Rattle.mounting.specs.NewestMaps.{IsNewestMap}
use Rattle.volume_check.specs.Found.{IsFoundFirst, LiesWhereLow, broken_in}
use Rattle.volume_check.specs.Verdicts.{ReportsVerdict, verdict_of}
use Rattle.volume_check.specs.declared.finding.Diagnosis.{Diagnosis}
use Rattle.volume_check.specs.declared.verdict.Verdict.{Verdict}
use Rattle.volume_check.proofs.OnFlash.{MapsBreak, diagnosis_finds}
use Rattle.volume_check.proofs.Saying.{MapsAnswer, says, newest_map, verdict_says}
use Rattle.volume_check.proofs.device.diagnose.Goals as goal

pub returns-in-Ok-found-clause-verdict : goal.returns-in-Ok-found-clause-verdict
returns-in-Ok-found-clause-verdict g c = λ honest.
    let law = c.a_map_of_the_newest_pages_answers.ensures in
    let law_whole = c.a_whole_list_shows_a_tree.ensures in
    let laws : MapsAnswer = record { no_volume = law.no_volume; root = law.root; tree = law.tree; volume = law_whole.volume; whole = law_whole.tree } in
    let a : Device = g.N.Nand.state c.args.device in
    let b : Device = g.N.Nand.state c.open.new.device in
    let d : Device = g.N.Nand.state c.in-Ok-new.pages.device in
    let opened = c.in-Ok.opened in
    let verdict : Verdict = verdict_of (broken_in c.in-Ok-found.finding) in
    let m : PageMap = committed_data c.in-Ok-new.pages.index d.flash in
    let same : d ≡ b = ap g.N.Nand.state c.in-Ok-new.ensures.device in
    let reads : OnlyReads a b = c.in-Ok.ensures.reads in
    let honest_b : b.honest ≡ true = reads.lasts.honest ∙ honest in
    let honest_d : d.honest ≡ true = ap (λ (x : Device). x.honest) same ∙ honest_b in
    let geometry : c.geometry-geometry.result ≡ a.geometry = c.geometry-geometry.ensures ∙ reads.lasts.geometry in
    let newest : IsNewestMap a.flash m = newest_map a b d opened.index c.in-Ok-new.pages.index reads honest same c.in-Ok-new.ensures.index
    (c.the_opened_pages_are_the_newest.ensures.pages b _ opened.index (numbers_of opened.numbers) c.in-Ok.ensures.opened honest_b) in
    let reported = c.in-Ok-found.ensures.verdict (record { sound = honest_d; size = ap (λ (x : Geometry). x.bytes) (c.geometry-geometry.ensures ∙ sym (ap (λ (x : Device). x.geometry) same)) }) in
    let on : ReportsVerdict a.geometry (has (known_pages d.honest m)) verdict = subst (λ (x : Geometry). ReportsVerdict x (has (known_pages d.honest m)) verdict) geometry reported in
    let known : ReportsVerdict a.geometry (has m) verdict = subst (λ h. ReportsVerdict a.geometry (has (known_pages h m)) verdict) honest_d on in
    verdict_says a.geometry a.flash verdict (says laws a.geometry a.flash m newest verdict (g.met.N.Nand.within c.args.device) (g.met.N.Nand.sized c.args.device honest) known)
    c.diagnosis-diagnosis.result c.diagnosis-diagnosis.ensures.verdict

pub returns-in-Ok-found-clause-found : goal.returns-in-Ok-found-clause-found
returns-in-Ok-found-clause-found g c = λ honest.
    let law = c.a_map_of_the_newest_pages_answers.ensures in
    let laws : MapsBreak = record { breaks = law.breaks; low = law.low; first = law.first; volume = c.a_whole_list_shows_a_tree.ensures.volume } in
    let a : Device = g.N.Nand.state c.args.device in
    let b : Device = g.N.Nand.state c.open.new.device in
    let d : Device = g.N.Nand.state c.in-Ok-new.pages.device in
    let e : Device = g.N.Nand.state c.into_parts-device.result.0 in
    let opened = c.in-Ok.opened in
    let found = c.in-Ok-found.finding in
    let m : PageMap = committed_data c.in-Ok-new.pages.index d.flash in
    let same : d ≡ b = ap g.N.Nand.state c.in-Ok-new.ensures.device in
    let reads : OnlyReads a b = c.in-Ok.ensures.reads in
    let honest_b : b.honest ≡ true = reads.lasts.honest ∙ honest in
    let honest_d : d.honest ≡ true = ap (λ (x : Device). x.honest) same ∙ honest_b in
    let geometry : c.geometry-geometry.result ≡ a.geometry = c.geometry-geometry.ensures ∙ reads.lasts.geometry in
    let newest : IsNewestMap a.flash m = newest_map a b d opened.index c.in-Ok-new.pages.index reads honest same c.in-Ok-new.ensures.index
    (c.the_opened_pages_are_the_newest.ensures.pages b _ opened.index (numbers_of opened.numbers) c.in-Ok.ensures.opened honest_b) in
    let reported = c.in-Ok-found.ensures.first (record { sound = honest_d; size = ap (λ (x : Geometry). x.bytes) (c.geometry-geometry.ensures ∙ sym (ap (λ (x : Device). x.geometry) same)) }) in
    let on : IfSome (broken_in found) (IsFoundFirst a.geometry (has (known_pages d.honest m))) =
    subst (λ (x : Geometry). IfSome (broken_in found) (IsFoundFirst x (has (known_pages d.honest m)))) geometry reported in
    let known : IfSome (broken_in found) (IsFoundFirst a.geometry (has m)) =
    subst (λ h. IfSome (broken_in found) (IsFoundFirst a.geometry (has (known_pages h m)))) honest_d on in
    let looked : OnlyReads b (g.N.Nand.state c.find-found.new.pages.device) = subst (λ x. OnlyReads x (g.N.Nand.state c.find-found.new.pages.device)) same c.in-Ok-found.ensures.lookups.device in
    let back : g.N.Nand.state c.find-found.new.pages.device ≡ e = ap g.N.Nand.state (sym c.into_parts-device.ensures.device) in
    let before : OnlyReads a e = only_reads_on a b e reads (subst (OnlyReads b) back looked) in
    let place : IfOk c.diagnosis-diagnosis.result (λ (x : Diagnosis). IfSome (broken_in found) (LiesWhereLow a.flash x.place)) =
    subst (λ f. IfOk c.diagnosis-diagnosis.result (λ (x : Diagnosis). IfSome (broken_in found) (LiesWhereLow f x.place))) (same_flash a e before honest)
    (c.diagnosis-diagnosis.ensures.place (before.lasts.honest ∙ honest)) in
    diagnosis_finds laws a.geometry a.flash m newest found known c.diagnosis-diagnosis.result c.diagnosis-diagnosis.ensures.verdict c.diagnosis-diagnosis.ensures.finding place
