use Rattle.std.proofs.Common.{◌≡◌, ◌≢◌, ◌∙◌, List, [], ◌∷◌, ℕ, sym, ap}
use Rattle.std.proofs.lemmas.Result.{IfOk-weaker}
use Rattle.image_tools.specs.HostNames.{unescaped}
use Rattle.image_tools.proofs.Going.{ok_with}
use Rattle.image_tools.proofs.Escapes.{is_host, empty_text, some_text, same_text, other_text, reads_special}
use Rattle.image_tools.proofs.names.host_name.Goals as goal

pub returns-then-is_empty-clause-reads_back : goal.returns-then-is_empty-clause-reads_back
returns-then-is_empty-clause-reads_back c =
    let name : c.args.name.now ≡ [] = empty_text c.is_empty.result c.args.name.now c.is_empty.ensures c.if-is_empty.true in
    IfOk-weaker c.from_str.result _ _ (λ t same. ap (λ (k : List ℕ). unescaped k) same ∙ reads_special.0 ∙ sym name) c.from_str.ensures.ok

pub returns-then-eq-clause-reads_back : goal.returns-then-eq-clause-reads_back
returns-then-eq-clause-reads_back c =
    let name : c.args.name.now ≡ 46 ∷ [] = same_text c.eq.result c.args.name.now c.as_slice.result.now c.eq.ensures c.if-eq.true ∙ c.as_slice.ensures in
    IfOk-weaker c.from_str-then-eq.result _ _ (λ t same. ap (λ (k : List ℕ). unescaped k) same ∙ reads_special.1 ∙ sym name) c.from_str-then-eq.ensures.ok

pub returns-then-eq-2-clause-reads_back : goal.returns-then-eq-2-clause-reads_back
returns-then-eq-2-clause-reads_back c =
    let name : c.args.name.now ≡ 46 ∷ 46 ∷ [] = same_text c.eq-else-eq.result c.args.name.now c.as_slice-else-eq.result.now c.eq-else-eq.ensures c.if-eq-2.true ∙ c.as_slice-else-eq.ensures in
    IfOk-weaker c.from_str-then-eq-2.result _ _ (λ t same. ap (λ (k : List ℕ). unescaped k) same ∙ reads_special.2 ∙ sym name) c.from_str-then-eq-2.ensures.ok

pub returns-else-eq-2-clause-host : goal.returns-else-eq-2-clause-host
returns-else-eq-2-clause-host c =
    let some : c.args.name.now ≢ [] = some_text c.is_empty.result c.args.name.now c.is_empty.ensures c.if-is_empty.false in
    let dot : c.args.name.now ≢ 46 ∷ [] = λ e. other_text c.eq.result c.args.name.now c.as_slice.result.now c.eq.ensures c.if-eq.false (e ∙ sym c.as_slice.ensures) in
    let dots : c.args.name.now ≢ 46 ∷ 46 ∷ [] = λ e. other_text c.eq-else-eq.result c.args.name.now c.as_slice-else-eq.result.now c.eq-else-eq.ensures c.if-eq-2.false (e ∙ sym c.as_slice-else-eq.ensures) in
    ok_with c.spelled_text.result _ _ _ (λ host safe reads. is_host _ c.args.name.now safe reads some dot dots) c.spelled_text.ensures.safe c.spelled_text.ensures.reads_back
