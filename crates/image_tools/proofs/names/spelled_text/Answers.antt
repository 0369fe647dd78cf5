use Rattle.std.proofs.Common.{◌≡◌, ◌∙◌, All, List, ℕ, sym, subst, ap, refl}
use Rattle.std.proofs.lemmas.Result.{IfOk-weaker}
use Rattle.std.proofs.lemmas.Str.{IsUtf8-from_ascii}
use Rattle.std.specs.Str.{IsUtf8}
use Rattle.image_tools.specs.HostNames.{IsSafe, unescaped}
use Rattle.image_tools.proofs.names.spelled_text.Goals as goal

pub returns-clause-safe : goal.returns-clause-safe
returns-clause-safe c =
    let bytes = c.in_ok-bytes-in-Err.bytes.items in
    let value : c.deref-in-Err.result.now ≡ bytes = c.deref-in-Err.ensures.value in
    let utf8 : IsUtf8 c.deref-in-Err.result.now = subst IsUtf8 (sym value) (IsUtf8-from_ascii bytes (c.in_ok-bytes-in-Err.ensures.ascii refl)) in
    IfOk-weaker c.from_utf8_lossy.result _ _ (λ t same. subst (All IsSafe) (sym (same utf8 ∙ value)) c.in_ok-bytes-in-Err.ensures.safe) c.from_utf8_lossy.ensures.ok

pub returns-clause-reads_back : goal.returns-clause-reads_back
returns-clause-reads_back c =
    let bytes = c.in_ok-bytes-in-Err.bytes.items in
    let value : c.deref-in-Err.result.now ≡ bytes = c.deref-in-Err.ensures.value in
    let utf8 : IsUtf8 c.deref-in-Err.result.now = subst IsUtf8 (sym value) (IsUtf8-from_ascii bytes (c.in_ok-bytes-in-Err.ensures.ascii refl)) in
    IfOk-weaker c.from_utf8_lossy.result _ _ (λ t same. ap (λ (k : List ℕ). unescaped k) (same utf8 ∙ value) ∙ c.in_ok-bytes-in-Err.ensures.reads_back) c.from_utf8_lossy.ensures.ok
