use Rattle.std.specs.Prelude.{◌≡◌, ◌/◌, List, Some, None, slice_get, option_and_then}
use Rattle.std.proofs.Common.{◌∙◌, sym, ap}
use Rattle.nand_model.specs.declared.geometry.Geometry.{Geometry}
use Rattle.flash_tree.specs.declared.place.FreshPage.{FreshPage}
use Rattle.page_store.specs.laws.Buffering.{buffers_empty}
use Rattle.page_store.specs.Slots.{page_in}
use Rattle.page_store.specs.declared.store.Found.TheVariants as places
use Rattle.page_store.proofs.store.Store.new.Goals as goal

pub invariant_of-result : goal.invariant_of-result
invariant_of-result g c =
    let made = c.in-Ok.field-0 in
    let e = c.in-Ok.ensures in
    let sizes = c.geometry.ensures in
    record {
      buffers = buffers_empty c.args.log.index _ c.requires.none e.empty;
      objects = λ _ i p is. absurd (let two : None ≡ Some p = ap (λ (xs : List FreshPage). slice_get xs i) (sym e.empty) ∙ is in cc);
      most = e.buffer.0 ∙ ap (λ (k : Geometry). k.pages / 4) sizes;
      size = e.page ∙ ap (λ (k : Geometry). k.bytes) sizes;
      buffer_size = e.buffer.1 ∙ ap (λ (k : Geometry). k.bytes) sizes;
      cache_size = e.cache.0 ∙ ap (λ (k : Geometry). k.bytes) sizes;
      place = λ i is. absurd (let two : places.Nowhere ≡ places.Buffered i = is in cc);
      within_limit = λ _. c.requires.within_limit;
      free = λ _. c.requires.free;
      newest = λ _ honest. c.requires.committed honest;
      shown = λ _ _ o k xs is. absurd (let two : None ≡ Some xs = sym (ap (option_and_then page_in) (e.cache.1 o k)) ∙ is in cc);
    }
