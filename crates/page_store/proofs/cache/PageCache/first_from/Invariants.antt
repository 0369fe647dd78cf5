use Rattle.std.proofs.Common.{◌≡◌, ◌≤◌, ℕ, Contains}
use Rattle.std.specs.Map.{lookup}
use Rattle.page_store.specs.Slots.{is_key}
use Rattle.page_store.specs.declared.slot.Slot.{Slot}
use Rattle.page_store.proofs.cache.PageCache.first_from.Given as goal

abbrev pub invariant-loop-at : goal.invariant-loop-at
invariant-loop-at l = record {
  rest : (q : ℕ) → l.chunk ≤ q → lookup (is_key l.object q) l.self.slots.entries ≡ lookup (is_key l.object q) l.at-iterator;
  among : (e : (ℕ × ℕ) × Slot) → Contains l.at-iterator e → Contains l.self.slots.entries e;
}
