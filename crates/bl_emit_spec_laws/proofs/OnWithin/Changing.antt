-- Changes by which counters come to hold values of their own leave all counters within their greatest values.
use Rattle.std.proofs.Common.{◌≡◌, ℕ, ◌≤◌, Bool, true, false, List, [], ◌∷◌, nat_eq, refl, sym, subst, arith, eqb-true, if◌then◌else◌}
use Rattle.std.specs.Prelude.{⊤}
use Rattle.bl_graph_nodes.specs.Nodes.{Node}
use Rattle.bl_machine.specs.declared.slots.Slot.{Slot}
use Rattle.bl_machine_pass.specs.Registers.{Registers, all_changed, changed, with_at, with_flag}
use Rattle.bl_machine_pass.specs.Transitions.{Change}
use Rattle.bl_machine_pass.specs.Transitions.{ClearsBoth, ClearsCounter, EndsWhen, Finishes, SetsCounter, SetsFlag, SetsMark}
use Rattle.bl_emit_spec.specs.Blocks.{Sizes, greatest_value}
use Rattle.bl_emit_spec_laws.specs.Registers.Laws.{RegistersWithin}
use Rattle.bl_emit_spec_laws.proofs.OnOwn.Members.{Every}

-- the number is no greater than the greatest value of its counter
abbrev pub SlotWithin : Sizes → Slot → Type 0
SlotWithin sizes slot = slot.value ≤ greatest_value sizes slot.counter

-- so is the one at which the instance comes to rest by the change
abbrev pub ChangeWithin : Sizes → Change → Type 0
ChangeWithin sizes (SetsFlag n) = ⊤
ChangeWithin sizes (SetsCounter slot) = SlotWithin sizes slot
ChangeWithin sizes (ClearsCounter k) = ⊤
ChangeWithin sizes (ClearsBoth k) = ⊤
ChangeWithin sizes (SetsMark n) = ⊤
ChangeWithin sizes (EndsWhen start surface depth) = ⊤
ChangeWithin sizes Finishes = ⊤

pub none_within : (sizes : Sizes) (k : ℕ) → 0 ≤ greatest_value sizes k
none_within sizes k = omega arith

-- another value of one counter
pub with_within : (sizes : Sizes) (k v : ℕ) (f : ℕ → ℕ) → v ≤ greatest_value sizes k → ((j : ℕ) → f j ≤ greatest_value sizes j) →
    (j : ℕ) → with_at k v f j ≤ greatest_value sizes j
with_within sizes k v f less all j = by (nat_eq j k) refl
  where
    by : (b : Bool) → nat_eq j k ≡ b → (if b then v else f j) ≤ greatest_value sizes j
    by true is = subst (λ (i : ℕ). v ≤ greatest_value sizes i) (sym (eqb-true j k is)) less
    by false is = all j

pub changed_within : (sizes : Sizes) (number : Node → ℕ) (change : Change) (r : Registers) → ChangeWithin sizes change → RegistersWithin sizes r →
    RegistersWithin sizes (changed number change r)
changed_within sizes number (SetsFlag n) r fits within = record { counters = within.counters; rested = within.rested }
changed_within sizes number (SetsCounter slot) r fits within = record {
  counters = with_within sizes slot.counter slot.value r.counters fits within.counters;
  rested = within.rested;
}
changed_within sizes number (ClearsCounter k) r fits within = record {
  counters = with_within sizes k 0 r.counters (none_within sizes k) within.counters;
  rested = within.rested;
}
changed_within sizes number (ClearsBoth k) r fits within = record {
  counters = with_within sizes k 0 r.counters (none_within sizes k) within.counters;
  rested = with_within sizes k 0 r.rested (none_within sizes k) within.rested;
}
changed_within sizes number (SetsMark n) r fits within = record { counters = within.counters; rested = within.rested }
changed_within sizes number (EndsWhen start surface depth) r fits within = by (r.marks (number start))
  where
    by : (b : Bool) → RegistersWithin sizes (if b then with_flag (number surface) r else with_flag (number depth) r)
    by true = record { counters = within.counters; rested = within.rested }
    by false = record { counters = within.counters; rested = within.rested }
changed_within sizes number Finishes r fits within = record { counters = within.counters; rested = within.rested }

pub changes_within : (sizes : Sizes) (number : Node → ℕ) (changes : List Change) (r : Registers) → Every (ChangeWithin sizes) changes →
    RegistersWithin sizes r → RegistersWithin sizes (all_changed number changes r)
changes_within sizes number [] r fits within = within
changes_within sizes number (change ∷ rest) r fits within =
    changes_within sizes number rest (changed number change r) fits.1 (changed_within sizes number change r fits.0 within)
