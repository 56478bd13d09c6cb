-- A number that no unit has less of than what it calls and runs: what is needed has no more than the entry.
use Rattle.std.proofs.Common.{◌≡◌, ◌⊎◌, inl, inr, ℕ, zero, suc, ◌+◌, ◌≤◌, arith, Bool, true, false, nat_eq, List, [], ◌∷◌, ◌++◌, map, length}
use Rattle.std.proofs.Common.{Option, Some, None, refl, ap, subst}
use Rattle.std.proofs.lemmas.Bool.{eqb-true}
use Rattle.std.specs.Prelude.{slice_get, unwrap_or, if◌then◌else◌}
use Rattle.std.specs.List.{list_any}
use Rattle.bl_tree.specs.declared.tree.Unit.{Unit as UnitDef}
use Rattle.bl_machine.specs.Blocks.{up_to}
use Rattle.bl_emit_spec.specs.Programs.{needed_below, needed_units, needs_at, needs_of, set_from}
use Rattle.bl_emit_spec_laws_wellformed.proofs.OnClosed.Closed.{set_back}
use Rattle.bl_emit_spec_laws_wellformed.proofs.OnNeeded.Whole.{tested_at}

-- ---- what is needed

module _ (units : List UnitDef) (cells : ℕ → ℕ) (most : ℕ)
    (down : (k j : ℕ) (unit : UnitDef) → slice_get units k ≡ Some unit → list_any (nat_eq j) (needs_of unit) ≡ true →
    cells j ≤ cells k) where
  abbrev Small : List Bool → Type 0
  Small needed = (j : ℕ) → slice_get needed j ≡ Some true → cells j ≤ most

  set_small : (k : ℕ) (needed : List Bool) → Small needed → cells k ≤ most → (o : Option UnitDef) → slice_get units k ≡ o →
      Small (set_from (needs_at o) 0 needed)
  set_small k needed small own None is j h = by (set_back [] 0 needed j h)
    where
      by : (slice_get needed j ≡ Some true) ⊎ (list_any (nat_eq (0 + j)) [] ≡ true) → cells j ≤ most
      by (inl h) = small j h
      by (inr h) = absurd (cc)
  set_small k needed small own (Some unit) is j h = by (set_back (needs_of unit) 0 needed j h)
    where
      by : (slice_get needed j ≡ Some true) ⊎ (list_any (nat_eq (0 + j)) (needs_of unit) ≡ true) → cells j ≤ most
      by (inl h) = small j h
      by (inr h) =
          let same : 0 + j ≡ j = omega arith in
          let less : cells j ≤ cells k = down k j unit is (subst (λ n. list_any (nat_eq n) (needs_of unit) ≡ true) same h) in
          omega (arith, less, own)

  set_when : (k : ℕ) (needed : List Bool) → Small needed → (o : Option Bool) → slice_get needed k ≡ o →
      Small (if unwrap_or o false then set_from (needs_at (slice_get units k)) 0 needed else needed)
  set_when k needed small None is = small
  set_when k needed small (Some false) is = small
  set_when k needed small (Some true) is = set_small k needed small (small k is) (slice_get units k) refl

  below_small : (k : ℕ) (needed : List Bool) → Small needed → Small (needed_below k units needed)
  below_small zero needed small = small
  below_small (suc k) needed small = below_small k _ (set_when k needed small (slice_get needed k) refl)

pub none_more : (units : List UnitDef) (entry : ℕ) (cells : ℕ → ℕ) →
    ((k j : ℕ) (unit : UnitDef) → slice_get units k ≡ Some unit → list_any (nat_eq j) (needs_of unit) ≡ true → cells j ≤ cells k) →
    (k : ℕ) → slice_get (needed_units units entry) k ≡ Some true → cells k ≤ cells entry
none_more units entry cells down k needed =
    below_small units cells (cells entry) down (length units) (map (λ k. nat_eq k entry) (up_to (length units)))
    (λ j h. let same : cells j ≡ cells entry = ap cells (eqb-true j entry (tested_at (λ k. nat_eq k entry) (length units) j h)) in
    omega (arith, same)) k needed
