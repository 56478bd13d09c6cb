-- What the entry needs is as small as the entry.
use Rattle.std.proofs.Common.{◌≡◌, ◌⊎◌, ℕ, zero, suc, ◌+◌, ◌<◌, ◌≤◌, ◌^◌, max}
use Rattle.std.proofs.Common.{Bool, true, false, ◌||◌, nat_eq, List, [], ◌∷◌, ◌++◌}
use Rattle.std.proofs.Common.{map, length, Option, Some, None, refl, sym, ap, ◌∙◌, subst, arith, inl, inr}
use Rattle.std.proofs.lemmas.Bool.{cases_lt, eqb-true}
use Rattle.std.proofs.lemmas.List.{length_push, map-append}
use Rattle.std.proofs.lemmas.List.Folds.{list_any-append}
use Rattle.std.proofs.lemmas.Option.{same_Some}
use Rattle.std.specs.Prelude.{slice_get, unwrap_or, if◌then◌else◌}
use Rattle.std.specs.List.{list_any}
use Rattle.bl_tree.specs.declared.rule.Rule.TheVariants as rule
use Rattle.bl_tree.specs.declared.tree.StructDef.{StructDef}
use Rattle.bl_tree.specs.declared.tree.Unit.{Unit as UnitDef}
use Rattle.bl_tree.specs.declared.tree.UnitKind.{UnitKind}
use Rattle.bl_tree.specs.declared.tree.UnitKind.TheVariants.{Function, Activity}
use Rattle.bl_tree.specs.Program.{IsWellTyped, is_entry}
use Rattle.bl_tree.specs.Typing.{is_activity}
use Rattle.bl_tree.specs.Reduce.{greatest, total}
use Rattle.bl_machine.specs.Blocks.{up_to}
use Rattle.bl_limits_measures.specs.Calls.{calls_of}
use Rattle.bl_limits_measures.specs.Laws.{CellsAdd}
use Rattle.bl_limits_measures.specs.Runs.{activities_by_place, activities_run}
use Rattle.bl_limits_measures.specs.Statements.{cell_statements_of}
use Rattle.bl_limits_measures.specs.Units.{cells_at, cells_with, variables_of}
use Rattle.bl_limits_measures_laws.specs.Laws.{UnitsUseEarlierOnes}
use Rattle.bl_emit_functions_laws_wellformed.specs.Numbered.{CellsNumber}
use Rattle.bl_emit_spec.specs.Programs.{needed_below, needs_at, needs_of, set_from}
use Rattle.bl_emit_spec_laws_wellformed.proofs.OnNeeded.Places.{placed_any}
use Rattle.bl_emit_spec_laws_wellformed.proofs.OnNeeded.Runs.{runs_nothing}
use Rattle.bl_emit_spec_laws_wellformed.specs.Needed.{NeededCells, NeededNumbered, NeededSmall}
use Rattle.bl_emit_spec_laws_wellformed.proofs.OnClosed.Closed.{entry_there, set_back}

-- ---- sums and greatest ones

pub among_total : (f : ℕ → ℕ) (ks : List ℕ) (j : ℕ) → list_any (nat_eq j) ks ≡ true → f j ≤ total (map f ks)
among_total f [] j h = absurd (cc)
among_total f (k ∷ ks) j h = by (nat_eq j k) refl h (among_total f ks j)
  where
    by : (b : Bool) → nat_eq j k ≡ b → (b || list_any (nat_eq j) ks) ≡ true →
        (list_any (nat_eq j) ks ≡ true → f j ≤ total (map f ks)) → f j ≤ f k + total (map f ks)
    by true is h rest = let same : f j ≡ f k = ap f (eqb-true j k is) in omega (arith, same)
    by false is h rest = let later : f j ≤ total (map f ks) = rest h in omega (arith, later)

pub among_greatest : (f : ℕ → ℕ) (ks : List ℕ) (j : ℕ) → list_any (nat_eq j) ks ≡ true → f j ≤ greatest (map f ks)
among_greatest f [] j h = absurd (cc)
among_greatest f (k ∷ ks) j h = by (nat_eq j k) refl h (among_greatest f ks j)
  where
    by : (b : Bool) → nat_eq j k ≡ b → (b || list_any (nat_eq j) ks) ≡ true →
        (list_any (nat_eq j) ks ≡ true → f j ≤ greatest (map f ks)) → f j ≤ max (f k) (greatest (map f ks))
    by true is h rest = let same : f j ≡ f k = ap f (eqb-true j k is) in omega (arith, same)
    by false is h rest = let later : f j ≤ greatest (map f ks) = rest h in omega (arith, later)

-- a function calls what stands in the count of its cells; an activity also runs it
pub running_less : (kind : UnitKind) (variables statements running calling n : ℕ) → kind ≡ Activity → n ≤ running →
    n ≤ cells_with kind variables statements running calling
running_less Activity variables statements running calling n is le = omega (arith, le)
running_less Function variables statements running calling n is le = absurd (cc)

pub calling_less : (kind : UnitKind) (variables statements running calling n : ℕ) → n ≤ calling →
    n ≤ cells_with kind variables statements running calling
calling_less Function variables statements running calling n le = omega (arith, le)
calling_less Activity variables statements running calling n le = omega (arith, le)

-- the count of a unit's cells, by those of the units that it runs and calls
abbrev pub counted : List StructDef → List UnitDef → UnitDef → ℕ
counted structs units unit =
    cells_with unit.kind (variables_of structs unit) (cell_statements_of unit) (total (map (cells_at structs units) (activities_by_place unit)))
    (greatest (map (cells_at structs units) (calls_of unit)))

pub less_calls : (structs : List StructDef) (units : List UnitDef) (entry k j : ℕ) (unit : UnitDef) → IsWellTyped structs units entry →
    UnitsUseEarlierOnes →
    CellsAdd → slice_get units k ≡ Some unit → list_any (nat_eq j) (needs_of unit) ≡ true →
    cells_at structs units j ≤ cells_at structs units k
less_calls structs units entry k j unit keeps earlier add there needed =
    subst (λ n. cells_at structs units j ≤ n) (sym is) (by (list_any (nat_eq j) (calls_of unit)) refl)
  where
    is : cells_at structs units k ≡ counted structs units unit
    is = add structs units k unit (earlier structs units keeps.units_stand) there

    runs : (kind : UnitKind) → unit.kind ≡ kind → list_any (nat_eq j) (activities_run unit) ≡ true →
        cells_at structs units j ≤ counted structs units unit
    runs Activity act among =
        running_less unit.kind (variables_of structs unit) (cell_statements_of unit) (total (map (cells_at structs units) (activities_by_place unit)))
        (greatest (map (cells_at structs units) (calls_of unit))) (cells_at structs units j) act
        (among_total (cells_at structs units) (activities_by_place unit) j
        (placed_any structs units entry keeps k j unit there among))
    runs Function act among =
        let none : activities_run unit ≡ [] = runs_nothing structs units entry keeps k unit there (ap is_activity act) in
        absurd (let no : list_any (nat_eq j) [] ≡ true = sym (ap (list_any (nat_eq j)) none) ∙ among in cc)

    by : (b : Bool) → list_any (nat_eq j) (calls_of unit) ≡ b → cells_at structs units j ≤ counted structs units unit
    by true among =
        calling_less unit.kind (variables_of structs unit) (cell_statements_of unit) (total (map (cells_at structs units) (activities_by_place unit)))
        (greatest (map (cells_at structs units) (calls_of unit))) (cells_at structs units j)
        (among_greatest (cells_at structs units) (calls_of unit) j among)
    by false other =
        runs unit.kind refl
        (ap (λ b. b || list_any (nat_eq j) (activities_run unit)) (sym other)
        ∙ sym (list_any-append (nat_eq j) (calls_of unit) (activities_run unit)) ∙ needed)

-- ---- what is needed

-- an element of a list with one more is one of the list, or the last
pub seam : {A : Type 0} (xs : List A) (y : A) (j : ℕ) (v : A) → slice_get (xs ++ y ∷ []) j ≡ Some v → (slice_get xs j ≡ Some v)
    ⊎ ((j ≡ length xs) × (y ≡ v))
seam [] y zero v h = inr (refl, same_Some y v h)
seam [] y (suc j) v h = absurd (cc)
seam (x ∷ xs) y zero v h = inl h
seam (x ∷ xs) y (suc j) v h = by (seam xs y j v h)
  where
    by : (slice_get xs j ≡ Some v) ⊎ ((j ≡ length xs) × (y ≡ v)) →
        (slice_get xs j ≡ Some v) ⊎ ((suc j ≡ suc (length xs)) × (y ≡ v))
    by (inl h) = inl h
    by (inr h) = inr (ap suc h.0, h.1)

pub length_tests : (test : ℕ → Bool) (n : ℕ) → length (map test (up_to n)) ≡ n
length_tests test zero = refl
length_tests test (suc n) =
    ap length (map-append test (up_to n) (n ∷ [])) ∙ length_push (map test (up_to n)) (test n)
    ∙ (let rest = length_tests test n in omega (arith, rest))

pub tested_at : (test : ℕ → Bool) (n j : ℕ) → slice_get (map test (up_to n)) j ≡ Some true → test j ≡ true
tested_at test zero j h = absurd (cc)
tested_at test (suc n) j h =
    by (seam (map test (up_to n)) (test n) j true (ap (λ tests. slice_get tests j) (sym (map-append test (up_to n) (n ∷ []))) ∙ h))
    (tested_at test n j)
  where
    by : (slice_get (map test (up_to n)) j ≡ Some true) ⊎ ((j ≡ length (map test (up_to n))) × (test n ≡ true)) →
        (slice_get (map test (up_to n)) j ≡ Some true → test j ≡ true) → test j ≡ true
    by (inl h) rest = rest h
    by (inr h) rest = ap test (h.0 ∙ length_tests test n) ∙ h.1

module _ (units : List UnitDef) (cells : ℕ → ℕ) (most : ℕ)
    (down : (k j : ℕ) (unit : UnitDef) → slice_get units k ≡ Some unit → list_any (nat_eq j) (needs_of unit) ≡ true →
    cells j ≤ cells k) where
  abbrev Small : List Bool → Type 0
  Small needed = (j : ℕ) → slice_get needed j ≡ Some true → cells j ≤ most

  set_small : (k : ℕ) (needed : List Bool) → Small needed → cells k ≤ most → (o : Option UnitDef) → slice_get units k ≡ o →
      Small (set_from (needs_at o) 0 needed)
  set_small k needed small own None is j h = by (set_back [] 0 needed j h)
    where
      by : (slice_get needed j ≡ Some true) ⊎ (list_any (nat_eq (0 + j)) [] ≡ true) → cells j ≤ most
      by (inl h) = small j h
      by (inr h) = absurd (cc)
  set_small k needed small own (Some unit) is j h = by (set_back (needs_of unit) 0 needed j h)
    where
      by : (slice_get needed j ≡ Some true) ⊎ (list_any (nat_eq (0 + j)) (needs_of unit) ≡ true) → cells j ≤ most
      by (inl h) = small j h
      by (inr h) =
          let same : 0 + j ≡ j = omega arith in
          let less : cells j ≤ cells k = down k j unit is (subst (λ n. list_any (nat_eq n) (needs_of unit) ≡ true) same h) in
          omega (arith, less, own)

  set_when : (k : ℕ) (needed : List Bool) → Small needed → (o : Option Bool) → slice_get needed k ≡ o →
      Small (if unwrap_or o false then set_from (needs_at (slice_get units k)) 0 needed else needed)
  set_when k needed small None is = small
  set_when k needed small (Some false) is = small
  set_when k needed small (Some true) is = set_small k needed small (small k is) (slice_get units k) refl

  below_small : (k : ℕ) (needed : List Bool) → Small needed → Small (needed_below k units needed)
  below_small zero needed small = small
  below_small (suc k) needed small = below_small k _ (set_when k needed small (slice_get needed k) refl)

-- what the entry needs has no more cells than the entry
pub no_more : (structs : List StructDef) (units : List UnitDef) (entry : ℕ) → UnitsUseEarlierOnes → CellsAdd → NeededCells structs units entry
no_more structs units entry earlier add k keeps needed =
    below_small units (cells_at structs units) (cells_at structs units entry)
    (λ k j unit there among. less_calls structs units entry k j unit keeps earlier add there among) (length units)
    (map (λ k. nat_eq k entry) (up_to (length units)))
    (λ j h. let same : cells_at structs units j ≡ cells_at structs units entry =
    ap (cells_at structs units) (eqb-true j entry (tested_at (λ k. nat_eq k entry) (length units) j h)) in omega (arith, same)) k needed

-- and at most a million where the rule doesn't fail
pub small : (structs : List StructDef) (units : List UnitDef) (entry : ℕ) → NeededCells structs units entry → NeededSmall structs units entry
small structs units entry fewer k keeps passes needed = by (cases_lt 1_000_000 (cells_at structs units entry))
  where
    by : (1_000_000 < cells_at structs units entry) ⊎ (cells_at structs units entry ≤ 1_000_000) → cells_at structs units k ≤ 1_000_000
    by (inl large) =
        let found = entry_there (slice_get units entry) keeps.entry_stands in
        absurd (passes rule.Cells found.0.place [] (inl (record { unit = found.0; is_entry = found.1; large = large; at_name = refl }), refl))
    by (inr few) = let le : cells_at structs units k ≤ cells_at structs units entry = fewer k keeps needed in omega (arith, le, few)

pub numbered : (structs : List StructDef) (units : List UnitDef) (entry : ℕ) → NeededSmall structs units entry →
    CellsNumber structs units entry →
    NeededNumbered structs units entry
numbered structs units entry small number k unit keeps passes there needed =
    let few : cells_at structs units k ≤ 1_000_000 = small k keeps passes needed in
    let less : cells_at structs units k ≤ 2 ^ 64 = omega (arith, few) in
    number k unit keeps there less
