-- What a needed unit calls or runs is needed.
use Rattle.std.proofs.Common.{◌≡◌, ◌⊎◌, ℕ, zero, suc, ◌+◌, ◌<◌, ◌≤◌, Bool, true, false, ◌||◌, nat_eq, List, [], ◌∷◌, ◌++◌}
use Rattle.std.proofs.Common.{map, length, Option, Some, None, inl, inr, refl, sym, ap, subst, ◌∙◌, arith}
use Rattle.std.proofs.lemmas.Bool.{cases_lt, eqb-true}
use Rattle.std.proofs.lemmas.List.{length_push, length-map}
use Rattle.std.proofs.lemmas.List.Elements.{All-head, All-tail}
use Rattle.std.proofs.lemmas.List.Folds.{list_any-append}
use Rattle.std.proofs.lemmas.Option.{same_Some}
use Rattle.std.specs.Prelude.{All, slice_get, unwrap_or, if◌then◌else◌}
use Rattle.std.specs.List.{list_any}
use Rattle.std.proofs.lemmas.Bool.{or_left, or_right}
use Rattle.bl_tree.proofs.Basics.{either_case, get_in_front, get_last, get_mapped, number_itself, within_at}
use Rattle.bl_tree.specs.declared.tree.StructDef.{StructDef}
use Rattle.bl_tree.specs.declared.tree.Unit.{Unit as UnitDef}
use Rattle.bl_tree.specs.Program.{is_entry}
use Rattle.bl_machine.specs.Blocks.{up_to}
use Rattle.bl_limits_measures.specs.Calls.{calls_of}
use Rattle.bl_limits_measures.specs.Runs.{activities_run}
use Rattle.bl_limits_measures.specs.Uses.{UsesEarlier}
use Rattle.bl_limits_measures_laws.specs.Laws.{UnitsUseEarlierOnes}
use Rattle.bl_emit_spec.specs.Programs.{needed_below, needs_at, needs_of, set_from}
use Rattle.bl_emit_spec_laws_wellformed.specs.Closed.{NeededClosed}

-- ---- tests that are set

pub set_length : (positions : List ℕ) (base : ℕ) (needed : List Bool) → length (set_from positions base needed) ≡ length needed
set_length positions base [] = refl
set_length positions base (test ∷ rest) = ap suc (set_length positions (suc base) rest)

set_keeps : (positions : List ℕ) (base : ℕ) (needed : List Bool) (j : ℕ) → slice_get needed j ≡ Some true →
    slice_get (set_from positions base needed) j ≡ Some true
set_keeps positions base [] j h = absurd (cc)
set_keeps positions base (test ∷ rest) zero h =
    ap Some (or_left test (list_any (nat_eq base) positions) (same_Some test true h))
set_keeps positions base (test ∷ rest) (suc j) h = set_keeps positions (suc base) rest j h

set_true : (positions : List ℕ) (base : ℕ) (needed : List Bool) (j : ℕ) → j < length needed → list_any (nat_eq (base + j)) positions ≡ true →
    slice_get (set_from positions base needed) j ≡ Some true
set_true positions base [] j less among = absurd (omega (arith, less))
set_true positions base (test ∷ rest) zero less among =
    let same : base + 0 ≡ base = omega arith in
    ap Some (or_right test (list_any (nat_eq base) positions) (subst (λ k. list_any (nat_eq k) positions ≡ true) same among))
set_true positions base (test ∷ rest) (suc j) less among =
    let same : base + suc j ≡ suc base + j = omega arith in
    set_true positions (suc base) rest j (omega (arith, less)) (subst (λ k. list_any (nat_eq k) positions ≡ true) same among)

-- a test that is set was set before, or stands at one of the positions
pub set_back : (positions : List ℕ) (base : ℕ) (needed : List Bool) (j : ℕ) → slice_get (set_from positions base needed) j ≡ Some true →
    (slice_get needed j ≡ Some true) ⊎ (list_any (nat_eq (base + j)) positions ≡ true)
set_back positions base [] j h = absurd (cc)
set_back positions base (true ∷ rest) zero h = inl refl
set_back positions base (false ∷ rest) zero h =
    let same : base ≡ base + 0 = omega arith in
    inr (subst (λ k. list_any (nat_eq k) positions ≡ true) same (same_Some (list_any (nat_eq base) positions) true h))
set_back positions base (test ∷ rest) (suc j) h = by (set_back positions (suc base) rest j h)
  where
    by : (slice_get rest j ≡ Some true) ⊎ (list_any (nat_eq (suc base + j)) positions ≡ true) →
        (slice_get rest j ≡ Some true) ⊎ (list_any (nat_eq (base + suc j)) positions ≡ true)
    by (inl h) = inl h
    by (inr h) = let same : suc base + j ≡ base + suc j = omega arith in inr (subst (λ k. list_any (nat_eq k) positions ≡ true) same h)

-- ---- from the last unit down to the first

-- what is needed of the first units, once a unit of them was looked at
abbrev stepped : List UnitDef → ℕ → List Bool → List Bool
stepped units k needed = if unwrap_or (slice_get needed k) false then set_from (needs_at (slice_get units k)) 0 needed else needed

module _ (units : List UnitDef)
    (uses : (k j : ℕ) (unit : UnitDef) → slice_get units k ≡ Some unit → list_any (nat_eq j) (needs_of unit) ≡ true → j < k)
  where
    -- of units from this one on what they need is needed
    abbrev ClosedFrom : ℕ → List Bool → Type 0
    ClosedFrom k needed =
        (m j : ℕ) (unit : UnitDef) → k ≤ m → slice_get units m ≡ Some unit → slice_get needed m ≡ Some true →
        list_any (nat_eq j) (needs_of unit) ≡ true → slice_get needed j ≡ Some true

    step_length : (k : ℕ) (needed : List Bool) → length (stepped units k needed) ≡ length needed
    step_length k needed = by (unwrap_or (slice_get needed k) false)
      where
        by : (b : Bool) → length (if b then set_from (needs_at (slice_get units k)) 0 needed else needed) ≡ length needed
        by true = set_length (needs_at (slice_get units k)) 0 needed
        by false = refl

    step_keeps : (k : ℕ) (needed : List Bool) (j : ℕ) → slice_get needed j ≡ Some true → slice_get (stepped units k needed) j ≡ Some true
    step_keeps k needed j h = by (unwrap_or (slice_get needed k) false)
      where
        by : (b : Bool) → slice_get (if b then set_from (needs_at (slice_get units k)) 0 needed else needed) j ≡ Some true
        by true = set_keeps (needs_at (slice_get units k)) 0 needed j h
        by false = h

    -- what is set from the unit k on was set before
    set_later : (k m : ℕ) (needed : List Bool) (o : Option UnitDef) → slice_get units k ≡ o → k ≤ m →
        slice_get (set_from (needs_at o) 0 needed) m ≡ Some true → slice_get needed m ≡ Some true
    set_later k m needed None is le h = by (set_back [] 0 needed m h)
      where
        by : (slice_get needed m ≡ Some true) ⊎ (list_any (nat_eq (0 + m)) [] ≡ true) → slice_get needed m ≡ Some true
        by (inl h) = h
        by (inr h) = absurd (cc)
    set_later k m needed (Some unit) is le h = by (set_back (needs_of unit) 0 needed m h)
      where
        by : (slice_get needed m ≡ Some true) ⊎ (list_any (nat_eq (0 + m)) (needs_of unit) ≡ true) → slice_get needed m ≡ Some true
        by (inl h) = h
        by (inr h) =
            let same : 0 + m ≡ m = omega arith in
            let less = uses k m unit is (subst (λ n. list_any (nat_eq n) (needs_of unit) ≡ true) same h) in
            absurd (omega (arith, less, le))

    here_or : {P : Type 0} (k m : ℕ) → k ≤ m → (k ≡ m → P) → (suc k ≤ m → P) → P
    here_or {P} k m le here later = by (cases_lt k m)
      where
        by : (k < m) ⊎ (m ≤ k) → P
        by (inl less) = later (omega (arith, less))
        by (inr more) = here (omega (arith, le, more))

    step_closed : (k : ℕ) (needed : List Bool) → length needed ≡ length units → ClosedFrom (suc k) needed →
        ClosedFrom k (stepped units k needed)
    step_closed k needed long closed m j unit le there = by (slice_get needed k) refl
      where
        -- where the unit isn't needed nothing changes
        same_tests : (unwrap_or (slice_get needed k) false ≡ false) → slice_get needed m ≡ Some true → list_any (nat_eq j) (needs_of unit) ≡ true →
            slice_get needed j ≡ Some true
        same_tests off h among =
            here_or k m le
            (λ same. let no : true ≡ false = ap (λ o. unwrap_or o false) (sym (ap (slice_get needed) same ∙ h)) ∙ off in absurd (cc))
            (λ less. closed m j unit less there h among)

        set_tests : slice_get needed k ≡ Some true → slice_get (set_from (needs_at (slice_get units k)) 0 needed) m ≡ Some true →
            list_any (nat_eq j) (needs_of unit) ≡ true → slice_get (set_from (needs_at (slice_get units k)) 0 needed) j ≡ Some true
        set_tests on h among =
            let before = set_later k m needed (slice_get units k) refl le h in
            here_or k m le
            (λ same.
            let is : slice_get units k ≡ Some unit = ap (slice_get units) same ∙ there in
            let less = uses m j unit there among in
            let inside = within_at units m unit there in
            subst (λ o. slice_get (set_from (needs_at o) 0 needed) j ≡ Some true) (sym is)
            (set_true (needs_of unit) 0 needed j (omega (arith, less, inside, long))
            (let start : j ≡ 0 + j = omega arith in subst (λ n. list_any (nat_eq n) (needs_of unit) ≡ true) start among)))
            (λ less. set_keeps (needs_at (slice_get units k)) 0 needed j (closed m j unit less there before among))

        by : (o : Option Bool) → slice_get needed k ≡ o →
            slice_get (if unwrap_or (slice_get needed k) false then set_from (needs_at (slice_get units k)) 0 needed else needed) m ≡ Some true →
            list_any (nat_eq j) (needs_of unit) ≡ true →
            slice_get (if unwrap_or (slice_get needed k) false then set_from (needs_at (slice_get units k)) 0 needed else needed) j ≡ Some true
        by o is =
            subst (λ b. slice_get (if b then set_from (needs_at (slice_get units k)) 0 needed else needed) m ≡ Some true →
            list_any (nat_eq j) (needs_of unit) ≡ true →
            slice_get (if b then set_from (needs_at (slice_get units k)) 0 needed else needed) j ≡ Some true)
            (ap (λ o. unwrap_or o false) (sym is)) (chosen o is)
          where
            chosen : (o : Option Bool) → slice_get needed k ≡ o →
                slice_get (if unwrap_or o false then set_from (needs_at (slice_get units k)) 0 needed else needed) m ≡ Some true →
                list_any (nat_eq j) (needs_of unit) ≡ true →
                slice_get (if unwrap_or o false then set_from (needs_at (slice_get units k)) 0 needed else needed) j ≡ Some true
            chosen None is = same_tests (ap (λ o. unwrap_or o false) is)
            chosen (Some false) is = same_tests (ap (λ o. unwrap_or o false) is)
            chosen (Some true) is = set_tests is

    below_closed : (k : ℕ) (needed : List Bool) → length needed ≡ length units → ClosedFrom k needed → ClosedFrom zero (needed_below k units needed)
    below_closed zero needed long closed = closed
    below_closed (suc k) needed long closed =
        below_closed k (stepped units k needed) (step_length k needed ∙ long) (step_closed k needed long closed)

    below_keeps : (k : ℕ) (needed : List Bool) (j : ℕ) → slice_get needed j ≡ Some true → slice_get (needed_below k units needed) j ≡ Some true
    below_keeps zero needed j h = h
    below_keeps (suc k) needed j h = below_keeps k (stepped units k needed) j (step_keeps k needed j h)

-- ---- the start

pub up_length : (n : ℕ) → length (up_to n) ≡ n
up_length zero = refl
up_length (suc n) = length_push (up_to n) n ∙ (let rest = up_length n in omega (arith, rest))

pub got_up : (n k : ℕ) → k < n → slice_get (up_to n) k ≡ Some k
got_up zero k less = absurd (omega (arith, less))
got_up (suc n) k less = by (cases_lt k n) (got_up n k)
  where
    by : (k < n) ⊎ (n ≤ k) → (k < n → slice_get (up_to n) k ≡ Some k) → slice_get (up_to n ++ n ∷ []) k ≡ Some k
    by (inl low) before = get_in_front (up_to n) (n ∷ []) k k (before low)
    by (inr high) before =
        let same : n ≡ k = omega (arith, less, high) in
        subst (λ (x : ℕ). slice_get (up_to n ++ n ∷ []) x ≡ Some x) same
        (ap (slice_get (up_to n ++ n ∷ [])) (sym (up_length n)) ∙ get_last (up_to n) n)

among_all : (P : ℕ → Type 0) (xs : List ℕ) (j : ℕ) → All P xs → list_any (nat_eq j) xs ≡ true → P j
among_all P [] j all h = absurd (cc)
among_all P (x ∷ xs) j all h = by (nat_eq j x) refl h (among_all P xs j (All-tail P x xs all))
  where
    by : (b : Bool) → nat_eq j x ≡ b → (b || list_any (nat_eq j) xs) ≡ true → (list_any (nat_eq j) xs ≡ true → P j) → P j
    by true is h rest = subst P (sym (eqb-true j x is)) (All-head P x xs all)
    by false is h rest = rest h

uses_less : (units : List UnitDef) → UsesEarlier units → (k j : ℕ) (unit : UnitDef) → slice_get units k ≡ Some unit →
    list_any (nat_eq j) (needs_of unit) ≡ true → j < k
uses_less units earlier k j unit there among =
    either_case (list_any (nat_eq j) (calls_of unit)) (list_any (nat_eq j) (activities_run unit))
    (sym (list_any-append (nat_eq j) (calls_of unit) (activities_run unit)) ∙ among)
    (λ h. among_all (λ x. x < k) (calls_of unit) j (earlier k unit there).calls h)
    (λ h. among_all (λ x. x < k) (activities_run unit) j (earlier k unit there).runs h)

pub entry_there : (o : Option UnitDef) → is_entry o ≡ true → (unit : UnitDef) × (o ≡ Some unit)
entry_there None h = absurd (cc)
entry_there (Some unit) h = (unit, refl)

pub needed_closed : (structs : List StructDef) (units : List UnitDef) (entry : ℕ) → UnitsUseEarlierOnes → NeededClosed structs units entry
needed_closed structs units entry earlier = record {
  entry_is = λ keeps.
      let found = entry_there (slice_get units entry) keeps.entry_stands in
      below_keeps units (uses_less units (earlier structs units keeps.units_stand)) (length units) first entry
      (get_mapped (λ k. nat_eq k entry) (up_to (length units)) entry entry (got_up (length units) entry (within_at units entry found.0 found.1))
      ∙ ap Some (number_itself entry));
  closed = λ k j unit keeps there needed among.
      below_closed units (uses_less units (earlier structs units keeps.units_stand)) (length units) first
      (length-map (up_to (length units)) (λ k. nat_eq k entry) ∙ up_length (length units))
      (λ m j unit le there h among. let less = within_at units m unit there in absurd (omega (arith, le, less)))
      k j unit (omega arith) there needed among;
}
  where
    first : List Bool
    first = map (λ k. nat_eq k entry) (up_to (length units))
