-- The names of the C functions of units that aren't needed.
use Rattle.std.proofs.Common.{◌≡◌, ℕ, zero, suc, ◌≤◌, Bool, true, false, not, ◌||◌, nat_eq, List, [], ◌∷◌, drop, map}
use Rattle.std.proofs.Common.{Some, None, refl, sym, ap, ◌∙◌, subst, arith, eq-eqb}
use Rattle.std.proofs.lemmas.List.Elements.{All-cons, All-nil}
use Rattle.std.proofs.lemmas.Option.{same_Some}
use Rattle.std.proofs.lemmas.Slice.Eq.{bytes_eq-Decides}
use Rattle.std.specs.List.{list_all, list_any}
use Rattle.std.specs.Prelude.{All, bytes_eq, slice_get, unwrap_or, if◌then◌else◌}
use Rattle.bl_tree.proofs.Basics.{and_first, and_second}
use Rattle.bl_tree.specs.declared.scalar.Scalar.{Scalar as ScalarType}
use Rattle.bl_tree.specs.declared.text.Text.{Text}
use Rattle.bl_tree.specs.declared.tree.Unit.{Unit as UnitDef}
use Rattle.bl_tree.specs.Reduce.{greatest}
use Rattle.bl_tree.specs.Words.{are_distinct, is_among, is_name}
use Rattle.bl_emit_acts.specs.Expressions.{function_name}
use Rattle.bl_emit_acts.specs.Types.{unit_name}
use Rattle.bl_emit_functions_laws_simulation.proofs.OnUnits.Made.{names}

-- whether the test at a position is true
abbrev pub on : List Bool → ℕ → Bool
on tests k = unwrap_or (slice_get tests k) false

-- whether this is the name of the C function of a unit whose test isn't true
abbrev pub unneeded : List Bool → List UnitDef → Text → Bool
unneeded tests [] name = false
unneeded [] (unit ∷ units) name = bytes_eq (unit_name unit.name) name || unneeded [] units name
unneeded (true ∷ tests) (unit ∷ units) name = unneeded tests units name
unneeded (false ∷ tests) (unit ∷ units) name = bytes_eq (unit_name unit.name) name || unneeded tests units name

-- ---- other names

pub prelude_other : (tests : List Bool) (units : List UnitDef) (word : Text) (s : ScalarType) → unneeded tests units (function_name word s) ≡ false
prelude_other [] [] word s = refl
prelude_other (test ∷ tests) [] word s = refl
prelude_other [] (unit ∷ units) word s = prelude_other [] units word s
prelude_other (true ∷ tests) (unit ∷ units) word s = prelude_other tests units word s
prelude_other (false ∷ tests) (unit ∷ units) word s = prelude_other tests units word s

-- a text that is no unit's name
module _ (text : List ℕ) where
  abbrev Other : List UnitDef → Type 0
  Other units = (k : ℕ) (unit : UnitDef) → slice_get units k ≡ Some unit → unit.name ≡ text → ⊥

  first_other : (unit : UnitDef) (units : List UnitDef) → Other (unit ∷ units) → bytes_eq (unit_name unit.name) (unit_name text) ≡ false
  first_other unit units other = by (bytes_eq unit.name text) refl
    where
      by : (b : Bool) → bytes_eq unit.name text ≡ b → b ≡ false
      by true eq = absurd (other 0 unit refl ((bytes_eq-Decides unit.name text).0 eq))
      by false eq = refl

  rest_other : (unit : UnitDef) (units : List UnitDef) → Other (unit ∷ units) → Other units
  rest_other unit units other = λ k it there same. other (suc k) it there same

  pub none_other : (tests : List Bool) (units : List UnitDef) → Other units → unneeded tests units (unit_name text) ≡ false
  none_other [] [] other = refl
  none_other (test ∷ tests) [] other = refl
  none_other [] (unit ∷ units) other =
      ap (λ b. b || unneeded [] units (unit_name text)) (first_other unit units other) ∙ none_other [] units (rest_other unit units other)
  none_other (true ∷ tests) (unit ∷ units) other = none_other tests units (rest_other unit units other)
  none_other (false ∷ tests) (unit ∷ units) other =
      ap (λ b. b || unneeded tests units (unit_name text)) (first_other unit units other) ∙ none_other tests units (rest_other unit units other)

named_at : (units : List UnitDef) (k : ℕ) (unit : UnitDef) → list_all is_name (names units) ≡ true → slice_get units k ≡ Some unit →
    is_name unit.name ≡ true
named_at [] zero unit all there = absurd (cc)
named_at [] (suc k) unit all there = absurd (cc)
named_at (first ∷ units) zero unit all there =
    ap (λ (unit : UnitDef). is_name unit.name) (sym (same_Some first unit there)) ∙ and_first (is_name first.name) (list_all is_name (names units)) all
named_at (first ∷ units) (suc k) unit all there =
    named_at units k unit (and_second (is_name first.name) (list_all is_name (names units)) all) there

pub unnamed_other : (tests : List Bool) (units : List UnitDef) → list_all is_name (names units) ≡ true → unneeded tests units (unit_name []) ≡ false
unnamed_other tests units all =
    none_other [] tests units
    (λ k unit there same. let no : is_name [] ≡ true = ap is_name (sym same) ∙ named_at units k unit all there in absurd (cc))

-- ---- names of units

among_named : (text : List ℕ) (units : List UnitDef) → not (is_among text (names units)) ≡ true → (k : ℕ) (unit : UnitDef) →
    slice_get units k ≡ Some unit → unit.name ≡ text → ⊥
among_named text [] none zero unit there same = absurd (cc)
among_named text [] none (suc k) unit there same = absurd (cc)
among_named text (first ∷ units) none zero unit there same =
    no_first (bytes_eq text first.name) (is_among text (names units)) none
    ((bytes_eq-Decides text first.name).1 (sym (ap (λ (unit : UnitDef). unit.name) (same_Some first unit there) ∙ same)))
  where
    no_first : (a b : Bool) → not (a || b) ≡ true → a ≡ true → ⊥
    no_first true b h is = cc
    no_first false b h is = cc
among_named text (first ∷ units) none (suc k) unit there same =
    among_named text units (no_second (bytes_eq text first.name) (is_among text (names units)) none) k unit there same
  where
    no_second : (a b : Bool) → not (a || b) ≡ true → not b ≡ true
    no_second true b h = absurd (cc)
    no_second false b h = h

-- a unit whose test is true is none of the others
pub needed_other : (tests : List Bool) (units : List UnitDef) (k : ℕ) (unit : UnitDef) → are_distinct (names units) ≡ true →
    slice_get units k ≡ Some unit → on tests k ≡ true → unneeded tests units (unit_name unit.name) ≡ false
needed_other tests [] zero unit distinct there is = absurd (cc)
needed_other tests [] (suc k) unit distinct there is = absurd (cc)
needed_other [] (first ∷ units) zero unit distinct there is = absurd (cc)
needed_other [] (first ∷ units) (suc k) unit distinct there is = absurd (cc)
needed_other (false ∷ tests) (first ∷ units) zero unit distinct there is = absurd (cc)
needed_other (true ∷ tests) (first ∷ units) zero unit distinct there is =
    subst (λ (unit : UnitDef). unneeded tests units (unit_name unit.name) ≡ false) (same_Some first unit there)
    (none_other first.name tests units
    (among_named first.name units (and_first (not (is_among first.name (names units))) (are_distinct (names units)) distinct)))
needed_other (true ∷ tests) (first ∷ units) (suc k) unit distinct there is =
    needed_other tests units k unit (and_second (not (is_among first.name (names units))) (are_distinct (names units)) distinct) there is
needed_other (false ∷ tests) (first ∷ units) (suc k) unit distinct there is =
    ap (λ b. b || unneeded tests units (unit_name unit.name)) (by (bytes_eq first.name unit.name) refl)
    ∙ needed_other tests units k unit (and_second (not (is_among first.name (names units))) (are_distinct (names units)) distinct) there is
  where
    by : (b : Bool) → bytes_eq first.name unit.name ≡ b → b ≡ false
    by true eq =
        absurd (among_named first.name units (and_first (not (is_among first.name (names units))) (are_distinct (names units)) distinct) k unit there
        (sym ((bytes_eq-Decides first.name unit.name).0 eq)))
    by false eq = refl

-- one whose test isn't true is one of them
pub unneeded_is : (tests : List Bool) (units : List UnitDef) (k : ℕ) (unit : UnitDef) → slice_get units k ≡ Some unit → on tests k ≡ false →
    unneeded tests units (unit_name unit.name) ≡ true
unneeded_is tests [] zero unit there off = absurd (cc)
unneeded_is tests [] (suc k) unit there off = absurd (cc)
unneeded_is [] (first ∷ units) zero unit there off =
    ap (λ b. b || unneeded [] units (unit_name unit.name))
    ((bytes_eq-Decides first.name unit.name).1 (ap (λ (unit : UnitDef). unit.name) (same_Some first unit there)))
unneeded_is (true ∷ tests) (first ∷ units) zero unit there off = absurd (cc)
unneeded_is (false ∷ tests) (first ∷ units) zero unit there off =
    ap (λ b. b || unneeded tests units (unit_name unit.name))
    ((bytes_eq-Decides first.name unit.name).1 (ap (λ (unit : UnitDef). unit.name) (same_Some first unit there)))
unneeded_is [] (first ∷ units) (suc k) unit there off =
    ap (λ b. bytes_eq (unit_name first.name) (unit_name unit.name) || b) (unneeded_is [] units k unit there refl)
    ∙ either (bytes_eq (unit_name first.name) (unit_name unit.name))
  where
    either : (b : Bool) → (b || true) ≡ true
    either true = refl
    either false = refl
unneeded_is (true ∷ tests) (first ∷ units) (suc k) unit there off = unneeded_is tests units k unit there off
unneeded_is (false ∷ tests) (first ∷ units) (suc k) unit there off =
    ap (λ b. bytes_eq (unit_name first.name) (unit_name unit.name) || b) (unneeded_is tests units k unit there off)
    ∙ either (bytes_eq (unit_name first.name) (unit_name unit.name))
  where
    either : (b : Bool) → (b || true) ≡ true
    either true = refl
    either false = refl

-- ---- numbers

-- the number of what is tested: one, or none
abbrev pub counted : Bool → ℕ
counted test = if test then 1 else 0

pub uncounted : (test : Bool) → counted test ≤ 0 → test ≡ false
uncounted true none = absurd (omega (arith, none))
uncounted false none = refl

pub none_tested : {A : Type 0} (test : A → Bool) (xs : List A) → greatest (map (λ x. counted (test x)) xs) ≤ 0 → All (λ x. test x ≡ false) xs
none_tested test [] none = All-nil (λ x. test x ≡ false)
none_tested test (x ∷ xs) none =
    let here : counted (test x) ≤ 0 = omega (arith, none) in
    let rest : greatest (map (λ x. counted (test x)) xs) ≤ 0 = omega (arith, none) in
    All-cons (λ x. test x ≡ false) x xs (uncounted (test x) here) (none_tested test xs rest)

pub all_none : (number : ℕ → ℕ) (xs : List ℕ) → ((j : ℕ) → list_any (nat_eq j) xs ≡ true → number j ≡ 0) → greatest (map number xs) ≤ 0
all_none number [] none = omega arith
all_none number (x ∷ xs) none =
    let here : number x ≡ 0 = none x (ap (λ b. b || list_any (nat_eq x) xs) (eq-eqb x x refl)) in
    let rest : greatest (map number xs) ≤ 0 = all_none number xs (λ j among. none j (later (nat_eq j x) (list_any (nat_eq j) xs) among)) in
    omega (arith, here, rest)
  where
    later : (a b : Bool) → b ≡ true → (a || b) ≡ true
    later true b is = refl
    later false b is = is

-- ---- lists

pub drop_none : {A : Type 0} (xs : List A) (k : ℕ) → drop k xs ≡ [] → (slice_get xs k ≡ None) × (drop (suc k) xs ≡ [])
drop_none [] zero is = (refl, refl)
drop_none [] (suc k) is = (refl, refl)
drop_none (x ∷ xs) zero is = absurd (cc)
drop_none (x ∷ xs) (suc k) is = drop_none xs k is
