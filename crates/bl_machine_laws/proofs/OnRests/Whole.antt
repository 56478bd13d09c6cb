-- The activities of a program.
use Rattle.std.proofs.Common.{◌≡◌, ℕ, zero, suc, ◌<◌, arith, Bool, true, false, ◌&&◌, List, [], ◌∷◌, ◌++◌, Contains, map, length}
use Rattle.std.proofs.Common.{refl, sym, ◌∙◌, subst}
use Rattle.std.proofs.lemmas.List.{length-append}
use Rattle.std.specs.List.{list_all}
use Rattle.std.specs.Prelude.{slice_index_or}
use Rattle.std.proofs.lemmas.Bool.{and_from}
use Rattle.bl_tree.proofs.Basics.{and_first, and_second, map_length}
use Rattle.bl_tree.specs.declared.place.Place.{Place}
use Rattle.bl_tree.specs.declared.rule.Rule.TheVariants as rule
use Rattle.bl_tree.specs.declared.tree.Stmt.{Stmt}
use Rattle.bl_tree.specs.declared.tree.StructDef.{StructDef}
use Rattle.bl_tree.specs.declared.tree.Unit.{Unit as UnitDef}
use Rattle.bl_tree.specs.Apart.{is_apart}
use Rattle.bl_tree.specs.Depths.{is_shallow}
use Rattle.bl_tree.specs.Instant.{instant, is_instant_block}
use Rattle.bl_tree.specs.Program.{names_of, parameters_of, roles_stand, unit_stands, units_stand_after}
use Rattle.bl_tree.specs.Reduce.{all_of, greatest}
use Rattle.bl_tree.specs.Returns.{unit_returns}
use Rattle.bl_tree.specs.Types.{type_stands}
use Rattle.bl_tree.specs.Typing.{TypingContext, fits, is_activity, site_of}
use Rattle.bl_tree.specs.Words.{are_distinct, is_name}
use Rattle.bl_effects.specs.Rules.{Passes, instant_loops, loops_in}
use Rattle.bl_machine.specs.declared.slots.Slot.{Slot}
use Rattle.bl_machine.specs.Blocks.{up_to}
use Rattle.bl_machine.specs.Slots.{counters_at, times}
use Rattle.bl_machine_pass.specs.Numbered.{sizes_of}
use Rattle.bl_machine_laws.specs.Rests.{ActivitiesCount, ActivitiesRest}
use Rattle.bl_machine_laws.proofs.OnRests.Rests.{body_rests}

-- ---- units

-- a unit stands behind some others
record Standing (structs : List StructDef) (unit : UnitDef) : Type 0 where
  before : List UnitDef
  stands : unit_stands structs before unit ≡ true

unit_at : (structs : List StructDef) (before units : List UnitDef) (k : ℕ) (unit : UnitDef) → units_stand_after structs before units ≡ true →
    k < length units → slice_index_or units k unit ≡ unit → Standing structs unit
unit_at structs before [] k unit stand below there = absurd (omega (arith, below))
unit_at structs before (first ∷ units) zero unit stand below there =
    record {
      before = before;
      stands = subst (λ unit. unit_stands structs before unit ≡ true) there
          (and_first (unit_stands structs before first) (units_stand_after structs (before ++ first ∷ []) units) stand);
    }
unit_at structs before (first ∷ units) (suc k) unit stand below there =
    unit_at structs (before ++ first ∷ []) units k unit
    (and_second (unit_stands structs before first) (units_stand_after structs (before ++ first ∷ []) units) stand) (omega (arith, below)) there

all_listed : (test : Stmt → Bool) (body : List Stmt) → list_all test body ≡ true → all_of (map test body) ≡ true
all_listed test [] all = refl
all_listed test (s ∷ body) all =
    and_from (test s) (all_of (map test body)) (and_first (test s) (list_all test body) all)
    (all_listed test body (and_second (test s) (list_all test body) all))

pub body_fits : (structs : List StructDef) (earlier : List UnitDef) (unit : UnitDef) → unit_stands structs earlier unit ≡ true →
    all_of (map (fits (site_of structs earlier unit)) unit.body) ≡ true
body_fits structs earlier unit stands =
    let last : Bool = unit_returns unit && (is_shallow 200 unit.body && list_all is_apart unit.body) in
    let fitted : Bool = list_all (fits (site_of structs earlier unit)) unit.body in
    let typed : Bool = list_all (λ var. type_stands (length structs) var.ty) unit.vars in
    let named : Bool = roles_stand unit && (list_all is_name (names_of unit.vars) && are_distinct (names_of (parameters_of unit))) in
    all_listed (fits (site_of structs earlier unit)) unit.body
    (and_first fitted last (and_second typed (fitted && last) (and_second named (typed && (fitted && last)) stands)))

-- ---- the rules Pause and Instant

no_pause : (units : List UnitDef) (unit : UnitDef) → Passes units → Contains units unit → is_activity unit.kind ≡ true →
    is_instant_block unit.body ≡ false
no_pause units unit passes there active = by (is_instant_block unit.body) refl
  where
    by : (b : Bool) → is_instant_block unit.body ≡ b → b ≡ false
    by false is = refl
    by true is =
        absurd (passes rule.Pause unit.place []
        (record { unit = unit; is_there = there; activity = active; ends = is; at_name = refl; alone = refl }))

no_instant : (units : List UnitDef) (unit : UnitDef) → Passes units → Contains units unit → is_activity unit.kind ≡ true → instant_loops unit ≡ []
no_instant units unit passes there active = by (instant_loops unit) refl
  where
    by : (all : List Place) → instant_loops unit ≡ all → all ≡ []
    by [] is = refl
    by (place ∷ rest) is =
        absurd (passes rule.Instant place []
        (record {
          unit = unit;
          is_there = there;
          activity = active;
          place = place;
          loops = subst (λ (all : List Place). Contains all place) (sym is) (0, omega arith, refl);
          at_loop = refl;
          alone = refl;
        }))

-- ---- the laws

pub activities_rest : ((s : Stmt) → (loops_in s).instant ≡ instant s) → ActivitiesRest
activities_rest agree structs units entry unit keeps passes there active =
    let own = unit_at structs [] units there.0 unit keeps.units_stand there.1 there.2 in
    let site : TypingContext = site_of structs own.before unit in
    body_rests agree site unit.body (body_fits structs own.before unit own.stands) (no_instant units unit passes there active)
    (no_pause units unit passes there active)

many_up_to : (n : ℕ) → length (up_to n) ≡ n
many_up_to zero = refl
many_up_to (suc n) = let all = length-append (up_to n) (n ∷ []) in let rest = many_up_to n in omega arith

some_size : (slots : List Slot) → 0 < length slots → 0 < length (sizes_of slots)
some_size [] some = absurd (omega (arith, some))
some_size (slot ∷ slots) some =
    let counters : List ℕ = slot.counter ∷ counters_at slots in
    let all : length (sizes_of (slot ∷ slots)) ≡ suc (greatest counters) =
    map_length (λ j. times j counters) (up_to (suc (greatest counters))) ∙ many_up_to (suc (greatest counters)) in
    subst (λ n. 0 < n) (sym all) (omega arith)

pub activities_count : ActivitiesRest → ActivitiesCount
activities_count rest structs units entry unit one keeps passes there active own =
    some_size one.slots
    (subst (λ n. 0 < n) (sym own.counters.one_each) (rest structs units entry unit keeps passes there active))
