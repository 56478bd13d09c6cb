-- What naming a program gives where no rule on names fails.
use Rattle.std.proofs.Common.{◌≡◌, ℕ, zero, suc, true, List, [], ◌∷◌, map, length, take, Some, refl, sym, ap, ◌∙◌}
use Rattle.std.specs.Prelude.{slice_get}
use Rattle.std.proofs.lemmas.Bool.{ltb-true}
use Rattle.bl_tree.proofs.Basics.{all_at, get_taken}
use Rattle.bl_tree.specs.declared.tree.Unit.{Unit as UnitDef}
use Rattle.bl_tree.specs.declared.tree.UnitKind.{UnitKind}
use Rattle.bl_tree.specs.Typing.{is_function}
use Rattle.bl_parse_tree.specs.declared.item.RawItem.{RawItem}
use Rattle.bl_parse_tree.specs.WellFormed.{RawIsWellFormed}
use Rattle.bl_names_tree.specs.declared.item.NamedConstant.{NamedConstant}
use Rattle.bl_names_tree.specs.declared.item.NamedUnit.{NamedUnit}
use Rattle.bl_names_tree.specs.Placed.{DeclaredBefore, expr_placed, holds_of}
use Rattle.bl_names_scopes.specs.Rules.{Passes}
use Rattle.bl_names_scopes.specs.Scopes.{file_scope}
use Rattle.bl_names.specs.Named.{named_program}
use Rattle.bl_names.proofs.FitLemmas.{program_fits}
use Rattle.bl_types_laws.specs.Standing.{unit_named}
use Rattle.bl_types_laws.specs.Within.{calls_functions}
use Rattle.bl_types_laws.proofs.ItemNames.{ItemsSuit, items_suit, named_at, stand_ins, stand_ins_are}
use Rattle.bl_types_laws.proofs.Narrow.{Narrows, calls_narrow}
use Rattle.bl_types_laws.proofs.Suits.{constant_calls}
use Rattle.bl_types_laws.proofs.Told.{kind_at, kinds_of}
use Rattle.bl_names.proofs.PlacedProgram.{whole}

program_suits : (items : List RawItem) (bytes : ℕ) → RawIsWellFormed items → Passes items →
    ItemsSuit (named_program items bytes).constants [] (named_program items bytes).units (named_program items bytes).constants
program_suits items bytes keeps passes =
    items_suit (named_program items bytes).constants items [] file_scope
    (record {
      told = (refl, refl);
      none = refl;
      counted = refl;
      fits = program_fits items passes;
      stand = keeps.stand;
      within =
          whole (named_program items bytes).constants;
    })

pub units_are_named : (items : List RawItem) (bytes : ℕ) → RawIsWellFormed items → Passes items → (k : ℕ) (unit : NamedUnit) →
    slice_get (named_program items bytes).units k ≡ Some unit → (earlier : List UnitDef) →
    map (λ (u : UnitDef). u.kind) earlier ≡ map (λ (u : NamedUnit). u.kind) (take k (named_program items bytes).units) →
    unit_named (named_program items bytes).constants earlier unit ≡ true
units_are_named items bytes keeps passes k unit there earlier kinds =
    let named = named_program items bytes in
    named_at named.constants named.units [] k unit earlier (program_suits items bytes keeps passes).are_named there kinds

-- ---- constants

map_take : {A B : Type 0} (f : A → B) (n : ℕ) (xs : List A) → map f (take n xs) ≡ take n (map f xs)
map_take f zero xs = refl
map_take f (suc n) [] = refl
map_take f (suc n) (x ∷ xs) = ap (λ rest. f x ∷ rest) (map_take f n xs)

-- units of the kinds that the first of others have
narrows : (all : List UnitDef) (kinds : List UnitKind) (earlier : List UnitDef) (n : ℕ) → kinds_of all ≡ kinds → kinds_of earlier ≡ take n kinds →
    Narrows all earlier n
narrows all kinds earlier n is first f less there =
    kind_at is_function earlier f
    ∙ ap (λ units. holds_of is_function (slice_get units f)) first
    ∙ ap (holds_of is_function) (get_taken kinds n f (ltb-true f n less))
    ∙ ap (λ units. holds_of is_function (slice_get units f)) (sym is)
    ∙ sym (kind_at is_function all f) ∙ there

pub constants_call_functions : (items : List RawItem) (bytes : ℕ) → RawIsWellFormed items → Passes items → (k : ℕ) (constant : NamedConstant) →
    slice_get (named_program items bytes).constants k ≡ Some constant →
    (earlier : List UnitDef) (counts : DeclaredBefore) → counts.units ≡ length earlier →
    map (λ (u : UnitDef). u.kind) earlier ≡ map (λ (u : NamedUnit). u.kind) (take (length earlier) (named_program items bytes).units) →
    expr_placed counts constant.value ≡ true → calls_functions earlier constant.value ≡ true
constants_call_functions items bytes keeps passes k constant there earlier counts known kinds placed =
    let named = named_program items bytes in
    let all_kinds = map (λ (u : NamedUnit). u.kind) named.units in
    let all = stand_ins all_kinds in
    let calls = (program_suits items bytes keeps passes).calls all (stand_ins_are all_kinds) in
    calls_narrow all earlier counts
    (narrows all all_kinds earlier counts.units (stand_ins_are all_kinds)
    (kinds ∙ map_take (λ (u : NamedUnit). u.kind) (length earlier) named.units ∙ ap (λ n. take n all_kinds) (sym known)))
    constant.value placed (all_at (constant_calls all) named.constants k constant calls there)
