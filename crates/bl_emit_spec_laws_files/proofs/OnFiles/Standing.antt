-- A file that ends with the interface stands.
use Rattle.std.proofs.Common.{◌≡◌, ℕ, Bool, false, List, [], ◌∷◌, ◌++◌, map, Option, Some, None}
use Rattle.std.proofs.Common.{refl, sym, ap, ◌∙◌, subst, arith}
use Rattle.std.specs.Prelude.{bytes_eq, codes, Contains, unwrap_or, if◌then◌else◌}
use Rattle.bl_tree.proofs.Basics.{contains_first, contains_further}
use Rattle.bl_tree.specs.declared.c.CFunc.{CFunc}
use Rattle.bl_tree.specs.declared.c.CMember.{CMember}
use Rattle.bl_tree.specs.declared.c.CStruct.{CStruct}
use Rattle.bl_tree.specs.declared.text.Text.{Text}
use Rattle.bl_tree.specs.declared.tree.StructDef.{StructDef}
use Rattle.bl_tree.specs.declared.tree.Unit.{Unit as UnitDef}
use Rattle.bl_ctext_semantics.specs.Meaning.{Meaning, applied, function_c, meanings_after}
use Rattle.bl_ctext_semantics.specs.Tables.{Table, found, no_entries, with_entry}
use Rattle.bl_ctree.specs.Instances.{Setting}
use Rattle.bl_emit_acts.specs.Types.{unit_name}
use Rattle.bl_emit_functions_laws_simulation.specs.Units.{known_after}
use Rattle.bl_emit_spec.specs.Activities.{remembers_any}
use Rattle.bl_emit_spec.specs.Programs.{init_function, interface_structs, tick_function}
use Rattle.bl_emit_spec_laws.specs.Calls.Built.{Activities, activity_at}
use Rattle.bl_emit_spec_laws.specs.Calls.Calls.{ActivitySimulates, CallLeaves, passed_to}
use Rattle.bl_emit_spec_laws_files.specs.Files.{FileStands, FilesStand, NoneOfInterface, file_with, known_at_tick}
use Rattle.bl_ctext_semantics.proofs.MapLemmas.{nothing_after}

-- ---- members of lists

-- ---- what stands under a name

abbrev members_by_name : CStruct → Text × List CMember
members_by_name s = (s.name, s.members)

struct_behind : (asked : Text) (before rest : List CStruct) → ((s : CStruct) → Contains before s → bytes_eq s.name asked ≡ false) →
    found asked (map members_by_name (before ++ rest)) ≡ found asked (map members_by_name rest)
struct_behind asked [] rest none = refl
struct_behind asked (s ∷ before) rest none =
    ap (λ (b : Bool). if b then Some s.members else found asked (map members_by_name (before ++ rest))) (none s (contains_first s before))
    ∙ struct_behind asked before rest (λ t at. none t (contains_further s before t at))

function_behind : (asked : Text) (known : Table Meaning) (functions rest : List CFunc) →
    ((f : CFunc) → Contains functions f → bytes_eq f.name asked ≡ false) →
    found asked (meanings_after known (functions ++ rest)) ≡ found asked (meanings_after (known_after known functions) rest)
function_behind asked known [] rest none = refl
function_behind asked known (f ∷ functions) rest none =
    ap (λ (b : Bool). if b then Some (function_c known f)
    else found asked (meanings_after (with_entry known f.name (function_c known f)) (functions ++ rest))) (none f (contains_first f functions))
    ∙ function_behind asked (with_entry known f.name (function_c known f)) functions rest (λ g at. none g (contains_further f functions g at))

-- ---- the file

module _ (structs : List StructDef) (unit : UnitDef) (remembers : Bool) (before : List CStruct) (functions : List CFunc)
    (none : NoneOfInterface before functions) where
  abbrev last : List CFunc
  last = init_function ∷ tick_function unit remembers ∷ []

  other_start : (f : CFunc) → Contains functions f → bytes_eq f.name (codes "bl_init") ≡ false
  other_start f at = let named = none.named f at in ap (λ (name : Text). bytes_eq name (codes "bl_init")) named.1

  other_tick : (f : CFunc) → Contains functions f → bytes_eq f.name (codes "bl_tick") ≡ false
  other_tick f at = let named = none.named f at in ap (λ (name : Text). bytes_eq name (codes "bl_tick")) named.1

  file_stands : FileStands structs unit remembers (known_at_tick unit functions) (file_with structs unit remembers before functions)
  file_stands = record {
    inputs = ap (λ (o : Option (List CMember)). Rattle.std.specs.Prelude.drop 1 (unwrap_or o []))
        (struct_behind (codes "bl_in") before (interface_structs structs unit remembers) none.inputs);
    outputs = ap (λ (o : Option (List CMember)). Rattle.std.specs.Prelude.drop 1 (unwrap_or o []))
        (struct_behind (codes "bl_out") before (interface_structs structs unit remembers) none.outputs);
    before = known_after no_entries functions;
    starts = function_behind (codes "bl_init") no_entries functions last other_start;
    ticks = function_behind (codes "bl_tick") no_entries functions last other_tick;
  }

-- ---- what is known at the tick

known_same : (unit : UnitDef) (functions : List CFunc) (name : Text) → known_at_tick unit functions (unit_name name)
    ≡ known_after no_entries functions (unit_name name)
known_same unit functions name = nothing_after (known_after no_entries functions (unit_name name))

comes_there : (w : Setting) (activities : Activities) (u : ℕ) (entry : UnitDef) (functions : List CFunc) →
    ActivitySimulates w activities u (known_after no_entries functions) 0 → ActivitySimulates w activities u (known_at_tick entry functions) 0
comes_there w activities u entry functions comes = record {
  executes = λ i unit given frames store r frames' left r' memory number is may begins starts pass.
      subst (λ (o : Option Meaning). CallLeaves w activities i unit 0 given frames' left r' memory
      (applied o 1 (passed_to unit (remembers_any (activity_at w activities i)) given) memory)) (sym (known_same entry functions unit.name))
      (comes.executes i unit given frames store r frames' left r' memory number is may begins starts pass);
  cut = λ i unit given frames store r memory number is may begins starts cut.
      subst (λ (o : Option Meaning). (applied o 1 (passed_to unit (remembers_any (activity_at w activities i)) given) memory).result ≡ None)
      (sym (known_same entry functions unit.name)) (comes.cut i unit given frames store r memory number is may begins starts cut);
}

pub files_stand : FilesStand
files_stand = record {
  stands = λ structs unit remembers before functions none. file_stands structs unit remembers before functions none;
  comes = comes_there;
}
