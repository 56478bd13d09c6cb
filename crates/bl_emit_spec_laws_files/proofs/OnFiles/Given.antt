-- The places that a tick gives keep apart.
use Rattle.std.proofs.Common.{◌≡◌, Bool, true, false, not, ◌&&◌, ◌||◌, List, [], ◌∷◌, ◌++◌, map, None}
use Rattle.std.proofs.Common.{append_assoc, refl, sym, ap, ◌∙◌, subst}
use Rattle.std.specs.List.{list_all, list_any}
use Rattle.std.specs.Prelude.{bytes_eq, is_some}
use Rattle.std.proofs.lemmas.Bool.{and_from}
use Rattle.bl_tree.proofs.Basics.{neither_first, neither_second}
use Rattle.bl_tree.specs.declared.tree.Unit.{Unit as UnitDef}
use Rattle.bl_tree.specs.declared.tree.Var.{Var}
use Rattle.bl_tree.specs.Program.{names_of}
use Rattle.bl_tree.specs.Typing.{inputs_of, outputs_of}
use Rattle.bl_tree.specs.Words.{are_distinct}
use Rattle.bl_ctext_semantics.specs.Memory.{Location}
use Rattle.bl_emit_acts_laws_simulation.specs.Acts.{all_apart}
use Rattle.bl_emit_acts_laws_simulation.specs.Encodes.{are_apart, is_live}
use Rattle.bl_emit_spec.specs.Blocks.{unit_may_end}
use Rattle.bl_emit_spec.specs.Lent.{lent_unit}
use Rattle.bl_emit_spec_laws.specs.Calls.Calls.{MayGive, where_true, written_by}
use Rattle.bl_emit_spec_laws_files.specs.States.States.{frame_place, memory_place, output_place}
use Rattle.bl_emit_spec_laws_files.proofs.OnFiles.Bodies.{input_place, over_place, port_places, tick_gives}
use Rattle.bl_emit_spec_laws_files.proofs.OnFiles.Inputs.{Differs, first_differs, rest_distinct}
use Rattle.bl_ctext_semantics_laws.proofs.Lists.{all-true}

-- the places of outputs, and that of the end, where the test is true
abbrev outputs_then : Bool → List Var → List Location
outputs_then ends vars = map output_place vars ++ where_true ends over_place

-- the places of inputs before those
abbrev ports_then : Bool → List Var → List Var → List Location
ports_then ends ins outs = map input_place ins ++ outputs_then ends outs

-- a place of the state keeps apart from outputs and from what is told
state_apart : (ends : Bool) (place : Location) → ((var : Var) → are_apart place (output_place var) ≡ true) → are_apart place over_place ≡ true →
    (vars : List Var) →
    list_all (are_apart place) (outputs_then ends vars) ≡ true
state_apart true place outs over [] = and_from (are_apart place over_place) true over refl
state_apart false place outs over [] = refl
state_apart ends place outs over (var ∷ vars) =
    and_from (are_apart place (output_place var)) (list_all (are_apart place) (outputs_then ends vars)) (outs var) (state_apart ends place outs over vars)

differing : (b : Bool) → b ≡ false → (not b || false) ≡ true
differing false is = refl
differing true is = absurd (cc)

output_apart : (ends : Bool) (var : Var) (vars : List Var) → Differs var.name vars →
    list_all (are_apart (output_place var)) (outputs_then ends vars) ≡ true
output_apart true var [] differs = refl
output_apart false var [] differs = refl
output_apart ends var (other ∷ vars) differs =
    and_from (are_apart (output_place var) (output_place other)) (list_all (are_apart (output_place var)) (outputs_then ends vars))
    (differing (bytes_eq var.name other.name) (neither_first (bytes_eq var.name other.name) (list_any (bytes_eq var.name) (names_of vars)) differs))
    (output_apart ends var vars (neither_second (bytes_eq var.name other.name) (list_any (bytes_eq var.name) (names_of vars)) differs))

outputs_apart : (ends : Bool) (vars : List Var) → are_distinct (names_of vars) ≡ true → all_apart (outputs_then ends vars) ≡ true
outputs_apart true [] distinct = refl
outputs_apart false [] distinct = refl
outputs_apart ends (var ∷ vars) distinct =
    and_from (list_all (are_apart (output_place var)) (outputs_then ends vars)) (all_apart (outputs_then ends vars))
    (output_apart ends var vars (first_differs var vars distinct)) (outputs_apart ends vars (rest_distinct var vars distinct))

-- a place apart from inputs, and from what stands behind them
all_behind : (place : Location) → ((var : Var) → are_apart place (input_place var) ≡ true) → (rest : List Location) →
    list_all (are_apart place) rest ≡ true → (vars : List Var) → list_all (are_apart place) (map input_place vars ++ rest) ≡ true
all_behind place ins rest all [] = all
all_behind place ins rest all (var ∷ vars) =
    and_from (are_apart place (input_place var)) (list_all (are_apart place) (map input_place vars ++ rest)) (ins var) (all_behind place ins rest all vars)

input_apart : (rest : List Location) (var : Var) → list_all (are_apart (input_place var)) rest ≡ true → (vars : List Var) → Differs var.name vars →
    list_all (are_apart (input_place var)) (map input_place vars ++ rest) ≡ true
input_apart rest var all [] differs = all
input_apart rest var all (other ∷ vars) differs =
    and_from (are_apart (input_place var) (input_place other)) (list_all (are_apart (input_place var)) (map input_place vars ++ rest))
    (differing (bytes_eq var.name other.name) (neither_first (bytes_eq var.name other.name) (list_any (bytes_eq var.name) (names_of vars)) differs))
    (input_apart rest var all vars (neither_second (bytes_eq var.name other.name) (list_any (bytes_eq var.name) (names_of vars)) differs))

-- an input has nothing in common with outputs and with the end
input_beside : (ends : Bool) (var : Var) (outs : List Var) → list_all (are_apart (input_place var)) (outputs_then ends outs) ≡ true
input_beside ends var outs = state_apart ends (input_place var) (λ other. refl) refl outs

ports_apart : (ends : Bool) (ins outs : List Var) → are_distinct (names_of ins) ≡ true → are_distinct (names_of outs) ≡ true →
    all_apart (ports_then ends ins outs) ≡ true
ports_apart ends [] outs ins_differ outs_differ = outputs_apart ends outs outs_differ
ports_apart ends (var ∷ ins) outs ins_differ outs_differ =
    and_from (list_all (are_apart (input_place var)) (ports_then ends ins outs)) (all_apart (ports_then ends ins outs))
    (input_apart (outputs_then ends outs) var (input_beside ends var outs) ins (first_differs var ins ins_differ))
    (ports_apart ends ins outs (rest_distinct var ins ins_differ) outs_differ)

-- all that may be written
abbrev places : Bool → Bool → List Var → List Var → List Location
places remembers ends ins outs = frame_place ∷ (where_true remembers memory_place ++ ports_then ends ins outs)

-- a place of the state keeps apart from all ports
from_ports : (ends : Bool) (place : Location) → ((var : Var) → are_apart place (input_place var) ≡ true) →
    ((var : Var) → are_apart place (output_place var) ≡ true) → are_apart place over_place ≡ true → (ins outs : List Var) →
    list_all (are_apart place) (ports_then ends ins outs) ≡ true
from_ports ends place to_ins to_outs over ins outs =
    all_behind place to_ins (outputs_then ends outs) (state_apart ends place to_outs over outs) ins

places_apart : (remembers ends : Bool) (ins outs : List Var) → are_distinct (names_of ins) ≡ true → are_distinct (names_of outs) ≡ true →
    all_apart (places remembers ends ins outs) ≡ true
places_apart true ends ins outs ins_differ outs_differ =
    and_from (list_all (are_apart frame_place) (ports_then ends ins outs))
    (list_all (are_apart memory_place) (ports_then ends ins outs) && all_apart (ports_then ends ins outs))
    (from_ports ends frame_place (λ var. refl) (λ var. refl) refl ins outs)
    (and_from (list_all (are_apart memory_place) (ports_then ends ins outs)) (all_apart (ports_then ends ins outs))
    (from_ports ends memory_place (λ var. refl) (λ var. refl) refl ins outs) (ports_apart ends ins outs ins_differ outs_differ))
places_apart false ends ins outs ins_differ outs_differ =
    and_from (list_all (are_apart frame_place) (ports_then ends ins outs)) (all_apart (ports_then ends ins outs))
    (from_ports ends frame_place (λ var. refl) (λ var. refl) refl ins outs) (ports_apart ends ins outs ins_differ outs_differ)

outputs_live : (ends : Bool) (vars : List Var) → list_all (λ (place : Location). is_live 0 place.root) (outputs_then ends vars) ≡ true
outputs_live true [] = refl
outputs_live false [] = refl
outputs_live ends (var ∷ vars) = outputs_live ends vars

ports_live : (ends : Bool) (ins outs : List Var) → list_all (λ (place : Location). is_live 0 place.root) (ports_then ends ins outs) ≡ true
ports_live ends [] outs = outputs_live ends outs
ports_live ends (var ∷ ins) outs = ports_live ends ins outs

places_live : (remembers ends : Bool) (ins outs : List Var) →
    list_all (λ (place : Location). is_live 0 place.root) (places remembers ends ins outs) ≡ true
places_live true ends ins outs = ports_live ends ins outs
places_live false ends ins outs = ports_live ends ins outs

module _ (unit : UnitDef) (remembers : Bool) (resultless : unit.result ≡ None) (ins_differ : are_distinct (names_of (inputs_of unit)) ≡ true)
    (outs_differ : are_distinct (names_of (outputs_of unit)) ≡ true) where
  written_is : places remembers (unit_may_end unit) (inputs_of unit) (outputs_of unit) ≡ written_by (lent_unit unit) remembers (tick_gives unit)
  written_is =
      ap (λ (rest : List Location). frame_place ∷ (where_true remembers memory_place ++ rest))
      (sym (append_assoc (map input_place (inputs_of unit)) (map output_place (outputs_of unit)) (where_true (unit_may_end unit) over_place)))
      ∙ ap (λ (b : Bool). frame_place ∷ (where_true remembers memory_place ++ (port_places unit
      ++ (where_true b over_place ++ where_true (unit_may_end unit) over_place)))) (sym (ap is_some resultless))

  pub may_give : MayGive (lent_unit unit) remembers 0 (tick_gives unit)
  may_give = record {
    apart = subst (λ (ps : List Location). all_apart ps ≡ true) written_is
        (places_apart remembers (unit_may_end unit) (inputs_of unit) (outputs_of unit) ins_differ outs_differ);
    inputs_apart =
        all-true (λ (place : Location). list_all (are_apart place) []) (λ place. refl) (written_by (lent_unit unit) remembers (tick_gives unit));
    live =
        subst (λ (ps : List Location). list_all (λ (place : Location). is_live 0 place.root) ps ≡ true) written_is
        (places_live remembers (unit_may_end unit) (inputs_of unit) (outputs_of unit));
  }
