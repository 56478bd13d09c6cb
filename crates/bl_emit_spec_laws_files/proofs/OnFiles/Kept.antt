-- What memory holds of the entry stands in two objects alone.
use Rattle.std.proofs.Common.{◌≡◌, ℕ, List, [], ◌∷◌, ◌++◌, map, Some, refl, sym, ◌∙◌, subst}
use Rattle.std.specs.Prelude.{codes}
use Rattle.bl_tree.specs.declared.tree.StructDef.{StructDef}
use Rattle.bl_tree.specs.declared.tree.Var.{Var}
use Rattle.bl_tree.specs.declared.value.Value.{Value}
use Rattle.bl_ctext_semantics.specs.Memory.{Location, Memory, Projection, Root, member, output_object, state_object}
use Rattle.bl_ctree.specs.Instances.{Setting}
use Rattle.bl_ctree.specs.Store.{Store}
use Rattle.bl_emit_acts.specs.Types.{variable_name}
use Rattle.bl_emit_acts_laws_simulation.specs.Acts.{OutputsEncoded}
use Rattle.bl_emit_acts_laws_simulation.specs.Encodes.{way_to}
use Rattle.bl_emit_spec.specs.Names.{counter_name}
use Rattle.bl_machine_pass_laws_execution.specs.Frames.{Frames}
use Rattle.bl_emit_spec_laws.specs.Calls.Built.{Activities, site_at}
use Rattle.bl_emit_spec_laws.specs.Calls.Memories as memories
use Rattle.bl_emit_spec_laws.specs.Calls.Memories.{MemoryEncodes, Nests}
use Rattle.bl_emit_spec_laws_files.specs.States.States.{frame_place, memory_place, output_place}

-- an object has the same numbers in both
abbrev pub Same : Root → Memory → Memory → Type 0
Same root here there = (way : List Projection) → there root way ≡ here root way

module _ (w : Setting) (activities : Activities) where
  -- what is nested stands at the roots of the outer places
  pub nested_frame : {i k : ℕ} {f m f' m' : Location} → Nests w activities i f m k f' m' → f'.root ≡ f.root
  nested_frame memories.here = refl
  nested_frame (memories.inside is within calls rest) = nested_frame rest

  pub nested_memory : {i k : ℕ} {f m f' m' : Location} → Nests w activities i f m k f' m' → m'.root ≡ m.root
  nested_memory memories.here = refl
  nested_memory (memories.inside is within calls rest) = nested_memory rest

  at_root : (here there : Memory) (root : Root) → Same state_object here there → root ≡ state_object → (way : List Projection) →
      there root way ≡ here root way
  at_root here there root same is way = subst (λ (r : Root). there r way ≡ here r way) (sym is) (same way)

  pub memory_moved : (frames : Frames) (store : Store) (here there : Memory) → Same state_object here there →
      MemoryEncodes w activities 0 frame_place memory_place frames store here → MemoryEncodes w activities 0 frame_place memory_place frames store there
  memory_moved frames store here there same holds = record {
    counters = λ k f' m' nests c less.
        at_root here there f'.root same (nested_frame nests) ((f'.parts ++ member (counter_name c) ∷ []) ++ [])
        ∙ holds.counters k f' m' nests c less;
    variables = λ k f' m' nests x var value is held is_value. record {
      each = λ ks n number.
          at_root here there m'.root same (nested_memory nests)
          ((m'.parts ++ member (variable_name (site_at w activities k).vars x) ∷ []) ++ way_to w.structs ks (Some var.ty))
          ∙ (holds.variables k f' m' nests x var value is held is_value).each ks n number;
    };
  }

pub outputs_moved : (structs : List StructDef) (here there : Memory) (vars : List Var) (values : List Value) → Same output_object here there →
    OutputsEncoded structs here vars values (map output_place vars) → OutputsEncoded structs there vars values (map output_place vars)
outputs_moved structs here there [] [] same holds = tt
outputs_moved structs here there [] (value ∷ values) same holds = absurd holds
outputs_moved structs here there (var ∷ vars) [] same holds = absurd holds
outputs_moved structs here there (var ∷ vars) (value ∷ values) same holds = (
  record { each = λ ks n number. same (member (codes "o_" ++ var.name) ∷ way_to structs ks (Some var.ty)) ∙ holds.0.each ks n number },
  outputs_moved structs here there vars values same holds.1,
)
