-- Where a function's expressions and statements stand, and how a place is reached there.
use Rattle.std.specs.Prelude.{ℕ, ◌+◌, List, [], ◌∷◌, ◌++◌, Option, Some, None, option_and_then, if◌then◌else◌}
use Rattle.bl_tree.specs.declared.text.Text.{Text}
use Rattle.bl_tree.specs.declared.c.CType.{CType}
use Rattle.bl_tree.specs.declared.c.CType.TheVariants.{Struct as OfStruct}
use Rattle.bl_ctext_semantics.specs.Sizes.{Sizes, size_of_type}
use Rattle.bl_ctext_semantics.specs.Tables.{Table}
use Rattle.bl_ctext_semantics_laws.specs.Layout.{Layouts, MemberOffset, Slot, capped}

-- how values are laid out, what is known of the earlier functions, the frame of the running function, and how many cells it has
pub record Ground (K : Type 0) : Type 0 where
  pub sizes : Sizes
  pub structs : Layouts
  pub known : Table K
  pub slots : Table Slot
  pub frame : ℕ

-- the start of a place: n cells behind the base, or the cell whose number stands there
pub data Start : Type 0 where
  near : ℕ → Start
  through : ℕ → Start

-- an index: how many elements there are, how many cells each has, and which it is
pub record Term (I : Type 0) : Type 0 where
  pub length : ℕ
  pub size : ℕ
  pub index : I

-- an index as it is written, with its length
pub record Index (I : Type 0) : Type 0 where
  pub length : ℕ
  pub index : I

-- how a place is reached: its start, how many cells are passed behind it, further elements by indices, and the type of what stands there
pub record Reach (I : Type 0) : Type 0 where
  pub start : Start
  pub passed : ℕ
  pub terms : List (Term I)
  pub ty : Option CType

-- a step into something of a type
abbrev pub StepInto : Type 0 → Type 0 → Type 0
StepInto K I = Ground K → Option CType → Reach I

-- what stands for a place that no well-formed file has: it has no type
abbrev pub no_reach : {I : Type 0} → Reach I
no_reach = record { start = near 0; passed = 0; terms = []; ty = None }

-- the place of a whole parameter or local, or of what it points to
abbrev pub start_of_slot : {I : Type 0} → Option Slot → Reach I
start_of_slot None = no_reach
start_of_slot (Some slot) = record { start = if slot.pointer then through slot.at else near slot.at; passed = 0; terms = []; ty = Some slot.ty }

-- a step behind what was reached
abbrev pub onward : {I : Type 0} → Reach I → Reach I → Reach I
onward first step = record { start = first.start; passed = capped (first.passed + step.passed); terms = first.terms ++ step.terms; ty = step.ty }

-- one step after another
abbrev pub reach_along : {K I : Type 0} → List (StepInto K I) → Ground K → Reach I → Reach I
reach_along [] here reach = reach
reach_along (step ∷ steps) here reach = reach_along steps here (onward reach (step here reach.ty))

-- a member of a type, none where the type is no struct or has no such member
abbrev pub laid_in : {K : Type 0} → Ground K → Option CType → Text → Option MemberOffset
laid_in here (Some (OfStruct struct)) name = option_and_then (λ members. members name) (here.structs struct)
laid_in here _ name = None

-- the index of a step into values of a type, none where the step has none
abbrev pub element_terms : {K I : Type 0} → Ground K → CType → Option (Index I) → List (Term I)
element_terms here ty None = []
element_terms here ty (Some i) = record { length = i.length; size = size_of_type here.sizes ty; index = i.index } ∷ []

-- how a member that was found is reached from where its struct begins, and the element of it where there is an index
abbrev pub reach_member : {K I : Type 0} → Ground K → Option MemberOffset → Option (Index I) → Reach I
reach_member here None index = no_reach
reach_member here (Some laid) index =
    record { start = near 0; passed = laid.at; terms = element_terms here laid.it.ty index; ty = Some laid.it.ty }
