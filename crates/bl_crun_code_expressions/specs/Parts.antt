-- Parts of the code of places, arguments and calls.
use Rattle.std.specs.Prelude.{◌≡◌, ℕ, zero, suc, Bool, true, false, not, List, [], ◌∷◌, ◌++◌, map, Option, Some}
use Rattle.bl_tree.specs.declared.c.CType.{CType}
use Rattle.bl_tree.specs.declared.c.CType.TheVariants.{Scalar as OfScalar}
use Rattle.bl_tree.specs.declared.c.CArg.{CArg}
use Rattle.bl_tree.specs.declared.c.CPlace.{CPlace, out-CPlace}
use Rattle.bl_ctext.specs.declared.builtin.Builtin.{Builtin}
use Rattle.bl_ctext_semantics_laws.specs.Reaching.{Ground, Reach, Term}
use Rattle.bl_crun_code.specs.declared.instruction.Operand.{Operand}
use Rattle.bl_crun_code.specs.declared.instruction.Operand.TheVariants as op
use Rattle.bl_crun_code.specs.declared.instruction.Act.{Act}
use Rattle.bl_crun_code.specs.declared.instruction.Act.TheVariants as act
use Rattle.bl_crun_code.specs.Code.{Code, FunctionEntry, Ready, Valued, address_in, address_valued, along_ready, arg_code, args_code, depth_behind, ending_with, pair_code, read_valued, start_ready, uncounted}
use Rattle.bl_crun_code_layout.specs.declared.place.IndexTerm.{IndexTerm}
use Rattle.bl_crun_code_layout.specs.declared.place.Walk.{Walk}
use Rattle.bl_crun_code_layout.specs.Places.{term_of}
use Rattle.bl_crun_code_expressions.specs.declared.operand.Pair.{Pair}

-- the operands of two values, the left one first, and how the second is compiled
pub record IsPair (first second : Valued) (late : Bool) (depth : ℕ) (pair : Pair) : Type 0 where
  pub left : pair.left ≡ (first.ready late depth).it
  pub as_late : pair.second.late ≡ late
  pub behind : pair.second.depth ≡ depth_behind depth (first.ready late depth).it
  pub right : pair.right ≡ (second.ready late (depth_behind depth (first.ready late depth).it)).it

-- the instruction that reads two values, the left one first
abbrev pub pair_act : Valued → Valued → Bool → ℕ → (Operand → Operand → Act) → Act
pair_act first second late depth does = does (first.ready late depth).it (second.ready late (depth_behind depth (first.ready late depth).it)).it

-- what is seen at a place: the number of its first cell, or what is read there
abbrev pub seen : Bool → Reach Valued → Valued
seen true reach = address_valued reach
seen false reach = read_valued reach.ty reach

-- whether the number that stands at a place of a type is seen there
abbrev pub is_fetched : Bool → Option CType → Bool
is_fetched address (Some (OfScalar s)) = not address
is_fetched address _ = false

-- what is seen at the operand of a place
abbrev pub taken : Bool → Operand → Operand
taken true o = o
taken false o = address_in o

-- code that writes what is seen at a place
abbrev pub taken_code : Bool → Operand → Ready → Code
taken_code fetched into place = ending_with place (λ a. act.Move into (taken fetched a))

-- a place that was walked to
abbrev pub walk_ready : Ground FunctionEntry → CPlace → Walk → Bool → ℕ → Ready
walk_ready here at walk late depth = along_ready late depth (start_ready late depth walk.start) (map (term_of here (out-CPlace at).steps) walk.terms.items)

-- the operand that has the number of the cell from which the index of a number is taken
abbrev pub base_at : ℕ → Bool → ℕ → Operand → Operand
base_at zero late depth start = address_in (start_ready late depth start).it
base_at (suc k) late depth start = op.Temporary depth

-- one index, from the cell whose number an operand has
abbrev pub element_code : Bool → ℕ → Operand → Term Valued → Code
element_code late depth at term = ending_with (term.index.ready late (depth_behind depth at)) (λ i. act.Element depth at i term.length term.size)

-- an index that a value chooses
abbrev pub term_with : IndexTerm → Valued → Term Valued
term_with t value = record { length = t.length; size = t.size; index = value }

-- arguments
abbrev pub args_of : Ground FunctionEntry → List CArg → List Valued
args_of here args = map (λ arg. arg here) (map arg_code args)

-- the code of a call of the prelude whose result is written
abbrev pub prelude_code : Builtin → List Valued → Bool → ℕ → Operand → Code
prelude_code builtin (a ∷ []) late depth into = ending_with (a.ready late depth) (λ x. act.One builtin into x)
prelude_code builtin (a ∷ b ∷ []) late depth into = pair_code a b late depth (λ x y. act.Both builtin into x y)
prelude_code builtin args late depth into = args_code late depth args ++ uncounted act.Stop ∷ []
