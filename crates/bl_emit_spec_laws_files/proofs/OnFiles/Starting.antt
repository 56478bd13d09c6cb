-- What the function of the start leaves.
use Rattle.std.proofs.Common.{◌≡◌, ℕ, ℤ, pos, Bool, true, false, List, [], ◌∷◌, Option, Some, None, refl, sym, ap, subst}
use Rattle.std.specs.Prelude.{codes, if◌then◌else◌}
use Rattle.bl_ctext_semantics.specs.Course.{Outcome, result_at}
use Rattle.bl_ctext_semantics.specs.Meaning.{CallResult, Meaning, Scope, block_c, function_c}
use Rattle.bl_ctext_semantics.specs.Memory.{Location, Memory, Projection, Root, cleared, in_frame, left_after, number_or, same_root, set_at, state_object}
use Rattle.bl_ctext_semantics.specs.Memory.{with_part, without_frame, zeros}
use Rattle.bl_ctext_semantics.specs.Tables.{Table, table_of}
use Rattle.bl_ctext_semantics.specs.Trace.{object}
use Rattle.bl_emit_acts.specs.Acts.{c_clear}
use Rattle.bl_emit_acts.specs.Trees.{c_place}
use Rattle.bl_emit_acts_laws_simulation.proofs.Statements.{Ends, clear_ends, one_ends}
use Rattle.bl_emit_spec.specs.Programs.{init_function}
use Rattle.bl_emit_spec_laws_files.proofs.OnFiles.Bodies.{whole_place}

-- each number of memory is 0
abbrev pub AllZero : Memory → Type 0
AllZero here = (root : Root) (way : List Projection) → here root way ≡ pos 0

without_zero : (depth : ℕ) (here : Memory) → AllZero here → AllZero (without_frame depth here)
without_zero depth here all root way = by (in_frame depth root)
  where
    by : (b : Bool) → (if b then zeros else here root) way ≡ pos 0
    by true = refl
    by false = all root way

number_zero : (left : Option (List Projection)) (old : ℤ) → old ≡ pos 0 → number_or left zeros old ≡ pos 0
number_zero None old is = is
number_zero (Some rest) old is = refl

set_zero : (here : Memory) (place : Location) → AllZero here → AllZero (set_at here place zeros)
set_zero here place all root way = by (same_root place.root root)
  where
    by : (b : Bool) → (if b then with_part (here root) place.parts zeros else here root) way ≡ pos 0
    by true = number_zero (left_after place.parts way) (here root way) (all root way)
    by false = all root way

-- the whole of what a program keeps
abbrev state_place : Location
state_place = record { root = state_object; parts = [] }

abbrev start_scope : Table Meaning → Scope
start_scope known = record { known = known; depth = 0; pointers = table_of ((codes "s", state_place) ∷ []) }

module _ (known : Table Meaning) where
  -- a call of the function of the start
  abbrev pub begun : CallResult
  begun = function_c known init_function 0 (object state_object ∷ []) cleared

  abbrev first : Memory
  first = without_frame 0 cleared

  abbrev body : Outcome Memory
  body = block_c (c_clear (c_place true (codes "s") []) (codes "bl_state") ∷ []) (start_scope known) first

  body_ends : Ends body (Some (set_at first state_place zeros))
  body_ends =
      one_ends (start_scope known) first (c_clear (c_place true (codes "s") []) (codes "bl_state"))
      (Some (set_at first state_place zeros))
      (subst (λ (o : Option Memory). Ends (Rattle.bl_ctext_semantics.specs.Meaning.runs_c
      (c_clear (c_place true (codes "s") []) (codes "bl_state")) (start_scope known) first) o)
      (ap (λ (c : Rattle.bl_ctext_semantics.specs.Meaning.Counted Location). Rattle.std.specs.Prelude.option_map (λ p. set_at first p zeros) c.answer)
      (whole_place (start_scope known) first (codes "s")))
      (clear_ends (start_scope known) first (c_place true (codes "s") []) (codes "bl_state")))

  -- it goes on, and leaves memory that is 0
  pub begun_result : begun.result ≡ Some (pos 0)
  begun_result = ap result_at body_ends.0

  pub begun_zero : AllZero begun.memory
  begun_zero =
      without_zero 0 body.memory (subst (λ (m : Memory). AllZero m) (sym body_ends.1)
      (set_zero first state_place (without_zero 0 cleared (λ root way. refl))))
