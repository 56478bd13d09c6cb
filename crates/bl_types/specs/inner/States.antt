-- What is known on the way through a program, after more of it.
use Rattle.std.specs.Prelude.{List}
use Rattle.bl_tree.specs.declared.rule.Failure.{Failure}
use Rattle.bl_types.specs.declared.environment.Environment.{Environment}
use Rattle.bl_types.specs.declared.environment.State.{State}
use Rattle.bl_types.specs.Declarations.{Declaring}
use Rattle.bl_types.specs.Failures.{noted}

-- the state with another environment and further failures noted
abbrev pub passed : State → Environment → List Failure → State
passed state env failures = record { env = env; notes = noted state.notes failures }

-- the state after a part of the program
abbrev pub after : State → (Environment → Declaring) → State
after state part = passed state (part state.env).env (part state.env).failures
