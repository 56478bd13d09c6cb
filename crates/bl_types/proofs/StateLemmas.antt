-- What is known after one part of a program and then another.
use Rattle.std.proofs.Common.{◌≡◌, List, ◌++◌, sym, ap, ◌∙◌}
use Rattle.bl_tree.specs.declared.rule.Failure.{Failure}
use Rattle.bl_types.specs.declared.environment.Environment.{Environment}
use Rattle.bl_types.specs.declared.environment.State.{State}
use Rattle.bl_types.specs.Declarations.{Declaring, and_then}
use Rattle.bl_types.specs.inner.States.{after, passed}
use Rattle.bl_types.proofs.NoteLemmas.{noted-append}

pub passed-passed : (state : State) (middle last : Environment) (first second : List Failure) →
    passed (passed state middle first) last second ≡ passed state last (first ++ second)
passed-passed state middle last first second = ap (λ notes. record { env = last; notes = notes }) (sym (noted-append state.notes first second))

pub after-after : (state : State) (first second : Environment → Declaring) →
    after (after state first) second ≡ after state (λ env. and_then (first env) second)
after-after state first second = passed-passed state (first state.env).env (second (first state.env).env).env
    (first state.env).failures (second (first state.env).env).failures

-- one more part of a list
pub state_next : (first rest : Environment → Declaring) (old middle found : State) → middle ≡ after old first →
    after old (λ env. and_then (first env) rest) ≡ found → after middle rest ≡ found
state_next first rest old middle found one h = ap (λ state. after state rest) one ∙ after-after old first rest ∙ h

-- one part, and then another that goes on from what is known after it
pub passed_then : (old middle last : State) (env : Environment) (first : List Failure) (next : Environment → Environment)
    (more : Environment → List Failure)
    → middle ≡ passed old env first → last ≡ passed middle (next middle.env) (more middle.env) → last ≡ passed old (next env) (first ++ more env)
passed_then old middle last env first next more one two =
    two ∙ ap (λ state. passed state (next state.env) (more state.env)) one ∙ passed-passed old env (next env) first (more env)

pub ruleset states = (passed-passed, after-after)
