-- How C statements follow one another, whatever the memory is that they change: how each ends, what comes then, and how many were executed.
use Rattle.std.specs.Prelude.{ℕ, zero, suc, ◌+◌, ℤ, pos, Bool, true, false, List, [], ◌∷◌, Option, Some, None}

-- ---- ends

-- how a statement ends
pub data End : Type 0 where
  goes_on : End
  breaks : End
  -- a return with the function's result, 0 where it has none
  returns : ℤ → End
  traps : End

-- the result of a function whose body has ended
abbrev pub result_at : End → Option ℤ
result_at goes_on = Some (pos 0)
result_at breaks = Some (pos 0)
result_at (returns result) = Some result
result_at traps = None

-- ---- outcomes

-- the outcome of a statement: the memory after it, how it ended, and how many statements were executed
pub record Outcome (M : Type 0) : Type 0 where
  pub memory : M
  pub end : End
  pub count : ℕ

-- the outcome with this end and this memory
abbrev pub ending : {M : Type 0} → End → M → Outcome M
ending end memory = record { memory = memory; end = end; count = 0 }

-- a statement after which the next comes, with this memory
abbrev pub going : {M : Type 0} → M → Outcome M
going memory = ending goes_on memory

-- an outcome with n more statements before it
abbrev pub after_statements : {M : Type 0} → ℕ → Outcome M → Outcome M
after_statements n o = record { memory = o.memory; end = o.end; count = n + o.count }

-- the outcome of a statement whose evaluation says how it ends; the statement counts itself
abbrev pub ended_by : {M A : Type 0} → M → ℕ → Option A → (A → Outcome M) → Outcome M
ended_by memory n None rest = record { memory = memory; end = traps; count = n }
ended_by memory n (Some a) rest = after_statements n (rest a)

-- ---- blocks

-- the outcome of what follows a statement that goes on, or else its own end
abbrev pub following_end : {M : Type 0} → ℕ → M → End → (M → Outcome M) → Outcome M
following_end n memory goes_on rest = after_statements n (rest memory)
following_end n memory breaks rest = record { memory = memory; end = breaks; count = n }
following_end n memory (returns result) rest = record { memory = memory; end = returns result; count = n }
following_end n memory traps rest = record { memory = memory; end = traps; count = n }

-- the outcome of what follows an outcome that goes on
abbrev pub following : {M : Type 0} → Outcome M → (M → Outcome M) → Outcome M
following o rest = following_end o.count o.memory o.end rest

-- the outcome of statements one after the other, from what each does
abbrev pub in_order : {M : Type 0} → List (M → Outcome M) → M → Outcome M
in_order [] memory = going memory
in_order (run ∷ rest) memory = following (run memory) (λ m. in_order rest m)

-- ---- loops

-- the outcome after a turn of a loop: `break` goes on with what follows the loop, else the next turn comes
abbrev pub turn_end : {M : Type 0} → ℕ → M → End → (M → Outcome M) → Outcome M
turn_end n memory goes_on again = after_statements n (again memory)
turn_end n memory breaks again = record { memory = memory; end = goes_on; count = n }
turn_end n memory (returns result) again = record { memory = memory; end = returns result; count = n }
turn_end n memory traps again = record { memory = memory; end = traps; count = n }

-- a loop that goes on, by its condition: a turn begins where it is true, which counts one
abbrev pub turn_or_none : {M : Type 0} → Bool → M → (M → Outcome M) → Outcome M
turn_or_none true memory turn = after_statements 1 (turn memory)
turn_or_none false memory turn = going memory

-- the outcome of a loop with so many turns left, from what its condition and its body do. The turn after the last one traps
unfoldable pub loop_with_turns : {M : Type 0} → ℕ → ((M → Outcome M) → M → Outcome M) → (M → Outcome M) → M → Outcome M
loop_with_turns zero once body = once (ending traps)
loop_with_turns (suc n) once body = once (λ m. let o = body m in turn_end o.count o.memory o.end (loop_with_turns n once body))

-- how many turns of a loop can end
unfoldable pub turn_limit : ℕ
turn_limit = 65536
