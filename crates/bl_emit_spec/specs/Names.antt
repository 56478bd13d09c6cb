-- Where the C function of an activity keeps the registers of a pass, and their names.
use Rattle.std.specs.Prelude.{ℕ, true, false, [], ◌∷◌, ◌++◌, codes}
use Rattle.std.specs.Fmt.{decimal}
use Rattle.bl_tree.specs.declared.text.Text.{Text}
use Rattle.bl_tree.specs.declared.c.CPlace.{CPlace}
use Rattle.bl_emit_acts.specs.Trees.{c_place, c_step}

-- ---- numbers with words

-- a number and a word, of which a name is made: the number tells names apart, and the word leads back to the source
pub record NumberedWord : Type 0 where
  pub number : ℕ
  pub word : Text

-- the number, `_`, and the word
abbrev pub numbered_word : NumberedWord → Text
numbered_word k = decimal k.number ++ (codes "_" ++ k.word)

-- a number and the word that belongs to it
abbrev pub with_word : (ℕ → Text) → ℕ → NumberedWord
with_word word k = record { number = k; word = word k }

-- ---- structs and functions

-- the struct of where an activity rests: its counters, and the like structs of the activities that it runs
abbrev pub frame_name : Text → Text
frame_name name = codes "f_" ++ name

-- the member for a counter
abbrev pub counter_name : ℕ → Text
counter_name k = codes "c" ++ decimal k

-- the member for what the `run`s of one place keep, by the number of the place and the name of the activity that they call: in the struct of counters
-- its callee's counters, in the struct of variables its callee's variables
abbrev pub callee_name : NumberedWord → Text
callee_name k = codes "x" ++ numbered_word k

-- ---- locals

-- what a counter held when the tick began
abbrev pub rested_name : ℕ → Text
rested_name k = codes "w" ++ decimal k

-- the flag of the node with this number and word
abbrev pub flag_name : NumberedWord → Text
flag_name k = codes "g" ++ numbered_word k

-- the mark of the `cobegin` or `when` that begins at the node with this number and word
abbrev pub mark_name : NumberedWord → Text
mark_name k = codes "u" ++ numbered_word k

-- whether the body of the activity that was called last has ended: one local for all `run`s of activities that may end
abbrev pub ended_name : Text
ended_name = codes "ended"

-- the name of the result of the activity that a `run` calls, by the number of the place of the `run` and the name of the activity
abbrev pub given_name : NumberedWord → Text
given_name k = codes "r" ++ numbered_word k

-- ---- places

-- a counter
abbrev pub counter_place : ℕ → CPlace
counter_place k = c_place true (codes "f") (c_step (counter_name k) ∷ [])

-- the place of what a counter held when the tick began
abbrev pub rested_place : ℕ → CPlace
rested_place k = c_place false (rested_name k) []

-- the flag of the node with this number and word
abbrev pub flag_place : NumberedWord → CPlace
flag_place k = c_place false (flag_name k) []

-- the mark of the `cobegin` or `when` that begins at the node with this number and word
abbrev pub mark_place : NumberedWord → CPlace
mark_place k = c_place false (mark_name k) []

-- whether the body has ended: the caller's variable
abbrev pub over_place : CPlace
over_place = c_place true (codes "e") []

-- the result: the caller's variable
abbrev pub result_place : CPlace
result_place = c_place true (codes "r") []

-- the place of whether the body of the activity that was called last has ended
abbrev pub ended_place : CPlace
ended_place = c_place false ended_name []

-- the place of the result of the activity that a `run` calls
abbrev pub given_place : NumberedWord → CPlace
given_place k = c_place false (given_name k) []

-- the place of where the activity that a `run` calls rests
abbrev pub callee_frame : NumberedWord → CPlace
callee_frame k = c_place true (codes "f") (c_step (callee_name k) ∷ [])

-- the place of what the activity that a `run` calls remembers
abbrev pub callee_memory : NumberedWord → CPlace
callee_memory k = c_place true (codes "m") (c_step (callee_name k) ∷ [])
