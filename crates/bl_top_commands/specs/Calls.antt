-- What a call finds and leaves.
use Rattle.std.specs.Prelude.{ℕ, List, Option}
use Rattle.bl_io.specs.Count.{Rose}
use Rattle.bl_top_args.specs.Jobs.{Word}

-- a count of faults before and after the call
pub record Count : Type 0 where
  pub before : ℕ
  pub after : ℕ

-- a count rose, or stands where it can rise no more
abbrev pub HasRisen : Count → Type 0
HasRisen count = Rose count.before count.after

-- a sink: its counts of faults, and its content before the call and after it, where that is known
pub record Output : Type 0 where
  pub faults : Count
  pub before : Option (List ℕ)
  pub after : Option (List ℕ)

-- a sink with these counts of faults and this content before the call and after it
abbrev pub output_of : ℕ → ℕ → Option (List ℕ) → Option (List ℕ) → Output
output_of before after held left = record { faults = record { before = before; after = after }; before = held; after = left }

-- what a call of the program finds, and what it leaves
pub record Call : Type 0 where
  -- what is left of each file before the call and after it, where that is told
  pub left : Word → Option (List ℕ)
  pub rest : Word → Option (List ℕ)
  -- the count of faults of each file
  pub file : Word → Count
  pub out : Output
  pub notes : Output

-- a call with these contents of each file before and after it, these counts of each file's faults before and after it, and these sinks
abbrev pub call_of : (Word → Option (List ℕ)) → (Word → Option (List ℕ)) → (Word → ℕ) → (Word → ℕ) → Output → Output → Call
call_of left rest before after out notes = record {
  left = left;
  rest = rest;
  file = λ name. record { before = before name; after = after name };
  out = out;
  notes = notes;
}
