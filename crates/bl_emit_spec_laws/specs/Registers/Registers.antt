-- Where the registers of a pass stand in the memory of C, and when memory holds them.
use Rattle.std.specs.Prelude.{◌≡◌, ℕ, ℤ, pos, ◌<◌, ◌^◌, Bool, true, false, nat_eq, [], ◌∷◌, List, Some, codes}
use Rattle.bl_tree.specs.declared.text.Text.{Text}
use Rattle.bl_tree.specs.declared.tree.Var.{Var}
use Rattle.bl_tree.specs.Numbers.{number_of}
use Rattle.bl_tree.specs.Typing.{TypingContext, is_activity, var_at}
use Rattle.bl_ctext_semantics.specs.Meaning.{Scope, further, named_location}
use Rattle.bl_ctext_semantics.specs.Memory.{Location, Memory, Projection, Root, member, scalar_number, value_at}
use Rattle.bl_emit_acts.specs.declared.home.Home.TheVariants.{Held, Lent}
use Rattle.bl_emit_acts_laws_simulation.specs.Acts.{copy_location, lies_in}
use Rattle.bl_emit_acts_laws_simulation.specs.Frames.{is_older, lent_at, remembered_at}
use Rattle.bl_emit_acts_laws_simulation.specs.Encodes.{are_apart, home_at, is_live, location_in}
use Rattle.bl_machine_pass.specs.Registers.{Registers}
use Rattle.bl_emit_spec.specs.Names.{counter_name, flag_name, mark_name, rested_name, with_word}

-- one register of a pass in C
pub data Register : Type 0 where
  -- the counter with the number, which tells where the instance rests
  Counter : ℕ → Register
  -- what that counter held when the tick began
  Before : ℕ → Register
  -- the flag of the node with this number
  Flag : ℕ → Register
  -- the mark of the `cobegin` or `when` that begins at the node with this number
  Mark : ℕ → Register
  -- whether the body has ended
  Over : Register

-- whether two registers are the same
abbrev pub same_register : Register → Register → Bool
same_register (Counter j) (Counter k) = nat_eq j k
same_register (Before j) (Before k) = nat_eq j k
same_register (Flag j) (Flag k) = nat_eq j k
same_register (Mark j) (Mark k) = nat_eq j k
same_register Over Over = true
same_register _ _ = false

-- the registers that an activity has in C, by the numbers of its counters and nodes
pub record Registered : Type 0 where
  pub counters : ℕ → Bool
  -- the counters that have a copy of what they held when the tick began
  pub copied : ℕ → Bool
  pub flags : ℕ → Bool
  pub marks : ℕ → Bool
  -- the words in the C names of flags and marks, by the numbers of nodes
  pub words : ℕ → Text
  -- whether its body may end, which a register tells then
  pub over : Bool

-- whether a register is one of the activity's
abbrev pub has_register : Registered → Register → Bool
has_register has (Counter k) = has.counters k
has_register has (Before k) = has.copied k
has_register has (Flag k) = has.flags k
has_register has (Mark k) = has.marks k
has_register has Over = has.over

-- ---- places

-- the location to which the pointer to an instance's counters leads
abbrev pub frame_at : Scope → Location
frame_at scope = named_location scope true (codes "f")

-- the location in which a pass tells whether the body has ended
abbrev pub over_at : Scope → Location
over_at scope = named_location scope true (codes "e")

-- the place of a register
abbrev pub register_at : Registered → Scope → Register → Location
register_at has scope (Counter k) = further (frame_at scope) (member (counter_name k) ∷ [])
register_at has scope (Before k) = named_location scope false (rested_name k)
register_at has scope (Flag k) = named_location scope false (flag_name (with_word has.words k))
register_at has scope (Mark k) = named_location scope false (mark_name (with_word has.words k))
register_at has scope Over = further (over_at scope) []

-- ---- what memory holds

-- the number of a register
abbrev pub held_in : Registers → Register → ℤ
held_in r (Counter k) = pos (r.counters k)
held_in r (Before k) = pos (r.rested k)
held_in r (Flag k) = number_of (r.flags k)
held_in r (Mark k) = number_of (r.marks k)
held_in r Over = number_of r.over

-- each register of an activity has its number at its place
pub record RegistersEncoded (has : Registered) (scope : Scope) (r : Registers) (here : Memory) : Type 0 where
  pub each : (x : Register) → has_register has x ≡ true → scalar_number (value_at here (register_at has scope x)) ≡ held_in r x

-- a number of memory, at a way from a root, that belongs to no register
pub record Outside (has : Registered) (scope : Scope) (root : Root) (way : List Projection) : Type 0 where
  pub each : (x : Register) → has_register has x ≡ true → lies_in (register_at has scope x) root way ≡ false

-- memory holds registers, and all numbers that belong to no register are as they were
pub record RegistersEncodedAfter (has : Registered) (scope : Scope) (r : Registers) (here after : Memory) : Type 0 where
  pub registers : RegistersEncoded has scope r after
  pub kept : (root : Root) (way : List Projection) → Outside has scope root way → after root way ≡ here root way

-- ---- what keeps apart

-- the numbers in names are small, so that names with different numbers differ
pub record FewRegisters (has : Registered) : Type 0 where
  pub counters : (k : ℕ) → has.counters k ≡ true → k < 2 ^ 64
  pub copied : (k : ℕ) → has.copied k ≡ true → k < 2 ^ 64
  pub flags : (k : ℕ) → has.flags k ≡ true → k < 2 ^ 64
  pub marks : (k : ℕ) → has.marks k ≡ true → k < 2 ^ 64

-- the places of different registers have nothing in common, and are there
pub record RegistersApart (has : Registered) (scope : Scope) : Type 0 where
  pub each : (x y : Register) → has_register has x ≡ true → has_register has y ≡ true → same_register x y ≡ false →
      are_apart (register_at has scope x) (register_at has scope y) ≡ true
  pub live : (x : Register) → has_register has x ≡ true → is_live scope.depth (register_at has scope x).root ≡ true

-- the places of registers are apart from those of variables and copies
pub record RegistersBeside (has : Registered) (site : TypingContext) (scope : Scope) : Type 0 where
  pub variables : (x : Register) (k : ℕ) (var : Var) → has_register has x ≡ true → var_at site k ≡ Some var →
      are_apart (register_at has scope x) (location_in scope site k []) ≡ true
  pub copies : (x : Register) (k : ℕ) → has_register has x ≡ true → are_apart (register_at has scope x) (copy_location scope site.vars k) ≡ true

-- the pointers to the counters and to the end, if the body may end, lead to what was there before the function began, and apart from each other
pub record FramePointersAreValid (may_end : Bool) (scope : Scope) : Type 0 where
  pub frame_older : is_older scope.depth (frame_at scope).root ≡ true
  pub over_older : may_end ≡ true → is_older scope.depth (over_at scope).root ≡ true
  pub apart : may_end ≡ true → are_apart (frame_at scope) (over_at scope) ≡ true

-- A place has nothing in common with what the pointers for a unit's variables lead to. They lead to what was there before the function
-- began; of these a pointer to what an activity remembers matters only where it remembers a variable
pub record ApartFromPointers (site : TypingContext) (scope : Scope) (place : Location) : Type 0 where
  pub lent : (k : ℕ) (var : Var) → var_at site k ≡ Some var → home_at site k ≡ Lent → are_apart place (lent_at scope site.vars k) ≡ true
  pub remembered : (k : ℕ) (var : Var) → var_at site k ≡ Some var → home_at site k ≡ Held → is_activity site.kind ≡ true →
      are_apart place (remembered_at scope) ≡ true

-- the pointers for a unit's variables lead to what was there before the function began
pub record PointersOlder (site : TypingContext) (scope : Scope) : Type 0 where
  pub lent : (k : ℕ) (var : Var) → var_at site k ≡ Some var → home_at site k ≡ Lent → is_older scope.depth (lent_at scope site.vars k).root ≡ true
  pub remembered : (k : ℕ) (var : Var) → var_at site k ≡ Some var → home_at site k ≡ Held → is_activity site.kind ≡ true →
      is_older scope.depth (remembered_at scope).root ≡ true
