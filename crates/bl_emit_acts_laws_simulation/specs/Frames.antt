-- Where the variables and copies of a running unit stand, from where its pointers lead.
use Rattle.std.specs.Prelude.{◌≡◌, ℕ, ◌≤◌, ◌^◌, Bool, true, false, nat_eq, nat_lt, List, Some, codes, length}
use Rattle.bl_tree.specs.declared.tree.Var.{Var}
use Rattle.bl_tree.specs.Program.{is_input}
use Rattle.bl_tree.specs.Typing.{TypingContext, is_activity, var_at}
use Rattle.bl_ctext_semantics.specs.Meaning.{Scope, named_location}
use Rattle.bl_ctext_semantics.specs.Memory.{Location, Root, variable}
use Rattle.bl_emit_acts.specs.declared.home.Home.TheVariants.{Held, Lent}
use Rattle.bl_emit_acts.specs.Types.{variable_name}
use Rattle.bl_emit_acts_laws_simulation.specs.Acts.{CopiesApart}
use Rattle.bl_emit_acts_laws_simulation.specs.Encodes.{VariablesAllocated, VariablesApart, are_apart, home_at}

-- whether a root was there before the function at this depth began: an object, or a variable of a function that called it
abbrev pub is_older : ℕ → Root → Bool
is_older depth (variable d name) = nat_lt d depth
is_older depth _ = true

-- the location to which the pointer for the variable at a position among its unit's leads
abbrev pub lent_at : Scope → List Var → ℕ → Location
lent_at scope vars k = named_location scope true (variable_name vars k)

-- the location to which the pointer to what an activity remembers leads
abbrev pub remembered_at : Scope → Location
remembered_at scope = named_location scope true (codes "m")

-- a unit's pointers are valid: they lead to older memory, and those that are written through are apart from all others. That to remembered variables counts
-- only if there are any
pub record PointersAreValid (site : TypingContext) (scope : Scope) : Type 0 where
  pub few : length site.vars ≤ 2 ^ 64
  pub lent_older : (k : ℕ) (var : Var) → var_at site k ≡ Some var → home_at site k ≡ Lent → is_older scope.depth (lent_at scope site.vars k).root ≡ true
  pub held_older : (k : ℕ) (var : Var) → var_at site k ≡ Some var → home_at site k ≡ Held → is_activity site.kind ≡ true →
      is_older scope.depth (remembered_at scope).root ≡ true
  pub lent_apart : (j k : ℕ) (a b : Var) → var_at site j ≡ Some a → var_at site k ≡ Some b → home_at site j ≡ Lent → home_at site k ≡ Lent →
      is_input a.role ≡ false → nat_eq j k ≡ false → are_apart (lent_at scope site.vars j) (lent_at scope site.vars k) ≡ true
  pub held_apart : is_activity site.kind ≡ true → (k : ℕ) (var : Var) → var_at site k ≡ Some var → home_at site k ≡ Lent →
      are_apart (remembered_at scope) (lent_at scope site.vars k) ≡ true

-- the variables that may be written are apart from other variables and from copies, and all are allocated
pub record FrameApart (site : TypingContext) (copied : ℕ → Bool) (scope : Scope) : Type 0 where
  pub variables : VariablesApart site scope
  pub copies : CopiesApart site copied scope
  pub live : VariablesAllocated site scope
