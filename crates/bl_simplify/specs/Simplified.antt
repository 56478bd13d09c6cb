-- What a simplified C file has in common with the one that it is made of.
use Rattle.std.specs.Prelude.{◌≡◌, ◌≤◌, ℕ, ℤ, true, List, [], ◌∷◌, Contains, codes}
use Rattle.bl_tree.specs.declared.c.CFunc.{CFunc}
use Rattle.bl_tree.specs.declared.text.Text.{Text}
use Rattle.bl_bound.specs.Told.{told_costs}
use Rattle.bl_bound.specs.declared.cost.Cost.{Cost}
use Rattle.bl_bound.specs.declared.cost.Cost.TheVariants.{Number, Over}
use Rattle.bl_ctext_places.specs.Counters.{names_counter}
use Rattle.bl_ctext_places.specs.Places.{CPath, places_named}
use Rattle.bl_ctext_semantics.specs.Faults.{WellFormed, parameters_and_locals}
use Rattle.bl_ctext_semantics.specs.Parts.{Parts}
use Rattle.bl_ctext_semantics.specs.Sizes.{cells_needed}
use Rattle.bl_ctext_semantics.specs.Tables.{table_of}
use Rattle.bl_ctext_semantics.specs.Trace.{c_trace}

-- a place that a function may name in place of those of another one: one that the other names too, or a counter `(*f).cN` where the other names one
pub data CounterFrom (function : CFunc) (place : CPath) : Type 0 where
  shared : Contains (places_named function) place → CounterFrom function place
  owned : (of : CPath) → Contains (places_named function) of → names_counter of ≡ true → (counter : Text) →
      place ≡ record { through = true; name = codes "f"; members = counter ∷ [] } → CounterFrom function place

-- a function has the name, the parameters and the result of another one, and names a counter only where that does
pub record OneInterface (old new : CFunc) : Type 0 where
  pub name : old.name ≡ new.name
  pub params : old.params ≡ new.params
  pub result : old.result ≡ new.result
  pub frame : table_of (parameters_and_locals new) (codes "f") ≡ table_of (parameters_and_locals old) (codes "f")
  pub counters : (place : CPath) → Contains (places_named new) place → names_counter place ≡ true → CounterFrom old place

-- two lists of functions, of which each has the interface of the one that stands there in the other list
abbrev pub SameInterfaces : List CFunc → List CFunc → Type 0
SameInterfaces [] [] = Unit {0}
SameInterfaces (old ∷ olds) (new ∷ news) = OneInterface old new × SameInterfaces olds news
SameInterfaces [] (new ∷ news) = ⊥
SameInterfaces (old ∷ olds) [] = ⊥

-- a cost is no greater than another one, as far as 128 bits tell
abbrev pub NoDearer : Cost → Cost → Type 0
NoDearer (Number m) (Number n) = m ≤ n
NoDearer Over (Number n) = ⊥
NoDearer cost Over = Unit {0}

-- no cost is greater than the one that stands there in the other list
abbrev pub NoneDearer : List Cost → List Cost → Type 0
NoneDearer [] [] = Unit {0}
NoneDearer (c ∷ cs) (d ∷ ds) = NoDearer c d × NoneDearer cs ds
NoneDearer [] (d ∷ ds) = ⊥
NoneDearer (c ∷ cs) [] = ⊥

-- a well-formed file that needs no more cells than another one, and has no dearer function
pub record IsKept (emitted written : Parts) : Type 0 where
  pub formed : WellFormed written
  pub cells : cells_needed written ≤ cells_needed emitted
  pub costs : NoneDearer (told_costs written.funcs) (told_costs emitted.funcs)

-- a well-formed file that has the trace of another one over all rows, with the same structs and interfaces, no more cells, and no dearer function
pub record IsSimplified (emitted written : Parts) : Type 0 where
  pub structs : emitted.structs ≡ written.structs
  pub formed : WellFormed written
  pub cells : cells_needed written ≤ cells_needed emitted
  pub interfaces : SameInterfaces emitted.funcs written.funcs
  pub costs : NoneDearer (told_costs written.funcs) (told_costs emitted.funcs)
  pub trace : (rows : List (List ℤ)) → c_trace emitted rows ≡ c_trace written rows
