-- Functions of a C text may be left out that no others call.
use Rattle.std.proofs.Common.{◌≡◌, Bool, true, false, List, [], ◌∷◌, Option, Some, None, refl, sym, ap, ◌∙◌}
use Rattle.std.proofs.lemmas.List.Elements.{All-weaker}
use Rattle.std.proofs.lemmas.Slice.Eq.{bytes_eq-Decides}
use Rattle.std.specs.Option.{option_or}
use Rattle.std.specs.Prelude.{All, bytes_eq, if◌then◌else◌}
use Rattle.bl_tree.specs.declared.text.Text.{Text}
use Rattle.bl_tree.specs.declared.c.CFunc.{CFunc}
use Rattle.bl_ctext_semantics.specs.Calls.{calls_in_block}
use Rattle.bl_ctext_semantics.specs.Meaning.{Meaning, applied, function_c}
use Rattle.bl_ctext_semantics.specs.Tables.{Table, with_entry}
use Rattle.bl_ctext_semantics_laws_calls.specs.Known.{AreAlike, CallsDecide}
use Rattle.bl_emit_functions_laws_simulation.specs.Units.{known_after}
use Rattle.bl_emit_spec_laws.specs.Tables.Tables.{kept_where}

-- an entry under another name
pub other_entry : (o : Option Meaning) (b : Bool) (meaning : Meaning) → b ≡ false → option_or o (if b then Some meaning else None) ≡ o
other_entry None true meaning other = absurd (cc)
other_entry None false meaning other = refl
other_entry (Some value) b meaning other = refl

module _ (out : Text → Bool) where
  -- those that are kept call none that is left out
  abbrev pub Sparing : List Bool → List CFunc → Type 0
  Sparing tests [] = Unit {0}
  Sparing [] (f ∷ functions) = (out f.name ≡ true) × Sparing [] functions
  Sparing (true ∷ tests) (f ∷ functions) = All (λ name. out name ≡ false) (calls_in_block f.body) × Sparing tests functions
  Sparing (false ∷ tests) (f ∷ functions) = (out f.name ≡ true) × Sparing tests functions

  -- what is known under all names of others
  abbrev Same : Table Meaning → Table Meaning → Type 0
  Same one other = (name : Text) → out name ≡ false → one name ≡ other name

  alike : (one other : Table Meaning) → Same one other → (name : Text) → out name ≡ false → AreAlike one other name
  alike one other same name is = λ builtin depth passed memory. ap (λ o. applied o depth passed memory) (same name is)

  differs : (f : CFunc) (name : Text) → out f.name ≡ true → out name ≡ false → bytes_eq f.name name ≡ false
  differs f name left is = by (bytes_eq f.name name) refl
    where
      by : (b : Bool) → bytes_eq f.name name ≡ b → b ≡ false
      by true eq = absurd (let no : true ≡ false = sym left ∙ ap out ((bytes_eq-Decides f.name name).0 eq) ∙ is in cc)
      by false eq = refl

  left_out : (one other : Table Meaning) (f : CFunc) → out f.name ≡ true → Same one other → Same (with_entry one f.name (function_c one f)) other
  left_out one other f left same name is =
      other_entry (one name) (bytes_eq f.name name) (function_c one f) (differs f name left is) ∙ same name is

  module _ (decide : CallsDecide) where
    joined_so : (one other : Table Meaning) (f : CFunc) → All (λ name. out name ≡ false) (calls_in_block f.body) → Same one other →
        Same (with_entry one f.name (function_c one f)) (with_entry other f.name (function_c other f))
    joined_so one other f calls same name is =
        λ i. option_or (same name is i) (if bytes_eq f.name name then Some (meaning i) else None)
      where
        meaning : function_c one f ≡ function_c other f
        meaning =
            λ i depth passed memory. decide one other f
            (All-weaker (λ name. out name ≡ false) (AreAlike one other) (alike one other same) (calls_in_block f.body) calls) depth passed memory i

    pub spared : (tests : List Bool) (functions : List CFunc) (one other : Table Meaning) → Sparing tests functions → Same one other →
        Same (known_after one functions) (known_after other (kept_where tests functions))
    spared [] [] one other sparing same = same
    spared (test ∷ tests) [] one other sparing same = same
    spared [] (f ∷ functions) one other sparing same =
        spared [] functions (with_entry one f.name (function_c one f)) other sparing.1 (left_out one other f sparing.0 same)
    spared (true ∷ tests) (f ∷ functions) one other sparing same =
        spared tests functions (with_entry one f.name (function_c one f)) (with_entry other f.name (function_c other f)) sparing.1
        (joined_so one other f sparing.0 same)
    spared (false ∷ tests) (f ∷ functions) one other sparing same =
        spared tests functions (with_entry one f.name (function_c one f)) other sparing.1 (left_out one other f sparing.0 same)
