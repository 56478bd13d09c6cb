-- The first variable that a unit holds.
use Rattle.std.proofs.Common.{◌≡◌, ℕ, suc, ◌+◌, arith, List, [], ◌∷◌, Some, refl, subst}
use Rattle.std.proofs.lemmas.Option.{same_Some}
use Rattle.std.specs.Prelude.{if◌then◌else◌, slice_get}
use Rattle.bl_tree.specs.declared.tree.Var.{Var}
use Rattle.bl_tree.specs.Typing.{TypingContext}
use Rattle.bl_emit_acts.specs.declared.home.Home.{Home}
use Rattle.bl_emit_acts.specs.declared.home.Home.TheVariants.{Held, Local, Lent}
use Rattle.bl_emit_acts.specs.Places.{home_of}
use Rattle.bl_emit_functions.specs.Functions.{first_held, is_held}

-- a variable of a list that is held, whose position is so far behind that of the first one
record Found (site : TypingContext) (base : ℕ) (vars : List Var) (k : ℕ) : Type 0 where
  index : ℕ
  var : Var
  at : k ≡ base + index
  is_there : slice_get vars index ≡ Some var
  held : home_of site (Some var) ≡ Held

found_from : (site : TypingContext) (base : ℕ) (vars : List Var) (k : ℕ) → first_held site base vars ≡ Some k → Found site base vars k
found_from site base [] k is = absurd (cc)
found_from site base (var ∷ rest) k is = by (home_of site (Some var)) refl (λ later. found_from site (base + 1) rest k later) is
  where
    further : Found site (base + 1) rest k → Found site base (var ∷ rest) k
    further found =
        let at : k ≡ (base + 1) + found.index = found.at in
        record { index = suc found.index; var = found.var; at = omega (arith, at); is_there = found.is_there; held = found.held }

    by : (home : Home) → home_of site (Some var) ≡ home → (first_held site (base + 1) rest ≡ Some k → Found site (base + 1) rest k) →
        (if is_held home then Some base else first_held site (base + 1) rest) ≡ Some k → Found site base (var ∷ rest) k
    by Held home later is =
        let same : base ≡ k = same_Some base k is in record { index = 0; var = var; at = omega (arith, same); is_there = refl; held = home }
    by Local home later is = further (later is)
    by Lent home later is = further (later is)

-- it is there
pub held_there : (site : TypingContext) (vars : List Var) (k : ℕ) → first_held site 0 vars ≡ Some k
    → (var : Var) × (slice_get vars k ≡ Some var) × (home_of site (Some var) ≡ Held)
held_there site vars k is =
    let found = found_from site 0 vars k is in
    let at : found.index ≡ k = (let there : k ≡ 0 + found.index = found.at in omega (arith, there)) in
    (found.var, subst (λ k. slice_get vars k ≡ Some found.var) at found.is_there, found.held)
