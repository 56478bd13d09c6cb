-- Parts of a body that are walked alike in two environments that agree.
use Rattle.std.proofs.Common.{◌≡◌, ℕ, ◌+◌, ◌<◌, ◌≤◌, List, [], ◌∷◌, ◌++◌, map, length, Option, Some, None, arith, refl, ap, ap₂, sym, ◌∙◌}
use Rattle.std.specs.Prelude.{All, Bool, true, false, option_map, slice_get}
use Rattle.std.proofs.lemmas.List.{length-append, map-append}
use Rattle.std.proofs.lemmas.List.Elements.{All-head, All-tail}
use Rattle.bl_tree.specs.declared.place.Place.{Place}
use Rattle.bl_tree.specs.declared.rule.Failure.{Failure}
use Rattle.bl_tree.specs.declared.rule.Rule.{Rule}
use Rattle.bl_eval.proofs.OperatorFits.{some_found}
use Rattle.bl_names_laws_places.specs.Renamed.{Renaming, renamed_constant}
use Rattle.bl_names_tree.specs.declared.item.NamedConstant.{NamedConstant}
use Rattle.bl_names_tree.specs.Placed.{DeclaredBefore, PlacedStep, in_turn}
use Rattle.bl_types.specs.declared.environment.Environment.{Environment}
use Rattle.bl_types.specs.Expressions.{with_made}
use Rattle.bl_types.specs.Failures.{unless}
use Rattle.bl_types.specs.Statements.{Block, Walked, in_order}
use Rattle.bl_types_laws.specs.Standing.{Grown}
use Rattle.bl_types_laws.specs.Within.{known_in}
use Rattle.bl_types_laws_places.specs.Agree.{EnvironmentsAgree, placed_failure, placed_failures}
use Rattle.bl_types_laws_places_units.proofs.Grows.{Steps, block_grows}

-- ---- failures

pub both_placed : (f : Place → Place) (near_first near_second far_first far_second : List Failure) → far_first ≡ placed_failures f near_first →
    far_second ≡ placed_failures f near_second → far_first ++ far_second ≡ placed_failures f (near_first ++ near_second)
both_placed f near_first near_second far_first far_second one two =
    ap₂ (λ xs ys. xs ++ ys) one two ∙ sym (map-append (placed_failure f) near_first near_second)

pub unless_placed : (f : Place → Place) (test : Bool) (rule : Rule) (at : Place) →
    unless test rule (f at) ≡ placed_failures f (unless test rule at)
unless_placed f true rule at = refl
unless_placed f false rule at = refl

-- ---- what is known in a body

-- what is known in a body of each of two programs agrees, and the constants from the position on are those of the body's text
pub record Inside (by : Renaming) (from : ℕ) (near far : Environment) : Type 0 where
  pub agree : EnvironmentsAgree by near far
  pub kind : far.kind ≡ near.kind
  pub behind : from ≤ length near.constants

still_behind : {A : Type 0} (from : ℕ) (xs ys more : List A) → ys ≡ xs ++ more → from ≤ length xs → from ≤ length ys
still_behind from xs ys more is enough = let long : length ys ≡ length xs + length more = ap length is ∙ length-append xs more in omega arith

pub inside_further : (by : Renaming) (from : ℕ) (near far near_after far_after : Environment) → Inside by from near far → Grown near near_after →
    Grown far far_after → EnvironmentsAgree by near_after far_after → Inside by from near_after far_after
inside_further by from near far near_after far_after inside one two agree = record {
  agree = agree;
  kind = two.kind ∙ inside.kind ∙ sym one.kind;
  behind = still_behind from near.constants near_after.constants one.constants one.has_constants inside.behind;
}

-- constants between two positions stand in the other program at their other positions
abbrev pub SameConstants : Renaming → ℕ → ℕ → List NamedConstant → List NamedConstant → Type 0
SameConstants by from upto one other = (k : ℕ) (constant : NamedConstant) → from ≤ k → k < upto → slice_get one k ≡ Some constant →
    slice_get other (by.constant k) ≡ Some (renamed_constant by constant)

-- what is known before a part is no more than what is known after it
pub earlier_below : (middle last : Environment) (between counts : DeclaredBefore) (upto : ℕ) → known_in middle ≡ between → known_in last ≡ counts →
    Grown middle last → counts.constants ≤ upto → between.constants ≤ upto
earlier_below middle last between counts upto is are grown less =
    let here : length middle.constants ≡ between.constants = ap (λ (counts : DeclaredBefore). counts.constants) is in
    let there : length last.constants ≡ counts.constants = ap (λ (counts : DeclaredBefore). counts.constants) are in
    let long : length last.constants ≡ length middle.constants + length grown.constants =
    ap length grown.has_constants ∙ length-append middle.constants grown.constants in
    omega arith

-- ---- parts of bodies

-- a part fails at the mapped places, and its typed form is that with mapped places
pub record WalksAlike {A : Type 0} (by : Renaming) (placed : A → A) (one two : Walked A) : Type 0 where
  pub env : EnvironmentsAgree by one.env two.env
  pub made : two.made ≡ option_map placed one.made
  pub failures : two.failures ≡ placed_failures by.place one.failures

-- the same of parts one after another
pub record BlocksAlike {A : Type 0} (by : Renaming) (placed : A → A) (one two : Block A) : Type 0 where
  pub env : EnvironmentsAgree by one.env two.env
  pub made : two.made ≡ map placed one.made
  pub failures : two.failures ≡ placed_failures by.place one.failures

-- a part is walked alike wherever what is known in the body agrees, its positions are in place, and it declares no more constants than there are
abbrev pub Alike : {A : Type 0} → Renaming → ℕ → ℕ → (A → A) → (Environment → Walked A) → (Environment → Walked A) → PlacedStep → Type 0
Alike by from upto placed near_walk far_walk step = (near far : Environment) → Inside by from near far → (counts : DeclaredBefore) →
    step (known_in near) ≡ Some counts → counts.constants ≤ upto → WalksAlike by placed (near_walk near) (far_walk far)

with_made_placed : {A : Type 0} (placed : A → A) (one : Option A) (rest : List A) →
    with_made (option_map placed one) (map placed rest) ≡ map placed (with_made one rest)
with_made_placed placed (Some x) rest = refl
with_made_placed placed None rest = refl

-- what is known grows in a part
abbrev pub GrowsBy : {A : Type 0} → (Environment → Walked A) → Type 0
GrowsBy walk = (env : Environment) → Grown env (walk env).env

module _ {X A : Type 0} (by : Renaming) (from upto : ℕ) (placed : A → A) (change : X → X) (near_walk far_walk : X → Environment → Walked A)
    (step : X → PlacedStep) (near_grows : (x : X) → Steps (near_walk x) (step x)) (far_grows : (x : X) → GrowsBy (far_walk x)) where
  abbrev One : X → Type 0
  One x = Alike by from upto placed (near_walk x) (far_walk (change x)) (step x)

  pub block_alike : (xs : List X) → All One xs → (near far : Environment) → Inside by from near far → (counts : DeclaredBefore) →
      in_turn (map step xs) (known_in near) ≡ Some counts → counts.constants ≤ upto →
      BlocksAlike by placed (in_order (map near_walk xs) near) (in_order (map far_walk (map change xs)) far)
  block_alike [] each near far inside counts is less = record { env = inside.agree; made = refl; failures = refl }
  block_alike (x ∷ xs) each near far inside counts is less =
      let one : Walked A = near_walk x near in
      let two : Walked A = far_walk (change x) far in
      let found = some_found (in_turn (map step xs)) (step x (known_in near)) counts is in
      let grows = near_grows x near in
      let behind = block_grows near_walk step xs (λ k d less. near_grows _) one.env in
      let next : in_turn (map step xs) (known_in one.env) ≡ Some counts =
      ap (in_turn (map step xs)) (grows.counts_are found.0 found.1) ∙ found.2 in
      let first = All-head One x xs each near far inside found.0 found.1
      (earlier_below one.env (in_order (map near_walk xs) one.env).env found.0 counts upto (grows.counts_are found.0 found.1)
      (behind.counts_are counts next) behind.grown less) in
      let rest = block_alike xs (All-tail One x xs each) one.env two.env
      (inside_further by from near far one.env two.env inside grows.grown (far_grows (change x) far) first.env) counts next less in
      record {
        env = rest.env;
        made =
            ap₂ with_made first.made rest.made ∙ with_made_placed placed one.made (in_order (map near_walk xs) one.env).made;
        failures =
            both_placed by.place one.failures (in_order (map near_walk xs) one.env).failures two.failures
            (in_order (map far_walk (map change xs)) two.env).failures first.failures rest.failures;
      }
