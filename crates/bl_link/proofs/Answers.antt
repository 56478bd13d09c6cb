-- Parts have one answer.
use Rattle.std.proofs.Common.{◌≡◌, ◌∙◌, ℕ, ◌+◌, ◌-◌, ◌<◌, true, false, cond, List, [], ◌∷◌, length, refl, sym, ap, subst, inl, inr, arith}
use Rattle.std.proofs.lemmas.Bool.{cases_lt}
use Rattle.std.proofs.lemmas.Option.{same_Some}
use Rattle.std.specs.Prelude.{slice_get}
use Rattle.bl_joined.specs.Places.{InFile, starts_behind}
use Rattle.bl_joined.specs.Texts.{joined_text}
use Rattle.bl_link.proofs.Fitting.{one_misfit}
use Rattle.bl_link.specs.declared.fault.LinkFault.{LinkFault}
use Rattle.bl_link.specs.declared.fault.LinkFault.TheVariants as fault
use Rattle.bl_link.specs.Fits.{FaceFits, LastFits, PartsFit, part_texts}
use Rattle.bl_link.specs.inner.Whole.{TellsIn}
use Rattle.bl_link.specs.Linked.{FailJoined, HaveProgram, HaveTree, IsPlaceIn, LinkStops}
use Rattle.bl_module.specs.Parts.{SeenPart}
use Rattle.bl_module_laws.specs.Laws.{IsLimit}
use Rattle.bl_parse_tree.specs.declared.raw.Raw.{Raw}
use Rattle.bl_rules.proofs.Layers.{TokensAreOne, TreesAreOne, one_tree}
use Rattle.bl_rules.specs.Rules.{TreeFails, TreePasses}
use Rattle.bl_tree.proofs.FirstLemmas.{first_is_one}
use Rattle.bl_tree.specs.declared.place.Place.{Place}
use Rattle.bl_tree.specs.declared.program.Program.{Program}
use Rattle.bl_tree.specs.declared.rule.Refusal.{Refusal}
use Rattle.bl_tree.specs.declared.rule.Refusal.TheVariants as refusal
use Rattle.bl_tree.specs.declared.rule.Rule.{Rule}
use Rattle.bl_tree.specs.Rules.{FailsFirst, IsCause, compared, tells_walk}
use Rattle.bl_types_program.specs.Programs.{IsProgramOf}

-- ---- places

-- one of two texts in which a place is doesn't come before the other
no_sooner : (texts : List (List ℕ)) (place : Place) (file other : ℕ) (own there : Place) → InFile texts place file own → InFile texts place other there →
    file < other → ⊥
no_sooner texts place file other own there one two less =
    let behind = one.last other two.start less two.stands in
    omega (arith, behind, two.begins)

in_one_file : (texts : List (List ℕ)) (place : Place) (file other : ℕ) (own there : Place) → InFile texts place file own →
    InFile texts place other there → file ≡ other
in_one_file texts place file other own there one two = elim (cases_lt file other) [
  | inl less ↦ absurd (no_sooner texts place file other own there one two less)
  | inr most ↦ elim (cases_lt other file) [
    | inl less ↦ absurd (no_sooner texts place other file there own two one less)
    | inr least ↦ omega (arith, most, least)
  ]
]

-- a place, counted from an offset on
abbrev counted_from : Place → ℕ → Place
counted_from place start = record { start = place.start - start; end = place.end - start }

own_is_one : (texts : List (List ℕ)) (place : Place) (file other : ℕ) (own there : Place) → InFile texts place file own → InFile texts place other there →
    own ≡ there
own_is_one texts place file other own there one two =
    one.counted
    ∙ ap (counted_from place)
    (same_Some one.start two.start
    (sym one.stands ∙ ap (slice_get (starts_behind 0 texts)) (in_one_file texts place file other own there one two) ∙ two.stands))
    ∙ sym two.counted

pub one_place : (texts : List (List ℕ)) (place : Place) (file other : ℕ) (own there : Place) → IsPlaceIn texts place file own →
    IsPlaceIn texts place other there → (file ≡ other) × (own ≡ there)
one_place texts place file other own there one two =
    let same = in_one_file texts place one.position two.position own there one.stands two.stands in (
      one.counted ∙ ap (λ n. n + 1) same ∙ sym two.counted,
      own_is_one texts place one.position two.position own there one.stands two.stands,
    )

-- ---- the first rule that fails

-- of the places that are compared the first is that of the failure
abbrev first_place : Place → List Place → Place
first_place other [] = other
first_place other (place ∷ places) = place

first_compared : (r : Rule) (other place : Place) (also : List Place) → first_place other (compared r place also) ≡ place
first_compared r other place also = elim (tells_walk r) as (λ walk. first_place other (cond walk (place ∷ []) (place ∷ also)) ≡ place)
    [ true ↦ refl | false ↦ refl ]

-- a first failure has one rule and one place
pub first_at_one : (Fails : Rule → Place → List Place → Type 0) (rule other : Rule) (place elsewhere : Place) (also further : List Place) →
    FailsFirst Fails rule place also → FailsFirst Fails other elsewhere further → (rule ≡ other) × (place ≡ elsewhere)
first_at_one Fails rule other place elsewhere also further one two =
    let same = first_is_one Fails rule other place elsewhere also further one two in
    (same.rule, sym (first_compared rule place place also) ∙ ap (first_place place) same.places ∙ first_compared rule place elsewhere further)

module _ (tokens_one : TokensAreOne) (trees_one : TreesAreOne) where
  pub same_tree : (texts : List (List ℕ)) (raw other : Raw) → HaveTree texts raw → HaveTree texts other → raw ≡ other
  same_tree texts raw other one two = one_tree tokens_one trees_one (joined_text texts) raw other one two

  pub same_failure : (texts : List (List ℕ)) (file elsewhere : ℕ) (rule other : Rule) (place there : Place) → FailJoined texts file rule place →
      FailJoined texts elsewhere other there → (file ≡ elsewhere) × ((rule ≡ other) × (place ≡ there))
  same_failure texts file elsewhere rule other place there one two =
      let raws = same_tree texts two.raw one.raw two.tree one.tree in
      let second : FailsFirst (TreeFails one.raw) other two.place two.also =
      subst (λ raw. FailsFirst (TreeFails raw) other two.place two.also) raws two.first in
      let same = first_at_one (TreeFails one.raw) rule other one.place two.place one.also two.also one.first second in
      let own = one_place texts one.place file elsewhere place there one.in_file
      (subst (λ at. IsPlaceIn texts at elsewhere there) (sym same.1) two.in_file) in
      (own.0, (same.0, own.1))

  pub no_failure : (texts : List (List ℕ)) (raw : Raw) (file : ℕ) (rule : Rule) (place : Place) → HaveTree texts raw → TreePasses raw →
      ¬ FailJoined texts file rule place
  no_failure texts raw file rule place tree passes fail =
      passes rule fail.place fail.also
      (subst (λ it. TreeFails it rule fail.place fail.also) (same_tree texts fail.raw raw fail.tree tree) fail.first.fails)

  pub same_program : (texts : List (List ℕ)) (one other : Program) → HaveProgram texts one → HaveProgram texts other →
      (one.structs ≡ other.structs) × ((one.units ≡ other.units) × (one.entry ≡ other.entry))
  same_program texts one other has too =
      let is : IsProgramOf has.raw other = subst (λ raw. IsProgramOf raw other) (same_tree texts too.raw has.raw too.tree has.tree) too.is in
      (has.is.structs ∙ sym is.structs, (has.is.units ∙ sym is.units, has.is.entry ∙ sym is.entry))

  -- ---- answers

  pub linked_is_no_fault : (parts : List SeenPart) (raw : Raw) (told : LinkFault) → PartsFit parts → HaveTree (part_texts parts) raw →
      TreePasses raw → LinkStops parts told → told ≡ fault.NoMemory
  linked_is_no_fault parts raw (fault.Face part) fit tree passes stops = absurd (stops.fails (fit.faces (part - 1)))
  linked_is_no_fault parts raw (fault.Last part) fit tree passes stops = absurd (stops.1.fails (fit.lasts (part - 1)))
  linked_is_no_fault parts raw (fault.Rule file rule place) fit tree passes stops =
      absurd (no_failure (part_texts parts) raw file rule place tree passes stops.1)
  linked_is_no_fault parts raw fault.NoMemory fit tree passes stops = refl

  rules_are_one : (file elsewhere : ℕ) (rule other : Rule) (place there : Place) → (file ≡ elsewhere) × ((rule ≡ other) × (place ≡ there)) →
      fault.Rule file rule place ≡ fault.Rule elsewhere other there
  rules_are_one file elsewhere rule other place there same = λ i. fault.Rule (same.0 i) (same.1.0 i) (same.1.1 i)

  pub faults_are_one : (parts : List SeenPart) (one other : LinkFault) → LinkStops parts one → LinkStops parts other → ¬ (one ≡ fault.NoMemory) →
      ¬ (other ≡ fault.NoMemory) → one ≡ other
  faults_are_one parts (fault.Face part) (fault.Face number) stops too told tells =
      ap fault.Face (one_misfit (FaceFits parts) (length parts) part number stops too)
  faults_are_one parts (fault.Face part) (fault.Last number) stops too told tells = absurd (stops.fails (too.0 (part - 1)))
  faults_are_one parts (fault.Face part) (fault.Rule file rule place) stops too told tells = absurd (stops.fails (too.0.faces (part - 1)))
  faults_are_one parts (fault.Face part) fault.NoMemory stops too told tells = absurd (tells refl)
  faults_are_one parts (fault.Last part) (fault.Face number) stops too told tells = absurd (too.fails (stops.0 (number - 1)))
  faults_are_one parts (fault.Last part) (fault.Last number) stops too told tells =
      ap fault.Last (one_misfit (LastFits parts) (length parts) part number stops.1 too.1)
  faults_are_one parts (fault.Last part) (fault.Rule file rule place) stops too told tells = absurd (stops.1.fails (too.0.lasts (part - 1)))
  faults_are_one parts (fault.Last part) fault.NoMemory stops too told tells = absurd (tells refl)
  faults_are_one parts (fault.Rule file rule place) (fault.Face number) stops too told tells = absurd (too.fails (stops.0.faces (number - 1)))
  faults_are_one parts (fault.Rule file rule place) (fault.Last number) stops too told tells = absurd (too.1.fails (stops.0.lasts (number - 1)))
  faults_are_one parts (fault.Rule file rule place) (fault.Rule elsewhere other there) stops too told tells =
      rules_are_one file elsewhere rule other place there
      (same_failure (part_texts parts) file elsewhere rule other place there stops.1 too.1)
  faults_are_one parts (fault.Rule file rule place) fault.NoMemory stops too told tells = absurd (tells refl)
  faults_are_one parts fault.NoMemory other stops too told tells = absurd (told refl)

-- ---- what is told

-- only Frames or Cells can fail for a tree
abbrev pub OnlyLimits : Raw → Type 0
OnlyLimits raw = (rule : Rule) (at : Place) (also : List Place) → TreeFails raw rule at also → IsLimit rule

pub told_stops : (parts : List SeenPart) (raw : Raw) (refused : Refusal) (told : LinkFault) → PartsFit parts → HaveTree (part_texts parts) raw →
    OnlyLimits raw → IsCause (TreeFails raw) refused → TellsIn (part_texts parts) refused told → LinkStops parts told
told_stops parts raw (refusal.Rule rule place also) (fault.Face part) fit tree only cause tells = absurd tells
told_stops parts raw (refusal.Rule rule place also) (fault.Last part) fit tree only cause tells = absurd tells
told_stops parts raw (refusal.Rule rule place also) (fault.Rule file of own) fit tree only cause tells = (
  fit,
  record {
    raw = raw;
    tree = tree;
    place = place;
    also = also;
    first = subst (λ r. FailsFirst (TreeFails raw) r place also) (sym tells.0) cause;
    in_file = tells.1;
    limit = subst IsLimit (sym tells.0) (only rule place also cause.fails);
  },
)
told_stops parts raw (refusal.Rule rule place also) fault.NoMemory fit tree only cause tells = absurd tells
told_stops parts raw refusal.NoMemory (fault.Face part) fit tree only cause tells = absurd tells
told_stops parts raw refusal.NoMemory (fault.Last part) fit tree only cause tells = absurd tells
told_stops parts raw refusal.NoMemory (fault.Rule file of own) fit tree only cause tells = absurd tells
told_stops parts raw refusal.NoMemory fault.NoMemory fit tree only cause tells = tt
