-- The places of paths: many steps, from where a variable stands.
use Rattle.std.proofs.Common.{◌≡◌, ℕ, Bool, true, false, List, [], ◌∷◌, ◌++◌, map, Option, Some, None, refl, sym, ap, ap₂, ◌∙◌}
use Rattle.std.proofs.Common.{subst, codes}
use Rattle.std.specs.Prelude.{option_and_then, option_map}
use Rattle.bl_tree.specs.declared.c.CStep.{CStep}
use Rattle.bl_tree.specs.declared.tree.StructDef.{StructDef}
use Rattle.bl_tree.specs.declared.tree.Ty.{Ty}
use Rattle.bl_tree.specs.declared.tree.Var.{Var}
use Rattle.bl_tree.specs.declared.value.Value.{Value}
use Rattle.bl_eval.specs.Values.{part_of, value_at}
use Rattle.bl_ctext_semantics.specs.Memory.{Location, Memory, Projection, member}
use Rattle.bl_ctext_semantics.specs.Meaning.{Counted, Scope, each_of, further, given, location_c, named_location, next, way_of}
use Rattle.bl_emit_acts.specs.declared.home.Home.{Home}
use Rattle.bl_emit_acts.specs.declared.home.Home.TheVariants.{Held, Local, Lent}
use Rattle.bl_emit_acts.specs.Places.{place_by_steps}
use Rattle.bl_emit_acts.specs.Trees.{c_step}
use Rattle.bl_emit_acts.specs.Types.{variable_name}
use Rattle.bl_emit_acts_laws_simulation.specs.Encodes.{lead_in, lead_to, start_in, type_after, way_to}
use Rattle.bl_emit_acts_laws_simulation.proofs.Evaluated.{place-location, step-way, ways}
use Rattle.bl_emit_acts_laws_simulation.proofs.Steps.{OneStep, Stepped}

-- ---- answers

-- the answers of a list, one after another
pub listed-answer : {A : Type 0} (first : Counted A) (rest : Counted (List A)) →
    (next first (λ a. next rest (λ others. given (Some (a ∷ others))))).answer
    ≡ option_and_then (λ a. option_map (λ others. a ∷ others) rest.answer) first.answer
listed-answer {A = A} first rest = by first.count rest.count first.answer rest.answer
  where
    by : (m n : ℕ) (o : Option A) (p : Option (List A)) →
        (next (record { count = m; answer = o }) (λ a. next (record { count = n; answer = p }) (λ others. given (Some (a ∷ others))))).answer
        ≡ option_and_then (λ a. option_map (λ others. a ∷ others) p) o
    by m n None p = refl
    by m n (Some a) None = refl
    by m n (Some a) (Some others) = refl

pub mapped-answer : {A B : Type 0} (f : A → B) (c : Counted A) → (next c (λ a. given (Some (f a)))).answer ≡ option_map f c.answer
mapped-answer {A = A} {B = B} f c = by c.count c.answer
  where
    by : (n : ℕ) (o : Option A) → (next (record { count = n; answer = o }) (λ a. given (Some (f a)))).answer ≡ option_map f o
    by n None = refl
    by n (Some a) = refl

-- ---- many steps

-- steps, which have led to what lies at the positions for which the parts of a path stand
pub record Walked (structs : List StructDef) (a b : Ty) (value : Value) (walked : List (List Projection)) (positions : Option (List ℕ)) : Type 0 where
  pub ks : List ℕ
  pub are : positions ≡ Some ks
  pub at : way_of walked ≡ way_to structs ks (Some a)
  pub typed : type_after structs ks (Some a) ≡ Some b
  pub part : Value
  pub is : value_at ks value ≡ Some part

-- they trap exactly where nothing lies there
abbrev pub ManySteps : List StructDef → Ty → Ty → Value → Option (List (List Projection)) → Option (List ℕ) → Type 0
ManySteps structs a b value None positions = option_and_then (λ ks. value_at ks value) positions ≡ None
ManySteps structs a b value (Some walked) positions = Walked structs a b value walked positions

pub no_steps : (structs : List StructDef) (a b : Ty) (value : Value) → Some a ≡ Some b → ManySteps structs a b value (Some []) (Some [])
no_steps structs a b value is = record { ks = []; are = refl; at = refl; typed = is; part = value; is = refl }

-- positions behind a first one
abbrev joined : Option ℕ → Option (List ℕ) → Option (List ℕ)
joined first rest = option_and_then (λ k. option_map (λ ks. k ∷ ks) rest) first

module _ (structs : List StructDef) (a c b : Ty) (value : Value) where
  none_there : (position : Option ℕ) (rest : Option (List ℕ)) → option_and_then (λ k. part_of k value) position ≡ None →
      option_and_then (λ ks. value_at ks value) (joined position rest) ≡ None
  none_there None rest h = refl
  none_there (Some k) None h = refl
  none_there (Some k) (Some ks) h = ap (option_and_then (value_at ks)) h

  none_behind : (k : ℕ) (part : Value) (rest : Option (List ℕ)) → part_of k value ≡ Some part → option_and_then (λ ks. value_at ks part) rest
      ≡ None →
      option_and_then (λ ks. value_at ks value) (option_map (λ ks. k ∷ ks) rest) ≡ None
  none_behind k part None there h = refl
  none_behind k part (Some ks) there h = ap (option_and_then (value_at ks)) there ∙ h

  walked_on : (way : List Projection) (position : Option ℕ) (s : Stepped structs a c value way position) (others : List (List Projection)) (rest : Option (List ℕ)) →
      Walked structs c b s.has.part others rest → Walked structs a b value (way ∷ others) (joined position rest)
  walked_on way position s others rest w = record {
    ks = s.k ∷ w.ks;
    are = ap₂ joined s.is w.are;
    at = ap₂ (λ first second. first ++ second) s.at w.at ∙ ap (λ ty. lead_to structs s.k a ++ way_to structs w.ks ty) (sym s.typed);
    typed = ap (type_after structs w.ks) s.typed ∙ w.typed;
    part = w.part;
    is = ap (option_and_then (value_at w.ks)) s.has.is_there ∙ w.is;
  }

  behind : (way : List Projection) (position : Option ℕ) (s : Stepped structs a c value way position) (others : Option (List (List Projection)))
      (rest : Option (List ℕ)) →
      ManySteps structs c b s.has.part others rest → ManySteps structs a b value (option_map (λ others. way ∷ others) others) (joined position rest)
  behind way position s None rest more =
      subst (λ position. option_and_then (λ ks. value_at ks value) (joined position rest) ≡ None) (sym s.is)
      (none_behind s.k s.has.part rest s.has.is_there more)
  behind way position s (Some others) rest more = walked_on way position s others rest more

  -- a step before many
  pub one_more : (first : Option (List Projection)) (position : Option ℕ) (others : Option (List (List Projection))) (rest : Option (List ℕ)) →
      OneStep structs a c value first position →
      ((way : List Projection) (s : Stepped structs a c value way position) → ManySteps structs c b s.has.part others rest) →
      ManySteps structs a b value (option_and_then (λ way. option_map (λ others. way ∷ others) others) first) (joined position rest)
  one_more None position others rest one more = none_there position rest one
  one_more (Some way) position others rest one more = behind way position one others rest (more way one)

-- ---- from where a variable stands

module _ (scope : Scope) (here : Memory) where
  abbrev walks : List CStep → Counted (List (List Projection))
  walks steps = each_of (map ways steps) scope here

  through_answer : (through : Bool) (name : List ℕ) (steps : List CStep) →
      (next (walks steps) (λ ways. given (Some (further (named_location scope through name) (way_of
      ways))))).answer
      ≡ option_map (λ walked. further (named_location scope through name) (way_of walked)) (walks steps).answer
  through_answer through name steps = mapped-answer (λ walked. further (named_location scope through name) (way_of walked)) (walks steps)

  -- where the steps lead from the home of a variable
  abbrev pub led : Bool → Home → List Var → ℕ → List (List Projection) → Location
  led activity home vars k walked = further (start_in scope activity home vars k) (lead_in home vars k ++ way_of walked)

  held_by : (activity : Bool) (vars : List Var) (k : ℕ) (o : Option (List (List Projection))) →
      option_map (λ walked. further (named_location scope activity (codes "m")) (way_of walked))
      (option_map (λ others. (member (variable_name vars k) ∷ []) ∷ others) o)
      ≡ option_map (led activity Held vars k) o
  held_by activity vars k None = refl
  held_by activity vars k (Some walked) = refl

  held_walks : (vars : List Var) (k : ℕ) (steps : List CStep) → (walks (c_step (variable_name vars k) ∷ steps)).answer
      ≡ option_map (λ others. (member (variable_name vars k) ∷ []) ∷ others) (walks steps).answer
  held_walks vars k steps =
      listed-answer (ways (c_step (variable_name vars k)) scope here) (walks steps)
      ∙ ap (λ (c : Counted (List Projection)). option_and_then (λ a. option_map (λ others. a ∷ others) (walks steps).answer) c.answer)
      (step-way scope here (variable_name vars k))

  pub place_answer : (activity : Bool) (home : Home) (vars : List Var) (k : ℕ) (steps : List CStep) →
      (location_c (place_by_steps activity home vars k steps) scope here).answer
      ≡ option_map (led activity home vars k) (walks steps).answer
  place_answer activity Held vars k steps =
      ap (λ (c : Counted Location). c.answer) (place-location scope here activity (codes "m") (c_step (variable_name vars k) ∷ steps))
      ∙ (through_answer activity (codes "m") (c_step (variable_name vars k) ∷ steps)
      ∙ (ap (option_map (λ walked. further (named_location scope activity (codes "m")) (way_of walked))) (held_walks vars k steps)
      ∙ held_by activity vars k (walks steps).answer))
  place_answer activity Local vars k steps =
      ap (λ (c : Counted Location). c.answer) (place-location scope here false (variable_name vars k) steps) ∙ through_answer false (variable_name vars k) steps
  place_answer activity Lent vars k steps =
      ap (λ (c : Counted Location). c.answer) (place-location scope here true (variable_name vars k) steps) ∙ through_answer true (variable_name vars k) steps
