-- Where the parts of a target lead.
use Rattle.std.proofs.Common.{◌≡◌, ℕ, suc, ◌+◌, List, [], ◌∷◌, ◌++◌, map, Option, Some, None, refl, ap, sym, subst, ◌∙◌, arith}
use Rattle.std.specs.Prelude.{Bool, true, false, bytes_eq, is_some, option_and_then, option_map, slice_get, if◌then◌else◌}
use Rattle.std.specs.List.{cons_option}
use Rattle.std.proofs.lemmas.Option.{same_Some}
use Rattle.bl_tree.proofs.Basics.{first_empty, get_in_front, second_empty}
use Rattle.bl_tree.specs.declared.place.Place.{Place}
use Rattle.bl_tree.specs.declared.rule.Rule.TheVariants as rule
use Rattle.bl_tree.specs.declared.scalar.Scalar.{Scalar as ScalarType}
use Rattle.bl_tree.specs.declared.tree.Expr.{Expr}
use Rattle.bl_tree.specs.declared.tree.Field.{Field}
use Rattle.bl_tree.specs.declared.tree.Part.{Part}
use Rattle.bl_tree.specs.declared.tree.Part.TheVariants as part
use Rattle.bl_tree.specs.declared.tree.StructDef.{StructDef}
use Rattle.bl_tree.specs.declared.tree.Ty.{Ty, out-Ty, out-roll-Ty}
use Rattle.bl_tree.specs.declared.tree.Ty.TheOpen.{Ty-F}
use Rattle.bl_tree.specs.Scalar.{is_whole}
use Rattle.bl_tree.specs.Types.{scalar, scalar_in}
use Rattle.bl_tree.specs.Typing.{TypingContext, after_parts, element_in, field_in, type_of, where_whole}
use Rattle.bl_eval.proofs.FitLemmas.{scalar_is}
use Rattle.bl_eval.proofs.OperatorFits.{scalar_alone, some_found}
use Rattle.bl_eval.proofs.PartFits.{type_of_part}
use Rattle.bl_parse_tree.specs.declared.name.Name.{Name}
use Rattle.bl_types.specs.declared.form.Form.{Form}
use Rattle.bl_types.specs.declared.form.Form.TheVariants.{Failing, Open, Of}
use Rattle.bl_types.specs.Expressions.{FieldAt, Judged, Led, Stepped, after_index, as_index, field_among, field_found, field_in as field_named, no_array}
use Rattle.bl_types.specs.Expressions.{stepped, to_element, to_field, whole_or_unfit}
use Rattle.bl_types.specs.declared.environment.Environment.{Environment}
use Rattle.bl_types.specs.Failures.{unless}
use Rattle.bl_types.specs.Settled.{Settled, int32, kept, unfit}
use Rattle.bl_types_laws.specs.Fitting.{FormFits, IsMade}
use Rattle.bl_types_laws.specs.Within.{EnvironmentWithin}
use Rattle.bl_types_laws.proofs.Typed.{field_is, index_is}

-- a step leads from the type to the next
pub record StepFits (site : TypingContext) (ty : Ty) (step : Stepped) : Type 0 where
  pub next : Ty
  pub made : Part
  pub is_next : step.ty ≡ Some next
  pub is_made : step.part ≡ Some made
  pub leads : type_of_part site made ty ≡ Some next

-- parts lead from the type to an end
pub record LedFits (site : TypingContext) (ty : Ty) (led : Led) : Type 0 where
  pub end : Ty
  pub is_end : led.ty ≡ Some end
  pub leads : after_parts (map (type_of_part site) led.parts) ty ≡ Some end

-- ---- fields

-- a field that is found by its name stands that far behind the first
pub record AmongFits (fields : List Field) (k : ℕ) (found : FieldAt) : Type 0 where
  pub far : ℕ
  pub position : found.position ≡ k + far
  pub is_typed : option_map (λ (field : Field). field.ty) (slice_get fields far) ≡ Some found.ty

among_first : (field : Field) (rest : List Field) (name : List ℕ) (k : ℕ) (found : FieldAt) (same : Bool) →
    (field_among name rest (k + 1) ≡ Some found → AmongFits rest (k + 1) found) →
    (if same then Some (record { position = k; ty = field.ty }) else field_among name rest (k + 1)) ≡ Some found → AmongFits (field ∷ rest) k found
among_first field rest name k found true further is =
    let same : record { position = k; ty = field.ty } ≡ found = same_Some _ found is in
    let position : k ≡ found.position = ap (λ (found : FieldAt). found.position) same in
    record { far = 0; position = omega arith; is_typed = ap (λ (found : FieldAt). Some found.ty) same }
among_first field rest name k found false further is =
    let more = further is in
    record { far = suc more.far; position = omega (arith, more.position); is_typed = more.is_typed }

among_fits : (fields : List Field) (name : List ℕ) (k : ℕ) (found : FieldAt) → field_among name fields k ≡ Some found → AmongFits fields k found
among_fits [] name k found is = absurd (cc)
among_fits (field ∷ rest) name k found is = among_first field rest name k found (bytes_eq field.name name) (among_fits rest name (k + 1) found) is

field_there : (fields : List Field) (name : List ℕ) (found : FieldAt) → field_among name fields 0 ≡ Some found →
    option_map (λ (field : Field). field.ty) (slice_get fields found.position) ≡ Some found.ty
field_there fields name found is =
    let among = among_fits fields name 0 found is in
    let same : found.position ≡ among.far = omega (arith, among.position) in
    ap (λ k. option_map (λ (field : Field). field.ty) (slice_get fields k)) same ∙ among.is_typed

module _ (env : Environment) (site : TypingContext) (within : EnvironmentWithin env site) where
  field_typed : (name : List ℕ) (layer : Ty-F Ty) (found : FieldAt) → field_named env.structs name layer ≡ Some found →
      field_in site.structs found.position layer ≡ Some found.ty
  field_typed name (Ty-F.Scalar s) found is = absurd (cc)
  field_typed name (Ty-F.Array n element) found is = absurd (cc)
  field_typed name (Ty-F.Struct s) found is =
      let there = some_found (λ (def : StructDef). field_among name def.fields 0) (slice_get env.structs s) found is in
      let def : StructDef = there.0 in
      ap (λ structs. option_and_then (λ (def : StructDef). option_map (λ (field : Field). field.ty) (slice_get def.fields found.position))
      (slice_get structs s)) within.structs
      ∙ ap (option_and_then (λ (def : StructDef). option_map (λ (field : Field). field.ty) (slice_get def.fields found.position)))
      (get_in_front env.structs within.later s def there.1)
      ∙ field_there def.fields name found there.2

  field_by : (name : Name) (ty : Ty) (found : Option FieldAt) → field_named env.structs name.text (out-Ty ty) ≡ found →
      (field_found name.place found).failures ≡ [] → StepFits site ty (field_found name.place found)
  field_by name ty None is none = absurd (cc)
  field_by name ty (Some found) is none = record {
    next = found.ty;
    made = part.Field found.position;
    is_next = refl;
    is_made = refl;
    leads = field_is site found.position ty ∙ field_typed name.text (out-Ty ty) found is;
  }

  pub field_fits : (name : Name) (ty : Ty) → (to_field env.structs name (Some ty)).failures ≡ [] → StepFits site ty (to_field env.structs name (Some ty))
  field_fits name ty = field_by name ty (field_named env.structs name.text (out-Ty ty)) refl

-- ---- indexes

-- an index of a whole-number type is made
pub record IndexFits (site : TypingContext) (made : Option Expr) : Type 0 where
  pub ty : ScalarType
  pub is_whole_number : is_whole ty ≡ true
  pub is_made : IsMade site (scalar ty) made

module _ (site : TypingContext) where
  whole_by : (at : Place) (ty : Ty) (s : ScalarType) (e : Expr) (whole : Bool) → scalar_in ty ≡ Some s → is_whole s ≡ whole →
      type_of site e ≡ Some ty →
      (if whole then kept e else unfit at).failures ≡ [] → IndexFits site (if whole then kept e else unfit at).made
  whole_by at ty s e true is whole typed none = record {
    ty = s;
    is_whole_number = whole;
    is_made =
        record { it = e; is = refl; is_typed = typed ∙ ap Some (scalar_is ty s is) };
  }
  whole_by at ty s e false is whole typed none = absurd (cc)

  whole_fits : (at : Place) (ty : Ty) (s : Option ScalarType) (e : Expr) → scalar_in ty ≡ s → type_of site e ≡ Some ty →
      (whole_or_unfit at s e).failures ≡ [] →
      IndexFits site (whole_or_unfit at s e).made
  whole_fits at ty None e is typed none = absurd (cc)
  whole_fits at ty (Some s) e is typed none = whole_by at ty s e (is_whole s) is refl typed none

  as_index_fits : (at : Place) (form : Form) → FormFits site form → (as_index at form).failures ≡ [] → IndexFits site (as_index at form).made
  as_index_fits at Failing fit none = absurd fit
  as_index_fits at (Open e) fit none = record { ty = int32; is_whole_number = refl; is_made = fit int32 refl none }
  as_index_fits at (Of ty e) fit none = whole_fits at ty (scalar_in ty) e refl fit none

  index_leads : (ty element : Ty) (s : ScalarType) (e : Expr) → element_in (out-Ty ty) ≡ Some element → is_whole s ≡ true →
      type_of site e ≡ Some (scalar s) →
      type_of_part site (part.Index e) ty ≡ Some element
  index_leads ty element s e is whole typed =
      index_is site e ty
      ∙ ap (λ found. where_whole found (element_in (out-Ty ty))) typed
      ∙ ap (option_and_then (λ s. if is_whole s then element_in (out-Ty ty) else None)) (scalar_alone s)
      ∙ ap (λ holds. if holds then element_in (out-Ty ty) else None) whole
      ∙ is

  index_by : (ty element : Ty) (at : Place) (form : Form) → element_in (out-Ty ty) ≡ Some element → IndexFits site (as_index at form).made →
      StepFits site ty (to_element at form (Some ty))
  index_by ty element at form is fit = record {
    next = element;
    made = part.Index fit.is_made.it;
    is_next = ap (option_and_then (λ e. element_in (out-Ty ty))) fit.is_made.is ∙ is;
    is_made = ap (option_map part.Index) fit.is_made.is;
    leads = index_leads ty element fit.ty fit.is_made.it is fit.is_whole_number fit.is_made.is_typed;
  }

  array_by : (ty : Ty) (at : Place) (element : Option Ty) → element_in (out-Ty ty) ≡ element → unless (is_some element) rule.Type at ≡ [] →
      (e : Ty) × (element_in (out-Ty ty) ≡ Some e)
  array_by ty at None is none = absurd (cc)
  array_by ty at (Some element) is none = (element, is)

  pub index_fits : (index : Judged) (ty : Ty) → (index.failures ≡ [] → FormFits site index.form) →
      (after_index index (to_element index.place index.form (Some ty))).failures ≡ [] →
      StepFits site ty (after_index index (to_element index.place index.form (Some ty)))
  index_fits index ty fit none =
      let step : Stepped = to_element index.place index.form (Some ty) in
      let inside : step.failures ≡ [] = second_empty index.failures step.failures none in
      let given : Settled = as_index index.place index.form in
      let array = array_by ty index.place (element_in (out-Ty ty)) refl (first_empty (no_array index.place (Some ty)) given.failures inside) in
      let found = index_by ty array.0 index.place index.form array.1
      (as_index_fits index.place index.form (fit (first_empty index.failures step.failures none))
      (second_empty (no_array index.place (Some ty)) given.failures inside)) in
      record { next = found.next; made = found.made; is_next = found.is_next; is_made = found.is_made; leads = found.leads }

-- ---- constants have no parts

pub no_field : (structs : List StructDef) (name : Name) (s : ScalarType) → (to_field structs name (Some (scalar s))).failures ≡ [] → ⊥
no_field structs name s none =
    let fails : (field_found name.place None).failures ≡ [] = ap (λ layer. (field_found name.place (field_named structs name.text layer)).failures)
    (sym (out-roll-Ty (Ty-F.Scalar s))) ∙ none in
    absurd (cc)

pub no_element : (index : Judged) (s : ScalarType) → (after_index index (to_element index.place index.form (Some (scalar s)))).failures ≡ [] → ⊥
no_element index s none =
    let inside : no_array index.place (Some (scalar s)) ++ (as_index index.place index.form).failures ≡ [] = second_empty index.failures _ none in
    let fails : unless (is_some (element_in (Ty-F.Scalar s))) rule.Type index.place ≡ [] =
    ap (λ layer. unless (is_some (element_in layer)) rule.Type index.place) (sym (out-roll-Ty (Ty-F.Scalar s)))
    ∙ first_empty (no_array index.place (Some (scalar s))) (as_index index.place index.form).failures inside in
    absurd (cc)

-- ---- one part after another

pub led_first : (site : TypingContext) (ty : Ty) (first : Stepped) (further : Led) (step : StepFits site ty first) → LedFits site step.next further →
    after_parts (map (type_of_part site) (cons_option first.part further.parts)) ty ≡ after_parts (map (type_of_part site) further.parts) step.next
led_first site ty first further step led =
    ap (λ part. after_parts (map (type_of_part site) (cons_option part further.parts)) ty) step.is_made
    ∙ ap (option_and_then (after_parts (map (type_of_part site) further.parts))) step.leads

module _ {X : Type 0} (site : TypingContext) (to : X → Option Ty → Stepped) where
  abbrev EachSteps : X → Type 0
  EachSteps x = (ty : Ty) → (to x (Some ty)).failures ≡ [] → StepFits site ty (to x (Some ty))

  abbrev Leads : List X → Type 0
  Leads xs = (ty : Ty) → (stepped (map to xs) (Some ty)).failures ≡ [] → LedFits site ty (stepped (map to xs) (Some ty))

  pub none_lead : Leads []
  none_lead ty none = record { end = ty; is_end = refl; leads = refl }

  first_by : (x : X) (xs : List X) (ty : Ty) (first : Stepped) → to x (Some ty) ≡ first → Leads xs → StepFits site ty first →
      (stepped (map to xs) first.ty).failures ≡ [] →
      LedFits site ty (record {
        ty = (stepped (map to xs) first.ty).ty;
        parts = cons_option first.part (stepped (map to xs) first.ty).parts;
        failures =
            first.failures ++ (stepped (map to xs) first.ty).failures;
      })
  first_by x xs ty first is more step none =
      let led : LedFits site step.next (stepped (map to xs) first.ty) =
      subst (λ next. LedFits site step.next (stepped (map to xs) next)) (sym step.is_next)
      (more step.next (ap (λ next. (stepped (map to xs) next).failures) (sym step.is_next) ∙ none)) in
      record { end = led.end; is_end = led.is_end; leads = led_first site ty first (stepped (map to xs) first.ty) step led ∙ led.leads }

  pub first_leads : (x : X) (xs : List X) → EachSteps x → Leads xs → Leads (x ∷ xs)
  first_leads x xs one more ty none =
      first_by x xs ty (to x (Some ty)) refl more
      (one ty (first_empty (to x (Some ty)).failures (stepped (map to xs) (to x (Some ty)).ty).failures none))
      (second_empty (to x (Some ty)).failures (stepped (map to xs) (to x (Some ty)).ty).failures none)
