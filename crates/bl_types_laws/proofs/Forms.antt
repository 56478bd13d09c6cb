-- What fits stays so: under operators and casts, and where a type is wanted.
use Rattle.std.proofs.Common.{◌≡◌, ℤ, [], ◌∷◌, ◌++◌, Option, Some, None, refl, ap, sym, subst, ◌∙◌, arith}
use Rattle.std.specs.Prelude.{option_map, Bool, true, false, ◌&&◌, nat_eq, option_and_then, if◌then◌else◌}
use Rattle.std.proofs.lemmas.Option.{same_Some}
use Rattle.std.proofs.lemmas.Bool.{and_from}
use Rattle.bl_tree.proofs.Basics.{first_empty, number_itself, second_empty}
use Rattle.bl_tree.specs.declared.place.Place.{Place}
use Rattle.bl_tree.specs.declared.rule.Rule.{Rule}
use Rattle.bl_tree.specs.declared.rule.Rule.TheVariants as rule
use Rattle.bl_tree.specs.declared.scalar.Op.{Op}
use Rattle.bl_tree.specs.declared.scalar.Op.TheVariants.{Add, Sub, Mul, Div, Rem, BitAnd, BitOr, BitXor, Shl, Shr, Minus, BitNot}
use Rattle.bl_tree.specs.declared.scalar.Scalar.{Scalar as ScalarType}
use Rattle.bl_tree.specs.declared.scalar.Scalar.TheVariants.{Bool as OfBool, Int, Nat, Bits}
use Rattle.bl_tree.specs.declared.scalar.Width.{Width}
use Rattle.bl_tree.specs.declared.scalar.Width.TheVariants.{W8, W16, W32, W64}
use Rattle.bl_tree.specs.declared.tree.Expr.{Expr, out-Expr}
use Rattle.bl_tree.specs.declared.tree.Ty.{Ty, fold-roll-Ty, ind-Ty, out-roll-Ty, roll-Ty}
use Rattle.bl_tree.specs.declared.tree.Ty.TheFolds.{map-Ty}
use Rattle.bl_tree.specs.declared.tree.Ty.TheOpen.{Ty-F}
use Rattle.bl_tree.specs.Numbers.{takes_one, takes_two, type_of_result}
use Rattle.bl_tree.specs.Scalar.{bits_of, in_range, is_whole}
use Rattle.bl_tree.specs.Types.{same_as_array, same_as_scalar, same_as_struct, same_scalar, same_type, scalar, scalar_in}
use Rattle.bl_tree.specs.Typing.{TypingContext, cast_type, literal_type, one_type, two_type, type_of}
use Rattle.bl_eval.proofs.FitLemmas.{same_type_is, scalar_is}
use Rattle.bl_eval.proofs.OperatorFits.{scalar_alone}
use Rattle.bl_types.specs.declared.form.Form.{Form}
use Rattle.bl_types.specs.declared.form.Form.TheVariants.{Failing, Open, Of}
use Rattle.bl_types.specs.declared.form.Found.{Found}
use Rattle.bl_types.specs.declared.form.Found.TheVariants as found
use Rattle.bl_types.specs.Expressions.{Formed, Judged, beside, cast, cast_formed, cast_made, cast_settled, fails_type, formed_as, in_context}
use Rattle.bl_types.specs.Expressions.{one_formed, operands_made, reading, settled_two, two_formed, two_of, type_of_two, wanted_as}
use Rattle.bl_types.specs.Failures.{unless}
use Rattle.bl_types.specs.Settled.{Settled, given, given_scalar, int32, is_logical, keeps_one_open, keeps_two_open, kept, literal, one, one_made, settled}
use Rattle.bl_types.specs.Settled.{settled_if, two, two_made, unfit}
use Rattle.bl_types_laws.specs.Fitting.{FormFits, FoundFits, IsMade, OpenFits, SettledFits}
use Rattle.bl_types_laws.proofs.Typed.{cast_is, literal_is, one_is, read_is, settled_literal, settled_one, settled_two as settled_two_is, two_is}

-- ---- nothing fails

pub unless_holds : (test : Bool) (broken : Rule) (at : Place) → unless test broken at ≡ [] → test ≡ true
unless_holds true broken at is = refl
unless_holds false broken at is = absurd (cc)

-- ---- what there is

pub map_found : {A B : Type 0} (f : A → B) (o : Option A) (y : B) → option_map f o ≡ Some y → (x : A) × (o ≡ Some x) × (f x ≡ y)
map_found f None y is = absurd (cc)
map_found f (Some x) y is = (x, refl, same_Some (f x) y is)

-- ---- types are the same as themselves

width_self : (w : Width) → nat_eq (bits_of w) (bits_of w) ≡ true
width_self W8 = refl
width_self W16 = refl
width_self W32 = refl
width_self W64 = refl

pub same_scalar_self : (s : ScalarType) → same_scalar s s ≡ true
same_scalar_self OfBool = refl
same_scalar_self (Int w) = width_self w
same_scalar_self (Nat w) = width_self w
same_scalar_self (Bits w) = width_self w

abbrev IsSelf : Ty → Type 0
IsSelf ty = same_type ty ty ≡ true

self_by : (layer : Ty-F ((ty : Ty) × IsSelf ty)) → IsSelf (roll-Ty (map-Ty ((ty : Ty) × IsSelf ty) Ty (λ e. e.0) layer))
self_by (Ty-F.Scalar s) = rw fold-roll-Ty (ap (same_as_scalar s) (out-roll-Ty (Ty-F.Scalar s)) ∙ same_scalar_self s)
self_by (Ty-F.Struct k) = rw fold-roll-Ty (ap (same_as_struct k) (out-roll-Ty (Ty-F.Struct k)) ∙ number_itself k)
self_by (Ty-F.Array n element) =
    rw fold-roll-Ty (ap (same_as_array n (same_type element.0)) (out-roll-Ty (Ty-F.Array n element.0))
    ∙ and_from (nat_eq n n) (same_type element.0 element.0) (number_itself n) element.1)

pub same_type_self : (ty : Ty) → same_type ty ty ≡ true
same_type_self = ind-Ty IsSelf (λ x y is. subst (λ layer. IsSelf (roll-Ty layer)) is (self_by y))

-- ---- operators whose operands may be open

one_result : (op : Op) (s : ScalarType) → keeps_one_open op ≡ true → type_of_result op s ≡ s
one_result Minus s is = refl
one_result BitNot s is = refl
one_result _ s is = absurd (cc)

two_result : (op : Op) (s : ScalarType) → keeps_two_open op ≡ true → type_of_result op s ≡ s
two_result Add s is = refl
two_result Sub s is = refl
two_result Mul s is = refl
two_result Div s is = refl
two_result Rem s is = refl
two_result BitAnd s is = refl
two_result BitOr s is = refl
two_result BitXor s is = refl
two_result Shl s is = refl
two_result Shr s is = refl
two_result _ s is = absurd (cc)

one_taken : (op : Op) (s : ScalarType) → keeps_one_open op ≡ true → takes_one op s ≡ true →
    option_and_then (one_type op) (scalar_in (scalar s)) ≡ Some (scalar s)
one_taken op s stays takes =
    ap (option_and_then (one_type op)) (scalar_alone s)
    ∙ ap (λ holds. if holds then Some (scalar (type_of_result op s)) else None) takes
    ∙ ap (λ t. Some (scalar t)) (one_result op s stays)

two_taken : (op : Op) (s : ScalarType) → keeps_two_open op ≡ true → takes_two op s ≡ true → type_of_two op (scalar s) (scalar s) ≡ Some (scalar s)
two_taken op s stays takes =
    ap (λ found. option_and_then (λ s. option_and_then (two_type op s) found) found) (scalar_alone s)
    ∙ ap (λ holds. if holds then Some (scalar (type_of_result op s)) else None) (and_from (same_scalar s s) (takes_two op s) (same_scalar_self s) takes)
    ∙ ap (λ t. Some (scalar t)) (two_result op s stays)

abbrev pub FormedFits : TypingContext → Formed → Type 0
FormedFits site formed = formed.failures ≡ [] → FormFits site formed.form

module _ (site : TypingContext) where
  pub made_typed : (a : Expr) (ty : Ty) → IsMade site ty (Some a) → type_of site a ≡ Some ty
  made_typed a ty made = ap (type_of site) (same_Some a made.it made.is) ∙ made.is_typed

  -- ---- open expressions as those of a type

  pub literal_open : (at : Place) (n : ℤ) (t : ScalarType) → OpenFits site (literal at n t)
  literal_open at n t s whole none =
      subst (λ (settled : Settled). IsMade site (scalar s) settled.made) (sym (settled_literal s at n t))
      (record {
        it = literal at n s;
        is = refl;
        is_typed = literal_is site at n s ∙ ap (literal_type s) (unless_holds (in_range s n) rule.Literal at
            (ap (λ (settled : Settled). settled.failures) (sym (settled_literal s at n t)) ∙ none));
      })

  one_made_by : (at : Place) (op : Op) (s : ScalarType) (a : Expr) (holds : Bool) → keeps_one_open op ≡ true → takes_one op s ≡ holds →
      type_of site a ≡ Some (scalar s) →
      SettledFits site (scalar s) (if holds then kept (one at op a) else unfit at)
  one_made_by at op s a true stays takes typed none = record {
    it = one at op a;
    is = refl;
    is_typed = one_is site at op a (scalar s) typed
        ∙ one_taken op s stays takes;
  }
  one_made_by at op s a false stays takes typed none = absurd (cc)

  one_made_fits : (at : Place) (op : Op) (s : ScalarType) (a : Option Expr) → keeps_one_open op ≡ true → IsMade site (scalar s) a →
      SettledFits site (scalar s) (one_made s at op a)
  one_made_fits at op s None stays made none = absurd (let is = made.is in cc)
  one_made_fits at op s (Some a) stays made none = one_made_by at op s a (takes_one op s) stays refl (made_typed a (scalar s) made) none

  one_open : (at : Place) (op : Op) (a : Expr) → keeps_one_open op ≡ true → OpenFits site a → OpenFits site (one at op a)
  one_open at op a stays fit s whole =
      subst (λ (settled : Settled). SettledFits site (scalar s) settled) (sym (settled_one s at op a))
      (λ none. one_made_fits at op s (settled s a).made stays (fit s whole
      (first_empty (settled s a).failures (one_made s at op (settled s a).made).failures none))
      (second_empty (settled s a).failures (one_made s at op (settled s a).made).failures none))

  two_made_by : (at : Place) (op : Op) (s : ScalarType) (a b : Expr) (holds : Bool) → keeps_two_open op ≡ true → takes_two op s ≡ holds →
      type_of site a ≡ Some (scalar s) → type_of site b ≡ Some (scalar s) →
      SettledFits site (scalar s) (if holds then kept (two at op a b) else unfit at)
  two_made_by at op s a b true stays takes typed other none =
      record { it = two at op a b; is = refl; is_typed = two_is site at op a b (scalar s) (scalar s) typed other ∙ two_taken op s stays takes }
  two_made_by at op s a b false stays takes typed other none = absurd (cc)

  two_made_fits : (at : Place) (op : Op) (s : ScalarType) (a b : Option Expr) → keeps_two_open op ≡ true →
      IsMade site (scalar s) a → IsMade site (scalar s) b →
      SettledFits site (scalar s) (two_made s at op a b)
  two_made_fits at op s None b stays made other none = absurd (let is = made.is in cc)
  two_made_fits at op s (Some a) None stays made other none = absurd (let is = other.is in cc)
  two_made_fits at op s (Some a) (Some b) stays made other none = two_made_by at op s a b (takes_two op s) stays refl (made_typed a (scalar s) made)
      (made_typed b (scalar s) other) none

  two_open : (at : Place) (op : Op) (a b : Expr) → keeps_two_open op ≡ true → OpenFits site a → OpenFits site b → OpenFits site (two at op a b)
  two_open at op a b stays fit other s whole =
      subst (λ (settled : Settled). SettledFits site (scalar s) settled) (sym (settled_two_is s at op a b))
      (λ none.
      let second : (settled s b).failures ++ (two_made s at op (settled s a).made (settled s b).made).failures ≡ [] =
      second_empty (settled s a).failures _ none in
      two_made_fits at op s (settled s a).made (settled s b).made stays (fit s whole (first_empty (settled s a).failures _ none))
      (other s whole (first_empty (settled s b).failures _ second))
      (second_empty (settled s b).failures _ second))

  -- ---- where a type is wanted

  given_if : (ty : Ty) (s : ScalarType) (e : Expr) (whole : Bool) → scalar_in ty ≡ Some s → is_whole s ≡ whole → OpenFits site e →
      SettledFits site ty (settled_if whole s e)
  given_if ty s e true is whole fit none =
      let made = fit s whole none in
      record { it = made.it; is = made.is; is_typed = made.is_typed ∙ ap Some (sym (scalar_is ty s is)) }
  given_if ty s e false is whole fit none = absurd (cc)

  given_by : (ty : Ty) (s : Option ScalarType) (e : Expr) → scalar_in ty ≡ s → OpenFits site e → SettledFits site ty (given_scalar s e)
  given_by ty None e is fit none = absurd (cc)
  given_by ty (Some s) e is fit none = given_if ty s e (is_whole s) is refl fit none

  pub given_fits : (ty : Ty) (e : Expr) → OpenFits site e → SettledFits site ty (given ty e)
  given_fits ty e = given_by ty (scalar_in ty) e refl

  pub kept_fits : (ty : Ty) (e : Expr) → type_of site e ≡ Some ty → SettledFits site ty (kept e)
  kept_fits ty e typed none = record { it = e; is = refl; is_typed = typed }

  same_fits : (wanted : Ty) (at : Place) (ty : Ty) (e : Expr) (same : Bool) → same_type wanted ty ≡ same → type_of site e ≡ Some ty →
      SettledFits site wanted (if same then kept e else unfit at)
  same_fits wanted at ty e true same typed none = record { it = e; is = refl; is_typed = typed ∙ ap Some (sym (same_type_is wanted ty same)) }
  same_fits wanted at ty e false same typed none = absurd (cc)

  pub wanted_form : (wanted : Ty) (at : Place) (form : Form) → FormFits site form → SettledFits site wanted (wanted_as wanted at form)
  wanted_form wanted at Failing fit = absurd fit
  wanted_form wanted at (Open e) fit = given_fits wanted e fit
  wanted_form wanted at (Of ty e) fit = same_fits wanted at ty e (same_type wanted ty) refl fit

  -- an expression that fits, where this type is wanted of it
  pub in_context_fits : (wanted : Ty) (judged : Judged) → (judged.failures ≡ [] → FormFits site judged.form) →
      SettledFits site wanted (in_context (Some wanted) judged)
  in_context_fits wanted judged fit none =
      wanted_form wanted judged.place judged.form (fit (first_empty judged.failures (wanted_as wanted judged.place judged.form).failures none))
      (second_empty judged.failures (wanted_as wanted judged.place judged.form).failures none)

  -- ---- operators

  formed_fits : (ty : Option Ty) (at : Place) (e : Expr) → type_of site e ≡ ty → FormedFits site (formed_as ty at e)
  formed_fits (Some ty) at e is none = is
  formed_fits None at e is none = absurd (cc)

  one_open_formed : (at : Place) (op : Op) (a : Expr) (stays : Bool) → keeps_one_open op ≡ stays → OpenFits site a →
      FormedFits site (if stays then record { form = Open (one at op a); failures = [] } else fails_type (out-Expr a).place)
  one_open_formed at op a true stays fit none = one_open at op a stays fit
  one_open_formed at op a false stays fit none = absurd (cc)

  pub one_fits : (at : Place) (op : Op) (form : Form) → FormFits site form → FormedFits site (one_formed at op form)
  one_fits at op Failing fit = absurd fit
  one_fits at op (Open a) fit = one_open_formed at op a (keeps_one_open op) refl fit
  one_fits at op (Of ty a) fit = formed_fits (option_and_then (one_type op) (scalar_in ty)) at (one at op a) (one_is site at op a ty fit)

  operands_fit : (at : Place) (op : Op) (left right : Ty) (a b : Option Expr) → IsMade site left a → IsMade site right b →
      FormedFits site (operands_made at op (type_of_two op left right) a b)
  operands_fit at op left right None b made other none = absurd (let is = made.is in cc)
  operands_fit at op left right (Some a) None made other none = absurd (let is = other.is in cc)
  operands_fit at op left right (Some a) (Some b) made other none =
      formed_fits (type_of_two op left right) at (two at op a b) (two_is site at op a b left right (made_typed a left made) (made_typed b right other)) none

  two_of_fits : (at : Place) (op : Op) (left right : Ty) (a b : Settled) → SettledFits site left a → SettledFits site right b →
      FormedFits site (two_of at op (type_of_two op left right) a b)
  two_of_fits at op left right a b fit other none =
      let formed : Formed = operands_made at op (type_of_two op left right) a.made b.made in
      let second : b.failures ++ formed.failures ≡ [] = second_empty a.failures (b.failures ++ formed.failures) none in
      operands_fit at op left right a.made b.made (fit (first_empty a.failures (b.failures ++ formed.failures) none))
      (other (first_empty b.failures formed.failures second)) (second_empty b.failures formed.failures second)

  beside_by : (op : Op) (ty : Ty) (e : Expr) (logical : Bool) → OpenFits site e →
      SettledFits site ty (if logical then unfit (out-Expr e).place else given ty e)
  beside_by op ty e true fit none = absurd (cc)
  beside_by op ty e false fit none = given_fits ty e fit none

  beside_fits : (op : Op) (ty : Ty) (e : Expr) → OpenFits site e → SettledFits site ty (beside op ty e)
  beside_fits op ty e = beside_by op ty e (is_logical op)

  open_two_by : (at : Place) (op : Op) (a b : Expr) (stays : Bool) → keeps_two_open op ≡ stays → OpenFits site a → OpenFits site b →
      FormedFits site (if stays then record { form = Open (two at op a b); failures = [] } else settled_two at op a b)
  open_two_by at op a b true stays fit other none = two_open at op a b stays fit other
  open_two_by at op a b false stays fit other none =
      two_of_fits at op (scalar int32) (scalar int32) (beside op (scalar int32) a) (beside op (scalar int32) b) (beside_fits op (scalar int32) a fit)
      (beside_fits op (scalar int32) b other) none

  pub two_fits : (at : Place) (op : Op) (a b : Form) → FormFits site a → FormFits site b → FormedFits site (two_formed at op a b)
  two_fits at op Failing b fit other = absurd fit
  two_fits at op (Open a) Failing fit other = absurd other
  two_fits at op (Open a) (Open b) fit other = open_two_by at op a b (keeps_two_open op) refl fit other
  two_fits at op (Open a) (Of ty b) fit other = two_of_fits at op ty ty (beside op ty a) (kept b) (beside_fits op ty a fit) (kept_fits ty b other)
  two_fits at op (Of ty a) Failing fit other = absurd other
  two_fits at op (Of ty a) (Open b) fit other = two_of_fits at op ty ty (kept a) (beside op ty b) (kept_fits ty a fit) (beside_fits op ty b other)
  two_fits at op (Of ty a) (Of right b) fit other = two_of_fits at op ty right (kept a) (kept b) (kept_fits ty a fit) (kept_fits right b other)

  cast_made_fits : (at : Place) (target : ScalarType) (a : Option Expr) → is_whole target ≡ true → IsMade site (scalar target) a →
      FormFits site (cast_made at target a)
  cast_made_fits at target None whole made = absurd (let is = made.is in cc)
  cast_made_fits at target (Some a) whole made =
      cast_is site at target a (scalar target) (made_typed a (scalar target) made)
      ∙ ap (option_and_then (cast_type target)) (scalar_alone target)
      ∙ ap (λ holds. if holds && holds then Some (scalar target) else None) whole

  cast_by : (at : Place) (target : ScalarType) (a : Expr) (whole : Bool) → is_whole target ≡ whole → OpenFits site a →
      FormedFits site (cast_settled at target (settled_if whole target a))
  cast_by at target a true whole fit none = cast_made_fits at target (settled target a).made whole (fit target whole none)
  cast_by at target a false whole fit none = absurd (cc)

  pub cast_fits : (at : Place) (target : ScalarType) (form : Form) → FormFits site form → FormedFits site (cast_formed at target form)
  cast_fits at target Failing fit = absurd fit
  cast_fits at target (Open a) fit = cast_by at target a (is_whole target) refl fit
  cast_fits at target (Of ty a) fit = formed_fits (option_and_then (cast_type target) (scalar_in ty)) at (cast at target a) (cast_is site at target a ty fit)

  -- ---- what is read

  pub reading_fits : (at : Place) (found : Found) → FoundFits site found → FormFits site (reading at found)
  reading_fits at found.Nothing fit = absurd fit
  reading_fits at (found.Constant s n) fit = literal_is site at n s ∙ ap (literal_type s) fit
  reading_fits at (found.Place path) fit = read_is site at path ∙ fit
