-- One part of a body after another.
use Rattle.std.proofs.Common.{◌≡◌, ℕ, zero, suc, List, [], ◌∷◌, ◌++◌, map, length, Option, Some, None, refl, ap, sym, subst, ◌∙◌, append_assoc}
use Rattle.std.specs.Prelude.{All, Bool, true, false, ◌&&◌, option_map, slice_get}
use Rattle.std.specs.List.{cons_option, list_all}
use Rattle.std.proofs.lemmas.List.{append-nil}
use Rattle.std.proofs.lemmas.List.Elements.{All-head, All-tail}
use Rattle.std.proofs.lemmas.Option.{same_Some}
use Rattle.std.proofs.lemmas.Bool.{and_from}
use Rattle.bl_tree.proofs.Basics.{false_not_true, first_empty, get_in_front, second_empty}
use Rattle.bl_tree.specs.declared.rule.Failure.{Failure}
use Rattle.bl_tree.specs.declared.tree.Ty.{Ty}
use Rattle.bl_tree.specs.Reduce.{all_of}
use Rattle.bl_tree.specs.Typing.{TypingContext, is_inhabited}
use Rattle.bl_eval.proofs.OperatorFits.{some_found}
use Rattle.bl_names_tree.specs.declared.expr.NamedExpr.{NamedExpr}
use Rattle.bl_names_tree.specs.Placed.{DeclaredBefore, in_turn}
use Rattle.bl_types.specs.declared.environment.Environment.{Environment}
use Rattle.bl_types.specs.declared.environment.Variable.{Variable}
use Rattle.bl_types.specs.Statements.{Block, Walked, in_order, walked}
use Rattle.bl_types.specs.Units.{var_of, var_typed, vars_of}
use Rattle.bl_types_laws.specs.Standing.{Around, BlockPassed, Grown, Known, PartPassed, VariableKnown, VariablesThere}
use Rattle.bl_types_laws.specs.Within.{EnvironmentWithin, calls_functions, has_parameters, known_in}

pub within_of : (env : Environment) (site : TypingContext) → Around env site → Known env → VariablesThere env site → EnvironmentWithin env site
within_of env site around known there = record {
  later = around.later;
  structs = around.structs;
  units = around.units;
  kind = around.kind;
  result = around.result;
  vars = there;
  constants = known.constants;
  heads = around.heads;
}

-- calls that name functions of the site name those that are known
pub own_calls : (env : Environment) (site : TypingContext) → Around env site → (e : NamedExpr) → calls_functions site.earlier e ≡ true →
    calls_functions env.units e ≡ true
own_calls env site around e calls = ap (λ units. calls_functions units e) around.units ∙ calls

-- ---- growth

pub grown_self : (env : Environment) → Grown env env
grown_self env = record {
  vars = [];
  has_vars = sym (append-nil env.vars);
  constants = [];
  has_constants = sym (append-nil env.constants);
  structs = refl;
  units = refl;
  kind = refl;
  result = refl;
}

pub grown_further : (a b c : Environment) → Grown a b → Grown b c → Grown a c
grown_further a b c one more = record {
  vars = one.vars ++ more.vars;
  has_vars = more.has_vars ∙ ap (λ vars. vars ++ more.vars) one.has_vars ∙ append_assoc a.vars one.vars more.vars;
  constants = one.constants ++ more.constants;
  has_constants = more.has_constants ∙ ap (λ constants. constants ++ more.constants) one.has_constants
      ∙ append_assoc a.constants one.constants more.constants;
  structs = more.structs ∙ one.structs;
  units = more.units ∙ one.units;
  kind = more.kind ∙ one.kind;
  result = more.result ∙ one.result;
}

pub grown_around : (before after : Environment) (site : TypingContext) → Grown before after → Around before site → Around after site
grown_around before after site grown around = record {
  later = around.later;
  structs = around.structs ∙ ap (λ structs. structs ++ around.later) (sym grown.structs);
  units = grown.units ∙ around.units;
  kind = grown.kind ∙ around.kind;
  result = grown.result ∙ around.result;
  heads = around.heads;
}

pub grown_there : (before after : Environment) (site : TypingContext) → Grown before after → VariablesThere after site → VariablesThere before site
grown_there before after site grown there k known is =
    there k known (ap (λ vars. slice_get vars k) grown.has_vars ∙ get_in_front before.vars grown.vars k known is)

-- ---- a site of what is known

typed_at : (n : ℕ) (xs : List Variable) → ((k : ℕ) (known : Variable) → slice_get xs k ≡ Some known → VariableKnown n known) →
    (k : ℕ) (known : Variable) (ty : Ty) → slice_get xs k ≡ Some known → known.ty ≡ Some ty →
    slice_get (vars_of xs) k ≡ Some (var_typed known ty)
typed_at n [] typed k known ty is are = absurd (cc)
typed_at n (x ∷ xs) typed zero known ty is are =
    let same : x ≡ known = same_Some x known is in
    ap (λ (x : Variable). slice_get (cons_option (var_of x) (vars_of xs)) 0) same
    ∙ ap (λ found. slice_get (cons_option (option_map (var_typed known) found) (vars_of xs)) 0) are
typed_at n (x ∷ xs) typed (suc k) known ty is are =
    let first = typed 0 x refl in
    ap (λ found. slice_get (cons_option (option_map (var_typed x) found) (vars_of xs)) (suc k)) first.is_typed
    ∙ typed_at n xs (λ k known is. typed (suc k) known is) k known ty is are

abbrev pub site_in : Environment → TypingContext
site_in env = record { structs = env.structs; earlier = env.units; kind = env.kind; vars = vars_of env.vars; result = env.result }

-- the variables that are known are those of the site that has these
pub there_in : (env : Environment) → Known env → VariablesThere env (site_in env)
there_in env known k var is =
    let typed = known.vars k var is in
    record {
      var = var_typed var typed.ty;
      is_there = typed_at (length env.structs) env.vars known.vars k var typed.ty is typed.is_typed;
      name = refl;
      ty =
          typed.is_typed;
      role = refl;
    }

pub within_in : (env : Environment) (site : TypingContext) → Around env site → Known env → EnvironmentWithin env (site_in env)
within_in env site around known = record {
  later = [];
  structs = sym (append-nil env.structs);
  units = refl;
  kind = refl;
  result = refl;
  vars = there_in env known;
  constants = known.constants;
  heads = subst (λ units. list_all has_parameters units ≡ true) (sym around.units) around.heads;
}

-- ---- one part after another

none_inhabited : (must : Bool) → (must && false) ≡ true → ⊥
none_inhabited true is = absurd (cc)
none_inhabited false is = absurd (cc)

must_of : (must : Bool) → (must && true) ≡ true → must ≡ true
must_of true is = refl
must_of false is = absurd (cc)

abbrev pub WalkFits : {A : Type 0} → Bool → TypingContext → (A → Bool) → (Environment → Walked A) → (DeclaredBefore → Option DeclaredBefore) → Type 0
WalkFits must site good walk step =
    (env : Environment) → Around env site → Known env → (counts : DeclaredBefore) → step (known_in env) ≡ Some counts → (walk env).failures ≡ [] →
    PartPassed must site good env counts (walk env)

module _ {X A : Type 0} (must : Bool) (site : TypingContext) (good : A → Bool) (walk : X → Environment → Walked A) (step : X → DeclaredBefore → Option DeclaredBefore) where
  abbrev Each : X → Type 0
  Each x = WalkFits must site good (walk x) (step x)

  good_first : (made : Option A) (rest : List A) → ((a : A) → made ≡ Some a → good a ≡ true) → all_of (map good rest) ≡ true →
      all_of (map good (cons_option made rest)) ≡ true
  good_first None rest one more = more
  good_first (Some a) rest one more = and_from (good a) (all_of (map good rest)) (one a refl) more

  inhabited_first : (made : Option A) (rest : List A) (a : A) → made ≡ Some a → is_inhabited (cons_option made rest) ≡ true
  inhabited_first made rest a is = ap (λ made. is_inhabited (cons_option made rest)) is

  pub block_fits : (xs : List X) → All Each xs → (env : Environment) → Around env site → Known env → (counts : DeclaredBefore) →
      in_turn (map step xs) (known_in env) ≡ Some counts → (in_order (map walk xs) env).failures ≡ [] →
      BlockPassed site good (must && is_inhabited xs) env counts (in_order (map walk xs) env)
  block_fits [] each env around known counts is none = record {
    grown = grown_self env;
    known = known;
    counts_are = same_Some (known_in env) counts is;
    is_good = λ there. refl;
    is_inhabited_still = λ holds there. absurd (none_inhabited must holds);
  }
  block_fits (x ∷ xs) each env around known counts is none =
      let further : Block A = in_order (map walk xs) (walk x env).env in
      let found = some_found (in_turn (map step xs)) (step x (known_in env)) counts is in
      let one = All-head Each x xs each env around known found.0 found.1 (first_empty (walk x env).failures further.failures none) in
      let more = block_fits xs (All-tail Each x xs each) (walk x env).env (grown_around env (walk x env).env site one.grown around) one.known counts
      (ap (in_turn (map step xs)) one.counts_are ∙ found.2) (second_empty (walk x env).failures further.failures none) in
      record {
        grown = grown_further env (walk x env).env further.env one.grown more.grown;
        known = more.known;
        counts_are = more.counts_are;
        is_good = λ there. good_first (walk x env).made further.made (one.is_good (grown_there (walk x env).env further.env site more.grown there))
            (more.is_good there);
        is_inhabited_still = λ holds there.
            let made = one.is_made (must_of must holds) (grown_there (walk x env).env further.env site more.grown there) in
            inhabited_first (walk x env).made further.made made.0 made.1;
      }

-- ---- what declares nothing

pub passed_still : {A : Type 0} (site : TypingContext) (good : A → Bool) (env : Environment) (counts : DeclaredBefore) (made : Option A) (failures : List Failure) →
    Around env site → Known env → known_in env ≡ counts →
    (EnvironmentWithin env site → (a : A) → made ≡ Some a → good a ≡ true) → PartPassed false site good env counts (walked env made failures)
passed_still site good env counts made failures around known is fit = record {
  grown = grown_self env;
  known = known;
  counts_are = is;
  is_good = λ there. fit (within_of env site around known there);
  is_made = λ must there. absurd (false_not_true must);
}
