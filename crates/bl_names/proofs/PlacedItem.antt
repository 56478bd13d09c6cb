-- The positions in structs, constants and units are in place, where every use fits.
use Rattle.std.proofs.Common.{◌≡◌, ℕ, ◌+◌, ◌<◌, ◌≤◌, Bool, true, List, [], ◌∷◌, ◌++◌, map, length, take, drop, inr, Option, Some, None, refl, sym, ap, subst}
use Rattle.std.proofs.Common.{◌∙◌, append-nil, append_assoc, arith, suc}
use Rattle.std.specs.Prelude.{option_and_then, option_map, if◌then◌else◌}
use Rattle.std.specs.List.{list_all}
use Rattle.std.proofs.Math.Seq.{drop-append_seam, take-append_seam}
use Rattle.std.proofs.lemmas.Bool.{eq-eqb, le-leb}
use Rattle.std.proofs.lemmas.List.{length-append}
use Rattle.std.proofs.lemmas.List.Folds.{list_all-append}
use Rattle.std.proofs.lemmas.Bool.{and_from}
use Rattle.bl_tree.proofs.Basics.{plus_none}
use Rattle.bl_tree.specs.declared.tree.Role.{Role}
use Rattle.bl_tree.specs.declared.tree.Role.TheVariants as role
use Rattle.bl_tree.specs.declared.tree.UnitKind.{UnitKind}
use Rattle.bl_tree.specs.declared.tree.UnitKind.TheVariants as unit
use Rattle.bl_tree.specs.Program.{is_input, is_output}
use Rattle.bl_tree.specs.Reduce.{joined}
use Rattle.bl_names_tree.specs.declared.item.NamedConstant.{NamedConstant}
use Rattle.bl_names_tree.specs.declared.item.NamedUnit.{NamedUnit}
use Rattle.bl_names_tree.specs.declared.item.NamedVar.{NamedVar}
use Rattle.bl_names_tree.specs.declared.stmt.NamedStmt.{NamedStmt}
use Rattle.bl_names_tree.specs.declared.types.NamedType.{NamedType}
use Rattle.bl_names_tree.specs.Placed.{DeclaredBefore, behind_unit, head_placed, holds_if, in_turn, stmt_step, struct_placed, type_placed, unit_step}
use Rattle.bl_names_tree.specs.Placed.{var_placed, with_parameters}
use Rattle.bl_names_scopes.specs.declared.kind.Kind.TheVariants as kinds
use Rattle.bl_names_scopes.specs.declared.scopes.Counts.{Counts}
use Rattle.bl_names_scopes.specs.Marks.{Marks, closes, declares, field_mark, field_type_marks, in_scope, inside_unit, kind_of_unit, optional, param_marks}
use Rattle.bl_names_scopes.specs.Marks.{struct_marks, type_marks, unit_marks}
use Rattle.bl_names_scopes.specs.Scopes.{Scopes, after, count_of, counted, declaration_of, enter, found}
use Rattle.bl_parse_tree.specs.declared.item.RawField.{RawField}
use Rattle.bl_parse_tree.specs.declared.item.RawParam.{RawParam}
use Rattle.bl_parse_tree.specs.declared.item.RawStruct.{RawStruct}
use Rattle.bl_parse_tree.specs.declared.item.RawUnit.{RawUnit}
use Rattle.bl_parse_tree.specs.declared.name.Name.{Name}
use Rattle.bl_names.specs.Named.{block_piece, constants_in_unit, named_field, named_struct, named_unit, opened, params_piece, role_piece}
use Rattle.bl_names.specs.Naming.{named_type}
use Rattle.bl_names.proofs.BelowLemmas.{Below, DeclarationBelow, Grown, declared_below, outer_grown, scope_grown, variable_below}
use Rattle.bl_names.proofs.FitLemmas.{Fits, fits_behind, fits_first, fits_second}
use Rattle.bl_names.proofs.ItemLemmas.{unit_scopes}
use Rattle.bl_names.proofs.PastLemmas.{enter-behind}
use Rattle.bl_names.proofs.PieceLemmas.{block_marks, role_marks}
use Rattle.bl_names.proofs.PlacedExpr.{earlier, optional_is, type_is}
use Rattle.bl_names.proofs.PlacedStmt.{Holds, Within, closed_is, every_block, is_local}
use Rattle.bl_names.proofs.StillLemmas.{after-append, still_optional, still_type}

-- ---- structs

fields_are : (scopes : Scopes) → Below scopes → (fields : List RawField) → Fits scopes (joined (map field_type_marks fields)) →
    list_all (λ field. type_placed (earlier scopes) field.ty) (map (named_field scopes) fields) ≡ true
fields_are scopes below [] fits = refl
fields_are scopes below (field ∷ fields) fits =
    and_from _ _ (type_is scopes scopes.counts below field.ty (fits_first scopes (type_marks field.ty) (joined (map field_type_marks fields)) fits))
    (fields_are scopes below fields (fits_behind scopes (type_marks field.ty) (joined (map field_type_marks fields)) (still_type field.ty) fits))

pub struct_is : (scopes : Scopes) (def : RawStruct) → Below scopes → Fits scopes (struct_marks def)
    → struct_placed (earlier scopes) (named_struct scopes def) ≡ true
struct_is scopes def below fits =
    let types = joined (map field_type_marks def.fields) in
    let fields = in_scope (map field_mark def.fields) in
    fields_are scopes below def.fields (fits_first scopes types fields (fits_first scopes (types ++ fields) (declares def.name kinds.Struct ∷ []) fits))

-- ---- parameters

-- a type names structs and constants alone
abbrev of_types : ℕ → ℕ → DeclaredBefore
of_types structs constants = record { structs = structs; constants = constants; units = 0; variables = 0 }

same_types : (e : DeclaredBefore) (ty : NamedType) → type_placed e ty ≡ type_placed (of_types e.structs e.constants) ty
same_types e ty = refl

type_as : (e other : DeclaredBefore) (ty : NamedType) → e.structs ≡ other.structs → e.constants ≡ other.constants → type_placed e ty ≡ type_placed other ty
type_as e other ty structs constants = same_types e ty ∙ (λ i. type_placed (of_types (structs i) (constants i)) ty) ∙ sym (same_types other ty)

-- behind parameters of a role, which passes a test
pub record ParamsHold (e : DeclaredBefore) (test : Role → Bool) (scopes new : Scopes) (vars : List NamedVar) (count : ℕ) : Type 0 where
  pub below : Below new
  pub outer : new.outer ≡ scopes.outer
  pub more_vars : new.counts.variables ≡ scopes.counts.variables + count
  pub same_constants : new.counts.constants ≡ scopes.counts.constants
  pub same_structs : new.counts.structs ≡ scopes.counts.structs
  pub same_units : new.counts.units ≡ scopes.counts.units
  pub placed : list_all (var_placed e) vars ≡ true
  pub roles : list_all (λ var. test var.role) vars ≡ true
  pub long : length vars ≡ count

pub counted_on : (a b c n : ℕ) → b ≡ a + 1 → c ≡ b + n → c ≡ a + suc n
counted_on a b c n one two = omega arith

params_hold : (e : DeclaredBefore) (role : Role) (test : Role → Bool) → test role ≡ true → (params : List RawParam) (scopes : Scopes)
    → e.structs ≡ scopes.counts.structs → e.constants ≡ scopes.counts.constants →
    Below scopes → Fits scopes (role_piece role params).marks
    → ParamsHold e test scopes (after scopes (role_piece role params).marks) ((role_piece role params).vars scopes) (length params)
params_hold e role test passes [] scopes structs constants below fits = record {
  below = below;
  outer = refl;
  more_vars = plus_none scopes.counts.variables;
  same_constants = refl;
  same_structs = refl;
  same_units = refl;
  placed = refl;
  roles = refl;
  long = refl;
}
params_hold e role test passes (param ∷ params) scopes structs constants below fits =
    let rest = (role_piece role params).marks in
    let middle = after scopes (param_marks param) in
    let entered : enter scopes (declares param.name kinds.Variable) ≡ middle = enter-behind scopes (type_marks param.ty) param.name kinds.Variable
    (still_type param.ty) in
    let in_type = fits_first scopes (type_marks param.ty) (declares param.name kinds.Variable ∷ []) (fits_first scopes (param_marks param) rest fits) in
    let later = params_hold e role test passes params middle (structs ∙ ap (λ s. s.counts.structs) entered)
    (constants ∙ ap (λ s. s.counts.constants) entered)
    (subst Below entered (variable_below scopes param.name below)) (fits_second scopes (param_marks param) rest fits) in
    let whole = sym (after-append scopes (param_marks param) rest) in
    record {
      below = subst Below whole later.below;
      outer = ap (λ s. s.outer) (sym whole) ∙ later.outer ∙ ap (λ s. s.outer) (sym entered);
      more_vars = ap (λ s. s.counts.variables) (sym whole)
          ∙ counted_on scopes.counts.variables middle.counts.variables (after middle rest).counts.variables (length params)
          (ap (λ s. s.counts.variables) (sym entered)) later.more_vars;
      same_constants = ap (λ s. s.counts.constants) (sym whole) ∙ later.same_constants ∙ ap (λ s. s.counts.constants) (sym entered);
      same_structs = ap (λ s. s.counts.structs) (sym whole) ∙ later.same_structs ∙ ap (λ s. s.counts.structs) (sym entered);
      same_units = ap (λ s. s.counts.units) (sym whole) ∙ later.same_units ∙ ap (λ s. s.counts.units) (sym entered);
      placed =
          and_from _ _ (type_as e (earlier scopes) (named_type scopes param.ty) structs constants ∙ type_is scopes scopes.counts below param.ty in_type)
          later.placed;
      roles = and_from _ _ passes later.roles;
      long = ap (λ n. suc n) later.long;
    }

-- ---- units

-- behind and_from lists of parameters
pub record HeadHolds (scopes : Scopes) (def : RawUnit) (two : Scopes) (ins outs : List NamedVar) : Type 0 where
  pub below : Below two
  pub outer : two.outer ≡ scopes.inner ∷ scopes.outer
  pub counts : earlier two ≡ record (earlier scopes) { variables = length def.inputs + length def.outputs }
  pub ins_placed : list_all (var_placed (earlier scopes)) ins ≡ true
  pub outs_placed : list_all (var_placed (earlier scopes)) outs ≡ true
  pub ins_are : list_all (λ var. is_input var.role) ins ≡ true
  pub outs_are : list_all (λ var. is_output var.role) outs ≡ true
  pub ins_long : length ins ≡ length def.inputs
  pub outs_long : length outs ≡ length def.outputs

pub two_more : (a b c m n : ℕ) → a ≡ 0 → b ≡ a + m → c ≡ b + n → c ≡ m + n
two_more a b c m n none one two = omega arith

abbrev ins_of : RawUnit → Marks
ins_of def = (role_piece role.Input def.inputs).marks

abbrev outs_of : RawUnit → Marks
outs_of def = (role_piece role.Output def.outputs).marks

head_holds : (scopes : Scopes) (def : RawUnit) → Below scopes → scopes.counts.variables ≡ 0 → Fits (opened scopes) (ins_of def ++ outs_of def) →
    HeadHolds scopes def (after (opened scopes) (params_piece def).marks) ((role_piece role.Input def.inputs).vars (opened scopes))
    ((role_piece role.Output def.outputs).vars (after (opened scopes) (ins_of def)))
head_holds scopes def below none fits =
    let s = opened scopes in
    let one = after s (ins_of def) in
    let first = params_hold (earlier scopes) role.Input is_input refl def.inputs s refl refl (tt, below) (fits_first s (ins_of def) (outs_of def) fits) in
    let second = params_hold (earlier scopes) role.Output is_output refl def.outputs one (sym first.same_structs) (sym first.same_constants) first.below
    (fits_second s (ins_of def) (outs_of def) fits) in
    let whole = sym (after-append s (ins_of def) (outs_of def)) in
    record {
      below = subst Below whole second.below;
      outer = ap (λ s. s.outer) (sym whole) ∙ second.outer ∙ first.outer;
      counts = ap earlier (sym whole) ∙ (λ i. record {
        structs = (second.same_structs ∙ first.same_structs) i;
        constants = (second.same_constants ∙ first.same_constants) i;
        units = (second.same_units ∙ first.same_units) i;
        variables =
            two_more scopes.counts.variables one.counts.variables (after one (outs_of def)).counts.variables (length def.inputs)
            (length def.outputs) none first.more_vars second.more_vars i;
      });
      ins_placed = first.placed;
      outs_placed = second.placed;
      ins_are = first.roles;
      outs_are = second.roles;
      ins_long = first.long;
      outs_long = second.long;
    }

module _ (ins outs locals : List NamedVar) where
  front_at : (n : ℕ) → length ins ≡ n → take n ((ins ++ outs) ++ locals) ≡ ins
  front_at n is = (λ i. take (sym is i) (append_assoc ins outs locals i)) ∙ take-append_seam ins (outs ++ locals)

  middle_at : (m n : ℕ) → length ins ≡ m → length outs ≡ n → take n (drop m ((ins ++ outs) ++ locals)) ≡ outs
  middle_at m n is are =
      (λ i. take (sym are i) (drop (sym is i) (append_assoc ins outs locals i))) ∙ ap (take (length outs)) (drop-append_seam ins (outs ++ locals))
      ∙ take-append_seam outs locals

  both_long : (m n : ℕ) → length ins ≡ m → length outs ≡ n → length (ins ++ outs) ≡ m + n
  both_long m n is are = length-append ins outs ∙ (λ i. is i + are i)

  params_at : (k : ℕ) → length (ins ++ outs) ≡ k → take k ((ins ++ outs) ++ locals) ≡ ins ++ outs
  params_at k is = (λ i. take (sym is i) ((ins ++ outs) ++ locals)) ∙ take-append_seam (ins ++ outs) locals

  locals_at : (k : ℕ) → length (ins ++ outs) ≡ k → drop k ((ins ++ outs) ++ locals) ≡ locals
  locals_at k is = (λ i. drop (sym is i) ((ins ++ outs) ++ locals)) ∙ drop-append_seam (ins ++ outs) locals

at_most : {A : Type 0} (xs ys : List A) (k : ℕ) → length xs ≡ k → k ≤ length (xs ++ ys)
at_most xs ys k is = let e : length (xs ++ ys) ≡ length xs + length ys = length-append xs ys in omega arith

head_is : (scopes two : Scopes) (def : RawUnit) (ins outs locals : List NamedVar) (body : List NamedStmt) → HeadHolds scopes def two ins outs
    → list_all is_local locals ≡ true →
    holds_if (type_placed (earlier scopes)) (option_map (named_type two) def.result) ≡ true →
    head_placed (earlier scopes) (record {
      entry = def.entry;
      kind = def.kind;
      name = def.name;
      vars = (ins ++ outs) ++ locals;
      inputs = length def.inputs;
      outputs = length def.outputs;
      result = option_map (named_type two) def.result;
      body = body;
    }) ≡ true
head_is scopes two def ins outs locals body head local result =
    let m = length def.inputs in
    let n = length def.outputs in
    let long : length (ins ++ outs) ≡ m + n = both_long ins outs locals m n head.ins_long head.outs_long in
    and_from _ _
    (and_from _ _ (le-leb (m + n) (length ((ins ++ outs) ++ locals)) (at_most (ins ++ outs) locals (m + n) long))
    (and_from _ _ (ap (list_all (λ var. is_input var.role)) (front_at ins outs locals m head.ins_long) ∙ head.ins_are)
    (and_from _ _ (ap (list_all (λ var. is_output var.role)) (middle_at ins outs locals m n head.ins_long head.outs_long) ∙ head.outs_are)
    (ap (list_all is_local) (locals_at ins outs locals (m + n) long) ∙ local))))
    (and_from _ _ (ap (list_all (var_placed (earlier scopes))) (params_at ins outs locals (m + n) long) ∙ list_all-append (var_placed (earlier scopes)) ins outs
    ∙ and_from _ _ head.ins_placed head.outs_placed) result)

-- the marks in a unit, with the result behind the parameters
inside_are : (def : RawUnit) → inside_unit def ≡ (ins_of def ++ outs_of def) ++ (optional type_marks def.result ++ (block_piece def.body).marks)
inside_are def =
    (λ i. sym (role_marks role.Input def.inputs) i ++ (sym (role_marks role.Output def.outputs) i
    ++ (optional type_marks def.result ++ sym (block_marks def.body) i)))
    ∙ sym (append_assoc (ins_of def) (outs_of def) (optional type_marks def.result ++ (block_piece def.body).marks))

pub unit_counted : (kind : UnitKind) (counts : Counts) → counted counts (kind_of_unit kind) ≡ record counts { units = counts.units + 1; variables = 0 }
unit_counted unit.Function counts = refl
unit_counted unit.Activity counts = refl

pub less_one : (n m : ℕ) → m ≡ n + 1 → n < m
less_one n m is = omega arith

pub unit_declared : (kind : UnitKind) (name : Name) (counts : Counts)
    → DeclarationBelow (counted counts (kind_of_unit kind)) (declaration_of name (kind_of_unit kind) (count_of counts (kind_of_unit kind)))
unit_declared unit.Function name counts = inr (less_one counts.units (counts.units + 1) refl)
unit_declared unit.Activity name counts = inr (less_one counts.units (counts.units + 1) refl)

unit_grown : (old new : Counts) → new.structs ≡ old.structs → (m : ℕ) → new.constants ≡ old.constants + m →
    new.units ≡ old.units + 1 → old.variables ≡ 0
    → Grown old new
unit_grown old new structs m constants units variables kinds.Struct = omega arith
unit_grown old new structs m constants units variables kinds.Constant = omega arith
unit_grown old new structs m constants units variables kinds.Variable = omega arith
unit_grown old new structs m constants units variables kinds.Function = omega arith
unit_grown old new structs m constants units variables kinds.Activity = omega arith
unit_grown old new structs m constants units variables kinds.Field = omega arith

-- behind a unit
pub record UnitHolds (reached : Option DeclaredBefore) (scopes new : Scopes) (constants : List NamedConstant) : Type 0 where
  pub steps : reached ≡ Some (earlier new)
  pub below : Below new
  pub no_variables : new.counts.variables ≡ 0
  pub same_structs : new.counts.structs ≡ scopes.counts.structs
  pub more_constants : new.counts.constants ≡ scopes.counts.constants + length constants
  pub more_units : new.counts.units ≡ scopes.counts.units + 1

all_vars_are : (a b c k : ℕ) → a ≡ k → c ≡ k + b → c ≡ a + b
all_vars_are a b c k one two = omega arith

behind_is : (scopes three : Scopes) (def : RawUnit) → scopes.counts.variables ≡ 0 → Below scopes → (constants : List NamedConstant)
    → three.counts.structs ≡ scopes.counts.structs →
    three.counts.constants ≡ scopes.counts.constants + length constants → three.counts.units ≡ scopes.counts.units →
    UnitHolds (Some (record (earlier three) { units = three.counts.units + 1; variables = 0 })) scopes
    (enter (record scopes { counts = three.counts }) (declares def.name (kind_of_unit def.kind))) constants
behind_is scopes three def none below constants structs more units =
    let is = unit_counted def.kind three.counts in
    let grown = unit_grown scopes.counts (counted three.counts (kind_of_unit def.kind)) (ap (λ c. c.structs) is ∙ structs) (length constants)
    (ap (λ c. c.constants) is ∙ more)
    (ap (λ c. c.units) is ∙ ap (λ n. n + 1) units) none in
    record {
      steps = λ i. Some (record {
        structs = (sym is i).structs;
        constants = (sym is i).constants;
        units = (sym is i).units;
        variables = (sym is i).variables;
      });
      below = (
        declared_below (counted three.counts (kind_of_unit def.kind)) (found scopes.inner def.name.text) scopes.inner def.name (kind_of_unit def.kind)
            (count_of three.counts (kind_of_unit def.kind))
            (scope_grown scopes.counts (counted three.counts (kind_of_unit def.kind)) scopes.inner grown below.0)
            (unit_declared def.kind def.name three.counts),
        outer_grown scopes.counts (counted three.counts (kind_of_unit def.kind)) scopes.outer grown below.1,
      );
      no_variables = ap (λ c. c.variables) is;
      same_structs = ap (λ c. c.structs) is ∙ structs;
      more_constants = ap (λ c. c.constants) is ∙ more;
      more_units = ap (λ c. c.units) is ∙ ap (λ n. n + 1) units;
    }

module _ (scopes : Scopes) (def : RawUnit) (all_constants : List NamedConstant) (below : Below scopes) (none : scopes.counts.variables ≡ 0)
    (fits : Fits scopes (unit_marks def)) (within : Within all_constants scopes.counts.constants (constants_in_unit scopes def)) where
  abbrev two : Scopes
  two = after (opened scopes) (params_piece def).marks

  abbrev three : Scopes
  three = after two (block_piece def.body).marks

  abbrev ins : List NamedVar
  ins = (role_piece role.Input def.inputs).vars (opened scopes)

  abbrev outs : List NamedVar
  outs = (role_piece role.Output def.outputs).vars (after (opened scopes) (ins_of def))

  abbrev locals : List NamedVar
  locals = (block_piece def.body).vars two

  abbrev named : NamedUnit
  named = named_unit scopes def

  inside_fits : Fits (opened scopes) ((ins_of def ++ outs_of def) ++ (optional type_marks def.result ++ (block_piece def.body).marks))
  inside_fits = subst (Fits (opened scopes)) (inside_are def)
      (fits_first (opened scopes) (inside_unit def) (closes ∷ [])
      (fits_first scopes (in_scope (inside_unit def)) (declares def.name (kind_of_unit def.kind) ∷ []) fits).1)

  head : HeadHolds scopes def two ins outs
  head = head_holds scopes def below none (fits_first (opened scopes) (ins_of def ++ outs_of def)
      (optional type_marks def.result ++ (block_piece def.body).marks) inside_fits)

  rest_fits : Fits two (optional type_marks def.result ++ (block_piece def.body).marks)
  rest_fits = fits_second (opened scopes) (ins_of def ++ outs_of def) (optional type_marks def.result ++ (block_piece def.body).marks) inside_fits

  result_is : holds_if (type_placed (earlier scopes)) (option_map (named_type two) def.result) ≡ true
  result_is =
      optional_is two two.counts head.below type_marks (type_placed (earlier scopes)) (named_type two) def.result
      (λ ty in_type. type_as (earlier scopes) (earlier two) (named_type two ty) (sym (ap (λ e. e.structs) head.counts))
      (sym (ap (λ e. e.constants) head.counts))
      ∙ type_is two two.counts head.below ty in_type)
      (fits_first two (optional type_marks def.result) (block_piece def.body).marks rest_fits)

  long : length (ins ++ outs) ≡ two.counts.variables
  long = both_long ins outs locals (length def.inputs) (length def.outputs) head.ins_long head.outs_long ∙ sym (ap (λ e. e.variables) head.counts)

  no_constants_in : (role : Role) (params : List RawParam) (scopes : Scopes) → (role_piece role params).constants scopes ≡ []
  no_constants_in role [] scopes = refl
  no_constants_in role (param ∷ params) scopes = no_constants_in role params (after scopes (param_marks param))

  constants_are : constants_in_unit scopes def ≡ (block_piece def.body).constants two
  constants_are =
      λ i. (no_constants_in role.Input def.inputs (opened scopes) i ++ no_constants_in role.Output def.outputs (after (opened scopes) (ins_of def)) i)
      ++ (block_piece def.body).constants two

  body : Holds (in_turn (map (stmt_step named.vars all_constants) ((block_piece def.body).made two)) (earlier two)) two three locals
      ((block_piece def.body).constants two)
  body = every_block named.vars all_constants def.body two head.below
      (fits_behind two (optional type_marks def.result) (block_piece def.body).marks (still_optional type_marks def.result still_type) rest_fits)
      (record { before = ins ++ outs; rest = []; there = ap (λ l. (ins ++ outs) ++ l) (sym (append-nil locals)); is_at = long })
      (subst (λ at. Within all_constants at ((block_piece def.body).constants two)) (sym (ap (λ e. e.constants) head.counts))
      (subst (Within all_constants scopes.counts.constants) constants_are within))

  abbrev last : Scopes
  last = enter (record scopes { counts = three.counts }) (declares def.name (kind_of_unit def.kind))

  last_is : last ≡ after scopes (unit_marks def)
  last_is =
      ap (λ s. enter s (declares def.name (kind_of_unit def.kind))) (sym (closed_is scopes three (body.outer ∙ head.outer)))
      ∙ unit_scopes scopes three def (sym (after-append (opened scopes) (params_piece def).marks (block_piece def.body).marks))

  behind : UnitHolds (Some (record (earlier three) { units = three.counts.units + 1; variables = 0 })) scopes last (constants_in_unit scopes def)
  behind = behind_is scopes three def none below (constants_in_unit scopes def) (body.same_structs ∙ ap (λ e. e.structs) head.counts)
      (body.more_constants ∙ (λ i. (head.counts i).constants + length (sym constants_are i))) (body.same_units ∙ ap (λ e. e.units) head.counts)

  every_var : three.counts.variables ≡ length named.vars
  every_var =
      all_vars_are (length (ins ++ outs)) (length locals) three.counts.variables two.counts.variables long body.more_vars
      ∙ sym (length-append (ins ++ outs) locals)

  step_is : unit_step all_constants named (earlier scopes) ≡ Some (record (earlier three) { units = three.counts.units + 1; variables = 0 })
  step_is =
      ap (λ test. if test then option_and_then (behind_unit named)
      (in_turn (map (stmt_step named.vars all_constants) named.body) (with_parameters (earlier scopes) named)) else None)
      (head_is scopes two def ins outs locals named.body head body.locals result_is)
      ∙ ap (λ e. option_and_then (behind_unit named) (in_turn (map (stmt_step named.vars all_constants) named.body) e)) (sym head.counts)
      ∙ ap (option_and_then (behind_unit named)) body.steps
      ∙ ap (λ test. if test then Some (record (earlier three) { units = three.counts.units + 1; variables = 0 }) else None)
      (eq-eqb three.counts.variables (length named.vars) every_var)

  pub unit_holds : UnitHolds (unit_step all_constants named (earlier scopes)) scopes (after scopes (unit_marks def)) (constants_in_unit scopes def)
  unit_holds = subst (λ new. UnitHolds (unit_step all_constants named (earlier scopes)) scopes new (constants_in_unit scopes def)) last_is
      (subst (λ reached. UnitHolds reached scopes last (constants_in_unit scopes def)) (sym step_is) behind)
