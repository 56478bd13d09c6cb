-- What the units of a program name is declared, where every use fits.
use Rattle.std.proofs.Common.{◌≡◌, ℕ, suc, ◌+◌, Bool, true, false, List, [], ◌∷◌, ◌++◌, length, refl, sym}
use Rattle.std.proofs.Common.{ap, subst, ◌∙◌, arith}
use Rattle.std.specs.Prelude.{Some, nat_eq}
use Rattle.std.specs.List.{list_all}
use Rattle.std.proofs.lemmas.Bool.{eq-eqb}
use Rattle.std.proofs.lemmas.Bool.{and_from, or_left, or_right}
use Rattle.bl_tree.proofs.Basics.{all_append, plus_none}
use Rattle.bl_tree.specs.declared.tree.Role.{Role}
use Rattle.bl_tree.specs.declared.tree.Role.TheVariants as role
use Rattle.bl_tree.specs.declared.tree.UnitKind.{UnitKind}
use Rattle.bl_tree.specs.declared.tree.UnitKind.TheVariants as unit
use Rattle.bl_parse_tree.specs.declared.item.RawItem.{RawItem}
use Rattle.bl_parse_tree.specs.declared.item.RawItem.TheVariants as item
use Rattle.bl_parse_tree.specs.declared.item.RawParam.{RawParam}
use Rattle.bl_parse_tree.specs.declared.item.RawUnit.{RawUnit}
use Rattle.bl_parse_tree.specs.declared.name.Name.{Name}
use Rattle.bl_names_scopes.specs.declared.kind.Kind.TheVariants as kind
use Rattle.bl_names_scopes.specs.Marks.{closes, declares, expr_marks, in_scope, inside_unit, item_marks, kind_of_unit, marks_of, optional, param_marks}
use Rattle.bl_names_scopes.specs.Marks.{type_marks, unit_marks}
use Rattle.bl_names_scopes.specs.Rules.{Passes}
use Rattle.bl_names_scopes.specs.Scopes.{Scopes, after, counted, enter, file_scope, scopes_outside}
use Rattle.bl_names.specs.Named.{along, block_piece, inside_piece, named_program, named_unit, opened, params_piece, role_piece, units_of}
use Rattle.bl_names.proofs.FitLemmas.{Fits, fits_first, fits_second, program_fits}
use Rattle.bl_names.proofs.ItemLemmas.{struct_scopes, unit_scopes}
use Rattle.bl_names.proofs.PastLemmas.{enter-behind}
use Rattle.bl_names.proofs.StillLemmas.{after-append, still_type, still_value}
use Rattle.bl_machine_prevs_laws.specs.Names.Declared.{body_declared}
use Rattle.bl_machine_prevs_laws.specs.Names.Scoped.{first_ones, is_known}
use Rattle.bl_machine_prevs_laws.proofs.OnNames.Only.{Only, declare_only, only_weaker}
use Rattle.bl_machine_prevs_laws.proofs.OnNames.Statements.{body_turns}
use Rattle.bl_names.proofs.PlacedItem.{counted_on, two_more}
use Rattle.bl_names_laws.proofs.ApartProgram.{body_fits}
use Rattle.bl_names_laws.proofs.Along.{unit_counted}

-- ---- parameters

-- the first variables are known, as many as are counted
abbrev Low : Scopes → Type 0
Low scopes = Only (is_known (first_ones scopes.counts.variables)) scopes

next_is : (n : ℕ) → suc n ≡ n + 1
next_is n = omega arith

-- behind parameters all variables are known, and as many more are counted
record Params (scopes new : Scopes) (count : ℕ) : Type 0 where
  pub low : Low new
  pub outer : new.outer ≡ scopes.outer
  pub more : new.counts.variables ≡ scopes.counts.variables + count

low_next : (scopes : Scopes) (name : Name) → Low scopes → Low (enter scopes (declares name kind.Variable))
low_next scopes name low =
    let n = scopes.counts.variables in
    subst (λ m. Only (is_known (first_ones m)) (enter scopes (declares name kind.Variable))) (next_is n)
    (declare_only (is_known (first_ones (suc n))) scopes name kind.Variable (λ is. or_left (nat_eq n n) (is_known (first_ones n) n)
    (eq-eqb n n refl))
    (only_weaker (is_known (first_ones n)) (is_known (first_ones (suc n))) (λ k. or_right (nat_eq k n) (is_known (first_ones n) k)) scopes low))

params_low : (role : Role) (params : List RawParam) (scopes : Scopes) → Low scopes →
    Params scopes (after scopes (role_piece role params).marks) (length params)
params_low role [] scopes low = record { low = low; outer = refl; more = plus_none scopes.counts.variables }
params_low role (param ∷ params) scopes low =
    let rest = (role_piece role params).marks in
    let middle = after scopes (param_marks param) in
    let entered : enter scopes (declares param.name kind.Variable) ≡ middle = enter-behind scopes (type_marks param.ty) param.name kind.Variable
    (still_type param.ty) in
    let later = params_low role params middle (subst Low entered (low_next scopes param.name low)) in
    subst (λ new. Params scopes new (length (param ∷ params))) (sym (after-append scopes (param_marks param) rest))
    (record {
      low = later.low;
      outer = later.outer ∙ ap (λ (s : Scopes). s.outer) (sym entered);
      more = counted_on scopes.counts.variables middle.counts.variables (after middle rest).counts.variables (length params)
          (ap (λ (s : Scopes). s.counts.variables) (sym entered)) later.more;
    })

-- ---- units

abbrev never : ℕ → Bool
never k = false

-- in a unit behind its parameters
record Head (scopes : Scopes) (def : RawUnit) : Type 0 where
  pub low : Low (after (opened scopes) (params_piece def).marks)
  pub outer : (after (opened scopes) (params_piece def).marks).outer ≡ scopes.inner ∷ scopes.outer
  pub count : (after (opened scopes) (params_piece def).marks).counts.variables ≡ length def.inputs + length def.outputs

head_of : (scopes : Scopes) (def : RawUnit) → Only never scopes → scopes.counts.variables ≡ 0 → Head scopes def
head_of scopes def nothing none =
    let ins = (role_piece role.Input def.inputs).marks in
    let outs = (role_piece role.Output def.outputs).marks in
    let inner = opened scopes in
    let first = params_low role.Input def.inputs inner (
      tt,
      only_weaker never (is_known (first_ones scopes.counts.variables)) (λ k is. absurd (cc)) scopes
          nothing,
    ) in
    let middle = after inner ins in
    let second = params_low role.Output def.outputs middle first.low in
    let whole : after (after inner ins) outs ≡ after inner (ins ++ outs) = sym (after-append inner ins outs) in
    record {
      low = subst Low whole second.low;
      outer = ap (λ (s : Scopes). s.outer) (sym whole) ∙ second.outer ∙ first.outer;
      count = ap (λ (s : Scopes). s.counts.variables) (sym whole)
          ∙ two_more scopes.counts.variables middle.counts.variables (after middle outs).counts.variables (length def.inputs)
          (length def.outputs) none
          first.more second.more;
    }

-- what holds of the body of a unit, and of the scopes behind it
record Inside (scopes : Scopes) (def : RawUnit) : Type 0 where
  pub outer : (after (opened scopes) (inside_piece def).marks).outer ≡ scopes.inner ∷ scopes.outer
  pub declared : body_declared (named_unit scopes def) ≡ true

inside_of : (scopes : Scopes) (def : RawUnit) → Only never scopes → scopes.counts.variables ≡ 0 → Fits scopes (unit_marks def) →
    Inside scopes def
inside_of scopes def nothing none fits =
    let inner = opened scopes in
    let params = (params_piece def).marks in
    let body = (block_piece def.body).marks in
    let two = after inner params in
    let head = head_of scopes def nothing none in
    let count = length def.inputs + length def.outputs in
    let inside = fits_first inner (inside_unit def) (closes ∷ [])
    (fits_first scopes (in_scope (inside_unit def)) (declares def.name (kind_of_unit def.kind) ∷ []) fits).1 in
    let turns = body_turns def.body (first_ones count) two (subst (λ n. Only (is_known (first_ones n)) two) head.count head.low)
    (body_fits inner def inside) in
    record {
      outer = ap (λ (s : Scopes). s.outer) (after-append inner params body) ∙ turns.outer ∙ head.outer;
      declared = turns.stands;
    }

-- ---- items

unit_only : (kind : UnitKind) (name : Name) (scopes : Scopes) → Only never scopes → Only never (enter scopes (declares name (kind_of_unit kind)))
unit_only unit.Function name scopes nothing = declare_only never scopes name kind.Function (λ is. absurd (cc)) nothing
unit_only unit.Activity name scopes nothing = declare_only never scopes name kind.Activity (λ is. absurd (cc)) nothing

-- no variable is declared or counted where the next item stands, and every use from there on fits
record Known (scopes : Scopes) (items : List RawItem) : Type 0 where
  pub nothing : Only never scopes
  pub none : scopes.counts.variables ≡ 0
  pub fits : Fits scopes (marks_of items)

-- the same behind an item
record Behind (new : Scopes) : Type 0 where
  pub nothing : Only never new
  pub none : new.counts.variables ≡ 0

behind_item : (one : RawItem) (scopes : Scopes) → Only never scopes → scopes.counts.variables ≡ 0 → Fits scopes (item_marks one) →
    Behind (after scopes (item_marks one))
behind_item (item.Struct def) scopes nothing none fits =
    subst Behind (struct_scopes scopes def)
    (record { nothing = declare_only never scopes def.name kind.Struct (λ is. absurd (cc)) nothing; none = none })
behind_item (item.Constant constant) scopes nothing none fits =
    subst Behind (enter-behind scopes (optional type_marks constant.ty ++ expr_marks constant.value) constant.name kind.Constant
    (still_value constant.ty (Some constant.value)))
    (record { nothing = declare_only never scopes constant.name kind.Constant (λ is. absurd (cc)) nothing; none = none })
behind_item (item.Unit def) scopes nothing none fits =
    let inner = after (opened scopes) (inside_piece def).marks in
    let inside = inside_of scopes def nothing none fits in
    let closed : enter inner closes ≡ scopes_outside (scopes.inner ∷ scopes.outer) inner.counts = ap (λ outer. scopes_outside outer inner.counts) inside.outer in
    subst Behind (unit_scopes scopes inner def refl)
    (record {
      nothing = unit_only def.kind def.name (enter inner closes) (subst (Only never) (sym closed) nothing);
      none = unit_counted def.kind (enter inner closes).counts;
    })

known_next : (scopes : Scopes) (one : RawItem) (items : List RawItem) → Known scopes (one ∷ items) → Known (after scopes (item_marks one)) items
known_next scopes one items known =
    let behind = behind_item one scopes known.nothing known.none (fits_first scopes (item_marks one) (marks_of items) known.fits) in
    record { nothing = behind.nothing; none = behind.none; fits = fits_second scopes (item_marks one) (marks_of items) known.fits }

item_declared : (scopes : Scopes) (one : RawItem) → Only never scopes → scopes.counts.variables ≡ 0 → Fits scopes (item_marks one) →
    list_all body_declared (units_of scopes one) ≡ true
item_declared scopes (item.Struct def) nothing none fits = refl
item_declared scopes (item.Constant constant) nothing none fits = refl
item_declared scopes (item.Unit def) nothing none fits =
    and_from (body_declared (named_unit scopes def)) true (inside_of scopes def nothing none fits).declared refl

units_declared : (scopes : Scopes) (items : List RawItem) → Known scopes items → list_all body_declared (along units_of scopes items) ≡ true
units_declared scopes [] known = refl
units_declared scopes (one ∷ items) known =
    all_append body_declared (units_of scopes one) (along units_of (after scopes (item_marks one)) items)
    (item_declared scopes one known.nothing known.none (fits_first scopes (item_marks one) (marks_of items) known.fits))
    (units_declared (after scopes (item_marks one)) items (known_next scopes one items known))

pub program_declared : (items : List RawItem) (bytes : ℕ) → Passes items → list_all body_declared (named_program items bytes).units ≡ true
program_declared items bytes passes =
    units_declared file_scope items (record { nothing = (tt, tt); none = refl; fits = program_fits items passes })
