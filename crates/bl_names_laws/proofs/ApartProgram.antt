-- The branches in the units of a program keep apart, where every use fits.
use Rattle.std.proofs.Common.{◌≡◌, ℕ, Bool, true, false, ◌&&◌, List, [], ◌∷◌, ◌++◌, map, refl, sym, ap, subst, ◌∙◌}
use Rattle.std.specs.Prelude.{Some}
use Rattle.std.specs.List.{list_all}
use Rattle.std.proofs.lemmas.Bool.{and_from}
use Rattle.bl_tree.specs.declared.tree.Role.{Role}
use Rattle.bl_tree.specs.declared.tree.Role.TheVariants as role
use Rattle.bl_tree.specs.declared.tree.UnitKind.{UnitKind}
use Rattle.bl_tree.specs.declared.tree.UnitKind.TheVariants as unit
use Rattle.bl_tree.specs.Reduce.{all_of, joined}
use Rattle.bl_names_tree.specs.declared.stmt.NamedStmt.{NamedStmt}
use Rattle.bl_parse_tree.specs.declared.item.RawItem.{RawItem}
use Rattle.bl_parse_tree.specs.declared.item.RawItem.TheVariants as item
use Rattle.bl_parse_tree.specs.declared.item.RawParam.{RawParam}
use Rattle.bl_parse_tree.specs.declared.item.RawUnit.{RawUnit}
use Rattle.bl_parse_tree.specs.declared.name.Name.{Name}
use Rattle.bl_names_scopes.specs.declared.kind.Kind.TheVariants as kind
use Rattle.bl_names_scopes.specs.Marks.{closes, declares, expr_marks, in_scope, inside_unit, item_marks, kind_of_unit, marks_of, optional, param_marks}
use Rattle.bl_names_scopes.specs.Marks.{stmt_marks, type_marks, unit_marks}
use Rattle.bl_names_scopes.specs.Rules.{Passes}
use Rattle.bl_names_scopes.specs.Scopes.{Scopes, after, enter, file_scope}
use Rattle.bl_names.specs.Named.{block_piece, inside_piece, named_program, named_unit, opened, params_piece, role_piece, stmt_piece, units_of}
use Rattle.bl_names.proofs.FitLemmas.{Fits, fits_behind, fits_first, fits_second, program_fits}
use Rattle.bl_names.proofs.ItemLemmas.{struct_scopes, unit_scopes}
use Rattle.bl_names.proofs.PastLemmas.{enter-behind}
use Rattle.bl_names.proofs.PieceLemmas.{block_marks, role_marks}
use Rattle.bl_names.proofs.StillLemmas.{after-append, still_optional, still_type, still_value}
use Rattle.bl_names_laws.specs.Apart.{is_apart, naming_of}
use Rattle.bl_names_laws.specs.WellFormed.{body_apart}
use Rattle.bl_names_laws.proofs.Along.{along_under}
use Rattle.bl_names_laws.proofs.Apart.{every_of, good_all}
use Rattle.bl_names_laws.proofs.Filled.{params_move}
use Rattle.bl_names_laws.proofs.Moves.{PieceMoves, body_moves, moving_then, own_is}
use Rattle.bl_names_laws.proofs.Only.{Low, Only, below, declare_only, low_variable, only_weaker}

-- ---- parameters

low_params : (role : Role) (params : List RawParam) (scopes : Scopes) → Low scopes → Low (after scopes (role_piece role params).marks)
low_params role [] scopes low = low
low_params role (param ∷ params) scopes low =
    subst Low (sym (after-append scopes (param_marks param) (role_piece role params).marks))
    (low_params role params (after scopes (param_marks param))
    (subst Low (enter-behind scopes (type_marks param.ty) param.name kind.Variable (still_type param.ty)) (low_variable scopes param.name low)))

-- what fits in a unit fits behind its parameters in its body
pub body_fits : (scopes : Scopes) (def : RawUnit) → Fits scopes (inside_unit def) → Fits (after scopes (params_piece def).marks) (block_piece def.body).marks
body_fits scopes def fits =
    let ins = joined (map param_marks def.inputs) in
    let outs = joined (map param_marks def.outputs) in
    let result = optional type_marks def.result in
    let body = joined (map stmt_marks def.body) in
    let behind = after (after scopes ins) outs in
    subst (Fits (after scopes (params_piece def).marks)) (sym (block_marks def.body))
    (subst (λ s. Fits s body)
    (sym (after-append scopes ins outs) ∙ (λ i. after scopes (sym (role_marks role.Input def.inputs) i ++ sym (role_marks role.Output def.outputs) i)))
    (fits_behind behind result body (still_optional type_marks def.result still_type)
    (fits_second (after scopes ins) outs (result ++ body) (fits_second scopes ins (outs ++ (result ++ body)) fits))))

-- ---- units

listed : (body : List NamedStmt) → list_all is_apart body ≡ all_of (map (λ n. n.apart) (map naming_of body))
listed [] = refl
listed (s ∷ body) = ap (λ b. is_apart s && b) (listed body)

abbrev always : ℕ → Bool
always k = true

abbrev never : ℕ → Bool
never k = false

unit_apart : (scopes : Scopes) (def : RawUnit) → Only never scopes → Fits scopes (unit_marks def) → body_apart (named_unit scopes def) ≡ true
unit_apart scopes def none fits =
    let two = after (opened scopes) (params_piece def).marks in
    let ins = (role_piece role.Input def.inputs).marks in
    let outs = (role_piece role.Output def.outputs).marks in
    let low : Low two = subst Low (sym (after-append (opened scopes) ins outs))
    (low_params role.Output def.outputs (after (opened scopes) ins)
    (low_params role.Input def.inputs (opened scopes) (tt, only_weaker never (below scopes.counts.variables) (λ k is. absurd (cc)) scopes none))) in
    let inside = fits_first (opened scopes) (inside_unit def) (closes ∷ [])
    (fits_first scopes (in_scope (inside_unit def)) (declares def.name (kind_of_unit def.kind) ∷ []) fits).1 in
    listed ((block_piece def.body).made two)
    ∙ (good_all naming_of stmt_piece def.body (every_of def.body) always two (λ k more. refl)
    (only_weaker (below two.counts.variables) always (λ k is. refl) two low) low (body_fits (opened scopes) def inside)).apart

-- ---- items

-- no variable is declared where the next item stands, and every use from there on fits
abbrev Known : Scopes → List RawItem → Type 0
Known scopes items = Only never scopes × Fits scopes (marks_of items)

pub inside_moves : (def : RawUnit) → PieceMoves (inside_piece def)
inside_moves def =
    moving_then (params_piece def).marks (block_piece def.body).marks (params_piece def).vars (block_piece def.body).vars (params_move def)
    (body_moves def.body)

unit_only : (kind : UnitKind) (name : Name) (scopes : Scopes) → Only never scopes → Only never (enter scopes (declares name (kind_of_unit kind)))
unit_only unit.Function name scopes none = declare_only never scopes name kind.Function (λ is. absurd (cc)) none
unit_only unit.Activity name scopes none = declare_only never scopes name kind.Activity (λ is. absurd (cc)) none

none_behind : (one : RawItem) (scopes : Scopes) → Only never scopes → Only never (after scopes (item_marks one))
none_behind (item.Struct def) scopes none =
    subst (Only never) (struct_scopes scopes def) (declare_only never scopes def.name kind.Struct (λ is. absurd (cc)) none)
none_behind (item.Constant constant) scopes none =
    subst (Only never) (enter-behind scopes (optional type_marks constant.ty ++ expr_marks constant.value) constant.name kind.Constant
    (still_value constant.ty (Some constant.value)))
    (declare_only never scopes constant.name kind.Constant (λ is. absurd (cc)) none)
none_behind (item.Unit def) scopes none =
    let inner = after (opened scopes) (inside_piece def).marks in
    let closed : enter inner closes ≡ record scopes { counts = inner.counts } =
    sym (after-append (opened scopes) (inside_piece def).marks (closes ∷ []))
    ∙ own_is (inside_piece def).marks (inside_piece def).vars (inside_moves def) scopes in
    subst (Only never) (unit_scopes scopes inner def refl) (unit_only def.kind def.name (enter inner closes) (subst (Only never) (sym closed) none))

known_next : (scopes : Scopes) (one : RawItem) (items : List RawItem) → Known scopes (one ∷ items) → Known (after scopes (item_marks one)) items
known_next scopes one items known = (none_behind one scopes known.0, fits_second scopes (item_marks one) (marks_of items) known.1)

item_apart : (scopes : Scopes) (one : RawItem) → Only never scopes → Fits scopes (item_marks one) → list_all body_apart (units_of scopes one) ≡ true
item_apart scopes (item.Struct def) none fits = refl
item_apart scopes (item.Constant constant) none fits = refl
item_apart scopes (item.Unit def) none fits = and_from (body_apart (named_unit scopes def)) true (unit_apart scopes def none fits) refl

pub units_are_apart : (items : List RawItem) (bytes : ℕ) → Passes items → list_all body_apart (named_program items bytes).units ≡ true
units_are_apart items bytes passes = along_under Known units_of body_apart known_next
    (λ scopes one items known. item_apart scopes one known.0 (fits_first scopes (item_marks one) (marks_of items) known.1)) file_scope items
    ((tt, tt), program_fits items passes)
