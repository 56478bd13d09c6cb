-- The parameters of a unit have types, and the rest of its variables stand behind them.
use Rattle.std.proofs.Common.{◌≡◌, ℕ, ◌+◌, Bool, true, ◌&&◌, List, [], ◌∷◌, ◌++◌, length, take, refl, sym, subst, ◌∙◌}
use Rattle.std.specs.Prelude.{Some, is_some}
use Rattle.std.specs.List.{list_all}
use Rattle.std.proofs.Math.Seq.{take-append_seam}
use Rattle.std.proofs.lemmas.List.{length-append}
use Rattle.std.proofs.lemmas.List.Folds.{list_all-append}
use Rattle.bl_tree.specs.declared.tree.Role.{Role}
use Rattle.bl_tree.specs.declared.tree.Role.TheVariants as role
use Rattle.bl_tree.specs.declared.tree.Unit.{Unit as UnitDef}
use Rattle.bl_names_tree.specs.declared.item.NamedVar.{NamedVar}
use Rattle.bl_names_scopes.specs.declared.kind.Kind.TheVariants as kind
use Rattle.bl_names_scopes.specs.Marks.{param_marks, type_marks}
use Rattle.bl_names_scopes.specs.Scopes.{Scopes, after}
use Rattle.bl_parse_tree.specs.declared.item.RawParam.{RawParam}
use Rattle.bl_parse_tree.specs.declared.item.RawUnit.{RawUnit}
use Rattle.bl_names.specs.Named.{named_var, params_piece, role_piece}
use Rattle.bl_names.proofs.PastLemmas.{enter-behind}
use Rattle.bl_names.proofs.StillLemmas.{after-append, still_type}
use Rattle.bl_types_laws.proofs.Suits.{Suits, suits_none, suits_so, suits_then, suits_variable}
use Rattle.bl_types_laws.proofs.Told.{Told, kinds_of}
use Rattle.bl_names_laws.proofs.Distinct.{role_long}

abbrev pub is_typed : NamedVar → Bool
is_typed var = is_some var.ty

module _ (units : List UnitDef) where
  param_suits : (role : Role) (param : RawParam) (scopes : Scopes) → Told (kinds_of units) scopes →
      Suits units true scopes (after scopes (param_marks param)) (named_var scopes param.name (Some param.ty) role ∷ []) []
  param_suits role param scopes told =
      subst (λ new. Suits units true scopes new (named_var scopes param.name (Some param.ty) role ∷ []) [])
      (enter-behind scopes (type_marks param.ty) param.name kind.Variable (still_type param.ty))
      (suits_variable units true scopes param.name (named_var scopes param.name (Some param.ty) role) told refl)

  role_suits : (role : Role) (params : List RawParam) (scopes : Scopes) → Told (kinds_of units) scopes →
      Suits units (list_all is_typed ((role_piece role params).vars scopes)) scopes (after scopes (role_piece role params).marks)
      ((role_piece role params).vars scopes) ((role_piece role params).constants scopes)
  role_suits role [] scopes told = suits_none units scopes told
  role_suits role (param ∷ params) scopes told =
      let middle = after scopes (param_marks param) in
      let rest = role_piece role params in
      let first = param_suits role param scopes told in
      subst (λ new. Suits units (list_all is_typed (rest.vars middle)) scopes new (named_var scopes param.name (Some param.ty) role ∷ rest.vars middle)
      (rest.constants middle)) (sym (after-append scopes (param_marks param) rest.marks))
      (suits_then units true (list_all is_typed (rest.vars middle)) scopes middle (after middle rest.marks)
      (named_var scopes param.name (Some param.ty) role ∷ []) (rest.vars middle) [] (rest.constants middle)
      first (role_suits role params middle first.told))

  -- behind both lists of parameters
  pub head_suits : (def : RawUnit) (scopes : Scopes) → Told (kinds_of units) scopes →
      Suits units (list_all is_typed ((params_piece def).vars scopes)) scopes (after scopes (params_piece def).marks) ((params_piece def).vars scopes)
      ((params_piece def).constants scopes)
  head_suits def scopes told =
      let one = role_piece role.Input def.inputs in
      let two = role_piece role.Output def.outputs in
      let middle = after scopes one.marks in
      let ins = one.vars scopes in
      let outs = two.vars middle in
      let first = role_suits role.Input def.inputs scopes told in
      subst (λ new. Suits units (list_all is_typed (ins ++ outs)) scopes new (ins ++ outs) (one.constants scopes ++ two.constants middle))
      (sym (after-append scopes one.marks two.marks))
      (suits_so units (list_all is_typed ins && list_all is_typed outs) (list_all is_typed (ins ++ outs)) scopes (after middle two.marks) (ins ++ outs)
      (one.constants scopes ++ two.constants middle)
      (λ is. list_all-append is_typed ins outs ∙ is)
      (suits_then units (list_all is_typed ins) (list_all is_typed outs) scopes middle (after middle two.marks) ins outs (one.constants scopes)
      (two.constants middle) first (role_suits role.Output def.outputs middle first.told)))

pub head_long : (def : RawUnit) (scopes : Scopes) → length ((params_piece def).vars scopes) ≡ length def.inputs + length def.outputs
head_long def scopes =
    let one = role_piece role.Input def.inputs in
    length-append (one.vars scopes) ((role_piece role.Output def.outputs).vars (after scopes one.marks))
    ∙ (λ i. role_long role.Input def.inputs scopes i + role_long role.Output def.outputs (after scopes one.marks) i)

-- the parameters of a unit are the first of its variables
pub head_at : (params locals : List NamedVar) (k : ℕ) → length params ≡ k → take k (params ++ locals) ≡ params
head_at params locals k is = (λ i. take (sym is i) (params ++ locals)) ∙ take-append_seam params locals
