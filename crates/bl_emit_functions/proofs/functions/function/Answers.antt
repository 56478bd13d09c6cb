use Rattle.std.proofs.Common.{◌≡◌, List, ◌++◌, Option, true, rules, ap, ◌∙◌}
use Rattle.std.specs.Prelude.{option_map}
use Rattle.bl_tree.specs.declared.text.Text.{Text}
use Rattle.bl_tree.specs.declared.c.CFunc.{CFunc}
use Rattle.bl_tree.specs.declared.c.CLocal.{CLocal}
use Rattle.bl_tree.specs.declared.c.CParam.{CParam}
use Rattle.bl_tree.specs.declared.c.CStmt.{CStmt}
use Rattle.bl_tree.specs.declared.scalar.Scalar.{Scalar}
use Rattle.bl_tree.specs.declared.tree.StructDef.{StructDef}
use Rattle.bl_tree.specs.declared.tree.Unit.{Unit as UnitDef}
use Rattle.bl_tree.specs.Program.{parameters_of}
use Rattle.bl_tree.specs.Typing.{TypingContext, inputs_of, site_of}
use Rattle.bl_emit_acts.specs.Sites.{site_in}
use Rattle.bl_emit_acts.specs.Trees.{nowhere}
use Rattle.bl_emit_acts.specs.Types.{c_scalar, unit_name}
use Rattle.bl_emit_functions.specs.declared.coded.Coded.{Coded}
use Rattle.bl_emit_functions.specs.Functions.{again_code, body_code, body_coded, code_returns, copies_from, end_code, flag_locals, function_code}
use Rattle.bl_emit_functions.specs.Functions.{params_from, variable_locals, whole_code}
use Rattle.bl_emit_functions.proofs.functions.function.Goals as goal

module _ (structs : List StructDef) (earlier : List UnitDef) (unit : UnitDef) (site : TypingContext) (coded : Coded) (body whole : List CStmt)
    (params : List CParam) (locals : List CLocal) (name : Text) (result : Option Scalar) where
  made_is : site ≡ site_of structs earlier unit → coded ≡ body_coded site unit →
      body ≡ copies_from site 0 (inputs_of unit) ++ (coded.code ++ end_code unit.result (code_returns coded.code)) →
      whole ≡ again_code site unit body ++ body → params ≡ params_from structs unit.vars 0 (parameters_of unit) →
      locals ≡ variable_locals site unit ++ flag_locals coded.free.flags → name ≡ unit_name unit.name →
      result ≡ option_map c_scalar unit.result →
      ◌≡◌ {A = CFunc} (record { place = nowhere; fixed = true; result = result; name = name; params = params; locals = locals; body = whole })
      (function_code structs earlier unit)
  made_is of_site of_coded of_body of_whole of_params of_locals of_name of_result =
      let body_is : body ≡ body_code site unit =
      of_body
      ∙ ap (λ (coded : Coded). copies_from site 0 (inputs_of unit) ++ (coded.code ++ end_code unit.result (code_returns coded.code))) of_coded in
      let whole_is : whole ≡ whole_code (site_of structs earlier unit) unit =
      of_whole
      ∙ (ap (λ (body : List CStmt). again_code site unit body ++ body) body_is
      ∙ ap (λ (site : TypingContext). whole_code site unit) of_site) in
      let locals_are : locals ≡ variable_locals (site_of structs earlier unit) unit
      ++ flag_locals (body_coded (site_of structs earlier unit) unit).free.flags =
      of_locals
      ∙ (ap (λ (coded : Coded). variable_locals site unit ++ flag_locals coded.free.flags) of_coded
      ∙ ap (λ (site : TypingContext). variable_locals site unit ++ flag_locals (body_coded site unit).free.flags) of_site) in
      λ i. record {
        place = nowhere;
        fixed = true;
        result = of_result i;
        name = of_name i;
        params = of_params i;
        locals = locals_are i;
        body = whole_is i;
      }

pub returns : goal.returns
returns c =
    let name : c.in_ok-name.name ≡ unit_name c.args.unit.now.name = search rules in
    made_is c.args.structs.now c.args.earlier.now c.args.unit.now (site_in c.site-site.result) c.in_ok-coded.coded c.in_ok-body.body c.in_ok-body-2.body
    c.in_ok-params.params c.in_ok-locals.locals c.in_ok-name.name c.type_in_c.result c.site-site.ensures c.in_ok-coded.ensures c.in_ok-body.ensures
    c.in_ok-body-2.ensures c.in_ok-params.ensures c.in_ok-locals.ensures name c.type_in_c.ensures
