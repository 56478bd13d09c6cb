use Rattle.std.proofs.Common.{◌∙◌, ◌++◌, ◌∷◌, [], ap, map}
use Rattle.bl_names.specs.Named.{named_field}
use Rattle.bl_names.proofs.ItemLemmas.{struct_scopes}
use Rattle.bl_names.proofs.item.structure.Goals as goal

pub returns : goal.returns
returns c = λ i. record c.args.state.now {
  scopes = (c.in_ok-declare.ensures.declares ∙ struct_scopes c.args.state.now.scopes c.args.def.now) i;
  structs = (c.in_ok-push.ensures.ok ∙ (λ j. c.args.state.now.structs ++ (record {
    name = c.in_ok-copy_of.ensures j;
    fields = (c.in_ok-fields.ensures ∙ ap (map (named_field c.args.state.now.scopes)) c.deref.ensures) j;
  } ∷ []))) i;
}
