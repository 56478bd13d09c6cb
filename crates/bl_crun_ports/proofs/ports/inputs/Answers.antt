use Rattle.std.proofs.Common.{◌≡◌, sym, subst}
use Rattle.std.specs.Prelude.{filter_map, IfOk}
use Rattle.bl_ctext_semantics.specs.Cells.{column_of, inputs_of}
use Rattle.bl_crun_ports.specs.inner.Prefixed.{AllPrefixed}
use Rattle.bl_crun_ports.proofs.PortLemmas.{inputs-prefixed}
use Rattle.bl_crun_ports.proofs.ports.inputs.Goals as goal

pub columns-requires : goal.columns-requires
columns-requires c = subst AllPrefixed (sym c.ports.ensures) (inputs-prefixed c.args.structs.now c.requires)

pub returns : goal.returns
unfolding inputs_of
returns c = λ funcs. subst (λ ms. IfOk c.columns.result (λ columns. columns ≡ filter_map column_of ms)) c.ports.ensures c.columns.ensures
