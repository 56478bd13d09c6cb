use Rattle.std.proofs.Common.{◌≡◌, ◌++◌, drop, map}
use Rattle.serde_json.specs.View.{view}
use Rattle.bl_lsp_answers.specs.Diagnostics.{related_data}
use Rattle.bl_lsp_answers.proofs.diagnostics.all_related.Given as goal

abbrev pub invariant-loop-place : goal.invariant-loop-place
invariant-loop-place l =
    map view l.list.items ++ map (related_data l.fn.uri l.fn.text l.fn.rule) (drop l.place-index l.places)
    ≡ map (related_data l.fn.uri l.fn.text l.fn.rule) l.places
