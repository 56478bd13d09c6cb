use Rattle.std.proofs.Common.{◌≡◌, ℕ, List, subst, sym}
use Rattle.std.specs.Prelude.{Result, Ok, Err, IfOk, OnOk}
use Rattle.bl_names_scopes.specs.Rules.{Passes}
use Rattle.bl_names_tree.specs.declared.named.Named.{Named}
use Rattle.bl_names_tree.specs.Placed.{IsPlaced}
use Rattle.bl_parse_tree.specs.declared.item.RawItem.{RawItem}
use Rattle.bl_tree.specs.declared.rule.Refusal.{Refusal}
use Rattle.bl_names.specs.Named.{named_program}
use Rattle.bl_names.proofs.PlacedProgram.{is_placed}
use Rattle.bl_names.proofs.program.resolve.Goals as goal

placed_if : (items : List RawItem) (bytes : ℕ) (found : Result Named Refusal) → OnOk found (Passes items)
    → IfOk found (λ named. named ≡ named_program items bytes) → IfOk found (λ named. IsPlaced named)
placed_if items bytes (Ok named) passes is = subst IsPlaced (sym is) (is_placed items bytes passes)
placed_if items bytes (Err refusal) passes is = tt

pub returns-clause-placed : goal.returns-clause-placed
returns-clause-placed c =
    placed_if c.args.raw.now.items c.args.raw.now.bytes c.resolve_behind.result c.resolve_behind.ensures.passes c.resolve_behind.ensures.named
