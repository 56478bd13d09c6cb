-- Items of arrays.
use Rattle.std.proofs.Common.{◌≡◌, ℕ, suc, List, [], ◌∷◌, length, refl, ap}
use Rattle.serde_json.specs.View.{items_view}
use Rattle.serde_json.specs.declared.value.Value.{Value}
use Rattle.bl_lsp.specs.Documents.{count}

pub count_view : (values : List Value) → count (items_view values) ≡ length values
count_view [] = refl
count_view (value ∷ values) = ap suc (count_view values)
