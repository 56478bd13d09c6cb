-- The lines of functions, with their costs beside them.
use Rattle.std.proofs.Common.{◌≡◌, ℕ, suc, ◌+◌, ◌<◌, ◌≤◌, List, [], ◌∷◌, ◌++◌, length, get_or, drop}
use Rattle.std.proofs.Common.{refl, ap, subst, ◌∙◌, append_assoc}
use Rattle.std.proofs.lemmas.List.{get_or_default}
use Rattle.bl_tree.proofs.Basics.{drop_next}
use Rattle.bl_tree.specs.declared.c.CFunc.{CFunc}
use Rattle.bl_ctext_semantics.specs.Cost.{Costs, cost_of_function, costs_after}
use Rattle.bl_ctext_semantics.specs.Tables.{no_entries, with_entry}
use Rattle.bl_bound.specs.declared.cost.Cost.{Cost}
use Rattle.bl_bound.specs.Told.{reported_cost, told_costs}
use Rattle.bl_bound.specs.Text.{bound_text, costs_text, line_text}
use Rattle.bl_bound.proofs.CostLemmas.{told_after}

-- the lines of functions and costs that stand beside one another
abbrev pub lines : List CFunc → List Cost → List ℕ
lines [] costs = []
lines (f ∷ functions) [] = []
lines (f ∷ functions) (cost ∷ costs) = line_text f.name cost ++ lines functions costs

lines-after : (known : Costs) (functions : List CFunc) → lines functions (told_after known functions) ≡ costs_text (costs_after known functions)
lines-after known [] = refl
lines-after known (f ∷ functions) =
    ap (λ t. line_text f.name (reported_cost (cost_of_function known f)) ++ t)
    (lines-after (with_entry known f.name (cost_of_function known f)) functions)

pub lines-told : (functions : List CFunc) → lines functions (told_costs functions) ≡ bound_text functions
lines-told = lines-after no_entries

after-long : (known : Costs) (functions : List CFunc) → length (told_after known functions) ≡ length functions
after-long known [] = refl
after-long known (f ∷ functions) = ap suc (after-long (with_entry known f.name (cost_of_function known f)) functions)

-- there is a cost for each function
pub told-long : (functions : List CFunc) → length (told_costs functions) ≡ length functions
told-long = after-long no_entries

-- one more line
pub lines-next : (functions : List CFunc) (costs : List Cost) (k : ℕ) (f : CFunc) (cost : Cost) (so_far more all : List ℕ) →
    k < length functions → k < length costs → f ≡ get_or functions k f → cost ≡ get_or costs k cost → more ≡ so_far ++ line_text f.name cost →
    so_far ++ lines (drop k functions) (drop k costs) ≡ all → more ++ lines (drop (k + 1) functions) (drop (k + 1) costs) ≡ all
lines-next functions costs k f cost so_far more all within also is has grown h =
    let rest = lines (drop (k + 1) functions) (drop (k + 1) costs) in
    ap (λ t. t ++ rest) grown ∙ append_assoc so_far (line_text f.name cost) rest
    ∙ subst (λ l. so_far ++ lines (f ∷ drop (k + 1) functions) l ≡ all) (drop_next costs k cost also has)
    (subst (λ l. so_far ++ lines l (drop k costs) ≡ all) (drop_next functions k f within is) h)

-- one more line, of a cost by its place
pub lines-next_at : (functions : List CFunc) (costs : List Cost) (k : ℕ) (f : CFunc) (name : List ℕ) (other : Cost) (so_far more all : List ℕ) →
    k < length functions → k < length costs → f ≡ get_or functions k f → name ≡ f.name →
    more ≡ so_far ++ line_text name (get_or costs k other) →
    so_far ++ lines (drop k functions) (drop k costs) ≡ all → more ++ lines (drop (k + 1) functions) (drop (k + 1) costs) ≡ all
lines-next_at functions costs k f name other so_far more all within also is named grown h =
    let cost = get_or costs k other in
    lines-next functions costs k f cost so_far more all within also is (get_or_default costs k other cost also)
    (grown ∙ ap (λ n. so_far ++ line_text n cost) named) h
