-- What holds of all that the items of a program give.
use Rattle.std.proofs.Common.{◌≡◌, Bool, true, List, [], ◌∷◌, ◌++◌, refl, sym, ap, ◌∙◌}
use Rattle.std.specs.Prelude.{Some}
use Rattle.std.specs.List.{list_all}
use Rattle.bl_tree.proofs.Basics.{all_append, and_first, and_second}
use Rattle.bl_tree.specs.declared.tree.UnitKind.{UnitKind}
use Rattle.bl_tree.specs.declared.tree.UnitKind.TheVariants as unit
use Rattle.bl_parse_tree.specs.declared.item.RawItem.{RawItem}
use Rattle.bl_parse_tree.specs.declared.item.RawItem.TheVariants as item
use Rattle.bl_names_scopes.specs.declared.kind.Kind.TheVariants as kind
use Rattle.bl_names_scopes.specs.declared.scopes.Counts.{Counts}
use Rattle.bl_names_scopes.specs.Marks.{closes, expr_marks, item_marks, kind_of_unit, optional, type_marks}
use Rattle.bl_names_scopes.specs.Scopes.{Scopes, after, counted, enter}
use Rattle.bl_names.specs.Named.{along, inside_piece, opened}
use Rattle.bl_names.proofs.ItemLemmas.{struct_scopes, unit_scopes}
use Rattle.bl_names.proofs.PastLemmas.{enter-behind}
use Rattle.bl_names.proofs.StillLemmas.{still_value}

-- where what is known of the items from a place on stays known and shows that what the first gives passes a test, all that they give does
pub along_under : {A : Type 0} (known : Scopes → List RawItem → Type 0) (gives : Scopes → RawItem → List A) (test : A → Bool) →
    ((scopes : Scopes) (one : RawItem) (items : List RawItem) → known scopes (one ∷ items) → known (after scopes (item_marks one)) items) →
    ((scopes : Scopes) (one : RawItem) (items : List RawItem) → known scopes (one ∷ items) → list_all test (gives scopes one) ≡ true) →
    (scopes : Scopes) (items : List RawItem) → known scopes items → list_all test (along gives scopes items) ≡ true
along_under known gives test next each scopes [] is = refl
along_under known gives test next each scopes (one ∷ items) is =
    all_append test (gives scopes one) (along gives (after scopes (item_marks one)) items)
    (each scopes one items is) (along_under known gives test next each (after scopes (item_marks one)) items (next scopes one items is))

-- where what each item gives passes a test, all of it does
pub along_holds : {A : Type 0} (premise : RawItem → Bool) (gives : Scopes → RawItem → List A) (test : A → Bool) →
    ((scopes : Scopes) (one : RawItem) → premise one ≡ true → list_all test (gives scopes one) ≡ true) →
    (scopes : Scopes) (items : List RawItem) → list_all premise items ≡ true → list_all test (along gives scopes items) ≡ true
along_holds premise gives test each = along_under (λ scopes items. list_all premise items ≡ true) gives test
    (λ scopes one items hold. and_second (premise one) (list_all premise items) hold)
    (λ scopes one items hold. each scopes one (and_first (premise one) (list_all premise items) hold))

-- ---- between items no variable is counted

pub unit_counted : (kind : UnitKind) (counts : Counts) → (counted counts (kind_of_unit kind)).variables ≡ 0
unit_counted unit.Function counts = refl
unit_counted unit.Activity counts = refl

pub none_counted : (one : RawItem) (scopes : Scopes) → scopes.counts.variables ≡ 0 → (after scopes (item_marks one)).counts.variables ≡ 0
none_counted (item.Struct def) scopes none = ap (λ s. s.counts.variables) (sym (struct_scopes scopes def)) ∙ none
none_counted (item.Constant constant) scopes none =
    ap (λ s. s.counts.variables) (sym (enter-behind scopes (optional type_marks constant.ty ++ expr_marks constant.value) constant.name kind.Constant
    (still_value constant.ty (Some constant.value)))) ∙ none
none_counted (item.Unit def) scopes none =
    ap (λ s. s.counts.variables) (sym (unit_scopes scopes (after (opened scopes) (inside_piece def).marks) def refl))
    ∙ unit_counted def.kind (enter (after (opened scopes) (inside_piece def).marks) closes).counts
