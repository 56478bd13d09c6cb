-- One file between others is named as behind a start whose scope corresponds to that behind those before it.
use Rattle.std.proofs.Common.{◌≡◌, List, [], ◌∷◌, ◌++◌, map, refl, sym, ap, ap₂, ◌∙◌}
use Rattle.std.proofs.lemmas.List.{map-append}
use Rattle.bl_tree.specs.declared.place.Place.{Place}
use Rattle.bl_joined.specs.Trees.{placed_item}
use Rattle.bl_names.proofs.StillLemmas.{after-append}
use Rattle.bl_names.specs.Named.{along, constants_of, structs_of, units_of}
use Rattle.bl_names.specs.Order.{kind_of_item, order_of}
use Rattle.bl_names_laws_places.specs.Laws.{NamesAgree}
use Rattle.bl_names_laws_places.specs.Renamed.{renamed_constant, renamed_struct, renamed_unit}
use Rattle.bl_names_scopes.specs.Marks.{marks_of}
use Rattle.bl_names_scopes.specs.Scopes.{Scopes, after, file_scope}
use Rattle.bl_parse_tree.specs.declared.item.RawItem.{RawItem}
use Rattle.bl_parse_tree.specs.declared.item.RawItem.TheVariants as item
use Rattle.bl_names_laws_files.specs.Laws.{FileNamed}
use Rattle.bl_names_laws_files.proofs.InTurn.{along_both, marks_in_turn}

module _ {A : Type 0} (gives : Scopes → RawItem → List A) (before placed behind : List RawItem) (own : List A)
    (is : along gives (after file_scope (marks_of before)) placed ≡ own) where
  last_scopes : after (after file_scope (marks_of before)) (marks_of placed) ≡ after file_scope (marks_of (before ++ placed))
  last_scopes =
      sym (after-append file_scope (marks_of before) (marks_of placed)) ∙ ap (after file_scope) (sym (marks_in_turn before placed))

  between : along gives file_scope (before ++ (placed ++ behind))
      ≡ along gives file_scope before ++ (own ++ along gives (after file_scope (marks_of (before ++ placed))) behind)
  between =
      along_both gives file_scope before (placed ++ behind)
      ∙ ap (λ list. along gives file_scope before ++ list)
      (along_both gives (after file_scope (marks_of before)) placed behind
      ∙ ap₂ (λ xs scopes. xs ++ along gives scopes behind) is last_scopes)

pub same_kind : (f : Place → Place) (one : RawItem) → kind_of_item (placed_item f one) ≡ kind_of_item one
same_kind f (item.Struct def) = refl
same_kind f (item.Constant constant) = refl
same_kind f (item.Unit def) = refl

pub same_order : (f : Place → Place) (items : List RawItem) → order_of (map (placed_item f) items) ≡ order_of items
same_order f [] = refl
same_order f (one ∷ items) = ap₂ (λ x xs. x ∷ xs) (same_kind f one) (same_order f items)

pub file_named : NamesAgree → FileNamed
file_named agree by near before own behind corresponds passes =
    let far = after file_scope (marks_of before) in
    let same = agree by near far corresponds own passes in
    let placed = map (placed_item by.place) own in
    record {
      structs = between structs_of before placed behind (map (renamed_struct by) (along structs_of near own)) same.structs;
      constants = between constants_of before placed behind (map (renamed_constant by) (along constants_of near own)) same.constants;
      units = between units_of before placed behind (map (renamed_unit by) (along units_of near own)) same.units;
      order =
          map-append kind_of_item before (placed ++ behind)
          ∙ ap (λ list. order_of before ++ list)
          (map-append kind_of_item placed behind ∙ ap (λ list. list ++ order_of behind) (same_order by.place own));
    }
