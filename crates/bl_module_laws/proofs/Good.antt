-- Files that are good one behind another pass together.
use Rattle.std.proofs.Common.{◌≡◌, ◌∙◌, ℕ, suc, ◌+◌, ◌-◌, ◌<◌, Bool, true, false, List, [], ◌∷◌, ◌++◌, length, map, refl, sym, ap, subst, arith}
use Rattle.std.proofs.lemmas.Bool.{eq-eqb, eqb-true}
use Rattle.std.proofs.lemmas.List.{append-nil, append_assoc, length-append}
use Rattle.std.specs.Prelude.{nat_eq}
use Rattle.bl_face.specs.declared.face.Face.{Face}
use Rattle.bl_joined.specs.Texts.{moved_place}
use Rattle.bl_joined.specs.Trees.{placed_item}
use Rattle.bl_joined_laws.specs.Items.{items_behind}
use Rattle.bl_module.specs.Faces.{behind_faces}
use Rattle.bl_module.specs.declared.behind.Behind.{Behind}
use Rattle.bl_module.specs.declared.taken.Taken.TheVariants.{AsLast}
use Rattle.bl_module_laws_faces.specs.Laws.{FaceDeclares}
use Rattle.bl_names.specs.Named.{along, units_of}
use Rattle.bl_names_laws_places.specs.Renamed.{renamed_unit}
use Rattle.bl_names_scopes.specs.Marks.{marks_of}
use Rattle.bl_names_scopes.specs.Rules.{PassesBehind}
use Rattle.bl_names_scopes.specs.Scopes.{file_scope, opened_by}
use Rattle.bl_names_tree.specs.declared.named.Named.{Named}
use Rattle.bl_parse_tree.specs.declared.item.RawItem.{RawItem}
use Rattle.bl_parse_tree.specs.declared.raw.Raw.{Raw}
use Rattle.bl_tree.specs.declared.place.Place.{Place}
use Rattle.bl_tree_laws_places.specs.Laws.{BringsBack}
use Rattle.bl_module_laws.proofs.Borders.{Border, FrontPasses, IsNamedOf, changed}
use Rattle.bl_module_laws.proofs.Entries.{entries_stand, stand_behind, stand_renamed, unmarked_behind}
use Rattle.bl_module_laws.proofs.Next.{next_border}
use Rattle.bl_module_laws.proofs.Parts.{NameLaws, TypeLaws, UnitLaws}
use Rattle.bl_module_laws.proofs.Passing.{ItemsPass, good_tree}
use Rattle.bl_module_laws.proofs.Read.{AllParsed, files_read}
use Rattle.bl_module_laws.proofs.Steps.{NearPasses, front_passes, named_units}
use Rattle.bl_module_laws.proofs.Turns.{GoodFrom}

-- ---- places that are moved are brought back

-- a place counted from an offset on
abbrev pub back_from : ℕ → Place → Place
back_from offset place = record { start = place.start - offset; end = place.end - offset }

back : (n k : ℕ) → (n + k) - n ≡ k
back n k = omega arith

pub brings_back : (offset : ℕ) → BringsBack (back_from offset) (moved_place offset)
brings_back offset place = λ i. record { start = back offset place.start i; end = back offset place.end i }

-- ---- which file is the last

pub is_last : (before : List Face) (count : ℕ) → length before + 1 ≡ count → nat_eq (length before + 1) count ≡ true
is_last before count same = eq-eqb (length before + 1) count same

not_true : (b : Bool) → ¬ (b ≡ true) → b ≡ false
not_true true never = absurd (never refl)
not_true false never = refl

pub is_earlier : (before : List Face) (more count : ℕ) → length before + suc (suc more) ≡ count → nat_eq (length before + 1) count ≡ false
is_earlier before more count same =
    not_true (nat_eq (length before + 1) count) (λ is. let equal = eqb-true (length before + 1) count is in omega (arith, same, equal))

-- ---- the entry of the last file is that of all

module _ (names : NameLaws) (types : TypeLaws) (named : Named) (front : List RawItem) (f : Place → Place) (raw : Raw)
    (is : IsNamedOf named (front ++ (map (placed_item f) raw.items ++ []))) (behind : Behind) (border : Border named front behind)
    (passes : PassesBehind (opened_by behind.headings) (marks_of raw.items)) where
  -- whether rule Entry passes for the last file is whether it passes for all
  pub last_entry : entries_stand false (along units_of file_scope (front ++ map (placed_item f) raw.items))
      ≡ entries_stand false (along units_of (opened_by behind.headings) raw.items)
  last_entry =
      ap (entries_stand false) (named_units names types named front f raw [] is behind border passes)
      ∙ stand_behind false (along units_of file_scope front) (map (renamed_unit (changed f front)) (along units_of (opened_by behind.headings) raw.items))
      border.unmarked
      ∙ stand_renamed (changed f front) false (along units_of (opened_by behind.headings) raw.items)

-- ---- one file after another

module _ (names : NameLaws) (types : TypeLaws) (units : UnitLaws) (declares : FaceDeclares) (named : Named) (all : List RawItem)
    (is : IsNamedOf named all) (count : ℕ) where
  last_pass : (before : List Face) (text : List ℕ) (face : Face) (raw : Raw) (front : List RawItem) (offset : ℕ) →
      all ≡ front ++ (map (placed_item (moved_place offset)) raw.items ++ []) → NearPasses (behind_faces before) true raw →
      Border named front (behind_faces before) → ItemsPass named all
  last_pass before text face raw front offset same near border =
      let f : Place → Place = moved_place offset in
      let is_here = subst (IsNamedOf named) same is in
      let whole : front ++ map (placed_item f) raw.items ≡ all = ap (λ them. front ++ them) (sym (append-nil (map (placed_item f) raw.items))) ∙ sym same in
      record {
        front = subst (FrontPasses named) whole
            (front_passes names types named front f raw [] is_here (behind_faces before) border units (back_from offset) (brings_back offset) true near);
        entry = ap (λ items. entries_stand false (along units_of file_scope items)) (sym whole)
            ∙ last_entry names types named front f raw is_here (behind_faces before) border near.names
            ∙ near.entry;
      }

  pub all_pass : (before : List Face) (texts : List (List ℕ)) (faces : List Face) → GoodFrom count before texts faces → (parsed : AllParsed texts) →
      (front : List RawItem) (offset : ℕ) → all ≡ front ++ items_behind offset (files_read texts parsed) → length before + length texts ≡ count →
      0 < length texts → Border named front (behind_faces before) → ItemsPass named all
  all_pass before [] faces good parsed front offset same counted some border = absurd (omega (arith, some))
  all_pass before (text ∷ texts) [] good parsed front offset same counted some border = absurd good
  all_pass before (text ∷ []) (face ∷ faces) good parsed front offset same counted some border =
      let raw : Raw = parsed.0.raw in
      let near = good_tree before (nat_eq (length before + 1) count) text face good.0 raw parsed.0.parses in
      last_pass before text face raw front offset same (subst (λ last. NearPasses (behind_faces before) last raw) (is_last before count counted) near) border
  all_pass before (text ∷ (other ∷ texts)) (face ∷ faces) good parsed front offset same counted some border =
      let raw : Raw = parsed.0.raw in
      let f : Place → Place = moved_place offset in
      let rest : List RawItem = items_behind (offset + length text + 1) (files_read (other ∷ texts) parsed.1) in
      let near : NearPasses (behind_faces before) false raw =
      subst (λ last. NearPasses (behind_faces before) last raw) (is_earlier before (length texts) count counted)
      (good_tree before (nat_eq (length before + 1) count) text face good.0 raw parsed.0.parses) in
      let adds = declares before (AsLast (nat_eq (length before + 1) count)) text face raw good.0 parsed.0.parses in
      let next =
      next_border names types named front f raw rest (subst (IsNamedOf named) same is) before border false near face adds units (back_from offset)
      (brings_back offset) (unmarked_behind (along units_of (opened_by (behind_faces before).headings) raw.items) near.entry) in
      let size = length-append before (face ∷ []) in
      all_pass (before ++ face ∷ []) (other ∷ texts) faces good.1 parsed.1 (front ++ map (placed_item f) raw.items) (offset + length text + 1)
      (same ∙ sym (append_assoc front (map (placed_item f) raw.items) rest)) (omega (arith, size, counted)) (omega arith) next
