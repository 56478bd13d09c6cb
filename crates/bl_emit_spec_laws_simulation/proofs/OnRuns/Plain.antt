-- A path by fields alone: it leads wherever its static path does, and asks for no copy.
use Rattle.std.proofs.Common.{◌≡◌, ℕ, Bool, true, false, List, [], ◌∷◌, map, Some, refl, sym, ap, ◌∙◌, subst}
use Rattle.std.specs.Prelude.{option_and_then, option_map}
use Rattle.bl_tree.specs.declared.static_path.Static.{Static}
use Rattle.bl_tree.specs.declared.tree.Expr.{Expr}
use Rattle.bl_tree.specs.declared.tree.ExprKind.{ExprKind}
use Rattle.bl_tree.specs.declared.tree.ExprKind.TheOpen.{Part-F}
use Rattle.bl_tree.specs.declared.tree.Part.{Part, fold-Part, fold-roll-Part, out-Part, roll-Part, roll-out-Part}
use Rattle.bl_tree.specs.declared.tree.Path.{Path, fold_out-Path, out-Path}
use Rattle.bl_tree.specs.Reduce.{all_of}
use Rattle.bl_tree.specs.Static.{Reach, StaticStep, before_index, expr_mentions, kind_mentions, leading_fields, part_step, path_reach, static_of, step_of}
use Rattle.bl_tree.specs.Typing.{expr_ignored, is_plain, kind_ignored, part_is_field, path_is_plain}
use Rattle.std.specs.Prelude.{if◌then◌else◌}
use Rattle.std.proofs.lemmas.Bool.{and_from}
use Rattle.bl_tree.proofs.Basics.{and_first, and_second}
use Rattle.bl_eval.specs.Changes.{part_of_path}
use Rattle.bl_eval.specs.Meaning.{PathMeaning, Scope as Sees, View, path_meaning_of, positions_of}
use Rattle.bl_eval.proofs.MeaningLemmas.{spot_out}
use Rattle.bl_emit_acts_laws_simulation.specs.Encodes.{copied_in_path, expr_copied, kind_copied, part_copied, path_copied}

module _ (sees : Sees) (view : View) (copied : ℕ → Bool) where
  abbrev is_field : Part → Bool
  is_field = fold-Part (Unit {0}) Bool (Unit {0}) Bool kind_ignored part_is_field expr_ignored path_is_plain

  abbrev has_copies : Part → Bool
  has_copies = fold-Part Bool Bool Bool Bool (kind_copied copied) part_copied expr_copied path_copied

  -- a part that is a field
  record FieldOne (part : Part) : Type 0 where
    k : ℕ
    position : part_of_path sees part view ≡ Some k
    field : (step_of part).field ≡ Some k
    copies : has_copies part ≡ true

  field_by : (layer : Part-F ExprKind Part Expr Path) → is_field (roll-Part layer) ≡ true → FieldOne (roll-Part layer)
  field_by (Part-F.Index e) h = absurd (let no : false ≡ true = rw fold-roll-Part at h in cc)
  field_by (Part-F.Field k) h = record {
    k = k;
    position = rw fold-roll-Part refl;
    field = rw fold-roll-Part refl;
    copies = rw fold-roll-Part refl;
  }

  field_one : (part : Part) → is_field part ≡ true → FieldOne part
  field_one part = subst (λ part. is_field part ≡ true → FieldOne part) (roll-out-Part part) (field_by (out-Part part))

  record Fields (parts : List Part) : Type 0 where
    positions : positions_of (map (part_of_path sees) parts) view ≡ Some (leading_fields (map step_of parts))
    copies : all_of (map has_copies parts) ≡ true

  fields_of : (parts : List Part) → all_of (map is_field parts) ≡ true → Fields parts
  fields_of [] all = record { positions = refl; copies = refl }
  fields_of (part ∷ rest) all =
      let one = field_one part (and_first (is_field part) (all_of (map is_field rest)) all) in
      let more = fields_of rest (and_second (is_field part) (all_of (map is_field rest)) all) in
      record {
        positions = ap (option_and_then (λ k. option_map (λ ks. k ∷ ks) (positions_of (map (part_of_path sees) rest) view))) one.position
            ∙ (ap (option_map (λ ks. one.k ∷ ks)) more.positions
            ∙ ap Some (sym (ap (λ field. before_index field (leading_fields (map step_of rest))) one.field)));
        copies = and_from (has_copies part) (all_of (map has_copies rest)) one.copies more.copies;
      }

  -- the static path of a path in its parts
  static_out : (path : Path) → static_of path ≡ record { root = (out-Path path).root; fields = leading_fields (map step_of (out-Path path).parts) }
  static_out path =
      ap (λ (reach : Reach). reach.static)
      (fold_out-Path (List Static) StaticStep (List Static) Reach kind_mentions part_step expr_mentions path_reach path)

  -- what a path by fields alone means
  pub record PlainPath (path : Path) : Type 0 where
    pub root : (path_meaning_of sees path).root ≡ (static_of path).root
    pub positions : (path_meaning_of sees path).positions view ≡ Some (static_of path).fields
    pub copies : copied_in_path copied path ≡ true

  pub plain_path : (path : Path) → is_plain path ≡ true → PlainPath path
  plain_path path plain =
      let parts = (out-Path path).parts in
      let all : all_of (map is_field parts) ≡ true =
      sym (fold_out-Path (Unit {0}) Bool (Unit {0}) Bool kind_ignored part_is_field expr_ignored path_is_plain path) ∙ plain in
      let fields = fields_of parts all in
      record {
        root = ap (λ (spot : PathMeaning). spot.root) (spot_out sees path) ∙ sym (ap (λ (static : Static). static.root) (static_out path));
        positions = ap (λ (spot : PathMeaning). spot.positions view) (spot_out sees path)
            ∙ (fields.positions ∙ ap Some (sym (ap (λ (static : Static). static.fields) (static_out path))));
        copies = fold_out-Path Bool Bool Bool Bool (kind_copied copied) part_copied expr_copied path_copied path ∙ fields.copies;
      }

  pub static_root : (path : Path) → (static_of path).root ≡ (out-Path path).root
  static_root path = ap (λ (static : Static). static.root) (static_out path)
