-- The type at the static path of a path by fields alone is the path's.
use Rattle.std.proofs.Common.{◌≡◌, ℕ, Bool, true, false, List, [], ◌∷◌, map, Option, Some, None}
use Rattle.std.proofs.Common.{refl, sym, ap, ◌∙◌, subst}
use Rattle.std.specs.Prelude.{option_and_then, slice_get, if◌then◌else◌}
use Rattle.bl_tree.proofs.Basics.{and_first, and_second, one_some}
use Rattle.bl_tree.specs.declared.tree.Expr.{Expr}
use Rattle.bl_tree.specs.declared.tree.ExprKind.{ExprKind}
use Rattle.bl_tree.specs.declared.tree.ExprKind.TheOpen.{Part-F}
use Rattle.bl_tree.specs.declared.tree.Part.{Part, fold-Part, fold-roll-Part, out-Part, roll-Part, roll-out-Part}
use Rattle.bl_tree.specs.declared.tree.Path.{Path, fold_out-Path, out-Path}
use Rattle.bl_tree.specs.declared.tree.StructDef.{StructDef}
use Rattle.bl_tree.specs.declared.tree.Ty.{Ty, out-Ty}
use Rattle.bl_tree.specs.declared.tree.Ty.TheOpen.{Ty-F}
use Rattle.bl_tree.specs.declared.tree.Var.{Var}
use Rattle.bl_tree.specs.declared.static_path.Static.{Static}
use Rattle.bl_tree.specs.Reduce.{all_of}
use Rattle.bl_tree.specs.Static.{Reach, StaticStep, expr_mentions, kind_mentions, leading_fields, part_step, path_reach, static_of, step_of}
use Rattle.bl_tree.specs.Types.{same_type}
use Rattle.bl_tree.specs.Typing.{TypingContext, after_parts, expr_ignored, expr_type, field_in, is_plain, kind_ignored, kind_type, part_is_field}
use Rattle.bl_tree.specs.Typing.{part_type as part_typing, path_is_plain, path_type, type_of_path, where_same}
use Rattle.bl_eval.proofs.PartFits.{type_of_part}
use Rattle.bl_ctree_laws_typing.proofs.OnViews.Along.{along, part_type}

-- the static path leads from a variable to the type
pub record PathTyped (structs : List StructDef) (vars : List Var) (path : Static) (ty : Ty) : Type 0 where
  pub var : Var
  pub root : slice_get vars path.root ≡ Some var
  pub leads : along structs path.fields var.ty ≡ Some ty

abbrev part_plain : Part → Bool
part_plain = fold-Part (Unit {0}) Bool (Unit {0}) Bool kind_ignored part_is_field expr_ignored path_is_plain

field_typed : (structs : List StructDef) (k : ℕ) (layer : Ty-F Ty) (c : Ty) → field_in structs k layer ≡ Some c →
    part_type structs k layer ≡ Some c
field_typed structs k (Ty-F.Scalar s) c is = absurd cc
field_typed structs k (Ty-F.Struct s) c is = is
field_typed structs k (Ty-F.Array n element) c is = absurd cc

module _ (site : TypingContext) where
  abbrev Parts : List Part → Type 0
  Parts parts =
      (ty c : Ty) → all_of (map part_plain parts) ≡ true → after_parts (map (type_of_part site) parts) ty ≡ Some c →
      along site.structs (leading_fields (map step_of parts)) ty ≡ Some c

  by_part : (layer : Part-F ExprKind Part Expr Path) (rest : List Part) → Parts rest → Parts (roll-Part layer ∷ rest)
  by_part (Part-F.Field k) rest inner ty c plain typed =
      rw fold-roll-Part (by (field_in site.structs k (out-Ty ty)) refl (rw fold-roll-Part at typed))
    where
      by : (found : Option Ty) → field_in site.structs k (out-Ty ty) ≡ found →
          option_and_then (after_parts (map (type_of_part site) rest)) found ≡ Some c →
          option_and_then (along site.structs (leading_fields (map step_of rest))) (part_type site.structs k (out-Ty ty)) ≡ Some c
      by None is e = absurd cc
      by (Some d) is e =
          ap (option_and_then (along site.structs (leading_fields (map step_of rest)))) (field_typed site.structs k (out-Ty ty) d is)
          ∙ inner d c (and_second (part_plain (roll-Part (Part-F.Field k))) (all_of (map part_plain rest)) plain) e
  by_part (Part-F.Index e) rest inner ty c plain typed =
      let none : part_plain (roll-Part (Part-F.Index e)) ≡ false = rw fold-roll-Part refl in
      let so : part_plain (roll-Part (Part-F.Index e)) ≡ true =
      and_first (part_plain (roll-Part (Part-F.Index e))) (all_of (map part_plain rest)) plain in
      let never : false ≡ true = sym none ∙ so in
      absurd cc

  parts_typed : (parts : List Part) → Parts parts
  parts_typed [] = λ ty c plain typed. typed
  parts_typed (part ∷ rest) =
      subst (λ part. Parts (part ∷ rest)) (roll-out-Part part) (by_part (out-Part part) rest (parts_typed rest))

  where_so : (holds : Bool) (found ty : Ty) → (if holds then Some found else None) ≡ Some ty → found ≡ ty
  where_so true found ty is = one_some found ty (Some found) refl is
  where_so false found ty is = absurd cc

  of_path : (path : Path) (ty : Ty) (found : Option Var) → slice_get site.vars (out-Path path).root ≡ found →
      all_of (map part_plain (out-Path path).parts) ≡ true →
      option_and_then (where_same (out-Path path).ty)
      (option_and_then (λ (var : Var). after_parts (map (type_of_part site) (out-Path path).parts) var.ty) found) ≡ Some ty →
      PathTyped site.structs site.vars (record { root = (out-Path path).root; fields = leading_fields (map step_of (out-Path path).parts) }) ty
  of_path path ty None there plain e = absurd cc
  of_path path ty (Some var) there plain e = of_type (after_parts (map (type_of_part site) (out-Path path).parts) var.ty) refl e
    where
      of_type : (found : Option Ty) → after_parts (map (type_of_part site) (out-Path path).parts) var.ty ≡ found →
          option_and_then (where_same (out-Path path).ty) found ≡ Some ty →
          PathTyped site.structs site.vars (record { root = (out-Path path).root; fields = leading_fields (map step_of (out-Path path).parts) }) ty
      of_type None is e = absurd cc
      of_type (Some c) is e = record {
        var = var;
        root = there;
        leads = parts_typed (out-Path path).parts var.ty c plain is ∙ ap Some (where_so (same_type (out-Path path).ty c) c ty e);
      }

  static_is : (path : Path) → static_of path ≡ record { root = (out-Path path).root; fields = leading_fields (map step_of (out-Path path).parts) }
  static_is path =
      ap (λ (reach : Reach). reach.static) (fold_out-Path (List Static) StaticStep (List Static) Reach kind_mentions part_step expr_mentions
      path_reach path)

  -- a path by fields alone
  pub path_typed : (path : Path) (ty : Ty) → is_plain path ≡ true → type_of_path site path ≡ Some ty →
      PathTyped site.structs site.vars (static_of path) ty
  path_typed path ty plain typed =
      subst (λ static. PathTyped site.structs site.vars static ty) (sym (static_is path))
      (of_path path ty (slice_get site.vars (out-Path path).root) refl
      (sym (fold_out-Path (Unit {0}) Bool (Unit {0}) Bool kind_ignored part_is_field expr_ignored path_is_plain path) ∙ plain)
      (sym (fold_out-Path (Option Ty) (Ty → Option Ty) (Option Ty) (Option Ty) (kind_type site) (part_typing site) expr_type (path_type site) path)
      ∙ typed))
