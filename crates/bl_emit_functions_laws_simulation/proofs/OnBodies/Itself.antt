-- An assignment of a variable to itself leaves all variables as they are.
use Rattle.std.proofs.Common.{◌≡◌, ℕ, true, not, List, [], ◌∷◌, map, Some, refl, sym, ap, ap₂, ◌∙◌}
use Rattle.std.proofs.lemmas.Bool.{eqb-true}
use Rattle.std.specs.Prelude.{nat_eq, option_and_then, option_map, slice_get, slice_set}
use Rattle.bl_tree.proofs.Basics.{and_first, and_second}
use Rattle.bl_tree.specs.declared.tree.Expr.{Expr, fold_out-Expr, out-Expr}
use Rattle.bl_tree.specs.declared.tree.ExprKind.{ExprKind, fold-ExprKind, fold_out-ExprKind, map-ExprKind, out-ExprKind}
use Rattle.bl_tree.specs.declared.tree.ExprKind.TheOpen.{ExprKind-F}
use Rattle.bl_tree.specs.declared.tree.Part.{Part}
use Rattle.bl_tree.specs.declared.tree.Path.{Path, out-Path}
use Rattle.bl_tree.specs.declared.value.Value.{Value}
use Rattle.bl_tree.specs.Types.{scalar_in}
use Rattle.bl_eval.specs.Changes.{part_of_path}
use Rattle.bl_eval.specs.Functions.{assigned, own}
use Rattle.bl_eval.specs.Meaning.{Meaning, PathMeaning, PathPosition, Scope as Sees, datum_of, expr_means, kind_means, meaning_of, part_means, path_meaning_of}
use Rattle.bl_eval.specs.Meaning.{path_means, plain, positions_of, reading, value_in}
use Rattle.bl_eval.specs.Values.{value_at}
use Rattle.bl_eval.proofs.MeaningLemmas.{spot_out}
use Rattle.bl_eval.proofs.PartLemmas.{set_own}
use Rattle.bl_ctext.specs.Spellable.{has_any}
use Rattle.bl_emit_functions.specs.Statements.{reads_whole, sets_itself}
use Rattle.bl_eval.proofs.MeaningLemmas.{plain_datum}

no_parts : {A : Type 0} (parts : List A) → not (has_any parts) ≡ true → parts ≡ []
no_parts [] none = refl
no_parts (x ∷ parts) none = absurd (cc)

module _ (sees : Sees) where
  -- what a path to a whole variable means
  abbrev whole : Path → PathMeaning
  whole path = record { root = (out-Path path).root; ty = (out-Path path).ty; positions = positions_of [] }

  whole_is : (path : Path) → not (has_any (out-Path path).parts) ≡ true → path_meaning_of sees path ≡ whole path
  whole_is path none =
      spot_out sees path
      ∙ ap (λ (parts : List Part). record {
        root = (out-Path path).root;
        ty = (out-Path path).ty;
        positions = positions_of (map (part_of_path sees) parts);
      })
      (no_parts (out-Path path).parts none)

  abbrev means : ExprKind-F ExprKind Part Expr Path → Meaning
  means layer =
      kind_means sees (map-ExprKind ExprKind Part Expr Path Meaning PathPosition Meaning PathMeaning
      (fold-ExprKind Meaning PathPosition Meaning PathMeaning (kind_means sees) part_means expr_means path_means) (part_of_path sees) (meaning_of sees)
      (path_meaning_of sees) layer)

  kind_is : (e : Expr) → meaning_of sees e ≡ means (out-ExprKind (out-Expr e).what)
  kind_is e =
      fold_out-Expr Meaning PathPosition Meaning PathMeaning (kind_means sees) part_means expr_means path_means e
      ∙ fold_out-ExprKind Meaning PathPosition Meaning PathMeaning (kind_means sees) part_means expr_means path_means (out-Expr e).what

  reads_value : (k : ℕ) (layer : ExprKind-F ExprKind Part Expr Path) (now : List Value) (value : Value) → reads_whole k layer ≡ true →
      slice_get now k ≡ Some value → option_map plain (means layer (own now)) ≡ Some value
  reads_value k (ExprKind-F.Read path) now value reads there =
      let same : k ≡ (out-Path path).root = eqb-true k (out-Path path).root (and_first (nat_eq k (out-Path path).root) _ reads) in
      ap (λ (spot : PathMeaning). option_map plain (reading spot (own now))) (whole_is path (and_second (nat_eq k (out-Path path).root) _ reads))
      ∙ (ap (λ o. option_map plain (option_map (datum_of (scalar_in (out-Path path).ty)) (option_and_then (value_at []) o)))
      (ap (slice_get now) (sym same) ∙ there)
      ∙ ap Some (plain_datum (scalar_in (out-Path path).ty) value))
  reads_value k _ now value reads there = absurd (cc)

  pub itself_kept : (path : Path) (e : Expr) → sets_itself path e ≡ true → (now : List Value) (value : Value) →
      slice_get now (path_meaning_of sees path).root ≡ Some value → assigned (path_meaning_of sees path) (value_in sees e (own now)) (own now) ≡ Some now
  itself_kept path e itself now value there =
      let k : ℕ = (out-Path path).root in
      let is : path_meaning_of sees path ≡ whole path = whole_is path (and_first (not (has_any (out-Path path).parts)) _ itself) in
      let here : slice_get now k ≡ Some value = sym (ap (λ (spot : PathMeaning). slice_get now spot.root) is) ∙ there in
      let read : value_in sees e (own now) ≡ Some value =
      ap (λ (meaning : Meaning). option_map plain (meaning (own now))) (kind_is e)
      ∙ reads_value k (out-ExprKind (out-Expr e).what) now value (and_second (not (has_any (out-Path path).parts)) _ itself) here in
      ap₂ (λ spot value. assigned spot value (own now)) is read
      ∙ (ap (option_and_then (λ old. Some (slice_set now k value))) here ∙ ap Some (set_own now k value here))
