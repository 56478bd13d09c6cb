-- Numbers of memory: which stay as they were when a place is set, and which ways and places have nothing in common.
use Rattle.std.proofs.Common.{◌≡◌, Bool, true, false, not, ◌&&◌, ◌||◌, List, [], ◌∷◌, ◌++◌, refl}
use Rattle.std.proofs.Common.{sym, ap, ◌∙◌}
use Rattle.std.proofs.lemmas.List.{append-nil}
use Rattle.std.specs.Prelude.{◌==◌, if◌then◌else◌}
use Rattle.bl_ctext_semantics.specs.Memory.{CValue, Location, Memory, Projection, Root, left_after, number_or, same_part}
use Rattle.bl_ctext_semantics.specs.Memory.{same_root, set_at, value_at, with_part}
use Rattle.bl_emit_acts_laws_simulation.specs.Encodes.{are_apart, ways_part}
use Rattle.bl_emit_acts_laws_simulation.proofs.Written.{left_apart, same_part_itself}
use Rattle.bl_emit_acts_laws_simulation.proofs.Writes.{same_root_itself}
use Rattle.bl_emit_acts_laws_simulation.proofs.Cells.{ways_flip, ways_further}

-- ---- ways

pub behind_front : (front first second : List Projection) → ways_part (front ++ first) (front ++ second) ≡ ways_part first second
behind_front [] first second = refl
behind_front (p ∷ front) first second = by (sym (same_part_itself p)) (behind_front front first second)
  where
    by : true ≡ same_part p p → ways_part (front ++ first) (front ++ second) ≡ ways_part first second →
        (not (same_part p p) || ways_part (front ++ first) (front ++ second)) ≡ ways_part first second
    by same again = ap (λ b. not b || ways_part (front ++ first) (front ++ second)) (sym same) ∙ again

pub further_both : (ps qs first second : List Projection) → ways_part ps qs ≡ true → ways_part (ps ++ first) (qs ++ second) ≡ true
further_both ps qs first second h =
    ways_further ps (qs ++ second) first
    (ways_flip ps (qs ++ second) ∙ ways_further qs ps second (ways_flip qs ps ∙ h))

-- ---- what is set

module _ (here : Memory) (place : Location) (new : CValue) where
  abbrev after : Memory
  after = set_at here place new

  -- what stands at a way from the root of the place that was set
  pub same_object : (parts : List Projection) → after place.root parts ≡ number_or (left_after place.parts parts) new (here place.root parts)
  same_object parts = ap (λ b. (if b then with_part (here place.root) place.parts new else here place.root) parts) (same_root_itself place.root)

  other_by : (root : Root) (parts way : List Projection) (same : Bool) → same_root place.root root ≡ same → (not same || ways_part place.parts parts)
      ≡ true →
      (if same then with_part (here root) place.parts new else here root) (parts ++ way) ≡ here root (parts ++ way)
  other_by root parts way false is apart = refl
  other_by root parts way true is apart =
      ap (λ left. number_or left new (here root (parts ++ way)))
      (ap (λ front. left_after front (parts ++ way)) (sym (append-nil place.parts)) ∙ left_apart place.parts parts [] way apart)

  -- what has nothing in common with the place is as it was
  pub apart_same : (other : Location) → are_apart place other ≡ true → (way : List Projection) → value_at after other way ≡ value_at here other way
  apart_same other apart way = other_by other.root other.parts way (same_root place.root other.root) refl apart
