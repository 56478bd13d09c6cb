-- What is found of expressions in boxes, of places, and of blocks in lists.
use Rattle.std.proofs.Common.{◌≡◌, Bool, ◌&&◌, ◌||◌, List, map, ap, sym, ◌∙◌}
use Rattle.std.specs.List.{list_all}
use Rattle.std.proofs.lemmas.List.Folds.{list_all-map}
use Rattle.bl_tree.specs.declared.text.Text.{Text}
use Rattle.bl_tree.specs.declared.c.CExpr.{CExpr}
use Rattle.bl_tree.specs.declared.c.CPlace.{CPlace}
use Rattle.bl_tree.specs.declared.c.CStmt.{CStmt}
use Rattle.bl_simplify_laws.specs.Spots.{spot_of_place, spots_apart}
use Rattle.bl_simplify_laws_frames.specs.Reached.{Frame, covers, frame_spot, is_plain_expr, keeps_frames, plain_place}

pub of_boxed : (names : List Text) (told : Bool) (inner boxed : CExpr) → told ≡ is_plain_expr names inner → inner ≡ boxed → told ≡ is_plain_expr names boxed
of_boxed names told inner boxed h same = h ∙ ap (is_plain_expr names) same

pub of_lying : (names : List Text) (told : Bool) (inner boxed : CPlace) → told ≡ (plain_place names inner).plain → inner ≡ boxed →
    told ≡ (plain_place names boxed).plain
of_lying names told inner boxed h same = h ∙ ap (λ p. (plain_place names p).plain) same

abbrev cleared : List Text → Frame → CPlace → Bool
cleared names frame place =
    list_all (λ part. spots_apart (spot_of_place place) (frame_spot frame part.0) || covers frame (plain_place names place).exact (frame_spot frame part.0))
    frame.parts

pub of_cleared : (names : List Text) (frame : Frame) (told : Bool) (inner boxed : CPlace) → told ≡ cleared names frame inner → inner ≡ boxed →
    told ≡ cleared names frame boxed
of_cleared names frame told inner boxed h same = h ∙ ap (cleared names frame) same

pub of_listed : (frames : List Frame) (frame : Frame) (told : Bool) (inner listed : List CStmt) → told ≡ list_all (keeps_frames frames frame) inner →
    inner ≡ listed → told ≡ list_all (λ b. b) (map (keeps_frames frames frame) listed)
of_listed frames frame told inner listed h same =
    h ∙ (ap (λ block. list_all (keeps_frames frames frame) block) same ∙ sym (list_all-map (λ b. b) (keeps_frames frames frame) listed))
