-- What stays outside of the frame of a call.
use Rattle.std.proofs.Common.{◌≡◌, ℕ, ◌<◌, arith, Bool, true, false, ◌&&◌, List, [], ◌∷◌, refl, ap, ◌∙◌}
use Rattle.std.proofs.lemmas.Bool.{eqb-true, ltb-true}
use Rattle.std.specs.Prelude.{◌==◌, if◌then◌else◌}
use Rattle.bl_tree.specs.declared.c.CParam.{CParam}
use Rattle.bl_ctext_semantics.specs.Meaning.{ArgumentValue, by_address, by_value, with_params}
use Rattle.bl_ctext_semantics.specs.Memory.{Memory, Projection, Root, in_frame, input_object, output_object, set_at, state_object, variable}
use Rattle.bl_ctext_semantics.specs.Memory.{with_part, zeros, without_frame}
use Rattle.bl_emit_acts_laws_simulation.specs.Frames.{is_older}
use Rattle.bl_emit_functions_laws_simulation.specs.Calls.{CallsKeepFrame, body_done}
use Rattle.bl_emit_acts_laws_simulation.proofs.Frames.{older_differs}

older_outside : (depth : ℕ) (root : Root) → is_older depth root ≡ true → in_frame depth root ≡ false
older_outside depth state_object h = refl
older_outside depth input_object h = refl
older_outside depth output_object h = refl
older_outside depth (variable d name) h = by (depth == d) refl
  where
    by : (same : Bool) → (depth == d) ≡ same → same ≡ false
    by false is = refl
    by true is =
        let less : d < depth = ltb-true d depth h in
        let equal : depth ≡ d = eqb-true depth d is in
        absurd (omega arith)

-- what is older stays when a frame is made or is gone
pub frame_keeps : (depth : ℕ) (here : Memory) (root : Root) (way : List Projection) → is_older depth root ≡ true →
    without_frame depth here root way ≡ here root way
frame_keeps depth here root way h = ap (λ b. (if b then zeros else here root) way) (older_outside depth root h)

-- and when the parameters get their values
pub params_keep : (depth : ℕ) (params : List CParam) (passed : List ArgumentValue) (here : Memory) (root : Root) (way : List Projection) →
    is_older depth root ≡ true → with_params depth params passed here root way ≡ here root way
params_keep depth [] [] here root way h = refl
params_keep depth [] (by_value v ∷ rest) here root way h = refl
params_keep depth [] (by_address p ∷ rest) here root way h = refl
params_keep depth (param ∷ params) [] here root way h = refl
params_keep depth (param ∷ params) (by_value v ∷ rest) here root way h =
    params_keep depth params rest (set_at here (record { root = variable depth param.name; parts = [] }) v) root way h
    ∙ ap (λ b. (if b then with_part (here root) [] v else here root) way) (older_differs depth param.name root h)
params_keep depth (param ∷ params) (by_address p ∷ rest) here root way h = params_keep depth params rest here root way h

pub keep : CallsKeepFrame
keep known function depth passed here = record {
  begins = λ root way h. params_keep depth function.params passed (without_frame depth here) root way h ∙ frame_keeps depth here root way h;
  ends = λ root way h. frame_keeps depth (body_done known function depth passed here).memory root way h;
}
