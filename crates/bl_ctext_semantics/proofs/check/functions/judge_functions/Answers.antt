use Rattle.std.proofs.Common.{◌≡◌, ℕ, ◌+◌, ◌∷◌, List, drop, refl, ap, ◌∙◌}
use Rattle.bl_tree.proofs.Basics.{drop_next}
use Rattle.bl_ctext_semantics.specs.inner.Checked.{checked_structs, functions_of}
use Rattle.bl_ctext_semantics.specs.Faults.{depth_of_function, signature_in}
use Rattle.bl_ctext_semantics.specs.inner.Maps.{text_at}
use Rattle.bl_ctext_semantics.specs.Tables.{with_entry}
use Rattle.bl_ctext_semantics.proofs.DeclaredLemmas.{behind, function-next}
use Rattle.bl_ctext_semantics.proofs.MapLemmas.{struct_added}
use Rattle.bl_ctext_semantics.proofs.check.functions.judge_functions.Goals as goal

pub loop-k-preserved : goal.loop-k-preserved
loop-k-preserved c =
    let f = c.index-list-k.result in
    let depths = text_at c.loop-k.depths in
    let rest = drop (c.loop-k.k + 1) c.args.list.now in
    let step : drop c.loop-k.k c.args.list.now ≡ f ∷ rest = drop_next c.args.list.now c.loop-k.k f c.loop-k-test.true c.index-list-k.is in
    let deeper : (asked : List ℕ) → text_at c.add.new.map asked ≡ with_entry depths f.name (depth_of_function depths f) asked =
    λ asked. c.in_ok-add.ensures asked ∙ ap (λ n. with_entry depths n c.function_depth-depth.result asked) c.as_str.ensures
    ∙ ap (λ d. with_entry depths f.name d asked) c.function_depth-depth.ensures in
    let more : (asked : List ℕ) → functions_of c.add-in-loop-k.new.map asked
    ≡ with_entry (functions_of c.loop-k.functions) f.name (signature_in f) asked =
    λ asked. struct_added (λ g. signature_in g.now) (text_at c.loop-k.functions) (text_at c.add-in-loop-k.new.map) c.as_str-in-loop-k.result.now _
    (signature_in f) refl c.in_ok-add-2.ensures asked
    ∙ ap (λ n. with_entry (functions_of c.loop-k.functions) n (signature_in f) asked) c.as_str-in-loop-k.ensures in
    rw (c.earlier-first.ensures, c.in_ok-here.ensures)
    (function-next (checked_structs c.args.structs.now) (functions_of c.loop-k.functions) (functions_of c.add-in-loop-k.new.map) depths
    (text_at c.add.new.map) _
    rest f _ c.loop-k.first _
    step (behind c.args.list.now c.loop-k.k c.loop-k-test.true) more deeper c.loop-k.invariant)
