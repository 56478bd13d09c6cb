use Rattle.std.proofs.Common.{◌≡◌, ◌∙◌, ◌++◌, ◌+◌, Bor, ap, drop, sym}
use Rattle.std.specs.Prelude.{option_map}
use Rattle.std.specs.List.{cons_option}
use Rattle.bl_tree.proofs.Basics.{drop_next}
use Rattle.bl_tree.specs.declared.tree.Ty.{Ty}
use Rattle.bl_types.specs.Expressions.{but_first, first_type}
use Rattle.bl_types.specs.Failures.{noted}
use Rattle.bl_types.specs.Statements.{all_lent, lent, paths_failures, paths_made}
use Rattle.bl_types.proofs.GatherLemmas.{kept_one}
use Rattle.bl_types.proofs.NoteLemmas.{next_noted}
use Rattle.bl_types.proofs.call.all_lent.Goals as goal

pub loop-path-preserved : goal.loop-path-preserved
loop-path-preserved c =
    let env = c.args.env.now in
    let path = c.path-item.result in
    let rest = drop (c.loop-path.path-index + 1) c.args.all.now in
    let step = drop_next c.args.all.now c.loop-path.path-index path c.loop-path-test.true c.path-item.is in
    let one = lent env (first_type c.loop-path.params.now) path in
    let given = lent env (option_map {T = Bor Ty} {U = Ty} (λ ty. ty.now) c.first_type.result) path in
    let same : given ≡ one = ap (λ wanted. lent env wanted path) c.first_type.ensures in
    let made = sym (ap (λ l. c.loop-path.made ++ paths_made (all_lent env l c.loop-path.params.now)) step) ∙ c.loop-path.invariant.0 in
    let noted_all = sym (ap (λ l. noted c.loop-path.notes (paths_failures (all_lent env l c.loop-path.params.now))) step) ∙ c.loop-path.invariant.1 in (
      (λ i. c.keep.new.list ++ paths_made (all_lent env rest (c.but_first-params.ensures i)))
          ∙ kept_one c.loop-path.made c.keep.new.list (paths_made (all_lent env rest (but_first c.loop-path.params.now))) _
          c.in_ok-output.output c.in_ok-keep.ensures
          (ap (λ o. c.loop-path.made ++ cons_option o (paths_made (all_lent env rest (but_first c.loop-path.params.now))))
          (c.in_ok-output.ensures.made ∙ ap (λ l. l.made) same) ∙ made),
      (λ i. noted c.lent.new.notes (paths_failures (all_lent env rest (c.but_first-params.ensures i))))
          ∙ next_noted c.loop-path.notes c.lent.new.notes _ one.failures given.failures
          (paths_failures (all_lent env rest (but_first c.loop-path.params.now))) c.in_ok-output.ensures.notes
          (ap (λ l. l.failures) same) noted_all,
    )
