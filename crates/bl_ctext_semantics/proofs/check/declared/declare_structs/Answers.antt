use Rattle.std.proofs.Common.{◌≡◌, ℕ, ◌+◌, ◌∷◌, List, drop, map, ap, ◌∙◌}
use Rattle.bl_tree.proofs.Basics.{drop_next}
use Rattle.bl_ctext_semantics.specs.inner.Checked.{checked_structs}
use Rattle.bl_ctext_semantics.specs.Faults.{depth_of_struct, member_table, struct_table}
use Rattle.bl_ctext_semantics.specs.inner.Maps.{text_at}
use Rattle.bl_ctext_semantics.specs.Tables.{with_entry}
use Rattle.bl_ctext_semantics.proofs.DeclaredLemmas.{struct-next, table-next}
use Rattle.bl_ctext_semantics.proofs.check.declared.declare_structs.Goals as goal

pub loop-of-preserved : goal.loop-of-preserved
loop-of-preserved c =
    let s = c.of-item.result in
    let depths = text_at c.loop-of.depths in
    let rest = drop (c.loop-of.of-index + 1) c.args.list.now in
    let step : drop c.loop-of.of-index c.args.list.now ≡ s ∷ rest = drop_next c.args.list.now c.loop-of.of-index s c.loop-of-test.true c.of-item.is in
    let deeper : (asked : List ℕ) → text_at c.add.new.map asked ≡ with_entry depths s.name (depth_of_struct depths s) asked =
    λ asked. c.in_ok-add.ensures asked ∙ ap (λ n. with_entry depths n c.struct_depth-depth.result asked) c.as_str.ensures
    ∙ ap (λ d. with_entry depths s.name d asked) c.struct_depth-depth.ensures in (
      table-next (checked_structs c.loop-of.structs) (checked_structs c.add_struct.new.structs) s.name (member_table s)
          (map (λ t. (t.name, member_table t)) rest) _
          (struct_table c.args.list.now)
          (ap (map (λ t. (t.name, member_table t))) step) c.in_ok-add_struct.ensures c.loop-of.invariant.0,
      rw (c.earlier-first.ensures, c.in_ok-here.ensures)
          (struct-next (checked_structs c.loop-of.structs) (checked_structs c.add_struct.new.structs) depths
          (text_at c.add.new.map) _ rest s c.loop-of.first _ step
          c.in_ok-add_struct.ensures deeper c.loop-of.invariant.1),
    )
