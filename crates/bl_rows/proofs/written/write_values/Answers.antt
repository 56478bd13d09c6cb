use Rattle.std.proofs.Common.{◌∙◌, ap, append-nil, arith, rules, sym, take}
use Rattle.std.specs.Int.{w128}
use Rattle.std.proofs.lemmas.Int.{to_z-of_z}
use Rattle.bl_tree.specs.declared.row.Column.{Column}
use Rattle.bl_rows.proofs.Room.{output_more}
use Rattle.bl_rows.proofs.Traces.{printed_all}
use Rattle.bl_rows.proofs.written.write_values.Goals as goal

pub outs-preserved : goal.outs-preserved
outs-preserved c = record {
  front = output_more c.args.outs.now c.args.row.now c.outs.k c.index-deref-k.result c.at.result (take c.outs.end c.outs.room)
      (take c.write_output-end.result c.write_output-end.new.room) _ _ _ (omega arith)
      (rw c.deref.ensures at c.index-deref-k.is) c.at.ensures (ap (λ (q : Column). q.ty) (sym c.index-deref-k.is))
      (to_z-of_z w128 c.at.result (search rules)) c.outs.invariant.front c.write_output-end.ensures.front;
  few = omega (arith, c.outs.invariant.few, c.write_output-end.ensures.few);
  size = c.write_output-end.ensures.size ∙ c.outs.invariant.size;
}

pub returns-clause-front : goal.returns-clause-front
returns-clause-front c =
    let none = printed_all c.args.outs.now c.args.row.now c.outs.k (omega arith) in
    sym (append-nil (take c.outs.end c.outs.room)) ∙ (rw none at c.outs.invariant.front)
