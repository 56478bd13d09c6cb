use Rattle.std.proofs.Common.{◌≡◌, ◌++◌, drop}
use Rattle.bl_names.specs.Named.{arms_piece, block_piece, branches_piece}
use Rattle.bl_names.specs.inner.Past.{past}
use Rattle.bl_names.proofs.stmt.+named_statements.Given as goal

abbrev pub invariant-block-loop-s : goal.invariant-block-loop-s
invariant-block-loop-s l = record {
  made : l.made ++ (block_piece (drop l.s-index l.body)).made l.state.scopes ≡ (block_piece l.body).made l.initial.state.scopes;
  is_past : past l.state (block_piece (drop l.s-index l.body)) ≡ past l.initial.state (block_piece l.body);
}

abbrev pub invariant-arms-loop-one : goal.invariant-arms-loop-one
invariant-arms-loop-one l = record {
  made : l.made ++ (arms_piece (drop l.one-index l.all)).made l.state.scopes ≡ (arms_piece l.all).made l.initial.state.scopes;
  is_past : past l.state (arms_piece (drop l.one-index l.all)) ≡ past l.initial.state (arms_piece l.all);
}

abbrev pub invariant-branches-loop-one : goal.invariant-branches-loop-one
invariant-branches-loop-one l = record {
  made : l.made ++ (branches_piece (drop l.one-index l.all)).made l.state.scopes ≡ (branches_piece l.all).made l.initial.state.scopes;
  is_past : past l.state (branches_piece (drop l.one-index l.all)) ≡ past l.initial.state (branches_piece l.all);
}
