use Rattle.std.proofs.Common.{◌≡◌, ◌++◌, IsTrue, map, drop}
use Rattle.bl_tree.specs.Reduce.{all_of, joined}
use Rattle.bl_ctext.specs.Spelling.{stmt_tokens}
use Rattle.bl_ctext.specs.Spellable.{spells_stmt}
use Rattle.bl_ctext.proofs.printer.stmt.+statements.Given as goal

abbrev pub invariant-stmts-loop-s : goal.invariant-stmts-loop-s
invariant-stmts-loop-s l =
    IsTrue (all_of (map spells_stmt (drop l.s-index l.s-items))) ×
    (l.out ++ joined (map stmt_tokens (drop l.s-index l.s-items)) ≡ l.fn.out ++ joined (map stmt_tokens l.body))

abbrev pub invariant-chained-loop-s : goal.invariant-chained-loop-s
invariant-chained-loop-s l =
    IsTrue (all_of (map spells_stmt (drop l.s-index l.s-items))) ×
    (l.out ++ joined (map stmt_tokens (drop l.s-index l.s-items)) ≡ l.fn.out ++ joined (map stmt_tokens l.body))
