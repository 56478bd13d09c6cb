use Rattle.std.proofs.Common.{◌≡◌, ℕ, ◌≤◌, get_or, length, map, take}
use Rattle.bl_tree.specs.declared.c.CStmt.{CStmt}
use Rattle.bl_ctext.specs.Spelling.{stmt_tokens}
use Rattle.bl_ctext.specs.Spellable.{spells_stmt}
use Rattle.bl_cparse.specs.HasPlaces.{in_turn, stmt_walk}
use Rattle.bl_cparse.proofs.placing.stmt.+placed_statements.Given as goal

-- those before the next one have their places, and it and those behind it are as they were
abbrev pub invariant-stmts-loop-k : goal.invariant-stmts-loop-k
invariant-stmts-loop-k l = record {
  places : in_turn (map stmt_walk (take l.k l.stmts)) l.fn.spot ≡ (take l.k l.stmts, l.spot);
  tokens : map stmt_tokens l.stmts ≡ map stmt_tokens l.fn.stmts;
  spells : map spells_stmt l.stmts ≡ map spells_stmt l.fn.stmts;
  many : length l.stmts ≡ length l.fn.stmts;
  rest : (n : ℕ) (d : CStmt) → l.k ≤ n → get_or l.stmts n d ≡ get_or l.fn.stmts n d;
}
