-- Steps of `specs/Reports.antt` that proofs name.
use Rattle.std.specs.Prelude.{ℕ, ◌+◌, List, ◌++◌}
use Rattle.bl_tree.specs.declared.row.Trace.{Trace as TraceRows}
use Rattle.bl_tree.specs.declared.row.Column.{Column}
use Rattle.bl_rows.specs.Text.{last_text, lines_from}

-- the text of a trace behind its header, where its first row has this number
abbrev pub text_from : ℕ → List Column → TraceRows → List ℕ
text_from tick outs t = lines_from tick outs t.rows ++ last_text t.last
