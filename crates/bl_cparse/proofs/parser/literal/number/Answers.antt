use Rattle.std.proofs.Common.{sym, ◌∙◌, arith}
use Rattle.bl_cparse_syntax.specs.Pieces.{first_piece}
use Rattle.bl_cparse.proofs.ReadLemmas.{next}
use Rattle.bl_cparse.proofs.NumberLemmas.{in_range}
use Rattle.bl_cparse.proofs.parser.literal.number.Goals as goal

pub returns-then-n-low-clause-follows : goal.returns-then-n-low-clause-follows
returns-then-n-low-clause-follows c = λ of l h rest e. let k =
    in_range of (first_piece c.args.r.now) c.in-Some.n c.args.low c.args.high (omega arith)
    (sym c.piece.ensures ∙ c.in-Some.ensures.some.0) l h (next e).matched in absurd (omega (arith, k.0))

pub returns-then-high-n-clause-follows : goal.returns-then-high-n-clause-follows
returns-then-high-n-clause-follows c = λ of l h rest e. let k =
    in_range of (first_piece c.args.r.now) c.in-Some.n c.args.low c.args.high (omega arith)
    (sym c.piece.ensures ∙ c.in-Some.ensures.some.0) l h (next e).matched in absurd (omega (arith, k.1))
