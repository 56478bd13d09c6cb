use Rattle.std.proofs.Common.{rules}
use Rattle.bl_lex.specs.Spelling.IsNumber.{decimal}
use Rattle.bl_lex.specs.Pieces.WordIs.{number, octal, fraction}
use Rattle.bl_lex.proofs.piece.number_form.Goals as goal

pub returns-then-before_fraction : goal.returns-then-before_fraction
returns-then-before_fraction c = λ text word end is before. let h = rw c.in-Decimal.is at is in fraction h.0 (before.0 (search rules))

pub returns-else-before_fraction : goal.returns-else-before_fraction
returns-else-before_fraction c = λ text word end is before. let h = rw c.in-Decimal.is at is in
    number (decimal h.0) (λ _ f. let t = before.1 f in search rules) h.1

pub returns-in-Prefixed : goal.returns-in-Prefixed
returns-in-Prefixed c = λ text word end is before. let h = rw c.in-Prefixed.is at is in number h.1.1 (λ d. absurd (h.0 d)) h.1.2

pub returns-in-Octal : goal.returns-in-Octal
returns-in-Octal c = λ text word end is before. octal (rw c.in-Octal.is at is)
