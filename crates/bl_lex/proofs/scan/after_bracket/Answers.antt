use Rattle.std.proofs.Common.{◌≡◌, ◌≢◌, ◌⊎◌, ⊎_elim}
use Rattle.bl_lex.specs.declared.scan.Before.{Before}
use Rattle.bl_lex.specs.declared.scan.Before.TheVariants.{Other, At, AtBracket}
use Rattle.bl_lex.proofs.WalkLaws.{next_bracket}
use Rattle.bl_lex.proofs.scan.after_bracket.Goals as goal

not_at : (b : Before) → (b ≡ Other) ⊎ (b ≡ AtBracket) → b ≢ At
not_at b is e = ⊎_elim (λ o. cc) (λ o. cc) is

pub returns-in-Other : goal.returns-in-Other
returns-in-Other c = λ tokens part is ends. next_bracket c.args.before tokens part is (not_at _ c.in-Other.is) ends
