use Rattle.std.proofs.Common.{subst}
use Rattle.std.specs.Prelude.{Option}
use Rattle.bl_tree.specs.declared.place.Place.{Place}
use Rattle.bl_lex.specs.Tokens.{without_between}
use Rattle.bl_lex.specs.inner.Walk.{IsLeftOutPlace}
use Rattle.bl_lex.proofs.RuleLaws.{first_profile, passes, each_has_a_kind}
use Rattle.bl_lex.proofs.scan.Scan.finish.Goals as goal

pub returns-in-Some : goal.returns-in-Some
returns-in-Some c = λ text short scanned.
    let first = subst (λ (o : Option Place). IsLeftOutPlace text (without_between scanned.parts) o) c.in-Some.is scanned.left_out in
    rw c.failed.ensures (first_profile text short scanned.parts scanned.covers _ first)

pub returns-in-None : goal.returns-in-None
returns-in-None c = λ text short scanned.
    let none = subst (λ (o : Option Place). IsLeftOutPlace text (without_between scanned.parts) o) c.in-None.is scanned.left_out in (
      record {
        parts = scanned.parts;
        covers = scanned.covers;
        each_has_a_kind = each_has_a_kind text scanned.parts none;
        are_tokens = scanned.tokens;
      },
      passes text short scanned.parts scanned.covers none,
    )
