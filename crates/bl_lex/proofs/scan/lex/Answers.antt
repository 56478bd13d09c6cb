use Rattle.std.proofs.Common.{◌≡◌, ℕ, false, sym, subst}
use Rattle.std.specs.Prelude.{Result, Ok, Err, OnOk, is_err}
use Rattle.bl_lex.specs.Tokens.{Covers}
use Rattle.bl_lex.proofs.RuleLaws.{first_lex}
use Rattle.bl_lex.proofs.PieceLaws.{piece_inside}
use Rattle.bl_lex.proofs.scan.lex.Goals as goal

-- what is said of an `Ok` holds of what is no error
ok_part : {X E : Type 0} (r : Result X E) (P : Type 0) → is_err r ≡ false → OnOk r P → P
ok_part (Ok x) P no_error p = p
ok_part (Err e) P no_error p = cc

pub loop-at-preserved : goal.loop-at-preserved
loop-at-preserved c = record {
  inside = piece_inside _ _ c.in-Ok.ensures.piece;
  short = c.loop-at.invariant.short;
  scanned = ok_part c.take.result _ (sym c.if-is_err.ensures.value) c.take.ensures;
}

pub returns-in-Err-clause-refusal : goal.returns-in-Err-clause-refusal
returns-in-Err-clause-refusal c =
    let scanned = c.loop-at.invariant.scanned in
    let covers = subst (λ (at : ℕ). Covers c.args.text.now 0 scanned.parts at) (sym c.in-Err.ensures.0) scanned.covers in
    rw c.failed-in-Err.ensures (first_lex c.args.text.now scanned.parts c.in-Err.place c.loop-at.invariant.short covers c.in-Err.ensures.1)
