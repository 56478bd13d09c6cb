use Rattle.std.proofs.Common.{arith, ◌+◌, ◌-◌, length, ap, sym, ◌∙◌, None, ◌++◌, ◌∷◌, drop, take, length-drop, refl}
use Rattle.std.proofs.lemmas.List.{take_all}
use Rattle.bl_rows.proofs.Cuts.{nowhere_feedless, first_line_feedless, first_line_splits}
use Rattle.bl_rows.proofs.rows.first_line.Goals as goal

pub returns-in-Some : goal.returns-in-Some
returns-in-Some c =
    let rest = take_all (length c.args.bytes.now - (c.in-Some.end + 1)) (drop (c.in-Some.end + 1) c.args.bytes.now)
    (omega (arith, length-drop (c.in-Some.end + 1) c.args.bytes.now)) in (
      first_line_feedless c.args.bytes.now c.in-Some.end c.in-Some.ensures,
      first_line_splits c.args.bytes.now c.in-Some.end c.in-Some.ensures ∙ ap (λ r. take c.in-Some.end c.args.bytes.now ++ (10 ∷ r)) (sym rest),
    )

pub returns-in-None : goal.returns-in-None
returns-in-None c = nowhere_feedless c.args.bytes.now None c.in-None.ensures refl
