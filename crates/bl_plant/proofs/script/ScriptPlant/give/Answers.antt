use Rattle.std.proofs.Common.{◌∙◌, ap, sym, [], ◌∷◌, ◌<◌, length, take, arith, add-one, length-append, suc}
use Rattle.std.specs.List.{slice_get}
use Rattle.bl_plant.specs.Kinds.{rows_in}
use Rattle.bl_plant.specs.declared.log.Log.{Log}
use Rattle.bl_plant.specs.declared.plant.Give.TheVariants as give
use Rattle.bl_plant.specs.declared.script.Turn.TheVariants as turn
use Rattle.bl_plant.proofs.Rules.{next-row, rows-failed, rows-given, script-gives, turn-is}
use Rattle.bl_plant.proofs.script.ScriptPlant.give.Goals as goal

pub invariant_of-self-in-Fail : goal.invariant_of-self-in-Fail
invariant_of-self-in-Fail c =
    let script = c.args.self.now in
    let low : script.taken < length script.turns = omega (arith, c.if-self-len.false, c.len.ensures) in
    let is = turn-is script.turns c.deref.result.now script.taken c.index-deref-self.result turn.Fail c.deref.ensures low c.index-deref-self.is c.in-Fail.is in
    record {
      wide = script.wide;
      within = omega (arith, low);
      given =
          script.given ∙ sym (rows-failed script.turns script.taken is)
          ∙ ap (λ n. length (rows_in (take n script.turns))) (sym (add-one script.taken));
    }

pub give_row-requires : goal.give_row-requires
give_row-requires c =
    let script = c.args.self.now in
    let low : script.taken < length script.turns = omega (arith, c.if-self-len.false, c.len.ensures) in
    let is = turn-is script.turns c.deref.result.now script.taken c.index-deref-self.result (turn.Give c.in-Give.row) c.deref.ensures low
    c.index-deref-self.is c.in-Give.is in
    script.wide (length script.log.given) c.in-Give.row
    (ap (slice_get (rows_in script.turns)) script.given ∙ next-row script.turns script.taken c.in-Give.row is) ∙ sym c.requires

pub invariant_of-self-in-Gave : goal.invariant_of-self-in-Gave
invariant_of-self-in-Gave c =
    let script = c.args.self.now in
    let low : script.taken < length script.turns = omega (arith, c.if-self-len.false, c.len.ensures) in
    let is = turn-is script.turns c.deref.result.now script.taken c.index-deref-self.result (turn.Give c.in-Give.row) c.deref.ensures low
    c.index-deref-self.is c.in-Give.is in
    record {
      wide = script.wide;
      within = omega (arith, low);
      given =
          ap (λ (log : Log). length log.given) c.in-Gave.ensures.given.1 ∙ length-append script.log.given (c.in-Give.row ∷ [])
          ∙ add-one (length script.log.given) ∙ ap suc script.given ∙ sym (rows-given script.turns script.taken c.in-Give.row is)
          ∙ ap (λ n. length (rows_in (take n script.turns))) (sym (add-one script.taken));
    }

pub returns-in-Gave-clause-gives : goal.returns-in-Gave-clause-gives
returns-in-Gave-clause-gives c =
    let script = c.args.self.now in
    let low : script.taken < length script.turns = omega (arith, c.if-self-len.false, c.len.ensures) in
    let is = turn-is script.turns c.deref.result.now script.taken c.index-deref-self.result (turn.Give c.in-Give.row) c.deref.ensures low
    c.index-deref-self.is c.in-Give.is in
    script-gives script.name.number script.width script.turns script.faults script.log c.give_row.new.log give.Gave c.give_row.new.into c.in-Give.row
    (ap (slice_get (rows_in script.turns)) script.given ∙ next-row script.turns script.taken c.in-Give.row is) c.in-Gave.ensures.given
