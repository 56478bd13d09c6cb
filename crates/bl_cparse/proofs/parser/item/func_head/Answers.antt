use Rattle.bl_cparse.proofs.ItemOpening.{func_opens}
use Rattle.std.proofs.Common.{rules}
use Rattle.bl_cparse.proofs.parser.item.func_head.Goals as goal

pub returns-in_err-result-clause-follows : goal.returns-in_err-result-clause-follows
returns-in_err-result-clause-follows c = λ room rest e. search rules

pub returns-in_err-name-clause-follows : goal.returns-in_err-name-clause-follows
returns-in_err-name-clause-follows c = λ room rest e. let o =
    func_opens (c.in_ok-result.ensures.follows room rest (c.fixed-fixed.ensures.follows room rest e)) in search rules

pub returns-in_err-take-clause-follows : goal.returns-in_err-take-clause-follows
returns-in_err-take-clause-follows c = λ room rest e. let o =
    func_opens (c.in_ok-result.ensures.follows room rest (c.fixed-fixed.ensures.follows room rest e)) in search rules

pub returns-clause-follows : goal.returns-clause-follows
returns-clause-follows c = λ room rest e. let o = func_opens
    (c.in_ok-result.ensures.follows room rest (c.fixed-fixed.ensures.follows room rest e)) in search rules
