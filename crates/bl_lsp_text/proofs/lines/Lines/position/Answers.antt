use Rattle.std.proofs.Common.{◌≡◌, ◌+◌, ◌-◌, ◌*◌, ◌/◌, ◌<◌, ◌≤◌, length, get_or, take, drop, ap, ◌∙◌, sym, arith}
use Rattle.std.proofs.lemmas.List.{get_or_default}
use Rattle.bl_lsp_text.specs.Positions.{at_start, passed_all, position_at, position_by}
use Rattle.bl_lsp_text.proofs.Reading.{passed_all-range, reads-on}
use Rattle.bl_lsp_text.proofs.Tables.{entry, position-behind}
use Rattle.bl_lsp_text.proofs.lines.Lines.position.Goals as goal

pub passed_all-requires : goal.passed_all-requires
passed_all-requires c =
    let is = entry c.args.text.now c.args.self.now.stands.items c.index-stand.result.now (c.min-offset.result / 64) c.requires
    (omega (arith, c.min-offset.ensures)) c.index-stand.ensures in
    reads-on c.args.text.now c.index-stand.result.now (c.min-offset.result / 64 * 64) c.min-offset.result (omega arith)
    (omega (arith, c.min-offset.ensures)) (omega arith) is

pub returns : goal.returns
returns c =
    let is = entry c.args.text.now c.args.self.now.stands.items c.index-stand.result.now (c.min-offset.result / 64) c.requires
    (omega (arith, c.min-offset.ensures)) c.index-stand.ensures in
    c.position_by.ensures
    ∙ ap position_by (c.passed_all.ensures
    ∙ ap (λ s. passed_all s (take (c.min-offset.result - c.min-offset.result / 64 * 64) (drop (c.min-offset.result / 64 * 64) c.args.text.now))) is
    ∙ passed_all-range at_start c.args.text.now (c.min-offset.result / 64 * 64) c.min-offset.result (omega arith))
    ∙ position-behind c.args.text.now c.args.offset c.min-offset.result c.min-offset.ensures
