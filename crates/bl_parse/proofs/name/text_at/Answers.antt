use Rattle.bl_parse.proofs.TokenLemmas.{name_is_utf8, named_there}
use Rattle.bl_parse.proofs.name.text_at.Goals as goal

pub unreachable-requires : goal.unreachable-requires
unreachable-requires c = c.in-Err.ensures.cases.0 (name_is_utf8 _
    (named_there _ c.start_at-start.ensures c.end_at-end.ensures (c.args.source.now.names.named c.args.k c.requires.stands)))
