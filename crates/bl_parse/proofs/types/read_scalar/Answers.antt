use Rattle.std.proofs.Common.{refl, sym, ◌∙◌}
use Rattle.bl_parse_syntax.specs.Grammar.{class_of}
use Rattle.bl_parse.proofs.PartLemmas.{scalar_never, scalar_word}
use Rattle.bl_parse.proofs.ReadLemmas.{then, pass, opened, never_ends, never}
use Rattle.bl_parse.proofs.types.read_scalar.Goals as goal

pub unreachable-requires : goal.unreachable-requires
unreachable-requires c = never (λ v. refl) (sym c.kind_at.ensures.kind ∙ c.in-Some.is)
    (scalar_never (class_of c.in-Some.kind) (c.in-None-scalar.ensures.none refl)) c.requires.awaits

pub unreachable-requires-in-None : goal.unreachable-requires-in-None
unreachable-requires-in-None c = never_ends (λ v. refl) refl c.requires.awaits (sym c.kind_at.ensures.kind ∙ c.in-None.is)

pub returns-clause-follows : goal.returns-clause-follows
returns-clause-follows c = then (opened _ (λ v. refl) (sym c.kind_at.ensures.kind ∙ c.in-Some.is) (scalar_word c.in-Some-scalar.ensures.is)) (pass refl)
