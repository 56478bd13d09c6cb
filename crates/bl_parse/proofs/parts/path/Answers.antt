use Rattle.std.proofs.Common.{refl, ◌∷◌, []}
use Rattle.bl_parse_syntax.specs.declared.grammar.Part.TheVariants.{PathRest}
use Rattle.bl_parse_syntax.specs.Grammar.{name, the}
use Rattle.bl_parse.specs.inner.Reading.{IsPathTail}
use Rattle.bl_parse.proofs.ReadLemmas.{next_name, after, then, read, opened_one, omit}
use Rattle.bl_parse.proofs.parts.path.Goals as goal

pub name-requires : goal.name-requires
name-requires c = record { stands = next_name (after c.requires.awaits (opened_one (name ∷ the PathRest ∷ []) (λ v. refl) refl (λ c. (_, refl)))) }

pub fields-requires : goal.fields-requires
fields-requires c = record {
  awaits = record {
    part = PathRest;
    is = IsPathTail.path;
    awaits =
        after c.requires.awaits (then (opened_one (name ∷ the PathRest ∷ []) (λ v. refl) refl (λ c. (_, refl))) (read c.in_ok-root.ensures.follows));
  };
}

pub returns-clause-spelled : goal.returns-clause-spelled
returns-clause-spelled c = record { m = c.name.new.at; root = c.in_ok-root.ensures.spelled; fields = c.in_ok-fields.ensures.spelled; place = c.span.ensures }

pub returns-clause-follows : goal.returns-clause-follows
returns-clause-follows c = then (opened_one (name ∷ the PathRest ∷ []) (λ v. refl) refl (λ c. (_, refl)))
    (then (read c.in_ok-root.ensures.follows) (then (c.in_ok-fields.ensures.keeps.keeps PathRest IsPathTail.path) (omit refl c.in_ok-fields.ensures.ends)))
