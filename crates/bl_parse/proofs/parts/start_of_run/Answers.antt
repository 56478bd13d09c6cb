use Rattle.std.proofs.Common.{refl, ◌∷◌, []}
use Rattle.bl_lex.specs.declared.sign.TheConstants.{ASSIGN}
use Rattle.bl_parse_syntax.specs.declared.grammar.Part.TheVariants.{CallTail, RunTarget}
use Rattle.bl_parse_syntax.specs.Grammar.{name, sign, the, class_of}
use Rattle.bl_parse.specs.Statements.{SpellsReceiver}
use Rattle.bl_parse.specs.inner.Reading.{IsPathTail}
use Rattle.bl_parse.proofs.PartLemmas.{off_at, run_target, target_assign}
use Rattle.bl_parse.proofs.ReadLemmas.{next_sign, next_name, after, then, read, pass, opened, opened_rest, no_sign}
use Rattle.bl_parse.proofs.parts.start_of_run.Goals as goal

pub name-requires : goal.name-requires
name-requires c = record { stands = next_name c.requires.awaits }

pub fields-requires : goal.fields-requires
fields-requires c = record {
  awaits = record {
    part = RunTarget;
    is = IsPathTail.target;
    awaits =
        after c.requires.awaits (then (read c.in_ok-root.ensures.follows)
        (opened_rest (the RunTarget ∷ []) (λ v. refl) refl
        (λ kind is. run_target (class_of kind) (off_at (no_sign (c.if-stands.ensures.not refl)) kind is))));
  };
}

pub take-requires : goal.take-requires
take-requires c = record {
  stands = next_sign (after c.requires.awaits
      (then (read c.in_ok-root.ensures.follows) (then (opened_rest (the RunTarget ∷ []) (λ v. refl) refl
      (λ kind is. run_target (class_of kind) (off_at (no_sign (c.if-stands.ensures.not refl)) kind is)))
      (then (c.in_ok-fields.ensures.keeps.keeps RunTarget IsPathTail.target)
      (opened_rest (sign ASSIGN ∷ name ∷ the CallTail ∷ []) (λ v. refl) refl
      (λ kind is. target_assign (class_of kind) (off_at c.in_ok-fields.ensures.ends kind is)))))));
}

pub name-requires-else-stands : goal.name-requires-else-stands
name-requires-else-stands c = record {
  stands = next_name
      (after c.requires.awaits (then (read c.in_ok-root.ensures.follows)
      (then (opened_rest (the RunTarget ∷ []) (λ v. refl) refl
      (λ kind is. run_target (class_of kind) (off_at (no_sign (c.if-stands.ensures.not refl)) kind is)))
      (then (c.in_ok-fields.ensures.keeps.keeps RunTarget IsPathTail.target)
      (then (opened_rest (sign ASSIGN ∷ name ∷ the CallTail ∷ []) (λ v. refl) refl
      (λ kind is. target_assign (class_of kind) (off_at c.in_ok-fields.ensures.ends kind is))) (pass c.take.ensures.next))))));
}

pub returns-then-stands-clause-spelled : goal.returns-then-stands-clause-spelled
returns-then-stands-clause-spelled c = record { m = c.args.at.now; receiver = SpellsReceiver.absent refl refl; name = c.in_ok-root.ensures.spelled }

pub returns-then-stands-clause-follows : goal.returns-then-stands-clause-follows
returns-then-stands-clause-follows c = then (read c.in_ok-root.ensures.follows)
    (opened (the CallTail ∷ []) (λ v. refl) (c.if-stands.ensures.kind.0 refl) refl)

pub returns-in_ok-activity-clause-spelled : goal.returns-in_ok-activity-clause-spelled
returns-in_ok-activity-clause-spelled c = record {
  m = c.take.new.at;
  receiver =
      SpellsReceiver.given (record {
        m = c.name.new.at;
        root = c.in_ok-root.ensures.spelled;
        fields =
            c.in_ok-fields.ensures.spelled;
        place = c.span-place.ensures;
      }) c.take.ensures.taken refl;
  name = c.in_ok-activity.ensures.spelled;
}

pub returns-in_ok-activity-clause-follows : goal.returns-in_ok-activity-clause-follows
returns-in_ok-activity-clause-follows c = then (read c.in_ok-root.ensures.follows)
    (then (opened_rest (the RunTarget ∷ []) (λ v. refl) refl
    (λ kind is. run_target (class_of kind) (off_at (no_sign (c.if-stands.ensures.not refl)) kind is)))
    (then (c.in_ok-fields.ensures.keeps.keeps RunTarget IsPathTail.target)
    (then (opened_rest (sign ASSIGN ∷ name ∷ the CallTail ∷ []) (λ v. refl) refl
    (λ kind is. target_assign (class_of kind) (off_at c.in_ok-fields.ensures.ends kind is)))
    (then (pass c.take.ensures.next) (read c.in_ok-activity.ensures.follows)))))
