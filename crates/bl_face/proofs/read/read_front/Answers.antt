use Rattle.std.proofs.Common.{sym, ◌∙◌, arith}
use Rattle.bl_lex.proofs.FrontLaws as fronts
use Rattle.bl_face.proofs.Kept.{kept, tokens_stand}
use Rattle.bl_face.proofs.Reading.{byte_fault, end_fault, reads}
use Rattle.bl_face.proofs.Viable.{is_face}
use Rattle.bl_face.proofs.read.read_front.Goals as goal

pub read_tokens-requires : goal.read_tokens-requires
read_tokens-requires c = record { stand = tokens_stand _ _ _ c.requires.front }

pub returns-then-stop-text-clause-fault : goal.returns-then-stop-text-clause-fault
returns-then-stop-text-clause-fault c =
    byte_fault _ _ _ c.requires.short c.requires.front _ c.in_ok-reader.ensures.read c.if-stop-text.true

pub invariant_of-result : goal.invariant_of-result
invariant_of-result c = record {
  keeps = kept _ _ _ (tokens_stand _ _ _ c.requires.front)
      (is_face _ _ _ c.in_ok-reader.ensures.read (sym c.in-Ok-Some.ensures ∙ c.in-Ok-Some.field-0-is));
}

pub returns-in-Ok-Some-clause-face : goal.returns-in-Ok-Some-clause-face
returns-in-Ok-Some-clause-face c =
    reads _ _ _ c.requires.short c.requires.front _ c.in_ok-reader.ensures.read _ c.if-stop-text.false
    (sym c.in-Ok-Some.ensures ∙ c.in-Ok-Some.field-0-is)

pub overflow_cast-result-in-Ok-None : goal.overflow_cast-result-in-Ok-None
overflow_cast-result-in-Ok-None c = let inside = fronts.inside _ _ _ c.requires.front in omega (arith, inside, c.requires.short)

pub returns-in-Ok-None-clause-fault : goal.returns-in-Ok-None-clause-fault
returns-in-Ok-None-clause-fault c =
    end_fault _ _ _ c.requires.short c.requires.front _ c.in_ok-reader.ensures.read (sym c.in-Ok-None.ensures ∙ c.in-Ok-None.field-0-is)
