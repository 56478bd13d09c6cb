-- Functions with bodies that do the same do the same.
use Rattle.std.proofs.Common.{◌≡◌, ◌∙◌, true, List, [], ◌∷◌, ◌++◌, map, refl, sym, subst, codes}
use Rattle.bl_tree.specs.declared.c.CFunc.{CFunc}
use Rattle.bl_tree.specs.declared.c.CLocal.{CLocal}
use Rattle.bl_tree.specs.declared.c.CParam.{CParam}
use Rattle.bl_tree.specs.declared.c.CStmt.{CStmt}
use Rattle.bl_tree.specs.declared.c.CStruct.{CStruct}
use Rattle.bl_tree.specs.declared.text.Text.{Text}
use Rattle.bl_ctext_semantics.specs.Faults.{local_variable, param_variable, parameters_and_locals}
use Rattle.bl_ctext_semantics.specs.Tables.{found, table_of}
use Rattle.bl_simplify_laws.specs.Files.{SameFunctionsChain}
use Rattle.bl_simplify_laws.specs.Live.{LiveFunction, SameLive}
use Rattle.bl_simplify_laws.specs.Rules.{AlikeWhere, Facts}
use Rattle.bl_simplify_laws.specs.Tables.{has_name, owns, owns_first}
use Rattle.bl_simplify_laws_frames.specs.Reached.{Frame, RuleFrame, RuleSameIn, frame_for, framed_names, takes_frame}
use Rattle.bl_simplify_steps.specs.Entry.{known_from}
use Rattle.bl_simplify_live.specs.Reads.{SameAside}
use Rattle.bl_simplify.specs.Bodies.{DoesAs, HasBody, TakesFrame}
use Rattle.bl_simplify.specs.Frames.{begins_with_frame}

-- a function with another body
abbrev in_place : CFunc → List CStmt → CFunc
in_place f body = record { place = f.place; fixed = f.fixed; result = f.result; name = f.name; params = f.params; locals = f.locals; body = body }

-- a function whose body is walked, and then without what is dead in it
pub does_as : RuleFrame → RuleSameIn → LiveFunction → (reached : Facts) (old new : CFunc) (walked body : List CStmt) →
    AlikeWhere (known_from reached old) old.body walked → SameAside walked body → HasBody old body new → DoesAs reached old new
does_as frame same live reached old new walked body alike aside has = record {
  name = has.name;
  params = has.params;
  result = has.result;
  same = λ structs frames takes.
      same.1 frames old (in_place old walked) new refl
      (frame structs frames takes.fit old (in_place old walked) takes.own takes.named takes.first refl
      (subst (λ (r : Facts). AlikeWhere (known_from r old) old.body walked) (sym takes.told) alike))
      (same.0 frames (in_place old walked) new
      (live (framed_names frames) (in_place old walked) new aside.names aside.names aside.names has.params
      (subst (λ b. SameLive aside.names walked b aside.names aside.names) (sym has.body) aside.same)));
}

-- own pointers are a function's own where its name and its parameters are those of another one
owns_same : (framed : List Text) (old new : CFunc) → old.name ≡ new.name → old.params ≡ new.params → owns framed old ≡ true → owns framed new ≡ true
owns_same framed old new names params own =
    subst (λ n. owns_first framed n new.params ≡ true) names (subst (λ (ps : List CParam). owns_first framed old.name ps ≡ true) params own)

-- a function takes the frame of one with its name and its parameters
takes_same : (structs : List CStruct) (frames : List Frame) (reached : Facts) (old new : CFunc) → old.name ≡ new.name → old.params ≡ new.params →
    TakesFrame structs frames reached old → TakesFrame structs frames reached new
takes_same structs frames reached old new names params takes = record {
  fit = takes.fit;
  own = owns_same (framed_names frames) old new names params takes.own;
  named = subst (λ n. has_name (framed_names frames) n ≡ true) names takes.named;
  first = subst (λ n. takes_frame (frame_for frames n) new.params ≡ true) names
      (subst (λ (ps : List CParam). takes_frame (frame_for frames old.name) ps ≡ true) params takes.first);
  told = subst (λ n. (frame_for frames n).reached ≡ reached) names takes.told;
}

-- each function does as itself, and so does a copy of it
pub does_itself : RuleSameIn → SameFunctionsChain → (reached : Facts) (old new : CFunc) → new ≡ old → DoesAs reached old new
does_itself same chain reached old new is =
    subst (DoesAs reached old) (sym is) (record {
      name = refl;
      params = refl;
      result = refl;
      same = λ structs frames takes. same.0 frames old old (chain.0 (framed_names frames) old);
    })

-- what does as a function that does as another does as that too
pub does_chain : RuleSameIn → (reached : Facts) (old middle new : CFunc) → DoesAs reached old middle → DoesAs reached middle new → DoesAs reached old new
does_chain same reached old middle new first second = record {
  name = first.name ∙ second.name;
  params = first.params ∙ second.params;
  result = first.result ∙ second.result;
  same = λ structs frames takes.
      same.1 frames old middle new first.name (first.same structs frames takes)
      (second.same structs frames (takes_same structs frames reached old middle first.name first.params takes));
}

-- what stands under the name of a frame, where the first parameter has it
frame_found : (params : List CParam) (locals others : List CLocal) → begins_with_frame params ≡ true →
    found (codes "f") (map param_variable params ++ map local_variable locals) ≡ found (codes "f") (map param_variable params ++ map local_variable others)
frame_found [] locals others h = absurd (cc)
frame_found (p ∷ params) locals others h = rw h refl

-- two functions with the same parameters, the first of which is the frame
pub frame_same : (old new : CFunc) → begins_with_frame old.params ≡ true → old.params ≡ new.params →
    table_of (parameters_and_locals new) (codes "f") ≡ table_of (parameters_and_locals old) (codes "f")
frame_same old new begins same =
    subst (λ (params : List CParam). found (codes "f") (map param_variable params ++ map local_variable new.locals)
    ≡ found (codes "f") (map param_variable old.params ++ map local_variable old.locals)) same (frame_found old.params new.locals old.locals begins)
