-- What simplified files are, by what is known of their functions and by what was looked at.
use Rattle.std.proofs.Common.{◌≡◌, ◌<◌, ◌≤◌, ◌+◌, ℕ, ℤ, Bool, true, false, ◌&&◌, map, not, List, [], ◌∷◌, ◌++◌, ap, ◌∙◌, get_or, length, refl, sym, subst, take, arith}
use Rattle.std.specs.Prelude.{All, Option, Some, ◌||◌, bytes_eq, if◌then◌else◌, unwrap_or}
use Rattle.std.proofs.lemmas.List.{take_more}
use Rattle.std.proofs.lemmas.List.Elements.{All-head, All-tail}
use Rattle.std.specs.List.{list_all}
use Rattle.bl_tree.proofs.Basics.{and_first, and_second}
use Rattle.bl_tree.specs.declared.c.CFunc.{CFunc}
use Rattle.bl_tree.specs.declared.c.CStruct.{CStruct}
use Rattle.bl_tree.specs.declared.text.Text.{Text}
use Rattle.bl_tree.specs.Reduce.{all_of}
use Rattle.bl_ctext.specs.Spellable.{has_any, is_spellable, shallow, spells_func, spells_struct}
use Rattle.bl_bound.specs.Told.{told_costs}
use Rattle.bl_bound.specs.declared.cost.Cost.{Cost}
use Rattle.bl_bound.specs.declared.cost.Cost.TheVariants.{Number, Over}
use Rattle.bl_ctext_semantics.specs.Faults.{WellFormed}
use Rattle.bl_ctext_semantics.specs.Parts.{Parts, parts_from}
use Rattle.bl_ctext_semantics.specs.Trace.{c_trace}
use Rattle.bl_simplify_frames.specs.Decided.{AreFrames}
use Rattle.bl_simplify_laws.specs.Files.{SameFunctionsChain}
use Rattle.bl_simplify_laws.specs.Tables.{has_name}
use Rattle.bl_simplify_laws_frames.specs.Reached.{Frame, KeepsFrames, RuleSameIn, SameFunctionsIn, SameTraceIn, first_frame, frame_fits, framed_names, no_frame}
use Rattle.bl_simplify.specs.Bodies.{DoesAs, TakesFrame}
use Rattle.bl_simplify.specs.Counters.{CountersKept}
use Rattle.bl_simplify.specs.Files.{AreNewOf, IsNewOf}
use Rattle.bl_simplify.specs.Frames.{begins_with_frame}
use Rattle.bl_simplify.specs.Simplified.{IsKept, IsSimplified, NoDearer, NoneDearer, OneInterface, SameInterfaces, shared}
use Rattle.bl_simplify.proofs.OnFunctions.{frame_same}

-- ---- one function

interface_itself : (f : CFunc) → OneInterface f f
interface_itself f = record { name = refl; params = refl; result = refl; frame = refl; counters = λ place there names. shared there }

pub new_itself : RuleSameIn → SameFunctionsChain → (frames : List Frame) (f g : CFunc) → g ≡ f → IsNewOf frames f g
new_itself same chain frames f g is =
    subst (IsNewOf frames f) (sym is) (record {
      interface = interface_itself f;
      same = λ structs fit keeps. same.0 frames f f (chain.0 (framed_names frames) f);
    })

-- the name of a frame that is there is one of those
named : (frames : List Frame) (name : Text) (frame : Frame) → first_frame name frames ≡ Some frame → has_name (framed_names frames) name ≡ true
named [] name frame h = absurd (cc)
named (first ∷ frames) name frame h = by (bytes_eq first.name name) refl (named frames name frame) h
  where
    by : (b : Bool) → bytes_eq first.name name ≡ b → (first_frame name frames ≡ Some frame → has_name (framed_names frames) name ≡ true) →
        (if b then Some first else first_frame name frames) ≡ Some frame → (b || has_name (framed_names frames) name) ≡ true
    by true is later h = refl
    by false is later h = later h

-- a function that keeps frames takes the one that is told of it
takes : (structs : List CStruct) (frames : List Frame) (frame : Frame) (f : CFunc) → list_all (frame_fits structs frames) frames ≡ true →
    first_frame f.name frames ≡ Some frame → KeepsFrames frames f → TakesFrame structs frames frame.reached f
takes structs frames frame f fit is keeps =
    let there : has_name (framed_names frames) f.name ≡ true = named frames f.name frame is in
    record {
      fit = fit;
      own = and_first _ _ keeps.stands;
      named = there;
      first = keeps.own there;
      told = ap (λ (o : Option Frame). (unwrap_or o (no_frame f.name)).reached) is;
    }

pub new_kept : (frames : List Frame) (frame : Frame) (old new : CFunc) → first_frame old.name frames ≡ Some frame → begins_with_frame old.params ≡ true →
    DoesAs frame.reached old new → CountersKept old new → IsNewOf frames old new
new_kept frames frame old new is begins does kept = record {
  interface = record {
    name = does.name;
    params = does.params;
    result = does.result;
    frame = frame_same old new begins does.params;
    counters = kept;
  };
  same = λ structs fit keeps. does.same structs frames (takes structs frames frame old fit is keeps);
}

-- ---- lists of functions

pub new_append : (frames : List Frame) (olds news : List CFunc) (old new : CFunc) → AreNewOf frames olds news → IsNewOf frames old new →
    AreNewOf frames (olds ++ old ∷ []) (news ++ new ∷ [])
new_append frames [] [] old new are is = (is, tt)
new_append frames [] (g ∷ news) old new are is = absurd are
new_append frames (f ∷ olds) [] old new are is = absurd are
new_append frames (f ∷ olds) (g ∷ news) old new are is = (are.0, new_append frames olds news old new are.1 is)

interfaces : (frames : List Frame) (olds news : List CFunc) → AreNewOf frames olds news → SameInterfaces olds news
interfaces frames [] [] are = tt
interfaces frames [] (g ∷ news) are = absurd are
interfaces frames (f ∷ olds) [] are = absurd are
interfaces frames (f ∷ olds) (g ∷ news) are = (are.0.interface, interfaces frames olds news are.1)

functions_same : (structs : List CStruct) (frames : List Frame) (olds news : List CFunc) → list_all (frame_fits structs frames) frames ≡ true →
    AreNewOf frames olds news → All (KeepsFrames frames) olds → SameFunctionsIn frames olds news
functions_same structs frames [] [] fit are keep = tt
functions_same structs frames [] (g ∷ news) fit are keep = absurd are
functions_same structs frames (f ∷ olds) [] fit are keep = absurd are
functions_same structs frames (f ∷ olds) (g ∷ news) fit are keep = (
  are.0.interface.name,
  are.0.same structs fit (All-head (KeepsFrames frames) f olds keep),
  functions_same structs frames olds news fit are.1 (All-tail (KeepsFrames frames) f olds keep),
)

interfaces_itself : (functions : List CFunc) → SameInterfaces functions functions
interfaces_itself [] = tt
interfaces_itself (f ∷ functions) = (interface_itself f, interfaces_itself functions)

-- ---- files

itself : (cost : Cost) → NoDearer cost cost
itself (Number n) = omega arith
itself Over = tt

costs_itself : (costs : List Cost) → NoneDearer costs costs
costs_itself [] = tt
costs_itself (c ∷ costs) = (itself c, costs_itself costs)

at_most_itself : (n : ℕ) → n ≤ n
at_most_itself n = omega arith

-- a well-formed file is a simplified one of itself
pub simplified_itself : (file : Parts) → WellFormed file → IsSimplified file file
simplified_itself file formed = record {
  structs = refl;
  formed = formed;
  cells = at_most_itself _;
  interfaces = interfaces_itself file.funcs;
  costs = costs_itself (told_costs file.funcs);
  trace = λ rows. refl;
}

-- a file with new functions that was looked at
pub simplified_new : SameTraceIn → (old new : Parts) (frames : List Frame) → WellFormed old → AreFrames old.structs frames old.funcs →
    old.structs ≡ new.structs → AreNewOf frames old.funcs new.funcs → IsKept old new → IsSimplified old new
simplified_new trace old new frames formed held structs are kept = record {
  structs = structs;
  formed = kept.formed;
  cells = kept.cells;
  interfaces = interfaces frames old.funcs new.funcs are;
  costs = kept.costs;
  trace = λ rows.
      subst (λ (s : List CStruct). c_trace old rows ≡ c_trace (parts_from s new.funcs) rows) structs
      (trace old.structs old.funcs new.funcs frames formed held.file held.kept
      (functions_same old.structs frames old.funcs new.funcs held.file.fit are held.kept) rows);
}

-- one more function of a list
pub new_next : (frames : List Frame) (functions : List CFunc) (k : ℕ) (f : CFunc) (news more : List CFunc) (new : CFunc) → k < length functions →
    f ≡ get_or functions k f → AreNewOf frames (take k functions) news → IsNewOf frames f new → more ≡ news ++ new ∷ [] →
    AreNewOf frames (take (k + 1) functions) more
new_next frames functions k f news more new small is are one added =
    let split : take (k + 1) functions ≡ take k functions ++ f ∷ [] =
    take_more functions k f small ∙ ap (λ x. take k functions ++ x ∷ []) (sym is) in
    subst (λ l. AreNewOf frames l more) (sym split)
    (subst (AreNewOf frames (take k functions ++ f ∷ [])) (sym added) (new_append frames (take k functions) news f new are one))

-- functions that have a spelling behind all structs that have one have it behind those of a file
pub spelled_with : (structs copy : List CStruct) (olds funcs : List CFunc) → is_spellable structs olds ≡ true → copy ≡ structs →
    ((some : List CStruct) → has_any some ≡ true → all_of (map spells_struct some) ≡ true → is_spellable some funcs ≡ true) →
    is_spellable copy funcs ≡ true
spelled_with structs copy olds funcs spelled same spells =
    let inside : (has_any olds && (all_of (map spells_struct structs) && (all_of (map spells_func olds) && shallow structs olds))) ≡ true =
    and_second (has_any structs) _ spelled in
    let parts : (all_of (map spells_struct structs) && (all_of (map spells_func olds) && shallow structs olds)) ≡ true = and_second (has_any olds) _ inside in
    subst (λ s. is_spellable s funcs ≡ true) (sym same) (spells structs (and_first (has_any structs) _ spelled) (and_first _ _ parts))

pub not_false : (b : Bool) → not b ≡ false → b ≡ true
not_false true h = refl
not_false false h = absurd (cc)
