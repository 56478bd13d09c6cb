-- Functions with the interfaces of others are where those are, and name counters where those do.
use Rattle.std.proofs.Common.{◌≡◌, ℕ, Bool, true, false, Contains, List, [], ◌∷◌, filter, refl, ap, sym, subst, ◌∙◌, ⊎_elim, Some, codes}
use Rattle.std.specs.Prelude.{bytes_eq, if◌then◌else◌}
use Rattle.bl_tree.proofs.Basics.{contains_first, contains_further, contains_none, first_or_further}
use Rattle.bl_tree.specs.declared.c.CFunc.{CFunc}
use Rattle.bl_tree.specs.declared.c.CStruct.{CStruct}
use Rattle.bl_tree.specs.declared.text.Text.{Text}
use Rattle.bl_tree.specs.declared.tree.StructDef.{StructDef}
use Rattle.bl_tree.specs.declared.tree.Unit.{Unit as UnitDef}
use Rattle.bl_ctree.specs.Instances.{setting_of, unit_at}
use Rattle.bl_ctext_places.specs.Counters.{names_counter}
use Rattle.bl_ctext_places.specs.Places.{CPath, places_named}
use Rattle.bl_ctext_semantics.specs.Parts.{Parts}
use Rattle.bl_emit_acts.specs.Types.{unit_name}
use Rattle.bl_emit_spec.specs.Names.{frame_name}
use Rattle.bl_simplify.specs.Simplified.{CounterFrom, IsSimplified, OneInterface, SameInterfaces, owned, shared}
use Rattle.bl_emit_laws.specs.Counters.Own.{CountersAreOwn, EachHasOneFunctionAndFrame, FunctionsOwn, HasOneFunctionAndFrame, NamesItsOwn}
use Rattle.bl_emit_laws.specs.Width.{EachFrameHasWidth, FrameHasWidth}
use Rattle.bl_emit_laws.proofs.OnCounters.Whole.{stands_alone}

-- the function for which one stands
record From (olds : List CFunc) (new : CFunc) : Type 0 where
  pub old : CFunc
  pub there : Contains olds old
  pub interface : OneInterface old new

stands_for : (olds news : List CFunc) → SameInterfaces olds news → (new : CFunc) → Contains news new → From olds new
stands_for [] [] same new at = absurd (contains_none new at)
stands_for [] (g ∷ news) same new at = absurd same
stands_for (f ∷ olds) [] same new at = absurd same
stands_for (f ∷ olds) (g ∷ news) same new at =
    ⊎_elim (λ is. record { old = f; there = contains_first f olds; interface = subst (OneInterface f) is same.0 })
    (λ later. let rest = stands_for olds news same.1 new later in
    record { old = rest.old; there = contains_further f olds rest.old rest.there; interface = rest.interface })
    (first_or_further g news new at)

abbrev named : Text → List CFunc → List CFunc
named name functions = filter (λ (function : CFunc). bytes_eq function.name name) functions

-- those of one name stand for those of that name
named_same : (name : Text) (olds news : List CFunc) → SameInterfaces olds news → SameInterfaces (named name olds) (named name news)
named_same name [] [] same = tt
named_same name [] (g ∷ news) same = absurd same
named_same name (f ∷ olds) [] same = absurd same
named_same name (f ∷ olds) (g ∷ news) same =
    by (bytes_eq f.name name) (bytes_eq g.name name) (ap (λ n. bytes_eq n name) same.0.name) (named_same name olds news same.1)
  where
    by : (a b : Bool) → a ≡ b → SameInterfaces (named name olds) (named name news) →
        SameInterfaces (if a then f ∷ named name olds else named name olds) (if b then g ∷ named name news else named name news)
    by true true is rest = (same.0, rest)
    by true false is rest = absurd (cc)
    by false true is rest = absurd (cc)
    by false false is rest = rest

-- where there is one function, one stands for it
record Only (functions : List CFunc) : Type 0 where
  pub function : CFunc
  pub is : functions ≡ function ∷ []

only_one : (f : CFunc) (news : List CFunc) → SameInterfaces (f ∷ []) news → Only news
only_one f [] same = absurd same
only_one f (g ∷ []) same = record { function = g; is = refl }
only_one f (g ∷ h ∷ news) same = absurd same.1

module _ (emitted written : Parts) (is : IsSimplified emitted written) where
  one_function : (activity : UnitDef) → HasOneFunctionAndFrame activity emitted → HasOneFunctionAndFrame activity written
  one_function activity has =
      let stands : SameInterfaces (has.function ∷ []) (named (unit_name activity.name) written.funcs) =
      subst (λ l. SameInterfaces l (named (unit_name activity.name) written.funcs)) has.functions
      (named_same (unit_name activity.name) emitted.funcs written.funcs is.interfaces) in
      let found = only_one has.function _ stands in
      record {
        function = found.function;
        functions = found.is;
        frame = has.frame;
        frames = ap (λ (structs : List CStruct). filter (λ (struct : CStruct). bytes_eq struct.name (frame_name activity.name)) structs) (sym is.structs)
            ∙ has.frames;
      }

  its_own : (units : List UnitDef) (old new : CFunc) (of place : CPath) → OneInterface old new → NamesItsOwn units old of → (counter : Text) →
      place ≡ record { through = true; name = codes "f"; members = counter ∷ [] } → NamesItsOwn units new place
  its_own units old new of place interface names counter is = record {
    activity = names.activity;
    is_there = names.is_there;
    active = names.active;
    named = sym interface.name ∙ names.named;
    pointer = interface.frame ∙ names.pointer;
    counter = counter;
    is = is;
  }

  counter_from : (units : List UnitDef) → CountersAreOwn units emitted → (old new : CFunc) → Contains emitted.funcs old → OneInterface old new →
      (place : CPath) → names_counter place ≡ true → CounterFrom old place → NamesItsOwn units new place
  counter_from units owns old new there interface place names (shared at) =
      let found = owns old place there at names in its_own units old new place place interface found found.counter found.is
  counter_from units owns old new there interface place names (owned of at also counter is) =
      its_own units old new of place interface (owns old of there at also) counter is

  owns_written : (units : List UnitDef) → CountersAreOwn units emitted → CountersAreOwn units written
  owns_written units owns function place there at names =
      let from = stands_for emitted.funcs written.funcs is.interfaces function there in
      counter_from units owns from.old function from.there from.interface place names (from.interface.counters place at names)

  pub functions_own : (structs : List StructDef) (units : List UnitDef) (entry : ℕ) → FunctionsOwn structs units entry emitted →
      FunctionsOwn structs units entry written
  functions_own structs units entry has = record {
    each = λ i activity at. one_function activity (has.each i activity at);
    own = owns_written units has.own;
    alone = stands_alone units written (owns_written units has.own);
  }

  frame_has : (unit : UnitDef) → FrameHasWidth emitted unit → FrameHasWidth written unit
  frame_has unit has = record {
    frame = has.frame;
    there = subst (λ (structs : List CStruct). Contains structs has.frame) is.structs has.there;
    named = has.named;
    counters = has.counters;
  }

  pub frames_have_width : (structs : List StructDef) (units : List UnitDef) (entry : ℕ) → EachFrameHasWidth structs units entry emitted →
      EachFrameHasWidth structs units entry written
  frames_have_width structs units entry has i unit at = frame_has unit (has i unit at)
