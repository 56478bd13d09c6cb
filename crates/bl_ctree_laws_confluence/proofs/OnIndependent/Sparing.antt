-- Deeds of two bodies that keep apart spare each other.
use Rattle.std.proofs.Common.{◌≡◌, ◌⊎◌, inl, inr, ℕ, zero, suc, Bool, true, false, List, [], ◌∷◌, Some, refl, sym, ap, subst, eqb-true}
use Rattle.std.specs.Prelude.{nat_eq, slice_get}
use Rattle.std.proofs.lemmas.Bool.{false_from_ne_true}
use Rattle.bl_tree.proofs.Basics.{and_first, not_both, numbers_differ}
use Rattle.bl_tree.specs.declared.static_path.Static.{Static}
use Rattle.bl_tree.specs.declared.tree.StructDef.{StructDef}
use Rattle.bl_tree.specs.declared.tree.Unit.{Unit as UnitDef}
use Rattle.bl_tree.specs.Program.{IsWellTyped}
use Rattle.bl_tree.specs.Static.{overlaps}
use Rattle.bl_tree.proofs.FirstLemmas.{In}
use Rattle.bl_graph_nodes.specs.Plain.{Block}
use Rattle.bl_ctree.specs.Actions.{Effect, effect_reads}
use Rattle.bl_ctree.specs.Instances.{Setting, setting_of}
use Rattle.bl_ctree.specs.Store.{Location, overlap}
use Rattle.bl_ctree_laws.specs.Pending.{Deed, may_write, meets}
use Rattle.bl_ctree_laws.specs.Trees.{Tree}
use Rattle.bl_ctree_laws_confluence.specs.Deeds.Deeds.{AllUntouched, Clear, ClearOf, NoHome, NoneOf, Spares, Untouched, effect_frames, effect_looks}
use Rattle.bl_ctree_laws_confluence.specs.Deeds.Deeds.{effect_names, effect_remembers, effect_results, effect_writes}
use Rattle.bl_ctree_laws_confluence.specs.Deeds.Homes.{OutputsAreApart}
use Rattle.bl_ctree_laws_confluence.specs.Apart.Named.{OneOf, effect_declares}
use Rattle.bl_ctree_laws_confluence.specs.Apart.Owned.{IsInsideCall, SomeIn}
use Rattle.bl_ctree_laws_confluence.specs.Apart.Parted.{BranchStep}
use Rattle.bl_ctree_laws_confluence.specs.Apart.Seen.{InCall}
use Rattle.bl_ctree_laws_confluence.specs.Apart.Writing.{StatementWrites}
use Rattle.bl_ctree_laws_confluence.proofs.OnApart.Seen.{writes_are_seen_so}
use Rattle.bl_ctree_laws_confluence.specs.Independent.Sides.{KeptApart, Side, SidesSpare}
use Rattle.bl_ctree_laws_confluence.proofs.OnIndependent.Homes.{At, Met, called_apart, called_clash, meet, not_in_call, overlap_swapped}
use Rattle.bl_ctree_laws_confluence.proofs.OnIndependent.Sides.{DeclaredIn, NamedIn, any_in, frames_at, looks_at, looks_split, moving, names_at, remembers_at}
use Rattle.bl_ctree_laws_confluence.proofs.OnIndependent.Sides.{results_at, stand, writes_at}

-- ---- lists of homes and of frames, one by one

clear_one : (at : Location) (others : List Location) → ((over : Location) → In over others → overlap at over ≡ true → ⊥) → ClearOf at others
clear_one at [] never = tt
clear_one at (over ∷ rest) never =
    (false_from_ne_true (overlap at over) (never over (inl refl)), clear_one at rest (λ other there. never other (inr there)))

clear_all : (xs others : List Location) → ((at over : Location) → In at xs → In over others → overlap at over ≡ true → ⊥) → Clear xs others
clear_all [] others never = tt
clear_all (at ∷ rest) others never =
    (clear_one at others (λ over. never at over (inl refl)), clear_all rest others (λ other over there. never other over (inr there)))

no_home : (frame : ℕ) (others : List Location) → ((over : Location) → In over others → frame ≡ over.instance → ⊥) → NoHome frame others
no_home frame [] never = tt
no_home frame (over ∷ rest) never =
    (numbers_differ frame over.instance (never over (inl refl)), no_home frame rest (λ other there. never other (inr there)))

none_among : (frame : ℕ) (others : List ℕ) → ((other : ℕ) → In other others → frame ≡ other → ⊥) → NoneOf frame others
none_among frame [] never = tt
none_among frame (other ∷ rest) never = (numbers_differ frame other (never other (inl refl)), none_among frame rest (λ next there. never next (inr there)))

all_untouched : (w : Setting) (k : ℕ) (e : Effect) (frames : List ℕ) → ((frame : ℕ) → In frame frames → Untouched w k e frame) →
    AllUntouched w k e frames
all_untouched w k e [] each = tt
all_untouched w k e (frame ∷ rest) each = (each frame (inl refl), all_untouched w k e rest (λ next there. each next (inr there)))

at_index : {A : Type 0} (x : A) (xs : List A) → In x xs → (k : ℕ) × (slice_get xs k ≡ Some x)
at_index x [] there = absurd there
at_index x (y ∷ ys) (inl is) = (zero, ap Some (sym is))
at_index x (y ∷ ys) (inr more) = let one = at_index x ys more in (suc one.0, one.1)

root_same : (p q : Static) → overlaps p q ≡ true → p.root ≡ q.root
root_same p q over = eqb-true p.root q.root (and_first (nat_eq p.root q.root) _ over)

-- ---- two deeds

module _ (structs : List StructDef) (units : List UnitDef) (entry : ℕ) (keeps : IsWellTyped structs units entry)
    (outputs : OutputsAreApart (setting_of structs units entry)) (i : ℕ) (one other : Block) (side : Side (setting_of structs units entry) i one)
    (other_side : Side (setting_of structs units entry) i other) (apart : KeptApart (setting_of structs units entry) i one other) {stood stood' : Bool}
    {c c' : Tree} {a b : Deed} (first : BranchStep (setting_of structs units entry) stood i one c a)
    (second : BranchStep (setting_of structs units entry) stood' i other c' b) (unmet : meets (setting_of structs units entry) i c b ≡ false) where
  abbrev W : Setting
  W = setting_of structs units entry

  both : {P Q : Static → Type 0} (at over : Location) → At structs units entry i one P at → At structs units entry i other Q over →
      overlap at over ≡ true → Met P Q
  both at over x y e = meet structs units entry outputs i one other apart.runs at over x y e

  -- paths that both write don't overlap
  not_written : {A : Type 0} (p q : Static) → SomeIn (StatementWrites p) one → SomeIn (StatementWrites q) other → overlaps p q ≡ true → A
  not_written p q x y e = not_both (overlaps p q) (apart.writes p q x y) e

  seen : (at over : Location) → In at (effect_writes W a.instance a.effect) → In over (effect_reads W b.instance b.effect) → overlap at over ≡ true →
      InCall W i at.instance
  seen at over there read e =
      let k = at_index at (effect_writes W a.instance a.effect) there in
      by_seen (writes_are_seen_so structs units entry i c first.answer a first.label first.after k.0 at over
      (stand structs units entry keeps i one side first) (moving structs units entry keeps i one side first) k.1 (overlap_swapped at over e))
    where
      by_seen : (may_write W i c over ≡ true) ⊎ InCall W i at.instance → InCall W i at.instance
      by_seen (inl may) =
          not_both (meets W i c b) unmet (any_in (may_write W i c) (effect_reads W b.instance b.effect) over read may)
      by_seen (inr called) = called

  looks_so : (at over : Location) → In at (effect_writes W a.instance a.effect) →
      In over (effect_looks W b.instance b.effect) → overlap at over ≡ true → ⊥
  looks_so at over there looked e = by_part (looks_split W b.instance b.effect over looked)
    where
      by_part : In over (effect_reads W b.instance b.effect) ⊎ In over (effect_writes W b.instance b.effect) → ⊥
      by_part (inl read) =
          (both {P = λ path. ⊥} at over
          (not_in_call structs units entry (seen at over there read e) (writes_at structs units entry keeps i one side first at there))
          (looks_at structs units entry keeps i other other_side second over looked) e).holds
      by_part (inr written) =
          let met = both at over (writes_at structs units entry keeps i one side first at there)
          (writes_at structs units entry keeps i other other_side second over written) e in
          not_written met.one met.other met.holds met.other_holds met.over

  remembers_so : (at over : Location) → In at (effect_writes W a.instance a.effect) → In over (effect_remembers b.instance b.effect) →
      overlap at over ≡ true → ⊥
  remembers_so at over there kept e =
      let met = both at over (writes_at structs units entry keeps i one side first at there)
      (remembers_at structs units entry keeps i other other_side second over kept) e in
      not_written met.one met.other met.holds met.other_holds.writes_it met.over

  names_so : (at over : Location) → In at (effect_remembers a.instance a.effect) →
      In over (effect_names W b.instance b.effect) → overlap at over ≡ true → ⊥
  names_so at over there named e =
      let met = both at over (remembers_at structs units entry keeps i one side first at there)
      (names_at structs units entry keeps i other other_side second over named) e in
      by_name met.one met.other met.holds met.other_holds met.over
    where
      by_name : (p q : Static) → DeclaredIn W i one p → NamedIn W i other q ⊎ SomeIn (StatementWrites q) other → overlaps p q ≡ true → ⊥
      by_name p q declared (inl name) over =
          (apart.names declared.effect name.effect declared.does name.does).1 q.root
          (subst (λ k. OneOf k (effect_declares declared.effect)) (root_same p q over) declared.declares) name.names
      by_name p q declared (inr written) over = not_written p q declared.writes_it written over

  befores_so : (at over : Location) → In at (effect_remembers a.instance a.effect) → In over (effect_remembers b.instance b.effect) →
      overlap at over ≡ true → ⊥
  befores_so at over there kept e =
      let met = both at over (remembers_at structs units entry keeps i one side first at there)
      (remembers_at structs units entry keeps i other other_side second over kept) e in
      not_written met.one met.other met.holds.writes_it met.other_holds.writes_it met.over

  untouched : (frame : ℕ) → IsInsideCall W i one frame → Untouched W b.instance b.effect frame
  untouched frame called = record {
    looks = no_home frame (effect_looks W b.instance b.effect)
        (λ over there. called_clash structs units entry outputs i one other apart.runs frame over called
        (looks_at structs units entry keeps i other other_side second over there));
    names = no_home frame (effect_names W b.instance b.effect)
        (λ over there. called_clash structs units entry outputs i one other apart.runs frame over called
        (names_at structs units entry keeps i other other_side second over there));
    remembers = no_home frame (effect_remembers b.instance b.effect)
        (λ over there. called_clash structs units entry outputs i one other apart.runs frame over called
        (remembers_at structs units entry keeps i other other_side second over there));
    results = none_among frame (effect_results b.effect)
        (λ next there same. called_apart structs units entry outputs i one other apart.runs frame called
        (subst (IsInsideCall W i other) (sym same) (results_at structs units entry keeps i other other_side second next there)));
    frames = none_among frame (effect_frames b.instance b.effect)
        (λ next there same. called_apart structs units entry outputs i one other apart.runs frame called
        (subst (IsInsideCall W i other) (sym same) (frames_at structs units entry keeps i other other_side second next there)));
  }

  spares : Spares W a b
  spares = record {
    looks = clear_all (effect_writes W a.instance a.effect) (effect_looks W b.instance b.effect) looks_so;
    remembers = clear_all (effect_writes W a.instance a.effect) (effect_remembers b.instance b.effect) remembers_so;
    names = clear_all (effect_remembers a.instance a.effect) (effect_names W b.instance b.effect) names_so;
    befores = clear_all (effect_remembers a.instance a.effect) (effect_remembers b.instance b.effect) befores_so;
    frames = all_untouched W b.instance b.effect (effect_frames a.instance a.effect)
        (λ frame there. untouched frame (frames_at structs units entry keeps i one side first frame there));
  }

pub sides_spare_so : SidesSpare
sides_spare_so structs units entry stood stood' i one other c c' a b keeps outputs side other_side apart first second unmet =
    spares structs units entry keeps outputs i one other side other_side apart first second unmet
