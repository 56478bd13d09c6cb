-- What registers have nothing in common with, and so what stays when they change.
use Rattle.std.proofs.Common.{◌≡◌, ℕ, ◌<◌, arith, Bool, true, false, not, ◌&&◌, ◌||◌, List, [], ◌∷◌, ◌++◌}
use Rattle.std.proofs.Common.{refl, sym, ap, ◌∙◌, append_assoc}
use Rattle.std.proofs.lemmas.List.{append-nil}
use Rattle.std.specs.Prelude.{is_some, ◌==◌, if◌then◌else◌}
use Rattle.std.proofs.lemmas.Bool.{or_right}
use Rattle.bl_tree.specs.Typing.{TypingContext}
use Rattle.bl_ctext_semantics.specs.Meaning.{Scope, further}
use Rattle.bl_ctext_semantics.specs.Memory.{Location, Memory, Projection, Root, left_after, member}
use Rattle.bl_ctext_semantics.specs.Memory.{same_root, value_at, variable}
use Rattle.bl_ctree.specs.Instances.{Setting}
use Rattle.bl_emit_acts_laws_simulation.specs.Acts.{lies_in}
use Rattle.bl_emit_acts_laws_simulation.specs.Frames.{is_older}
use Rattle.bl_emit_acts_laws_simulation.specs.Encodes.{are_apart, ways_part}
use Rattle.bl_emit_spec.specs.Names.{NumberedWord, callee_name, counter_name, flag_name, mark_name, rested_name, with_word}
use Rattle.bl_emit_spec_laws.specs.Registers.Registers.{Before, Counter, Flag, FramePointersAreValid, Mark, Outside, Over, Register, Registered, RegistersEncodedAfter}
use Rattle.bl_emit_spec_laws.specs.Registers.Registers.{frame_at, has_register, over_at, register_at}
use Rattle.bl_machine_pass.specs.Registers.{Registers}
use Rattle.bl_emit_spec_laws.specs.Calls.Built.{Activities, run_by}
use Rattle.bl_emit_spec_laws.specs.Calls.Memories as memories
use Rattle.bl_emit_spec_laws.specs.Calls.Memories.{Nests, inner}
use Rattle.bl_emit_spec_laws.specs.Calls.Invariant.{PlaceIsSeparate}
use Rattle.bl_emit_acts_laws_simulation.proofs.Frames.{older_differs}
use Rattle.bl_emit_acts_laws_simulation.proofs.Cells.{after_further, apart_flip, or_split, ways_flip, ways_further}
use Rattle.bl_emit_acts_laws_simulation.proofs.Calls.{apart_lies}
use Rattle.bl_emit_spec_laws.proofs.OnRegisters.Cells.{behind_front}

-- ---- roots

-- ---- places further on

-- what lies further on keeps apart too
pub first_further : (p q : Location) (xs : List Projection) → are_apart p q ≡ true → are_apart (further p xs) q ≡ true
first_further p q xs h =
    or_split (same_root p.root q.root) (ways_part p.parts q.parts) (ways_part (p.parts ++ xs) q.parts) (ways_further p.parts q.parts xs) h

pub last_further : (p q : Location) (xs : List Projection) → are_apart p q ≡ true → are_apart p (further q xs) ≡ true
last_further p q xs h =
    or_split (same_root p.root q.root) (ways_part p.parts q.parts) (ways_part p.parts (q.parts ++ xs))
    (λ part. ways_flip p.parts (q.parts ++ xs) ∙ ways_further q.parts p.parts xs (ways_flip q.parts p.parts ∙ part)) h

-- further on, and on
pub further_twice : (p : Location) (xs ys : List Projection) → further (further p xs) ys ≡ further p (xs ++ ys)
further_twice p xs ys = ap (λ (parts : List Projection). record { root = p.root; parts = parts }) (append_assoc p.parts xs ys)

-- what doesn't lie in a place lies nowhere further on
pub lies_further : (p : Location) (more : List Projection) (root : Root) (way : List Projection) → lies_in p root way ≡ false →
    lies_in (further p more) root way ≡ false
lies_further p more root way h = by (same_root p.root root) h
  where
    by : (same : Bool) → (same && is_some (left_after p.parts way)) ≡ false → (same && is_some (left_after (p.parts ++ more) way)) ≡ false
    by false h = refl
    by true h = after_further p.parts more way h

-- ---- registers

module _ (scope : Scope) (has : Registered) where
  local_apart : (name : List ℕ) (place : Location) → is_older scope.depth place.root ≡ true →
      are_apart (record { root = variable scope.depth name; parts = [] }) place ≡ true
  local_apart name place older = ap (λ same. not same || ways_part [] place.parts) (older_differs scope.depth name place.root older)

  -- a place that is older and apart from counters and end is apart from registers
  pub register_apart : (place : Location) → is_older scope.depth place.root ≡ true → are_apart place (frame_at scope) ≡ true →
      (has.over ≡ true → are_apart place (over_at scope) ≡ true) → (x : Register) → has_register has x ≡ true →
      are_apart (register_at has scope x) place ≡ true
  register_apart place older frame over (Counter k) its =
      first_further (frame_at scope) place (member (counter_name k) ∷ []) (apart_flip place (frame_at scope) frame)
  register_apart place older frame over (Before k) its = local_apart (rested_name k) place older
  register_apart place older frame over (Flag k) its = local_apart (flag_name (with_word has.words k)) place older
  register_apart place older frame over (Mark k) its = local_apart (mark_name (with_word has.words k)) place older
  register_apart place older frame over Over its = first_further (over_at scope) place [] (apart_flip place (over_at scope) (over its))

  pub register_stands : (site : TypingContext) (may_end : Bool) → has.over ≡ may_end → (place : Location) →
      PlaceIsSeparate site may_end scope place → (x : Register) → has_register has x ≡ true → are_apart (register_at has scope x) place ≡ true
  register_stands site may_end same place stands =
      register_apart place stands.older stands.frame (λ ends. stands.over (sym same ∙ ends))

  -- registers are apart from the counters of what is called
  pub register_inner : (may_end : Bool) → has.over ≡ may_end → FramePointersAreValid may_end scope → (n : NumberedWord)
      (more : List Projection) (x : Register) → has_register has x ≡ true →
      are_apart (register_at has scope x) (further (frame_at scope) (member (callee_name n) ∷ more)) ≡ true
  register_inner may_end same frame n more (Counter k) its =
      let start = frame_at scope in
      or_right (not (same_root start.root start.root))
      (ways_part (start.parts ++ member (counter_name k) ∷ []) (start.parts ++ (member (callee_name n) ∷ more)))
      (behind_front start.parts (member (counter_name k) ∷ []) (member (callee_name n) ∷ more))
  register_inner may_end same frame n more (Before k) its =
      local_apart (rested_name k) (further (frame_at scope) (member (callee_name n) ∷ more)) frame.frame_older
  register_inner may_end same frame n more (Flag k) its =
      local_apart (flag_name (with_word has.words k)) (further (frame_at scope) (member (callee_name n) ∷ more)) frame.frame_older
  register_inner may_end same frame n more (Mark k) its =
      local_apart (mark_name (with_word has.words k)) (further (frame_at scope) (member (callee_name n) ∷ more)) frame.frame_older
  register_inner may_end same frame n more Over its =
      first_further (over_at scope) (further (frame_at scope) (member (callee_name n) ∷ more)) []
      (last_further (over_at scope) (frame_at scope) (member (callee_name n) ∷ more)
      (apart_flip (frame_at scope) (over_at scope) (frame.apart (sym same ∙ its))))

  -- numbers outside of where the pointers lead that belonged to older roots belong to no register
  pub outside_all : (root : Root) (way : List Projection) → is_older scope.depth root ≡ true →
      lies_in (frame_at scope) root way ≡ false →
      (has.over ≡ true → lies_in (over_at scope) root way ≡ false) → Outside has scope root way
  outside_all root way older frame over = record { each = by }
    where
      by : (x : Register) → has_register has x ≡ true → lies_in (register_at has scope x) root way ≡ false
      by (Counter k) its = lies_further (frame_at scope) (member (counter_name k) ∷ []) root way frame
      by (Before k) its = ap (λ same. same && is_some (left_after [] way)) (older_differs scope.depth (rested_name k) root older)
      by (Flag k) its = ap (λ same. same && is_some (left_after [] way)) (older_differs scope.depth (flag_name (with_word has.words k)) root older)
      by (Mark k) its = ap (λ same. same && is_some (left_after [] way)) (older_differs scope.depth (mark_name (with_word has.words k)) root older)
      by Over its = lies_further (over_at scope) [] root way (over its)

  -- a place that is apart from registers has what it had
  pub place_kept : (r : Registers) (here after : Memory) (place : Location) → RegistersEncodedAfter has scope r here after →
      ((x : Register) → has_register has x ≡ true → are_apart (register_at has scope x) place ≡ true) → (way : List Projection) →
      value_at after place way ≡ value_at here place way
  place_kept r here after place left apart way =
      left.kept place.root (place.parts ++ way) (record { each = λ x its. apart_lies (register_at has scope x) place way (apart x its) })

-- ---- places of what is called

-- the place lies further on
abbrev pub Beyond : Location → Location → Type 0
Beyond base place = (more : List Projection) × (place ≡ further base more)

beyond_itself : (place : Location) → Beyond place place
beyond_itself place = ([], sym (ap (λ (parts : List Projection). record { root = place.root; parts = parts }) (append-nil place.parts)))

beyond_part : (base place : Location) (more : List Projection) → Beyond (further base more) place → Beyond base place
beyond_part base place more far = (more ++ far.0, far.1 ∙ further_twice base more far.0)

-- the places of what is called lie further on than those of what calls
pub nests_beyond : (w : Setting) (activities : Activities) (i k : ℕ) (f m f' m' : Location) → Nests w activities i f m k f' m' →
    Beyond f f' × Beyond m m'
nests_beyond w activities i k f m f' m' memories.here = (beyond_itself f, beyond_itself m)
nests_beyond w activities i k f m f' m' (memories.inside {j = j} {l = l} {at = at} {arguments = arguments} there node called deeper) =
    let n = run_by w activities i at in
    let found = nests_beyond w activities j k (inner f n) (inner m n) f' m' deeper in (
      beyond_part f f' (member (callee_name n) ∷ []) found.0,
      beyond_part m m' (member (callee_name n) ∷ []) found.1,
    )

-- what lies further on from such a place
pub inner_is : (base f' : Location) (n : NumberedWord) (far : Beyond (inner base n) f') (more : List Projection) →
    further f' more ≡ further base (member (callee_name n) ∷ (far.0 ++ more))
inner_is base f' n far more =
    ap (λ (place : Location). further place more) (far.1 ∙ further_twice base (member (callee_name n) ∷ []) far.0)
    ∙ further_twice base (member (callee_name n) ∷ far.0) more
